use Rattle.std.proofs.Common.{arith, length-take, length-drop, ℕ}
use Rattle.terminal.proofs.AppendLemmas.{write_more, appends_kept, prefix_of}
use Rattle.shot.proofs.sink.Stream.write_all.Goals as goal

pub loop-written-preserved : goal.loop-written-preserved
loop-written-preserved g c = record {
  within = let h = c.in-Ok.ensures.bound in omega (arith, length-take {A = ℕ}, length-drop {A = ℕ});
  appends = write_more _ _ _ c.args.bytes.now c.loop-written.written c.in-Ok.count c.loop-written.invariant.appends
      c.in-Ok.ensures.bytes;
}

pub returns-in-Ok-eq0-clause-err : goal.returns-in-Ok-eq0-clause-err
returns-in-Ok-eq0-clause-err g c =
    prefix_of _ _ c.args.bytes.now _
    (write_more _ _ _ c.args.bytes.now c.loop-written.written _ c.loop-written.invariant.appends c.in-Ok-eq0.ensures.bytes)

pub returns-in-Err-clause-err : goal.returns-in-Err-clause-err
returns-in-Err-clause-err g c =
    prefix_of _ _ c.args.bytes.now c.loop-written.written
    (appends_kept _ _ _ _ c.loop-written.invariant.appends c.in-Err.ensures.bytes)
