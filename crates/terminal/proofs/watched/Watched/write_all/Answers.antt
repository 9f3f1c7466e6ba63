use Rattle.std.proofs.Common.{arith, ◌∙◌, sym, ap, length-take, length-drop, ℕ, ◌+◌, ◌||◌}
use Rattle.std.proofs.Math.Bool.{or-false}
use Rattle.terminal.proofs.AppendLemmas.{write_more, appends_kept, prefix_of, not_gone_on, took_some}
use Rattle.terminal.proofs.watched.Watched.write_all.Goals as goal

pub loop-written-preserved : goal.loop-written-preserved
loop-written-preserved g c = record {
  within = let h = c.in-Ok.ensures.bound in omega (arith, length-take {A = ℕ}, length-drop {A = ℕ});
  appends = write_more _ _ _ c.args.bytes.now c.loop-written.written c.in-Ok.count c.loop-written.invariant.appends
      c.in-Ok.ensures.bytes;
  failed = c.in-Ok.ensures.failed ∙ ap (λ fault. c.loop-written.self.has_failed || fault)
      (took_some c.in-Ok.count _ c.in-Ok.count-test.1) ∙ or-false _ ∙ c.loop-written.invariant.failed;
  reads = c.in-Ok.ensures.reads ∙ c.loop-written.invariant.reads;
  gone_on = λ sound. not_gone_on _ _ _ c.in-Ok.ensures.gone_on (c.loop-written.invariant.failed ∙ sound)
      ∙ c.loop-written.invariant.gone_on sound;
  flushes = c.in-Ok.ensures.flushes ∙ c.loop-written.invariant.flushes;
  flushed = c.in-Ok.ensures.flushed
      ∙ sym (took_some (c.loop-written.written + c.in-Ok.count) _ (λ none. c.in-Ok.count-test.1 (omega arith)));
}

pub returns-in-Ok-eq0-clause-err : goal.returns-in-Ok-eq0-clause-err
returns-in-Ok-eq0-clause-err g c =
    prefix_of _ _ c.args.bytes.now _
    (write_more _ _ _ c.args.bytes.now c.loop-written.written _ c.loop-written.invariant.appends c.in-Ok-eq0.ensures.bytes)

pub returns-in-Err-clause-err : goal.returns-in-Err-clause-err
returns-in-Err-clause-err g c =
    prefix_of _ _ c.args.bytes.now c.loop-written.written
    (appends_kept _ _ _ _ c.loop-written.invariant.appends c.in-Err.ensures.bytes)
