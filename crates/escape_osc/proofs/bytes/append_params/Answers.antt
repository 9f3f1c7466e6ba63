use Rattle.std.proofs.Common.{rules, sym, Bor, String, Global}
use Rattle.cell_base.proofs.ReadingSteps.{separator_more}
use Rattle.escape_osc.proofs.AppendLemmas.{param_appended}
use Rattle.escape_osc.proofs.bytes.append_params.Goals as goal

pub loop-key-preserved : goal.loop-key-preserved
loop-key-preserved c =
    let param : Bor (String Global) × Bor (String Global) = (c.in-Some.key, c.in-Some.value) in
    let invariant = c.loop-key.invariant in (
      sym (separator_more c.loop-key.yielded param),
      param_appended c.args.dest.now.items c.loop-key.dest.items c.loop-key.separator.now c.as_bytes-in-loop-key.result.now c.as_bytes-in-loop-key-2.result.now _ c.loop-key.yielded param
          invariant.0 invariant.1 (search rules) (search rules) (search rules),
    )
