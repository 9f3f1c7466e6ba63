use Rattle.std.proofs.Common.{List, ap, sym, arith, length, ◌∙◌}
use Rattle.clustered_row.specs.declared.run.Run.{Run}
use Rattle.clustered_row.specs.Runs.{spread}
use Rattle.clustered_row.proofs.runs.Runs.equal_columns.Goals as goal

pub equal_runs-requires : goal.equal_runs-requires
equal_runs-requires c =
    let count = c.len-fits.ensures ∙ ap length (sym c.self.view_is) in
    let same = ap (λ (zs : List Run). length (spread zs)) c.deref.ensures.value in
    let bound = c.len-fits.type_inv in
    let kept = c.self.invariant.counted in
    record { small = omega (arith, count, same, bound, kept) }
