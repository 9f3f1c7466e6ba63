use Rattle.std.proofs.Common.{◌≡◌, ◌∙◌, ◌-◌, sym, replicate, arith}
use Rattle.cell_base.specs.Row.{blank, set_columns}
use Rattle.clustered_row.proofs.ShownLemmas.{blanks_already, width_of_row}
use Rattle.clustered_row.proofs.row.ClusteredRow.set_blanks_from.Goals as goal

pub returns-then-eq-clause-done : goal.returns-then-eq-clause-done
returns-then-eq-clause-done c =
    let r = c.self.inside in
    let width_is = width_of_row r.columns r.width r.rest c.args.self.now c.self.invariant c.self.view_is in
    let same : r.rest ≡ c.args.attrs.now = c.eq.ensures.by_value.0 c.if-eq.true in
    let stored = c.len.ensures.len in
    sym c.self.view_is
    ∙ blanks_already r.columns c.args.at r.width r.rest c.len.ensures.whole c.self.invariant (omega (arith, stored, c.if-len-at.true)) (omega (arith, width_is, c.requires))
    ∙ (λ i. set_columns (c.self.view_is i) c.args.at (replicate (width_is i - c.args.at) (blank (same i))))
