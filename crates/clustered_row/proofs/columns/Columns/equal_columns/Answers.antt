use Rattle.std.proofs.Common.{◌≡◌, ◌∙◌, false, sym, ap, length, take, subst, arith, List}
use Rattle.cell_base.specs.Row.{Column, Row}
use Rattle.clustered_row.specs.TextsShown.{faces}
use Rattle.clustered_row.specs.VisibleColumns.{is_split}
use Rattle.clustered_row.proofs.AskedLemmas.{split_face}
use Rattle.clustered_row.proofs.EqualLemmas.{same_columns}
use Rattle.clustered_row.proofs.RowLemmas.{length-row_of}
use Rattle.clustered_row.proofs.columns.Columns.equal_columns.Goals as goal

pub returns-clause-within : goal.returns-clause-within
returns-clause-within c =
    let even = c.self.invariant.even in
    let long = length-row_of (faces c.self.inside.texts) c.self.inside.runs (omega (arith, even)) in
    let shown = ap (λ (r : List Column). length r) c.self.view_is in
    let most = c.equal_columns.ensures.most in
    let within = c.equal_columns-most.ensures.within in
    omega (arith, long, shown, even, most, within)

pub returns-clause-other_within : goal.returns-clause-other_within
returns-clause-other_within c =
    let even = c.other.invariant.even in
    let long = length-row_of (faces c.other.inside.texts) c.other.inside.runs (omega (arith, even)) in
    let shown = ap (λ (r : List Column). length r) c.other.view_is in
    let most = c.equal_columns.ensures.most in
    let within = c.equal_columns-most.ensures.other_within in
    omega (arith, long, shown, even, most, within)

pub returns-clause-equal : goal.returns-clause-equal
returns-clause-equal c =
    let n = c.equal_columns.result in
    ap (λ (r : Row). take n r) (sym c.self.view_is)
    ∙ same_columns (faces c.self.inside.texts) (faces c.other.inside.texts) c.self.inside.runs c.other.inside.runs n c.equal_columns-most.result c.equal_columns.ensures.most c.equal_columns.ensures.equal c.equal_columns-most.ensures.equal
    ∙ ap (λ (r : Row). take n r) c.other.view_is

pub returns-clause-whole : goal.returns-clause-whole
returns-clause-whole c =
    let even = c.self.invariant.even in
    subst (λ (r : Row). is_split c.equal_columns.result r ≡ false) c.self.view_is
    (split_face (faces c.self.inside.texts) c.self.inside.runs c.equal_columns.result (omega (arith, even)) ∙ c.equal_columns.ensures.whole)

pub returns-clause-other_whole : goal.returns-clause-other_whole
returns-clause-other_whole c =
    let even = c.other.invariant.even in
    subst (λ (r : Row). is_split c.equal_columns.result r ≡ false) c.other.view_is
    (split_face (faces c.other.inside.texts) c.other.inside.runs c.equal_columns.result (omega (arith, even)) ∙ c.equal_columns.ensures.other_whole)
