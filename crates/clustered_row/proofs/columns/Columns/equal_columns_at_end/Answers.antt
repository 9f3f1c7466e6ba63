use Rattle.std.proofs.Common.{◌≡◌, ◌-◌, ◌∙◌, false, sym, ap, length, drop, subst, arith}
use Rattle.cell_base.specs.Row.{Row}
use Rattle.clustered_row.specs.Faces.{row_of}
use Rattle.clustered_row.specs.TextsShown.{faces}
use Rattle.clustered_row.specs.VisibleColumns.{is_split}
use Rattle.clustered_row.proofs.AskedLemmas.{split_face}
use Rattle.clustered_row.proofs.EqualAtEndLemmas.{same_columns_after}
use Rattle.clustered_row.proofs.RowLemmas.{length-row_of}
use Rattle.clustered_row.proofs.columns.Columns.equal_columns_at_end.Goals as goal

pub returns-clause-equal : goal.returns-clause-equal
returns-clause-equal c =
    let n = c.equal_columns_at_end.result in
    let one = c.self.inside in
    let two = c.other.inside in
    let even = c.self.invariant.even in
    let other_even = c.other.invariant.even in
    let runs = c.equal_columns_at_end-runs.ensures in
    let most = c.equal_columns_at_end.ensures.most in
    let least = c.min.ensures in
    let long = length-row_of (faces one.texts) one.runs (omega (arith, even)) in
    let other_long = length-row_of (faces two.texts) two.runs (omega (arith, other_even)) in
    ap (λ (r : Row). drop (length r - n) r) (sym c.self.view_is)
    ∙ ap (λ m. drop (m - n) (row_of (faces c.self.inside.texts) c.self.inside.runs)) long
    ∙ same_columns_after (faces one.texts) (faces two.texts) one.runs two.runs n c.equal_columns_at_end-runs.result even other_even (omega (arith, most, least)) runs.within runs.other_within c.equal_columns_at_end.ensures.equal runs.equal
    ∙ ap (λ m. drop (m - n) (row_of (faces c.other.inside.texts) c.other.inside.runs)) (sym other_long)
    ∙ ap (λ (r : Row). drop (length r - n) r) c.other.view_is

pub returns-clause-whole : goal.returns-clause-whole
returns-clause-whole c =
    let n = c.equal_columns_at_end.result in
    let one = c.self.inside in
    let even = c.self.invariant.even in
    let long = length-row_of (faces one.texts) one.runs (omega (arith, even)) in
    subst (λ (r : Row). is_split (length r - n) r ≡ false) c.self.view_is
    (ap (λ m. is_split (m - n) (row_of (faces c.self.inside.texts) c.self.inside.runs)) long ∙ split_face (faces one.texts) one.runs (length (faces one.texts) - n) (omega (arith, even)) ∙ c.equal_columns_at_end.ensures.whole)

pub returns-clause-other_whole : goal.returns-clause-other_whole
returns-clause-other_whole c =
    let n = c.equal_columns_at_end.result in
    let one = c.other.inside in
    let even = c.other.invariant.even in
    let long = length-row_of (faces one.texts) one.runs (omega (arith, even)) in
    subst (λ (r : Row). is_split (length r - n) r ≡ false) c.other.view_is
    (ap (λ m. is_split (m - n) (row_of (faces c.other.inside.texts) c.other.inside.runs)) long ∙ split_face (faces one.texts) one.runs (length (faces one.texts) - n) (omega (arith, even)) ∙ c.equal_columns_at_end.ensures.other_whole)
