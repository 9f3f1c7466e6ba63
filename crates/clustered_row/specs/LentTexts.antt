-- Cells that are borrowed.
use Rattle.std.specs.Prelude.{◌≡◌, ℕ, List, Option, MatchOption, slice_index_or}
use Rattle.clustered_row.specs.declared.lent_text.LentText.{LentText}
use Rattle.clustered_row.specs.Faces.{Face, Right, first_face}

-- the cell that begins at a column; none at the second column of a wide one
abbrev pub IsLentAt : List Face → ℕ → Option LentText → Type 0
IsLentAt faces column lent =
    let face = slice_index_or faces column Right in
    MatchOption lent (face ≡ Right) (λ cell. face ≡ first_face cell.is_wide cell.text.now)
