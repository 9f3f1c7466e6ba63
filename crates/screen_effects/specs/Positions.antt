-- The columns and rows that a `Position` names. They count from 0.
use Rattle.std.specs.Prelude.{ℕ, ◌+◌, ◌-◌, pos, negsuc, min, ◌==◌, if◌then◌else◌}
use Rattle.cell_base.specs.declared.attributes.Position.{Position}
use Rattle.cell_base.specs.declared.attributes.Position.TheVariants.{Relative, Absolute, EndRelative}

-- the position that is named among `size` positions, where `from` is the current one; a position past the last one is
-- the last, and one before the first is the first
abbrev pub resolved : ℕ → ℕ → Position → ℕ
resolved size from (Absolute at) = min at (size - 1)
resolved size from (EndRelative back) = min (size - back) (size - 1)
resolved size from (Relative (pos forward)) = min (from + forward) (size - 1)
resolved size from (Relative (negsuc less)) = from - (less + 1)

-- the column that is named: as `resolved`, except that the width itself is a column, at which a wrap is pending
abbrev pub resolved_column : ℕ → ℕ → Position → ℕ
resolved_column width from (Absolute at) = if at == width then width else min at (width - 1)
resolved_column width from (EndRelative back) = resolved width from (EndRelative back)
resolved_column width from (Relative way) = resolved width from (Relative way)
