-- ED of the profile "xterm", ECMA-48 8.3.39: columns of the cursor's row and whole rows become blanks of the pen's
-- background, and a pending wrap ends.
use Rattle.std.specs.Prelude.{ℕ, ◌+◌, ◌-◌}
use Rattle.cell_base.specs.Screen.{Screen, height}
use Rattle.xterm_table.specs.RowEdits.{line_end_erased, line_start_erased}
use Rattle.xterm_table.specs.RowMoves.{rows_up}

-- `size` rows from row `first` on: they all scroll away
abbrev pub rows_erased : ℕ → ℕ → Screen → Screen
rows_erased first size screen = rows_up first size size screen

-- ED 0: as EL 0, and the rows below
abbrev pub display_end_erased : Screen → Screen
display_end_erased screen =
    rows_erased (screen.row + 1) (height screen - (screen.row + 1)) (line_end_erased screen)

-- ED 1: as EL 1, and the rows above
abbrev pub display_start_erased : Screen → Screen
display_start_erased screen = rows_erased 0 screen.row (line_start_erased screen)
