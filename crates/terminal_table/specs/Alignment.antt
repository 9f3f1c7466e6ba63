-- The alignment display (DECALN, DEC STD 070): every column of the screen is an E.
use Rattle.std.specs.Prelude.{ℕ, false, nat_le, List, [], ◌∷◌, replicate, None, if◌then◌else◌}
use Rattle.cell_base.specs.Attributes.{plain}
use Rattle.cell_base.specs.Row.{Row, Narrow, space}
use Rattle.cell_base.specs.Screen.{Screen, height}
use Rattle.terminal_table.specs.Modes.{Modes}

-- the letter E; a space, where E takes two columns
abbrev pub alignment_letter : (List ℕ → ℕ) → List ℕ
alignment_letter width_of = if nat_le 2 (width_of (69 ∷ [])) then space else 69 ∷ []

abbrev pub alignment_row : (List ℕ → ℕ) → ℕ → Row
alignment_row width_of width = replicate width (Narrow (alignment_letter width_of) plain)

-- the cursor is at home, with a plain pen
abbrev pub screen_aligned : (List ℕ → ℕ) → Screen → Screen
screen_aligned width_of screen =
    record screen {
      rows = replicate (height screen) (alignment_row width_of screen.width);
      column = 0;
      row = 0;
      pen = plain;
    }

-- all rows scroll, and lines count from the screen's top
abbrev pub modes_aligned : Modes → Modes
modes_aligned modes = record modes { region = None; origin = false }
