-- What a display shows, for worked examples.
use Rattle.std.specs.Prelude.{ℕ, List, [], ◌∷◌, map}
use Rattle.cell_base.specs.declared.attributes.Position.TheVariants.{Absolute}
use Rattle.cell_base.specs.Cluster.{program_width}
use Rattle.cell_base.specs.Row.{row_text}
use Rattle.screen_change.specs.ChangeValue.{ChangeValue, CursorPosition}
use Rattle.screen_effects.specs.Display.{Display, new_display}
use Rattle.screen_effects.specs.Effect.{replay}

-- the text of each row, and the cursor's column and row
pub record Seen : Type 0 where
  pub rows : List (List ℕ)
  pub column : ℕ
  pub row : ℕ

abbrev pub seen_on : Display → Seen
seen_on display =
    record { rows = map row_text display.screen.rows; column = display.screen.column; row = display.screen.row }

-- what a new display of a size shows after some changes
abbrev pub seen : ℕ → ℕ → List ChangeValue → Seen
seen width height changes = seen_on (replay program_width (new_display width height) changes)

-- a position by column and row
abbrev pub at : ℕ → ℕ → ChangeValue
at column row = CursorPosition (Absolute column) (Absolute row)

-- か, of two columns
abbrev pub wide_letter : List ℕ
wide_letter = 0xE3 ∷ 0x81 ∷ 0x8B ∷ []

-- 🤷, of two columns
abbrev pub shrug : List ℕ
shrug = 0xF0 ∷ 0x9F ∷ 0xA4 ∷ 0xB7 ∷ []

-- a zero width space between two letters
abbrev pub zero_width_between : List ℕ
zero_width_between = 65 ∷ 0xE2 ∷ 0x80 ∷ 0x8B ∷ 66 ∷ []
