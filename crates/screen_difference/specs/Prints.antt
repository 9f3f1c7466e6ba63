-- What is printed on a screen: each text that is put, and where. Columns and rows count from 0.
use Rattle.std.specs.Prelude.{ℕ, ◌==◌, Bool, false, ◌&&◌, ◌||◌, nat_le, List, [], ◌∷◌, ◌++◌, if◌then◌else◌}
use Rattle.cell_base.specs.Row.{space}
use Rattle.cell_base.specs.Screen.{Screen, carriage_return, line_feed}
use Rattle.screen_change.specs.ChangeValue.{ChangeValue, Text}
use Rattle.screen_difference.specs.FreshCells.{PlacedCell}
use Rattle.screen_effects.specs.Display.{Display}
use Rattle.screen_effects.specs.Effect.{effect}
use Rattle.screen_effects.specs.Strokes.{Stroke, CarriageReturn, LineFeed, Cluster, needs_next_row, scrolls, stroke_on}
use Rattle.screen_effects.specs.Strokes.{strokes}

-- a text, and the row and the column where it begins
pub record PlacedText : Type 0 where
  pub row : ℕ
  pub column : ℕ
  pub text : List ℕ

-- the text of a cell at its position
abbrev pub text_of : PlacedCell → PlacedText
text_of c = record { row = c.row; column = c.column; text = c.cell.text }

-- the text that a cluster is put as: on a screen of one column a wide one is a space
abbrev pub text_put : (List ℕ → ℕ) → Screen → List ℕ → List ℕ
text_put width_of screen cluster = if nat_le 2 (width_of cluster) && screen.width == 1 then space else cluster

-- the screen on which it is put: a cluster that doesn't fit in the row goes to the start of the next one
abbrev pub wrapped_for : (List ℕ → ℕ) → Screen → List ℕ → Screen
wrapped_for width_of screen cluster =
    if needs_next_row width_of screen (Cluster cluster) then carriage_return (line_feed screen) else screen

-- what is printed for a cluster
abbrev pub print_of : (List ℕ → ℕ) → Screen → List ℕ → PlacedText
print_of width_of screen cluster =
    let at = wrapped_for width_of screen cluster in
    record { row = at.row; column = at.column; text = text_put width_of screen cluster }

-- what a stroke prints: only a cluster prints
abbrev pub stroke_prints : (List ℕ → ℕ) → Screen → Stroke → List PlacedText
stroke_prints width_of screen CarriageReturn = []
stroke_prints width_of screen LineFeed = []
stroke_prints width_of screen (Cluster text) = print_of width_of screen text ∷ []

-- strokes in turn: what they print, and whether one of them scrolls
abbrev pub strokes_print : (List ℕ → ℕ) → Screen → List Stroke → List PlacedText
strokes_print width_of screen [] = []
strokes_print width_of screen (stroke ∷ remaining) =
    stroke_prints width_of screen stroke ++ strokes_print width_of (stroke_on width_of screen stroke) remaining

abbrev pub strokes_scroll : (List ℕ → ℕ) → Screen → List Stroke → Bool
strokes_scroll width_of screen [] = false
strokes_scroll width_of screen (stroke ∷ remaining) =
    scrolls width_of screen stroke || strokes_scroll width_of (stroke_on width_of screen stroke) remaining

-- the strokes of a change's text; any other change has none
abbrev pub change_strokes : ChangeValue → List Stroke
change_strokes (Text text) = strokes text
change_strokes _ = []

-- changes in turn: what their texts print, and whether one of these scrolls
abbrev pub changes_print : (List ℕ → ℕ) → Display → List ChangeValue → List PlacedText
changes_print width_of display [] = []
changes_print width_of display (change ∷ changes) =
    strokes_print width_of display.screen (change_strokes change)
    ++ changes_print width_of (effect width_of display change) changes

abbrev pub texts_scroll : (List ℕ → ℕ) → Display → List ChangeValue → Bool
texts_scroll width_of display [] = false
texts_scroll width_of display (change ∷ changes) =
    strokes_scroll width_of display.screen (change_strokes change)
    || texts_scroll width_of (effect width_of display change) changes
