-- What a text does on a screen: moves, and clusters that are put.
use Rattle.std.specs.Prelude.{ℕ, ◌+◌, Bool, true, false, ◌&&◌, ◌==◌, nat_lt, List, [], ◌∷◌, ◌++◌, length, map, drop}
use Rattle.std.specs.Prelude.{fold, if◌then◌else◌}
use Rattle.std.specs.List.{flat_map}
use Rattle.std.specs.Char.{is_ascii_control}
use Rattle.cell_base.specs.declared.attributes.LineAttribute.TheVariants.{SingleWidthLine}
use Rattle.cell_base.specs.Cluster.{clusters}
use Rattle.cell_base.specs.Row.{space}
use Rattle.cell_base.specs.Screen.{Screen, height, line_feed, carriage_return, cluster_columns, put}
use Rattle.screen_effects.specs.Display.{Display}

-- a C0 control or DEL, or a text without any
pub data TextPart : Type 0 where
  Control : ℕ → TextPart
  Plain : List ℕ → TextPart

-- puts a byte before the parts: in the first part if that is a text without controls, else as a part of its own
abbrev pub with_byte : ℕ → List TextPart → List TextPart
with_byte byte (Plain text ∷ parts) = Plain (byte ∷ text) ∷ parts
with_byte byte parts = Plain (byte ∷ []) ∷ parts

-- a text cut at its controls: each control by itself, and between them texts as long as possible
abbrev pub text_parts : List ℕ → List TextPart
text_parts [] = []
text_parts (byte ∷ text) =
    if is_ascii_control byte then Control byte ∷ text_parts text else with_byte byte (text_parts text)

-- a move of the cursor, or a cluster that is put
pub data Stroke : Type 0 where
  CarriageReturn : Stroke
  LineFeed : Stroke
  Cluster : List ℕ → Stroke

-- CR and LF move; another control is a space; a text puts its clusters
abbrev pub part_strokes : TextPart → List Stroke
part_strokes (Control byte) =
    if byte == 13 then CarriageReturn ∷ []
    else if byte == 10 then LineFeed ∷ []
    else Cluster space ∷ []
part_strokes (Plain text) = map Cluster (clusters text)

abbrev pub strokes : List ℕ → List Stroke
strokes text = flat_map part_strokes (text_parts text)

-- the screen after a stroke
abbrev pub stroke_on : (List ℕ → ℕ) → Screen → Stroke → Screen
stroke_on width_of screen CarriageReturn = carriage_return screen
stroke_on width_of screen LineFeed = line_feed screen
stroke_on width_of screen (Cluster text) = put width_of screen text

-- whether a stroke needs the next row
abbrev pub needs_next_row : (List ℕ → ℕ) → Screen → Stroke → Bool
needs_next_row width_of screen CarriageReturn = false
needs_next_row width_of screen LineFeed = true
needs_next_row width_of screen (Cluster text) =
    nat_lt screen.width (screen.column + length (cluster_columns width_of screen text))

-- whether the rows scroll for a stroke: the cursor is in the last row, and the stroke needs the next one
abbrev pub scrolls : (List ℕ → ℕ) → Screen → Stroke → Bool
scrolls width_of screen stroke = screen.row + 1 == height screen && needs_next_row width_of screen stroke

-- a stroke on a display: the sizes scroll with their rows, and a new row has single width
abbrev pub stroke_done : (List ℕ → ℕ) → Display → Stroke → Display
stroke_done width_of display stroke = record display {
  screen = stroke_on width_of display.screen stroke;
  sizes =
      if scrolls width_of display.screen stroke then drop 1 display.sizes ++ SingleWidthLine ∷ [] else display.sizes;
}

abbrev pub text_done : (List ℕ → ℕ) → Display → List ℕ → Display
text_done width_of display text = fold (stroke_done width_of) display (strokes text)
