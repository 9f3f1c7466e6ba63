-- The parts of a text, from its start on.
use Rattle.std.specs.Prelude.{◌≡◌, ℕ, List, fold}
use Rattle.std.specs.List.{flat_map}
use Rattle.screen_grid.specs.Grid.{Grid, IsDrawn, display_of}
use Rattle.screen_effects.specs.Display.{Display}
use Rattle.screen_effects.specs.Strokes.{TextPart, part_strokes, stroke_done, text_parts}
use Rattle.screen_effects.specs.Parts.{IsAtControl}

-- the display after each of the parts in turn
abbrev pub parts_done : (List ℕ → ℕ) → Display → List TextPart → Display
parts_done width_of display parts = fold (stroke_done width_of) display (flat_map part_strokes parts)

-- some parts of a text were done: on the grid after them `left` gives the same display as `all` on the grid before
pub record PartsLead {W : Type 0} (width_of : List ℕ → ℕ) (before after : Grid W) (all left : List ℕ) : Type 0 where
  pub same : parts_done width_of (display_of after) (text_parts left)
      ≡ parts_done width_of (display_of before) (text_parts all)
  pub widths : after.widths ≡ before.widths
  pub drawn : IsDrawn after
  pub control : IsAtControl left
