-- Changes keep the size of a display.
use Rattle.std.proofs.Common.{◌≡◌, ℕ, ◌+◌, Bool, true, false, List, [], ◌∷◌, length, fold, refl, ◌∙◌, length-set}
use Rattle.std.specs.Prelude.{◌==◌, nat_lt, if◌then◌else◌}
use Rattle.std.proofs.lemmas.List.{length-map}
use Rattle.cell_base.specs.Row.{Row, plain_row}
use Rattle.cell_base.specs.Screen.{Screen, height, scrolled, line_feed, carriage_return, write_columns, cluster_columns, put}
use Rattle.screen_change.specs.ChangeValue.{ChangeValue, Attribute, AllAttributes, Text, ClearScreen, ClearToEndOfLine, ClearToEndOfScreen, CursorPosition, CursorColor, CursorShape, CursorVisibility, LineAttribute, ScrollRegionUp, ScrollRegionDown, Title}
use Rattle.screen_effects.specs.Display.{Display, IsDisplay}
use Rattle.screen_effects.specs.Effect.{effect, blank_row, cleared_after, cursor_row}
use Rattle.screen_effects.specs.Regions.{moved_up, moved_down}
use Rattle.screen_effects.specs.Strokes.{Stroke, CarriageReturn, LineFeed, Cluster, stroke_on, stroke_done, strokes}
use Rattle.screen_effects.proofs.EffectLaws.{below_height, down_length, region_length, up_length}
use Rattle.screen_effects.proofs.StrokeLaws.{stroke_height, stroke_is}

fed_width : (s : Screen) → (line_feed s).width ≡ s.width
fed_width s = by_test (s.row + 1 == height s)
  where
    by_test : (b : Bool) → (if b then scrolled s else record s { row = s.row + 1 }).width ≡ s.width
    by_test true = refl
    by_test false = refl

put_width : (width_of : List ℕ → ℕ) (s : Screen) (cluster : List ℕ) → (put width_of s cluster).width ≡ s.width
put_width width_of s cluster = by_test (nat_lt s.width (s.column + length (cluster_columns width_of s cluster)))
  where
    by_test : (b : Bool) → (write_columns (cluster_columns width_of s cluster) (if b then carriage_return (line_feed s) else s)).width ≡ s.width
    by_test true = fed_width s
    by_test false = refl

stroke_width : (width_of : List ℕ → ℕ) (s : Screen) (stroke : Stroke) → (stroke_on width_of s stroke).width ≡ s.width
stroke_width width_of s CarriageReturn = refl
stroke_width width_of s LineFeed = fed_width s
stroke_width width_of s (Cluster text) = put_width width_of s text

-- as wide and as high
pub record HasSize (before after : Display) : Type 0 where
  pub width : after.screen.width ≡ before.screen.width
  pub tall : length after.screen.rows ≡ length before.screen.rows

strokes_size : (width_of : List ℕ → ℕ) (strokes : List Stroke) (d : Display) → IsDisplay d → HasSize d (fold (stroke_done width_of) d strokes)
strokes_size width_of [] d h = record { width = refl; tall = refl }
strokes_size width_of (stroke ∷ strokes) d h =
    let rest = strokes_size width_of strokes (stroke_done width_of d stroke) (stroke_is width_of d stroke h) in record {
      width = rest.width ∙ stroke_width width_of d.screen stroke;
      tall = rest.tall ∙ stroke_height width_of d.screen stroke h.lawful;
    }

pub effect_size : (width_of : List ℕ → ℕ) (d : Display) (change : ChangeValue) → IsDisplay d → HasSize d (effect width_of d change)
effect_size width_of d (Attribute change) h = record { width = refl; tall = refl }
effect_size width_of d (AllAttributes pen) h = record { width = refl; tall = refl }
effect_size width_of d (Text text) h = strokes_size width_of (strokes text) d h
effect_size width_of d (ClearScreen color) h = record { width = refl; tall = length-map d.screen.rows (λ _. blank_row d.screen.width color) }
effect_size width_of d (ClearToEndOfLine color) h = record { width = refl; tall = length-set {A = Row} d.screen.rows d.screen.row (cleared_after d.screen.column color (cursor_row d.screen)) }
effect_size width_of d (ClearToEndOfScreen color) h = record { width = refl; tall = below_height color d.screen h.lawful }
effect_size width_of d (CursorPosition x y) h = record { width = refl; tall = refl }
effect_size width_of d (CursorColor color) h = record { width = refl; tall = refl }
effect_size width_of d (CursorShape shape) h = record { width = refl; tall = refl }
effect_size width_of d (CursorVisibility visibility) h = record { width = refl; tall = refl }
effect_size width_of d (LineAttribute size) h = record { width = refl; tall = refl }
effect_size width_of d (ScrollRegionUp first size count) h = record { width = refl; tall = region_length (moved_up (plain_row d.screen.width) count) first size d.screen.rows (up_length (plain_row d.screen.width) count) }
effect_size width_of d (ScrollRegionDown first size count) h = record { width = refl; tall = region_length (moved_down (plain_row d.screen.width) count) first size d.screen.rows (down_length (plain_row d.screen.width) count) }
effect_size width_of d (Title title) h = record { width = refl; tall = refl }
