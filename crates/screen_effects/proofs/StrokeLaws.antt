-- Strokes leave lawful displays.
use Rattle.std.proofs.Common.{◌≡◌, ℕ, zero, suc, ◌+◌, ◌<◌, Bool, true, false, List, [], ◌∷◌, ◌++◌, length, get_or, drop, fold, refl, sym, ◌∙◌, arith, length-append, length-drop, length-set}
use Rattle.std.specs.Prelude.{All, ◌==◌, nat_lt, if◌then◌else◌}
use Rattle.std.proofs.lemmas.List.Elements.{All-append, All-drop, All-set, All-replicate}
use Rattle.std.proofs.lemmas.List.{length-replicate}
use Rattle.cell_base.specs.declared.attributes.LineAttribute.{LineAttribute}
use Rattle.cell_base.specs.declared.attributes.LineAttribute.TheVariants.{SingleWidthLine}
use Rattle.cell_base.specs.Attributes.{Attributes, plain}
use Rattle.cell_base.specs.Row.{Row, plain_row, columns_of}
use Rattle.cell_base.specs.Screen.{Screen, IsScreen, height, scrolled, line_feed, carriage_return, write_columns, cluster_columns, put}
use Rattle.cell_base.specs.WholeRow.{IsWhole}
use Rattle.cell_base.proofs.LawfulScreens.{new_screen_is, line_feed_is, carriage_return_is, put_is}
use Rattle.cell_base.proofs.RowLemmas.{whole-blanks, whole-set_columns}
use Rattle.screen_effects.specs.Display.{Display, IsDisplay, new_display}
use Rattle.screen_effects.specs.Strokes.{Stroke, CarriageReturn, LineFeed, Cluster, stroke_on, scrolls, stroke_done}

-- ---- rows stay whole

pub whole_blank_row : (width : ℕ) → IsWhole (plain_row width)
whole_blank_row width = whole-blanks width plain

one : (x : Row) → IsWhole x → All IsWhole (x ∷ [])
one x p zero d h = p
one x p (suc k) d h = absurd (omega arith)

whole_scrolled : (s : Screen) → All IsWhole s.rows → All IsWhole (scrolled s).rows
whole_scrolled s w = All-append IsWhole (drop 1 s.rows) (plain_row s.width ∷ []) (All-drop IsWhole 1 s.rows w) (one (plain_row s.width) (whole_blank_row s.width))

pub whole_fed : (s : Screen) → All IsWhole s.rows → All IsWhole (line_feed s).rows
whole_fed s w = by_test (s.row + 1 == height s) refl
  where
    by_test : (x : Bool) → (s.row + 1 == height s) ≡ x → All IsWhole (line_feed s).rows
    by_test true e = rw e (whole_scrolled s w)
    by_test false e = rw e w

pub whole_columns : (text : List ℕ) (wide : Bool) (attributes : Attributes) → IsWhole (columns_of text wide attributes)
whole_columns text true attributes = (refl, tt)
whole_columns text false attributes = tt

whole_written : (s : Screen) (columns : Row) → IsScreen s → All IsWhole s.rows → IsWhole columns → All IsWhole (write_columns columns s).rows
whole_written s columns h w p = All-set IsWhole s.rows s.row _ (whole-set_columns (get_or s.rows s.row []) s.column columns (w s.row [] h.row_in) p) w

pub whole_put : (width_of : List ℕ → ℕ) (s : Screen) (cluster : List ℕ) → IsScreen s → All IsWhole s.rows → All IsWhole (put width_of s cluster).rows
whole_put width_of s cluster h w = by_test (nat_lt s.width (s.column + length columns)) refl
  where
    columns : Row
    columns = cluster_columns width_of s cluster

    is_whole : IsWhole columns
    is_whole = whole_columns _ _ s.pen

    by_test : (x : Bool) → nat_lt s.width (s.column + length columns) ≡ x → All IsWhole (put width_of s cluster).rows
    by_test true e = rw e (whole_written (carriage_return (line_feed s)) columns (carriage_return_is (line_feed s) (line_feed_is s h)) (whole_fed s w) is_whole)
    by_test false e = rw e (whole_written s columns h w is_whole)

-- ---- as many rows as before

pub fed_height : (s : Screen) → IsScreen s → length (line_feed s).rows ≡ length s.rows
fed_height s h = by_test (s.row + 1 == height s) refl
  where
    by_test : (x : Bool) → (s.row + 1 == height s) ≡ x → length (line_feed s).rows ≡ length s.rows
    by_test true e = let g = h.row_in in rw e (omega (arith, length-append (drop 1 s.rows) (plain_row s.width ∷ []), length-drop 1 s.rows))
    by_test false e = rw e refl

put_height : (width_of : List ℕ → ℕ) (s : Screen) (cluster : List ℕ) → IsScreen s → length (put width_of s cluster).rows ≡ length s.rows
put_height width_of s cluster h = by_test (nat_lt s.width (s.column + length (cluster_columns width_of s cluster))) refl
  where
    by_test : (x : Bool) → nat_lt s.width (s.column + length (cluster_columns width_of s cluster)) ≡ x → length (put width_of s cluster).rows ≡ length s.rows
    by_test true e = rw e (length-set {A = Row} (line_feed s).rows (line_feed s).row _ ∙ fed_height s h)
    by_test false e = rw e (length-set {A = Row} s.rows s.row _)

pub stroke_height : (width_of : List ℕ → ℕ) (s : Screen) (stroke : Stroke) → IsScreen s → length (stroke_on width_of s stroke).rows ≡ length s.rows
stroke_height width_of s CarriageReturn h = refl
stroke_height width_of s LineFeed h = fed_height s h
stroke_height width_of s (Cluster text) h = put_height width_of s text h

-- ---- strokes

pub stroke_lawful : (width_of : List ℕ → ℕ) (s : Screen) (stroke : Stroke) → IsScreen s → IsScreen (stroke_on width_of s stroke)
stroke_lawful width_of s CarriageReturn h = carriage_return_is s h
stroke_lawful width_of s LineFeed h = line_feed_is s h
stroke_lawful width_of s (Cluster text) h = put_is width_of s text h

stroke_whole : (width_of : List ℕ → ℕ) (s : Screen) (stroke : Stroke) → IsScreen s → All IsWhole s.rows → All IsWhole (stroke_on width_of s stroke).rows
stroke_whole width_of s CarriageReturn h w = w
stroke_whole width_of s LineFeed h w = whole_fed s w
stroke_whole width_of s (Cluster text) h w = whole_put width_of s text h w

sizes_scrolled : (sizes : List LineAttribute) (b : Bool) → 0 < length sizes → length (if b then drop 1 sizes ++ SingleWidthLine ∷ [] else sizes) ≡ length sizes
sizes_scrolled sizes true h = omega (arith, length-append (drop 1 sizes) (SingleWidthLine ∷ []), length-drop 1 sizes)
sizes_scrolled sizes false h = refl

pub stroke_is : (width_of : List ℕ → ℕ) (d : Display) (stroke : Stroke) → IsDisplay d → IsDisplay (stroke_done width_of d stroke)
stroke_is width_of d stroke h =
    let some = h.lawful.row_in in
    let sized = h.sized in record {
      lawful = stroke_lawful width_of d.screen stroke h.lawful;
      whole = stroke_whole width_of d.screen stroke h.lawful h.whole;
      sized = sizes_scrolled d.sizes (scrolls width_of d.screen stroke) (omega arith) ∙ h.sized ∙ sym (stroke_height width_of d.screen stroke h.lawful);
    }

pub strokes_are : (width_of : List ℕ → ℕ) (strokes : List Stroke) (d : Display) → IsDisplay d → IsDisplay (fold (stroke_done width_of) d strokes)
strokes_are width_of [] d h = h
strokes_are width_of (stroke ∷ strokes) d h = strokes_are width_of strokes (stroke_done width_of d stroke) (stroke_is width_of d stroke h)

-- ---- new displays

pub new_display_is : (width rows : ℕ) → 0 < width → 0 < rows → IsDisplay (new_display width rows)
new_display_is width rows w h = record {
  lawful = new_screen_is width rows w h;
  whole = All-replicate IsWhole rows (plain_row width) (whole_blank_row width);
  sized = length-replicate rows SingleWidthLine ∙ sym (length-replicate rows (plain_row width));
}
