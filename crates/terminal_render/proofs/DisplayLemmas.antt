-- The cells, the pen and the title of displays have an encoding.
use Rattle.std.proofs.Common.{◌≡◌, ℕ, zero, suc, ◌+◌, ◌-◌, Bool, true, false, List, [], ◌∷◌, ◌++◌, length, get_or, take, drop, map, fold, replicate, refl}
use Rattle.std.specs.Prelude.{All, None, ◌==◌, ◌&&◌, min, nat_lt, nat_le, if◌then◌else◌}
use Rattle.std.specs.List.{AllByRecursion}
use Rattle.std.proofs.lemmas.Bool.{cond_both}
use Rattle.std.proofs.lemmas.List.Elements.{All-append, All-cons, All-nil, All-drop, All-take, All-map, All-set, All-replicate}
use Rattle.text_clusters.specs.Controls.{holds_c1}
use Rattle.cell_base.specs.declared.color.ColorAttribute.{ColorAttribute}
use Rattle.cell_base.specs.Attributes.{Attributes, plain, blank_of}
use Rattle.cell_base.specs.AttributeValue as one
use Rattle.cell_base.specs.AttributeValue.{AttributeValue}
use Rattle.cell_base.specs.Row.{Row, Narrow, LeftHalf, RightHalf, space, blank, plain_row, columns_of, closed_end, closed_start, set_columns}
use Rattle.cell_base.specs.Screen.{Screen, IsScreen, height, new_screen, line_feed, carriage_return, cluster_columns, write_columns, put}
use Rattle.screen_change.specs.ChangeValue.{ChangeValue, Attribute, AllAttributes, Text, ClearScreen, ClearToEndOfLine, ClearToEndOfScreen, CursorPosition, CursorColor, CursorShape, CursorVisibility, LineAttribute, ScrollRegionUp, ScrollRegionDown, Title}
use Rattle.cell_base.proofs.LawfulScreens.{line_feed_is, carriage_return_is}
use Rattle.screen_effects.specs.Display.{Display, IsDisplay, new_display}
use Rattle.screen_effects.specs.Effect.{effect, replay, blank_row, cleared_after, cursor_row}
use Rattle.screen_effects.specs.Pen.{with_attribute}
use Rattle.screen_effects.specs.Regions.{in_region, moved_up, moved_down}
use Rattle.screen_effects.specs.Resize.{resized, resized_screen, resized_row}
use Rattle.screen_effects.specs.Strokes.{Stroke, CarriageReturn, LineFeed, Cluster, stroke_done, strokes}
use Rattle.screen_effects.proofs.EffectLaws.{effect_is}
use Rattle.screen_effects.proofs.StrokeLaws.{stroke_is}
use Rattle.terminal_render.specs.Links.{is_carried}
use Rattle.terminal_render.specs.Spelling.{IsSpelledColor, IsSpelledPen, IsSpelledRun, IsSpelledTitle, IsSpelledRow, IsSpelledScreen, IsSpelledValue, IsSpelledChange}
use Rattle.terminal_render.proofs.TextLemmas.{AreSpelledStrokes, spelled_space, strokes_spelled}

-- ---- pens

no_link : is_carried None ≡ true
unfolding is_carried
no_link = refl

pub blank_spelled : (color : ColorAttribute) → IsSpelledColor color → IsSpelledPen (blank_of color)
blank_spelled color c = record { unwrapped = refl; output = refl; link = no_link; foreground = tt; background = c; underline = tt }

pub plain_spelled : IsSpelledPen plain
plain_spelled = record { unwrapped = refl; output = refl; link = no_link; foreground = tt; background = tt; underline = tt }

pub value_spelled : (pen : Attributes) (value : AttributeValue) → IsSpelledPen pen → IsSpelledValue value → IsSpelledPen (with_attribute pen value)
value_spelled pen (one.Foreground color) p h = assumption (p, h)
value_spelled pen (one.Background color) p h = assumption (p, h)
value_spelled pen (one.Hyperlink link) p h = assumption (p, h)
value_spelled pen _ p h = assumption p

-- ---- rows

spelled-append : (a b : Row) → IsSpelledRow a → IsSpelledRow b → IsSpelledRow (a ++ b)
spelled-append [] b p q = q
spelled-append (Narrow text attributes ∷ a) b p q = (p.0, p.1, spelled-append a b p.2 q)
spelled-append (LeftHalf text attributes ∷ a) b p q = (p.0, p.1, spelled-append a b p.2 q)
spelled-append (RightHalf attributes ∷ a) b p q = (p.0, spelled-append a b p.1 q)

spelled-take : (n : ℕ) (row : Row) → IsSpelledRow row → IsSpelledRow (take n row)
spelled-take zero row p = tt
spelled-take (suc n) [] p = tt
spelled-take (suc n) (Narrow text attributes ∷ row) p = (p.0, p.1, spelled-take n row p.2)
spelled-take (suc n) (LeftHalf text attributes ∷ row) p = (p.0, p.1, spelled-take n row p.2)
spelled-take (suc n) (RightHalf attributes ∷ row) p = (p.0, spelled-take n row p.1)

spelled-drop : (n : ℕ) (row : Row) → IsSpelledRow row → IsSpelledRow (drop n row)
spelled-drop zero row p = p
spelled-drop (suc n) [] p = tt
spelled-drop (suc n) (Narrow text attributes ∷ row) p = spelled-drop n row p.2
spelled-drop (suc n) (LeftHalf text attributes ∷ row) p = spelled-drop n row p.2
spelled-drop (suc n) (RightHalf attributes ∷ row) p = spelled-drop n row p.1

spelled-end : (row : Row) → IsSpelledRow row → IsSpelledRow (closed_end row)
spelled-end [] p = tt
spelled-end (Narrow text attributes ∷ []) p = p
spelled-end (LeftHalf text attributes ∷ []) p = (spelled_space, p.1, tt)
spelled-end (RightHalf attributes ∷ []) p = p
spelled-end (Narrow text attributes ∷ x ∷ row) p = (p.0, p.1, spelled-end (x ∷ row) p.2)
spelled-end (LeftHalf text attributes ∷ x ∷ row) p = (p.0, p.1, spelled-end (x ∷ row) p.2)
spelled-end (RightHalf attributes ∷ x ∷ row) p = (p.0, spelled-end (x ∷ row) p.1)

spelled-start : (row : Row) → IsSpelledRow row → IsSpelledRow (closed_start row)
spelled-start [] p = tt
spelled-start (Narrow text attributes ∷ row) p = p
spelled-start (LeftHalf text attributes ∷ row) p = p
spelled-start (RightHalf attributes ∷ row) p = (spelled_space, p.0, p.1)

spelled-blanks : (n : ℕ) (attributes : Attributes) → IsSpelledPen attributes → IsSpelledRow (replicate n (blank attributes))
spelled-blanks zero attributes p = tt
spelled-blanks (suc n) attributes p = (spelled_space, p, spelled-blanks n attributes p)

spelled-set_columns : (row : Row) (at : ℕ) (columns : Row) → IsSpelledRow row → IsSpelledRow columns → IsSpelledRow (set_columns row at columns)
spelled-set_columns row at columns p q =
    spelled-append (closed_end (take at row) ++ columns) (closed_start (drop (at + length columns) row))
    (spelled-append (closed_end (take at row)) columns (spelled-end (take at row) (spelled-take at row p)) q)
    (spelled-start (drop (at + length columns) row) (spelled-drop (at + length columns) row p))

-- ---- clusters

spelled-columns : (text : List ℕ) (wide : Bool) (attributes : Attributes) → IsSpelledRun text → IsSpelledPen attributes → IsSpelledRow (columns_of text wide attributes)
spelled-columns text true attributes t p = (t, p, (p, tt))
spelled-columns text false attributes t p = (t, p, tt)

space_or : (b : Bool) (text : List ℕ) → IsSpelledRun text → IsSpelledRun (if b then space else text)
space_or true text t = spelled_space
space_or false text t = t

cluster_spelled : (width_of : List ℕ → ℕ) (s : Screen) (cluster : List ℕ) → IsSpelledPen s.pen → IsSpelledRun cluster → IsSpelledRow (cluster_columns width_of s cluster)
cluster_spelled width_of s cluster p t =
    spelled-columns _ (nat_le 2 (width_of cluster) && nat_lt 1 s.width) s.pen (space_or (nat_le 2 (width_of cluster) && s.width == 1) cluster t) p

plain_row_spelled : (width : ℕ) → IsSpelledRow (plain_row width)
plain_row_spelled width = spelled-blanks width plain plain_spelled

blank_row_spelled : (width : ℕ) (color : ColorAttribute) → IsSpelledColor color → IsSpelledRow (blank_row width color)
blank_row_spelled width color c = spelled-blanks width (blank_of color) (blank_spelled color c)

fed_spelled : (s : Screen) → IsSpelledScreen s → IsSpelledScreen (line_feed s)
fed_spelled s p =
    let blank = plain_row s.width in
    let below = All-cons IsSpelledRow blank [] (plain_row_spelled s.width) (All-nil IsSpelledRow) in
    cond_both (s.row + 1 == height s) _ _ IsSpelledScreen
    (λ e. record { rows = All-append IsSpelledRow (drop 1 s.rows) (blank ∷ []) (All-drop IsSpelledRow 1 s.rows p.rows) below; pen = p.pen; title = p.title })
    (λ e. assumption p)

written_spelled : (s : Screen) (columns : Row) → IsScreen s → IsSpelledScreen s → IsSpelledRow columns → IsSpelledScreen (write_columns columns s)
written_spelled s columns h p q = record {
  rows = All-set IsSpelledRow s.rows s.row _ (spelled-set_columns (get_or s.rows s.row []) s.column columns (p.rows s.row [] h.row_in) q) p.rows;
  pen = p.pen;
  title = p.title;
}

put_spelled : (width_of : List ℕ → ℕ) (s : Screen) (cluster : List ℕ) → IsScreen s → IsSpelledRun cluster → IsSpelledScreen s → IsSpelledScreen (put width_of s cluster)
put_spelled width_of s cluster h t p =
    let columns = cluster_columns width_of s cluster in
    let q = cluster_spelled width_of s cluster p.pen t in
    let fed = fed_spelled s p in
    cond_both (nat_lt s.width (s.column + length columns)) (carriage_return (line_feed s)) s (λ (x : Screen). IsSpelledScreen (write_columns columns x))
    (λ e. written_spelled (carriage_return (line_feed s)) columns (carriage_return_is (line_feed s) (line_feed_is s h)) (assumption fed) q)
    (λ e. written_spelled s columns h p q)

strokes_done : (width_of : List ℕ → ℕ) (ss : List Stroke) (d : Display) → AreSpelledStrokes ss → IsDisplay d → IsSpelledScreen d.screen → IsSpelledScreen (fold (stroke_done width_of) d ss).screen
strokes_done width_of [] d g h p = p
strokes_done width_of (CarriageReturn ∷ ss) d g h p = strokes_done width_of ss (stroke_done width_of d CarriageReturn) g.1 (stroke_is width_of d CarriageReturn h) (assumption p)
strokes_done width_of (LineFeed ∷ ss) d g h p = strokes_done width_of ss (stroke_done width_of d LineFeed) g.1 (stroke_is width_of d LineFeed h) (fed_spelled d.screen p)
strokes_done width_of (Cluster text ∷ ss) d g h p = strokes_done width_of ss (stroke_done width_of d (Cluster text)) g.1 (stroke_is width_of d (Cluster text) h) (put_spelled width_of d.screen text h.lawful g.0 p)

-- ---- changes

cleared_spelled : (column : ℕ) (color : ColorAttribute) (row : Row) → IsSpelledColor color → IsSpelledRow row → IsSpelledRow (cleared_after column color row)
cleared_spelled column color row c p = spelled-set_columns row column _ p (spelled-blanks (length row - column) (blank_of color) (blank_spelled color c))

below_spelled : (s : Screen) (color : ColorAttribute) (n : ℕ) → IsSpelledColor color → All IsSpelledRow s.rows → IsSpelledRow (cleared_after s.column color (cursor_row s)) → All IsSpelledRow (take s.row s.rows ++ cleared_after s.column color (cursor_row s) ∷ replicate n (blank_row s.width color))
below_spelled s color n c p q =
    All-append IsSpelledRow (take s.row s.rows) _ (All-take IsSpelledRow s.row s.rows p)
    (All-cons IsSpelledRow (cleared_after s.column color (cursor_row s)) (replicate n (blank_row s.width color)) q (All-replicate IsSpelledRow n (blank_row s.width color) (blank_row_spelled s.width color c)))

region_spelled : (change : List Row → List Row) (first size : ℕ) (xs : List Row) → ((ys : List Row) → All IsSpelledRow ys → All IsSpelledRow (change ys)) → All IsSpelledRow xs → All IsSpelledRow (in_region change first size xs)
region_spelled change first size xs keeps p =
    All-append IsSpelledRow (take first xs ++ change (take size (drop first xs))) (drop (first + size) xs)
    (All-append IsSpelledRow (take first xs) (change (take size (drop first xs))) (All-take IsSpelledRow first xs p) (keeps _ (All-take IsSpelledRow size (drop first xs) (All-drop IsSpelledRow first xs p))))
    (All-drop IsSpelledRow (first + size) xs p)

pub effect_spelled : (width_of : List ℕ → ℕ) (d : Display) (change : ChangeValue) → IsDisplay d → IsSpelledChange change → IsSpelledScreen d.screen → IsSpelledScreen (effect width_of d change).screen
effect_spelled width_of d (Attribute change) h u p = record { rows = p.rows; pen = value_spelled d.screen.pen change p.pen u; title = p.title }
effect_spelled width_of d (AllAttributes pen) h u p = record { rows = p.rows; pen = u; title = p.title }
effect_spelled width_of d (Text text) h u p = strokes_done width_of (strokes text) d (strokes_spelled text u) h p
effect_spelled width_of d (ClearScreen color) h u p = record { rows = All-map IsSpelledRow (λ _. blank_row d.screen.width color) d.screen.rows (λ k x l. blank_row_spelled d.screen.width color u); pen = blank_spelled color u; title = p.title }
effect_spelled width_of d (ClearToEndOfLine color) h u p = record {
  rows = All-set IsSpelledRow d.screen.rows d.screen.row _ (cleared_spelled d.screen.column color (cursor_row d.screen) u (p.rows d.screen.row [] h.lawful.row_in)) p.rows;
  pen = blank_spelled color u;
  title = p.title;
}
effect_spelled width_of d (ClearToEndOfScreen color) h u p = record {
  rows = below_spelled d.screen color (height d.screen - (d.screen.row + 1)) u p.rows (cleared_spelled d.screen.column color (cursor_row d.screen) u (p.rows d.screen.row [] h.lawful.row_in));
  pen = blank_spelled color u;
  title = p.title;
}
effect_spelled width_of d (CursorPosition x y) h u p = assumption p
effect_spelled width_of d (CursorColor color) h u p = p
effect_spelled width_of d (CursorShape shape) h u p = p
effect_spelled width_of d (CursorVisibility visibility) h u p = assumption p
effect_spelled width_of d (LineAttribute size) h u p = p
effect_spelled width_of d (ScrollRegionUp first size count) h u p = record {
  rows = region_spelled (moved_up (plain_row d.screen.width) count) first size d.screen.rows
      (λ xs q. All-append IsSpelledRow (drop count xs) (replicate (min count (length xs)) (plain_row d.screen.width)) (All-drop IsSpelledRow count xs q) (All-replicate IsSpelledRow (min count (length xs)) (plain_row d.screen.width) (plain_row_spelled d.screen.width))) p.rows;
  pen = p.pen;
  title = p.title;
}
effect_spelled width_of d (ScrollRegionDown first size count) h u p = record {
  rows = region_spelled (moved_down (plain_row d.screen.width) count) first size d.screen.rows
      (λ xs q. All-append IsSpelledRow (replicate (min count (length xs)) (plain_row d.screen.width)) (take (length xs - count) xs) (All-replicate IsSpelledRow (min count (length xs)) (plain_row d.screen.width) (plain_row_spelled d.screen.width)) (All-take IsSpelledRow (length xs - count) xs q)) p.rows;
  pen = p.pen;
  title = p.title;
}
effect_spelled width_of d (Title title) h u p = record { rows = p.rows; pen = p.pen; title = u }

abbrev pub AreSpelledChanges : List ChangeValue → Type 0
AreSpelledChanges = AllByRecursion IsSpelledChange

pub replay_spelled : (width_of : List ℕ → ℕ) (changes : List ChangeValue) (d : Display) → IsDisplay d → AreSpelledChanges changes → IsSpelledScreen d.screen → IsSpelledScreen (replay width_of d changes).screen
replay_spelled width_of [] d h u p = p
replay_spelled width_of (change ∷ changes) d h u p = replay_spelled width_of changes (effect width_of d change) (effect_is width_of d change h) u.1 (effect_spelled width_of d change h u.0 p)

pub size_spelled : (width rows : ℕ) (s : Screen) → IsSpelledScreen s → IsSpelledScreen (resized_screen width rows s)
size_spelled width rows s p =
    let all = map (resized_row width) s.rows in
    record {
      rows = All-append IsSpelledRow (take rows all) (replicate (rows - length all) (plain_row width))
          (All-take IsSpelledRow rows all
          (All-map IsSpelledRow (resized_row width) s.rows
          (λ k x l. spelled-append (closed_end (take width _)) (plain_row (width - length _)) (spelled-end (take width _) (spelled-take width _ (p.rows k x l))) (plain_row_spelled (width - length _)))))
          (All-replicate IsSpelledRow (rows - length all) (plain_row width) (plain_row_spelled width));
      pen = p.pen;
      title = p.title;
    }

pub resized_spelled : (width rows : ℕ) (d : Display) → IsSpelledScreen d.screen → IsSpelledScreen (resized width rows d).screen
resized_spelled width rows d p = size_spelled width rows d.screen p

no_title : IsSpelledTitle []
unfolding holds_c1
no_title = record { utf8 = ([], (refl, refl)); plain = refl }

pub screen_spelled : (width rows : ℕ) → IsSpelledScreen (new_screen width rows)
screen_spelled width rows = record { rows = All-replicate IsSpelledRow rows (plain_row width) (plain_row_spelled width); pen = plain_spelled; title = no_title }

pub new_spelled : (width rows : ℕ) → IsSpelledScreen (new_display width rows).screen
new_spelled width rows = screen_spelled width rows
