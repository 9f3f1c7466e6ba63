-- The cells of screens stay sound.
use Rattle.std.proofs.Common.{◌≡◌, ℕ, zero, suc, ◌+◌, ◌-◌, Bool, true, false, List, [], ◌∷◌, ◌++◌, length, get_or, take, drop, map, replicate, sym, ap, subst, arith}
use Rattle.std.specs.Prelude.{All, ◌==◌, ◌&&◌, min, nat_lt, nat_le, fold, if◌then◌else◌}
use Rattle.std.proofs.lemmas.Bool.Decides.{nat_tests}
use Rattle.std.proofs.lemmas.List.Elements.{All-append, All-drop, All-take, All-map, All-set, All-replicate}
use Rattle.cell_base.specs.declared.color.ColorAttribute.{ColorAttribute}
use Rattle.cell_base.specs.Attributes.{Attributes, plain, blank_of}
use Rattle.cell_base.specs.Row.{Row, Narrow, LeftHalf, RightHalf, space, blank, plain_row, columns_of, closed_end, closed_start, set_columns}
use Rattle.cell_base.specs.Screen.{Screen, IsScreen, height, scrolled, line_feed, carriage_return, cluster_columns, write_columns, put}
use Rattle.screen_change.specs.ChangeValue.{ChangeValue, Attribute, AllAttributes, Text, ClearScreen, ClearToEndOfLine, ClearToEndOfScreen, CursorPosition, CursorColor, CursorShape, CursorVisibility, LineAttribute, ScrollRegionUp, ScrollRegionDown, Title}
use Rattle.screen_change.proofs.TextLemmas.{by_test}
use Rattle.cell_base.proofs.LawfulScreens.{line_feed_is, carriage_return_is}
use Rattle.screen_effects.specs.Display.{Display, IsDisplay, new_display}
use Rattle.screen_effects.specs.Effect.{effect, blank_row, cleared_after, cursor_row}
use Rattle.screen_effects.specs.Regions.{in_region, moved_up, moved_down}
use Rattle.screen_effects.specs.Resize.{resized, resized_row}
use Rattle.screen_effects.specs.Strokes.{Stroke, CarriageReturn, LineFeed, Cluster, stroke_done, strokes}
use Rattle.screen_effects.proofs.StrokeLaws.{stroke_is}
use Rattle.screen_effects.specs.WrittenCells.{HasUtf8, IsCellText, IsSoundDisplay, IsSoundRow, IsSoundText}
use Rattle.screen_effects.proofs.PartLemmas.{AreSoundStrokes, space_stands, strokes_are_sound}

module _ (width_of : List ℕ → ℕ) (narrow : width_of space ≡ 1) where
  pub sound_space : IsSoundText width_of space false
  sound_space = record { stands = space_stands; width = ap (λ n. nat_le 2 n) narrow }

  abbrev IsSound : Row → Type 0
  IsSound = IsSoundRow width_of

  -- ---- rows

  pub sound-append : (a b : Row) → IsSound a → IsSound b → IsSound (a ++ b)
  sound-append [] b p q = q
  sound-append (Narrow text attributes ∷ a) b p q = (p.0, sound-append a b p.1 q)
  sound-append (LeftHalf text attributes ∷ a) b p q = (p.0, sound-append a b p.1 q)
  sound-append (RightHalf attributes ∷ a) b p q = sound-append a b p q

  sound-take : (n : ℕ) (row : Row) → IsSound row → IsSound (take n row)
  sound-take zero row p = tt
  sound-take (suc n) [] p = tt
  sound-take (suc n) (Narrow text attributes ∷ row) p = (p.0, sound-take n row p.1)
  sound-take (suc n) (LeftHalf text attributes ∷ row) p = (p.0, sound-take n row p.1)
  sound-take (suc n) (RightHalf attributes ∷ row) p = sound-take n row p

  sound-drop : (n : ℕ) (row : Row) → IsSound row → IsSound (drop n row)
  sound-drop zero row p = p
  sound-drop (suc n) [] p = tt
  sound-drop (suc n) (Narrow text attributes ∷ row) p = sound-drop n row p.1
  sound-drop (suc n) (LeftHalf text attributes ∷ row) p = sound-drop n row p.1
  sound-drop (suc n) (RightHalf attributes ∷ row) p = sound-drop n row p

  sound-end : (row : Row) → IsSound row → IsSound (closed_end row)
  sound-end [] p = tt
  sound-end (Narrow text attributes ∷ []) p = p
  sound-end (LeftHalf text attributes ∷ []) p = (sound_space, tt)
  sound-end (RightHalf attributes ∷ []) p = p
  sound-end (Narrow text attributes ∷ x ∷ row) p = (p.0, sound-end (x ∷ row) p.1)
  sound-end (LeftHalf text attributes ∷ x ∷ row) p = (p.0, sound-end (x ∷ row) p.1)
  sound-end (RightHalf attributes ∷ x ∷ row) p = sound-end (x ∷ row) p

  sound-start : (row : Row) → IsSound row → IsSound (closed_start row)
  sound-start [] p = tt
  sound-start (Narrow text attributes ∷ row) p = p
  sound-start (LeftHalf text attributes ∷ row) p = p
  sound-start (RightHalf attributes ∷ row) p = (sound_space, p)

  sound-blanks : (n : ℕ) (attributes : Attributes) → IsSound (replicate n (blank attributes))
  sound-blanks zero attributes = tt
  sound-blanks (suc n) attributes = (sound_space, sound-blanks n attributes)

  pub sound-set_columns : (row : Row) (at : ℕ) (columns : Row) → IsSound row → IsSound columns → IsSound (set_columns row at columns)
  sound-set_columns row at columns p q =
      sound-append (closed_end (take at row) ++ columns) (closed_start (drop (at + length columns) row))
      (sound-append (closed_end (take at row)) columns (sound-end (take at row) (sound-take at row p)) q)
      (sound-start (drop (at + length columns) row) (sound-drop (at + length columns) row p))

  sound-columns : (text : List ℕ) (wide : Bool) (attributes : Attributes) → IsSoundText width_of text wide → IsSound (columns_of text wide attributes)
  sound-columns text true attributes p = (p, tt)
  sound-columns text false attributes p = (p, tt)

  -- ---- clusters

  cluster_sound : (s : Screen) (cluster : List ℕ) → IsScreen s → IsCellText cluster → IsSound (cluster_columns width_of s cluster)
  cluster_sound s cluster h p =
      by_test (nat_le 2 (width_of cluster))
      (λ wide.
      by_test (s.width == 1)
      (λ one.
      let thin : nat_lt 1 s.width ≡ false = grind (arith, nat_tests) in
      subst IsSound (sym (λ i. columns_of (if wide i && one i then space else cluster) (wide i && thin i) s.pen)) (sound-columns space false s.pen sound_space))
      (λ one.
      let some = h.wide_enough in
      let broad : nat_lt 1 s.width ≡ true = grind (arith, nat_tests) in
      subst IsSound (sym (λ i. columns_of (if wide i && one i then space else cluster) (wide i && broad i) s.pen)) (sound-columns cluster true s.pen (record { stands = p; width = wide }))))
      (λ wide.
      subst IsSound (sym (λ i. columns_of (if wide i && s.width == 1 then space else cluster) (wide i && nat_lt 1 s.width) s.pen)) (sound-columns cluster false s.pen (record { stands = p; width = wide })))

  one : (x : Row) → IsSound x → All IsSound (x ∷ [])
  one x p zero d h = p
  one x p (suc k) d h = absurd (omega arith)

  fed_sound : (s : Screen) → All IsSound s.rows → All IsSound (line_feed s).rows
  fed_sound s p =
      by_test (s.row + 1 == height s)
      (λ e. subst (λ b. All IsSound (if b then scrolled s else record s { row = s.row + 1 }).rows) (sym e) (All-append IsSound (drop 1 s.rows) (plain_row s.width ∷ []) (All-drop IsSound 1 s.rows p) (one (plain_row s.width) (sound-blanks s.width plain))))
      (λ e. subst (λ b. All IsSound (if b then scrolled s else record s { row = s.row + 1 }).rows) (sym e) p)

  written_sound : (s : Screen) (columns : Row) → IsScreen s → All IsSound s.rows → IsSound columns → All IsSound (write_columns columns s).rows
  written_sound s columns h p q = All-set IsSound s.rows s.row _ (sound-set_columns (get_or s.rows s.row []) s.column columns (p s.row [] h.row_in) q) p

  put_sound : (s : Screen) (cluster : List ℕ) → IsScreen s → IsCellText cluster → All IsSound s.rows → All IsSound (put width_of s cluster).rows
  put_sound s cluster h t p =
      let columns = cluster_columns width_of s cluster in
      let q = cluster_sound s cluster h t in
      by_test (nat_lt s.width (s.column + length columns))
      (λ e. subst (λ b. All IsSound (write_columns columns (if b then carriage_return (line_feed s) else s)).rows) (sym e) (written_sound (carriage_return (line_feed s)) columns (carriage_return_is (line_feed s) (line_feed_is s h)) (fed_sound s p) q))
      (λ e. subst (λ b. All IsSound (write_columns columns (if b then carriage_return (line_feed s) else s)).rows) (sym e) (written_sound s columns h p q))

  strokes_sound : (ss : List Stroke) (d : Display) → AreSoundStrokes ss → IsDisplay d → All IsSound d.screen.rows → All IsSound (fold (stroke_done width_of) d ss).screen.rows
  strokes_sound [] d g h p = p
  strokes_sound (CarriageReturn ∷ ss) d g h p = strokes_sound ss (stroke_done width_of d CarriageReturn) g.1 (stroke_is width_of d CarriageReturn h) p
  strokes_sound (LineFeed ∷ ss) d g h p = strokes_sound ss (stroke_done width_of d LineFeed) g.1 (stroke_is width_of d LineFeed h) (fed_sound d.screen p)
  strokes_sound (Cluster text ∷ ss) d g h p = strokes_sound ss (stroke_done width_of d (Cluster text)) g.1 (stroke_is width_of d (Cluster text) h) (put_sound d.screen text h.lawful g.0 p)

  -- ---- changes

  cleared_sound : (column : ℕ) (color : ColorAttribute) (row : Row) → IsSound row → IsSound (cleared_after column color row)
  cleared_sound column color row p = sound-set_columns row column _ p (sound-blanks (length row - column) (blank_of color))

  below_sound : (s : Screen) (color : ColorAttribute) (n : ℕ) → All IsSound s.rows → IsSound (cleared_after s.column color (cursor_row s)) → All IsSound (take s.row s.rows ++ cleared_after s.column color (cursor_row s) ∷ replicate n (blank_row s.width color))
  below_sound s color n p q =
      All-append IsSound (take s.row s.rows) _ (All-take IsSound s.row s.rows p) first
    where
      rest : All IsSound (replicate n (blank_row s.width color))
      rest = All-replicate IsSound n (blank_row s.width color) (sound-blanks s.width (blank_of color))

      first : All IsSound (cleared_after s.column color (cursor_row s) ∷ replicate n (blank_row s.width color))
      first zero d h = q
      first (suc k) d h = rest k d (omega arith)

  region_sound : (change : List Row → List Row) (first size : ℕ) (xs : List Row) → ((ys : List Row) → All IsSound ys → All IsSound (change ys)) → All IsSound xs → All IsSound (in_region change first size xs)
  region_sound change first size xs keeps p =
      All-append IsSound (take first xs ++ change (take size (drop first xs))) (drop (first + size) xs)
      (All-append IsSound (take first xs) (change (take size (drop first xs))) (All-take IsSound first xs p) (keeps _ (All-take IsSound size (drop first xs) (All-drop IsSound first xs p))))
      (All-drop IsSound (first + size) xs p)

  pub effect_sound : (d : Display) (change : ChangeValue) → IsDisplay d → HasUtf8 change → All IsSound d.screen.rows → All IsSound (effect width_of d change).screen.rows
  effect_sound d (Attribute change) h u p = p
  effect_sound d (AllAttributes pen) h u p = p
  effect_sound d (Text text) h u p = strokes_sound (strokes text) d (strokes_are_sound text u) h p
  effect_sound d (ClearScreen color) h u p = All-map IsSound (λ _. blank_row d.screen.width color) d.screen.rows (λ k x l. sound-blanks d.screen.width (blank_of color))
  effect_sound d (ClearToEndOfLine color) h u p = All-set IsSound d.screen.rows d.screen.row _ (cleared_sound d.screen.column color (cursor_row d.screen) (p d.screen.row [] h.lawful.row_in)) p
  effect_sound d (ClearToEndOfScreen color) h u p = below_sound d.screen color (height d.screen - (d.screen.row + 1)) p (cleared_sound d.screen.column color (cursor_row d.screen) (p d.screen.row [] h.lawful.row_in))
  effect_sound d (CursorPosition x y) h u p = p
  effect_sound d (CursorColor color) h u p = p
  effect_sound d (CursorShape shape) h u p = p
  effect_sound d (CursorVisibility visibility) h u p = p
  effect_sound d (LineAttribute size) h u p = p
  effect_sound d (ScrollRegionUp first size count) h u p =
      region_sound (moved_up (plain_row d.screen.width) count) first size d.screen.rows
      (λ xs q. All-append IsSound (drop count xs) (replicate (min count (length xs)) (plain_row d.screen.width)) (All-drop IsSound count xs q) (All-replicate IsSound (min count (length xs)) (plain_row d.screen.width) (sound-blanks d.screen.width plain))) p
  effect_sound d (ScrollRegionDown first size count) h u p =
      region_sound (moved_down (plain_row d.screen.width) count) first size d.screen.rows
      (λ xs q. All-append IsSound (replicate (min count (length xs)) (plain_row d.screen.width)) (take (length xs - count) xs) (All-replicate IsSound (min count (length xs)) (plain_row d.screen.width) (sound-blanks d.screen.width plain)) (All-take IsSound (length xs - count) xs q)) p
  effect_sound d (Title title) h u p = p

  pub resized_sound : (width rows : ℕ) (d : Display) → All IsSound d.screen.rows → All IsSound (resized width rows d).screen.rows
  resized_sound width rows d p =
      let all = map (resized_row width) d.screen.rows in
      All-append IsSound (take rows all) (replicate (rows - length all) (plain_row width))
      (All-take IsSound rows all
      (All-map IsSound (resized_row width) d.screen.rows
      (λ k x l. sound-append (closed_end (take width _)) (plain_row (width - length _)) (sound-end (take width _) (sound-take width _ (p k x l))) (sound-blanks (width - length _) plain))))
      (All-replicate IsSound (rows - length all) (plain_row width) (sound-blanks width plain))

pub new_is_sound : (width_of : List ℕ → ℕ) (width rows : ℕ) → width_of space ≡ 1 → IsSoundDisplay width_of (new_display width rows)
new_is_sound width_of width rows e = All-replicate (IsSoundRow width_of) rows (plain_row width) (sound-blanks width_of e width plain)

pub effect_is_sound : (width_of : List ℕ → ℕ) (d : Display) (change : ChangeValue) → width_of space ≡ 1 → IsDisplay d → HasUtf8 change → IsSoundDisplay width_of d → IsSoundDisplay width_of (effect width_of d change)
effect_is_sound width_of d change e = effect_sound width_of e d change

pub resized_is_sound : (width_of : List ℕ → ℕ) (width rows : ℕ) (d : Display) → width_of space ≡ 1 → IsSoundDisplay width_of d → IsSoundDisplay width_of (resized width rows d)
resized_is_sound width_of width rows d e = resized_sound width_of e width rows d
