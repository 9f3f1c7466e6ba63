-- The display after a repaint is replayed.
use Rattle.std.proofs.Common.{◌≡◌, ℕ, suc, ◌+◌, ◌-◌, ◌<◌, ◌≤◌, Bool, true, false, List, [], ◌∷◌, ◌++◌, length, replicate, Option, Some, None, refl, sym, ap, ◌∙◌, subst, arith}
use Rattle.std.specs.Prelude.{All, ◌&&◌, ◌==◌, min, not, if◌then◌else◌}
use Rattle.std.proofs.lemmas.Bool.{false≢true, and_parts}
use Rattle.std.proofs.lemmas.Bool.Decides.{nat_tests}
use Rattle.std.proofs.lemmas.List.Sums.{fold-append}
use Rattle.cell_base.specs.declared.attributes.CursorShape.{CursorShape as Shape}
use Rattle.cell_base.specs.declared.attributes.CursorVisibility.TheVariants.{Hidden}
use Rattle.cell_base.specs.declared.attributes.Position.TheVariants.{Absolute}
use Rattle.cell_base.specs.declared.color.ColorAttribute.TheVariants.{Default}
use Rattle.cell_base.specs.Attributes.{Attributes, plain}
use Rattle.cell_base.specs.Row.{Row, space, plain_row}
use Rattle.cell_base.specs.Screen.{Screen}
use Rattle.screen_change.specs.CellChanges.{attributes_due}
use Rattle.screen_change.specs.ChangeValue.{ChangeValue, Attribute, AllAttributes, Text, ClearScreen, ClearToEndOfLine, ClearToEndOfScreen, CursorPosition, CursorColor, CursorShape, CursorVisibility, LineAttribute, ScrollRegionUp, ScrollRegionDown, Title}
use Rattle.screen_change.proofs.TextLemmas.{by_test}
use Rattle.cell_base.specs.WholeRow.{IsWhole}
use Rattle.screen_effects.specs.Display.{Display, IsDisplay}
use Rattle.screen_effects.specs.Effect.{on_screen, effect, replay}
use Rattle.screen_effects.specs.Positions.{resolved, resolved_column}
use Rattle.screen_effects.proofs.EffectLaws.{replay_is}
use Rattle.screen_effects.specs.WrittenCells.{IsSoundDisplay, IsSoundRow}
use Rattle.screen_effects.proofs.WrittenLemmas.{due_replayed}
use Rattle.screen_repaint.specs.Repaint.{are_some, pen_left, rows_painted, cursor_placed, cursor_shown, repaint, repaint_with, title_due}
use Rattle.screen_repaint.specs.Shown.{AreTitles, IsTitle, shape_or, shown_on, title_after, title_left, title_or}
use Rattle.screen_repaint.proofs.CellLemmas.{AreGood, mapped_copies}
use Rattle.screen_repaint.proofs.PaintLemmas.{no_changes}
use Rattle.screen_repaint.proofs.ShownLemmas.{Painted, at_position, starts, rows_shown}

abbrev with_title : List ℕ → Screen → Screen
with_title title screen = record screen { title = title }

module _ (width_of : List ℕ → ℕ) where
  -- ---- titles

  one_title : (change : ChangeValue) (d : Display) → IsTitle change → effect width_of d change ≡ on_screen (λ s. with_title (title_after s.title change) s) d
  one_title (Title title) d p = refl
  one_title (Attribute change) d p = absurd p
  one_title (AllAttributes pen) d p = absurd p
  one_title (Text text) d p = absurd p
  one_title (ClearScreen color) d p = absurd p
  one_title (ClearToEndOfLine color) d p = absurd p
  one_title (ClearToEndOfScreen color) d p = absurd p
  one_title (CursorPosition x y) d p = absurd p
  one_title (CursorColor color) d p = absurd p
  one_title (CursorShape shape) d p = absurd p
  one_title (CursorVisibility visibility) d p = absurd p
  one_title (LineAttribute size) d p = absurd p
  one_title (ScrollRegionUp first size count) d p = absurd p
  one_title (ScrollRegionDown first size count) d p = absurd p

  titles_shown : (titles : List ChangeValue) (d : Display) → AreTitles titles → replay width_of d titles ≡ on_screen (λ s. with_title (title_left s.title titles) s) d
  titles_shown [] d p = refl
  titles_shown (change ∷ changes) d p =
      ap (λ (e : Display). replay width_of e changes) (one_title change d p.0) ∙ titles_shown changes (on_screen (λ s. with_title (title_after s.title change) s) d) p.1

  -- ---- the cursor

  cursor_is_shown : (d : Display) (visible : Bool) (shape : Option Shape) → d.screen.visible ≡ false
      → replay width_of d (cursor_shown visible shape) ≡ record d { screen = record d.screen { visible = visible }; shape = shape_or visible shape d.shape }
  cursor_is_shown d true None e = refl
  cursor_is_shown d true (Some shape) e = refl
  cursor_is_shown d false None e = ap (λ b. on_screen (λ s. record s { visible = b }) d) e
  cursor_is_shown d false (Some shape) e = ap (λ b. on_screen (λ s. record s { visible = b }) d) e

  module _ (narrow : width_of space ≡ 1) (b : Display) where
    column_is : (from column : ℕ) → column ≤ b.screen.width → resolved_column b.screen.width from (Absolute column) ≡ column
    column_is from column h =
        by_test (column == b.screen.width)
        (λ e. ap (λ x. if x then b.screen.width else min column (b.screen.width - 1)) e ∙ grind (arith, nat_tests))
        (λ e. ap (λ x. if x then b.screen.width else min column (b.screen.width - 1)) e ∙ by_less (grind (arith, nat_tests)))
      where
        by_less : column + 1 ≤ b.screen.width → min column (b.screen.width - 1) ≡ column
        by_less n = omega (arith, n)

    abbrev on_base : List Row → ℕ → ℕ → Attributes → Display
    on_base = at_position width_of narrow b

    placed : (changes : List ChangeValue) (n : ℕ) (rows : List Row) (pen : Attributes) (column row : ℕ) → column ≤ b.screen.width → row < length rows
        → (p : Painted width_of narrow b rows pen (replay width_of (starts width_of narrow b [] n plain) changes))
        → replay width_of (on_base rows p.column p.row pen) (cursor_placed (are_some changes) column row) ≡ on_base rows column row pen
    placed changes n rows pen column row c r p =
        by_test (not (are_some changes) && (column == 0 && row == 0))
        (λ e.
        let parts = and_parts (not (are_some changes)) (column == 0 && row == 0) e in
        let home = and_parts (column == 0) (row == 0) parts.1 in
        let none : changes ≡ [] = no_changes changes (not_not (are_some changes) parts.0) in
        let same : on_base rows p.column p.row pen ≡ starts width_of narrow b [] n plain = sym p.shown ∙ ap (λ (cs : List ChangeValue). replay width_of (starts width_of narrow b [] n plain) cs) none in
        let x : p.column ≡ 0 = ap (λ (d : Display). d.screen.column) same in
        let y : p.row ≡ 0 = ap (λ (d : Display). d.screen.row) same in
        let x_is : 0 ≡ column = from_home column home.0 in
        let y_is : 0 ≡ row = from_home row home.1 in
        ap (λ t. replay width_of (on_base rows p.column p.row pen) (if t then [] else CursorPosition (Absolute column) (Absolute row) ∷ [])) e
        ∙ (λ i. on_base rows ((x ∙ x_is) i) ((y ∙ y_is) i) pen))
        (λ e.
        let y_is : resolved (length rows) p.row (Absolute row) ≡ row = omega (arith, r) in
        ap (λ t. replay width_of (on_base rows p.column p.row pen) (if t then [] else CursorPosition (Absolute column) (Absolute row) ∷ [])) e
        ∙ (λ i. on_base rows (column_is p.column column c i) (y_is i) pen))
      where
        not_not : (t : Bool) → not t ≡ true → t ≡ false
        not_not true e = absurd (false≢true e)
        not_not false e = refl

        from_home : (m : ℕ) → (m == 0) ≡ true → 0 ≡ m
        from_home m e = grind (arith, nat_tests)

  -- ---- all

  good : (narrow : width_of space ≡ 1) (width : ℕ) (rows : List Row) → All (λ row. length row ≡ width) rows → All IsWhole rows → All (IsSoundRow width_of) rows → AreGood width_of narrow width rows
  good narrow width [] even whole sound = tt
  good narrow width (row ∷ rows) even whole sound = (
    even 0 [] (omega arith),
    whole 0 [] (omega arith),
    sound 0 [] (omega arith),
    good narrow width rows (λ k d h. even (suc k) d (omega arith)) (λ k d h. whole (suc k) d (omega arith)) (λ k d h. sound (suc k) d (omega arith)),
  )

pub repaint_is_shown : (width_of : List ℕ → ℕ) (other display : Display) (titles : List ChangeValue) → width_of space ≡ 1 → IsDisplay display → IsSoundDisplay width_of display → IsDisplay other
    → other.screen.width ≡ display.screen.width → length other.screen.rows ≡ length display.screen.rows → AreTitles titles
    → replay width_of other (repaint_with titles display) ≡ shown_on other (title_left other.screen.title titles) display
repaint_is_shown width_of other display titles narrow h sound g wide high t =
    let screen : Screen = display.screen in
    let rows : List Row = screen.rows in
    let cleared : List ChangeValue = CursorVisibility Hidden ∷ ClearScreen Default ∷ [] in
    let base : Display = on_screen (λ s. with_title (title_left s.title titles) s) (replay width_of other cleared) in
    let painted : List ChangeValue = rows_painted plain rows in
    let pen : Attributes = pen_left plain painted in
    let start : Display = starts width_of narrow base [] (length rows) plain in
    let same_rows : base.screen.rows ≡ replicate (length rows) (plain_row base.screen.width) = mapped_copies other.screen.rows (plain_row other.screen.width) ∙ ap (λ n. replicate n (plain_row other.screen.width)) high in
    let first : replay width_of other (cleared ++ titles) ≡ start =
    fold-append (effect width_of) other cleared titles ∙ titles_shown width_of titles (replay width_of other cleared) t ∙ ap (λ (all : List Row). at_position width_of narrow base all 0 0 plain) same_rows in
    let lawful : IsDisplay start = subst IsDisplay first (replay_is width_of (cleared ++ titles) other g) in
    let even : All (λ row. length row ≡ base.screen.width) rows = subst (λ n. All (λ row. length row ≡ n) rows) (sym wide) h.lawful.even in
    let p : Painted width_of narrow base rows pen (replay width_of start painted) = rows_shown width_of narrow base rows [] plain (λ n. lawful) (good width_of narrow base.screen.width rows even h.whole sound) in
    let in_columns : screen.column ≤ base.screen.width = subst (λ n. screen.column ≤ n) (sym wide) h.lawful.column_in in
    let cursor_moves : List ChangeValue = cursor_placed (are_some painted) screen.column screen.row in
    let due : List ChangeValue = attributes_due pen screen.pen in
    let shown : List ChangeValue = cursor_shown screen.visible display.shape in
    let there : Display = at_position width_of narrow base rows screen.column screen.row pen in
    let drawn : Display = at_position width_of narrow base rows screen.column screen.row screen.pen in
    fold-append (effect width_of) other (cleared ++ titles ++ painted ++ cursor_moves ++ due) shown
    ∙ ap (λ (d : Display). replay width_of d shown)
    (fold-append (effect width_of) other (cleared ++ titles ++ painted ++ cursor_moves) due
    ∙ ap (λ (d : Display). replay width_of d due)
    (fold-append (effect width_of) other (cleared ++ titles ++ painted) cursor_moves
    ∙ ap (λ (d : Display). replay width_of d cursor_moves) (fold-append (effect width_of) other (cleared ++ titles) painted ∙ ap (λ (d : Display). replay width_of d painted) first ∙ p.shown)
    ∙ placed width_of narrow base painted (length rows) rows pen screen.column screen.row in_columns h.lawful.row_in p)
    ∙ due_replayed width_of screen.pen there)
    ∙ cursor_is_shown width_of drawn screen.visible display.shape refl
    ∙ ap (λ n. record (shown_on other (title_left other.screen.title titles) display) { screen = record display.screen { width = n; title = title_left other.screen.title titles } }) wide

pub titled_is_shown : (width_of : List ℕ → ℕ) (other display : Display) (title : List ℕ) → width_of space ≡ 1 → IsDisplay display → IsSoundDisplay width_of display → IsDisplay other
    → other.screen.width ≡ display.screen.width → length other.screen.rows ≡ length display.screen.rows → replay width_of other (repaint_with (Title title ∷ []) display) ≡ shown_on other title display
titled_is_shown width_of other display title narrow h sound g wide high = repaint_is_shown width_of other display (Title title ∷ []) narrow h sound g wide high (tt, tt)

are_due : (title : List ℕ) → AreTitles (title_due title)
are_due [] = tt
are_due (byte ∷ title) = (tt, tt)

due_left : (title other : List ℕ) → title_left other (title_due title) ≡ title_or title other
due_left [] other = refl
due_left (byte ∷ title) other = refl

pub repainted_is_shown : (width_of : List ℕ → ℕ) (other display : Display) → width_of space ≡ 1 → IsDisplay display → IsSoundDisplay width_of display → IsDisplay other
    → other.screen.width ≡ display.screen.width → length other.screen.rows ≡ length display.screen.rows → replay width_of other (repaint display) ≡ shown_on other (title_or display.screen.title other.screen.title) display
repainted_is_shown width_of other display narrow h sound g wide high =
    repaint_is_shown width_of other display (title_due display.screen.title) narrow h sound g wide high (are_due display.screen.title)
    ∙ ap (λ (title : List ℕ). shown_on other title display) (due_left display.screen.title other.screen.title)
