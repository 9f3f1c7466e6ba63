-- Clusters that are put without scrolling: each adds at most three cells that the old rows don't show; in narrow rows, a narrow one at most one.
use Rattle.std.proofs.Common.{◌≡◌, ℕ, zero, suc, ◌+◌, ◌*◌, ◌≤◌, Bool, true, false, List, [], ◌∷◌, length, get_or, set, map, fold, refl, sym, subst, arith}
use Rattle.std.specs.Prelude.{⊤, All, ◌==◌, ◌&&◌, nat_le, nat_lt, not, if◌then◌else◌}
use Rattle.std.proofs.lemmas.Bool.{false≢true, or_parts, leb-true, ltb-true, eqb-true}
use Rattle.std.proofs.lemmas.List.Elements.{All-head, All-tail, All-set}
use Rattle.cell_base.specs.Attributes.{Attributes}
use Rattle.cell_base.specs.Row.{Row, space, columns_of, set_columns}
use Rattle.cell_base.specs.Screen.{Screen, height, scrolled, carriage_return, write_columns, cluster_columns, put}
use Rattle.cell_edits.specs.VisibleCells.{visible_from}
use Rattle.screen_difference.specs.FreshCells.{is_shown}
use Rattle.screen_effects.specs.Strokes.{Cluster, scrolls}
use Rattle.screen_difference.specs.Prints.{PlacedText, print_of, strokes_print, strokes_scroll, text_put}
use Rattle.terminal_table.proofs.CountLemmas.{IsNarrowRow, passing_is, text_grows, narrow_grows, narrow_set}
use Rattle.terminal_table.proofs.RowsLemmas.{row_count, rows_count, row_set}

-- The rows after some printed texts: `Kept` holds of them, and they have at most `most` more cells per text that `olds` don't show.
pub record Grows (olds : List Row) (most : ℕ) (Kept : List Row → Type 0) (before after : List Row) (texts : ℕ) : Type 0 where
  pub kept : Kept after
  pub bound : rows_count olds after ≤ rows_count olds before + most * texts

pub stays : (olds : List Row) (most : ℕ) (Kept : List Row → Type 0) (rows : List Row) → Kept rows → Grows olds most Kept rows rows 0
stays olds most Kept rows k = record { kept = k; bound = omega arith }

pub in_turn : (olds : List Row) (most : ℕ) (Kept : List Row → Type 0) (a b c : List Row) (m n : ℕ) → Grows olds most Kept a b m → Grows olds most Kept b c n → Grows olds most Kept a c (m + n)
in_turn olds most Kept a b c m n x y = record { kept = y.kept; bound = let f = x.bound in let g = y.bound in omega arith }

-- ---- one cluster

-- where nothing scrolls, the columns of a cluster are set in one row
put_in_row : (P : List Row → Type 0) (width_of : List ℕ → ℕ) (s : Screen) (text : List ℕ) → scrolls width_of s (Cluster text) ≡ false
    → ((row column : ℕ) → P (set s.rows row (set_columns (get_or s.rows row []) column (cluster_columns width_of s text)))) → P (put width_of s text).rows
put_in_row P width_of s text still there = by_test (nat_lt s.width (s.column + length columns)) (s.row + 1 == height s) still
  where
    columns : Row
    columns = cluster_columns width_of s text

    by_test : (next last : Bool) → (last && next) ≡ false → P (write_columns columns (if next then carriage_return (if last then scrolled s else record s { row = s.row + 1 }) else s)).rows
    by_test false last e = there s.row s.column
    by_test true false e = there (s.row + 1) 0
    by_test true true e = absurd (false≢true (sym e))

row_grows : (old row : Row) (column : ℕ) (text : List ℕ) (wide : Bool) (attributes : Attributes)
    → row_count old (set_columns row column (columns_of text wide attributes)) ≤ row_count old row + 3
row_grows old row column text wide attributes =
    let before = passing_is (λ v. not (is_shown (visible_from 0 old) v)) 0 row in
    let after = passing_is (λ v. not (is_shown (visible_from 0 old) v)) 0 (set_columns row column (columns_of text wide attributes)) in
    let more = text_grows (λ v. not (is_shown (visible_from 0 old) v)) row column text wide attributes in
    omega arith

narrow_row_grows : (old row : Row) (column : ℕ) (text : List ℕ) (wide : Bool) (attributes : Attributes) → IsNarrowRow row
    → row_count old (set_columns row column (columns_of text wide attributes)) ≤ row_count old row + 1
narrow_row_grows old row column text wide attributes h =
    let before = passing_is (λ v. not (is_shown (visible_from 0 old) v)) 0 row in
    let after = passing_is (λ v. not (is_shown (visible_from 0 old) v)) 0 (set_columns row column (columns_of text wide attributes)) in
    let more = narrow_grows (λ v. not (is_shown (visible_from 0 old) v)) row column text wide attributes h in
    omega arith

-- each printed text adds at most `most` cells
abbrev pub TextsGrow : (List ℕ → ℕ) → List Row → ℕ → (List Row → Type 0) → (PlacedText → Type 0) → Type 0
TextsGrow width_of olds most Kept Printed =
    (s : Screen) (text : List ℕ) → scrolls width_of s (Cluster text) ≡ false → Kept s.rows → Printed (print_of width_of s text) → Grows olds most Kept s.rows (put width_of s text).rows 1

abbrev pub Anything : List Row → Type 0
Anything rows = ⊤

abbrev pub AnyText : PlacedText → Type 0
AnyText p = ⊤

pub texts_grow : (width_of : List ℕ → ℕ) (olds : List Row) → TextsGrow width_of olds 3 Anything AnyText
texts_grow width_of olds s text still k p =
    put_in_row (λ rows. Grows olds 3 Anything s.rows rows 1) width_of s text still
    (λ row column.
    let wide : Bool = nat_le 2 (width_of text) in
    let shown : List ℕ = if wide && s.width == 1 then space else text in
    let more = row_set olds s.rows row (set_columns (get_or s.rows row []) column (cluster_columns width_of s text)) 3 (λ old. row_grows old (get_or s.rows row []) column shown (wide && nat_lt 1 s.width) s.pen) in
    record { kept = tt; bound = omega arith })

-- ---- and where no text is wide

abbrev pub AreNarrow : List Row → Type 0
AreNarrow rows = All IsNarrowRow rows

abbrev pub IsNarrowText : (List ℕ → ℕ) → PlacedText → Type 0
IsNarrowText width_of p = width_of p.text ≤ 1

narrow_at : (rows : List Row) (at : ℕ) → AreNarrow rows → IsNarrowRow (get_or rows at [])
narrow_at [] at h = refl
narrow_at (row ∷ rows) zero h = All-head IsNarrowRow row rows h
narrow_at (row ∷ rows) (suc at) h = narrow_at rows at (All-tail IsNarrowRow row rows h)

-- a text that is printed narrow has one column
narrow_columns : (width_of : List ℕ → ℕ) (s : Screen) (text : List ℕ) → width_of (text_put width_of s text) ≤ 1 → IsNarrowRow (cluster_columns width_of s text)
narrow_columns width_of s text h = by_test (nat_le 2 (width_of text)) (s.width == 1) (nat_lt 1 s.width) refl refl refl h
  where
    by_test : (wide single many : Bool) → nat_le 2 (width_of text) ≡ wide → (s.width == 1) ≡ single → nat_lt 1 s.width ≡ many → width_of (if wide && single then space else text) ≤ 1
        → IsNarrowRow (columns_of (if wide && single then space else text) (wide && many) s.pen)
    by_test false single many e f g l = refl
    by_test true single false e f g l = refl
    by_test true true true e f g l =
        let width = eqb-true s.width 1 f in
        let more = ltb-true 1 s.width g in
        absurd (omega arith)
    by_test true false true e f g l = let wide = leb-true 2 (width_of text) e in absurd (omega arith)

pub narrow_texts_grow : (width_of : List ℕ → ℕ) (olds : List Row) → TextsGrow width_of olds 1 AreNarrow (IsNarrowText width_of)
narrow_texts_grow width_of olds s text still k p =
    put_in_row (λ rows. Grows olds 1 AreNarrow s.rows rows 1) width_of s text still
    (λ row column.
    let wide : Bool = nat_le 2 (width_of text) in
    let shown : List ℕ = if wide && s.width == 1 then space else text in
    let there : IsNarrowRow (get_or s.rows row []) = narrow_at s.rows row k in
    let new : Row = set_columns (get_or s.rows row []) column (cluster_columns width_of s text) in
    let more = row_set olds s.rows row new 1 (λ old. narrow_row_grows old (get_or s.rows row []) column shown (wide && nat_lt 1 s.width) s.pen there) in
    record {
      kept = All-set IsNarrowRow s.rows row new (narrow_set (get_or s.rows row []) column (cluster_columns width_of s text) there (narrow_columns width_of s text p)) k;
      bound = omega arith;
    })

-- ---- clusters in turn

module _ (width_of : List ℕ → ℕ) (olds : List Row) (most : ℕ) (Kept : List Row → Type 0) (Printed : PlacedText → Type 0) (grow : TextsGrow width_of olds most Kept Printed) where
  pub clusters_grow : (texts : List (List ℕ)) (s : Screen) → strokes_scroll width_of s (map Cluster texts) ≡ false → Kept s.rows → All Printed (strokes_print width_of s (map Cluster texts))
      → Grows olds most Kept s.rows (fold (put width_of) s texts).rows (length (strokes_print width_of s (map Cluster texts)))
  clusters_grow [] s still k p = stays olds most Kept s.rows k
  clusters_grow (text ∷ texts) s still k p =
      let next : Screen = put width_of s text in
      let parts = or_parts (scrolls width_of s (Cluster text)) (strokes_scroll width_of next (map Cluster texts)) still in
      let first = grow s text parts.0 k (All-head Printed (print_of width_of s text) (strokes_print width_of next (map Cluster texts)) p) in
      let rest = clusters_grow texts next parts.1 first.kept (All-tail Printed (print_of width_of s text) (strokes_print width_of next (map Cluster texts)) p) in
      let one : 1 + length (strokes_print width_of next (map Cluster texts)) ≡ suc (length (strokes_print width_of next (map Cluster texts))) = omega arith in
      subst (λ n. Grows olds most Kept s.rows (fold (put width_of) s (text ∷ texts)).rows n) one
      (in_turn olds most Kept s.rows next.rows (fold (put width_of) next texts).rows 1 (length (strokes_print width_of next (map Cluster texts))) first rest)
