-- Each operation on a lawful screen gives a lawful screen.
use Rattle.std.proofs.Common.{◌≡◌, ℕ, zero, suc, ◌+◌, ◌<◌, ◌≤◌, Bool, true, false, List, [], ◌∷◌, ◌++◌, length, get_or, drop, set, refl, sym, ap, ◌∙◌, arith, length-append, length-drop, length-set}
use Rattle.std.specs.Prelude.{All, ◌==◌, ◌&&◌, nat_lt, nat_le, replicate, if◌then◌else◌}
use Rattle.std.proofs.lemmas.Bool.{ltb-true, ltb-false}
use Rattle.std.proofs.lemmas.Bool.Decides.{nat_tests}
use Rattle.std.proofs.lemmas.List.{length-replicate}
use Rattle.std.proofs.lemmas.List.Elements.{All-append, All-drop, All-set}
use Rattle.cell_base.specs.Attributes.{plain}
use Rattle.cell_base.specs.Row.{Row, space, blank, plain_row, columns_of, set_columns}
use Rattle.cell_base.specs.Screen.{Screen, IsScreen, height, new_screen, scrolled, line_feed, carriage_return, write_columns, cluster_columns, put}
use Rattle.cell_base.proofs.RowLemmas.{length-set_columns}

abbrev IsEven : ℕ → Row → Type 0
IsEven width row = length row ≡ width

-- a list of one
one : (P : Row → Type 0) (x : Row) → P x → All P (x ∷ [])
one P x p zero d h = p
one P x p (suc k) d h = absurd (omega arith)

pub scrolled_is : (s : Screen) → IsScreen s → IsScreen (scrolled s)
scrolled_is s h = record {
  wide_enough = h.wide_enough;
  even = All-append (IsEven s.width) (drop 1 s.rows) _ (All-drop (IsEven s.width) 1 s.rows h.even) (one (IsEven s.width) (plain_row s.width) (length-replicate s.width (blank plain)));
  column_in = h.column_in;
  row_in = let g = h.row_in in omega (arith, length-append (drop 1 s.rows) (plain_row s.width ∷ []), length-drop 1 s.rows);
}

-- the first row of a screen is as wide as the screen
pub first_row : (s : Screen) → IsScreen s → length (get_or s.rows 0 []) ≡ s.width
first_row s h = let g = h.row_in in h.even 0 [] (omega arith)

pub line_feed_is : (s : Screen) → IsScreen s → IsScreen (line_feed s)
line_feed_is s h = by_test (s.row + 1 == height s) refl
  where
    by_test : (x : Bool) → (s.row + 1 == height s) ≡ x → IsScreen (line_feed s)
    by_test true e = rw e (scrolled_is s h)
    by_test false e = rw e (record { wide_enough = h.wide_enough; even = h.even; column_in = h.column_in; row_in = let g = h.row_in in grind (arith, nat_tests) })

pub carriage_return_is : (s : Screen) → IsScreen s → IsScreen (carriage_return s)
carriage_return_is s h = record { wide_enough = h.wide_enough; even = h.even; column_in = omega arith; row_in = h.row_in }

pub scrolled_view : (s : Screen) (rows : List Row) → IsScreen s → rows ≡ drop 1 s.rows ++ plain_row (length (get_or s.rows 0 [])) ∷ [] → record s { rows = rows } ≡ scrolled s
scrolled_view s rows h e = ap (λ (l : List Row). record s { rows = l }) (e ∙ ap (λ (n : ℕ). drop 1 s.rows ++ plain_row n ∷ []) (first_row s h))

-- ---- columns that are written

-- the row of the cursor is as wide as the screen
pub cursor_row : (s : Screen) → IsScreen s → length (get_or s.rows s.row []) ≡ s.width
cursor_row s h = h.even s.row [] h.row_in

pub write_columns_is : (s : Screen) (columns : Row) → IsScreen s → s.column + length columns ≤ s.width → IsScreen (write_columns columns s)
write_columns_is s columns h fits =
    let row = get_or s.rows s.row [] in
    let w : length row ≡ s.width = cursor_row s h in
    let new : length (set_columns row s.column columns) ≡ s.width = length-set_columns row s.column columns (omega arith) ∙ w in
    record {
      wide_enough = h.wide_enough;
      even = All-set (IsEven s.width) s.rows s.row (set_columns row s.column columns) new h.even;
      column_in = fits;
      row_in = let g = h.row_in in omega (arith, length-set {A = Row});
    }

pub written_view : (s : Screen) (rows : List Row) (columns : Row) (k : ℕ) → length columns ≡ k
    → rows ≡ set s.rows s.row (set_columns (get_or s.rows s.row []) s.column columns) → record s { rows = rows; column = s.column + k } ≡ write_columns columns s
written_view s rows columns k e f = (λ i. record s { rows = f i; column = s.column + sym e i })

-- ---- new screens, and clusters that are put

same_rows : (width n : ℕ) → All (IsEven width) (replicate n (plain_row width))
same_rows width zero k d h = absurd (omega arith)
same_rows width (suc n) zero d h = length-replicate width (blank plain)
same_rows width (suc n) (suc k) d h = same_rows width n k d (omega arith)

pub new_screen_is : (width n : ℕ) → 0 < width → 0 < n → IsScreen (new_screen width n)
new_screen_is width n w h = record {
  wide_enough = w;
  even = same_rows width n;
  column_in = omega arith;
  row_in = let k = length-replicate n (plain_row width) in omega arith;
}

-- columns that are written where they fit, in the next row if not
pub written_is : (s : Screen) (columns : Row) → IsScreen s → length columns ≤ s.width → IsScreen (write_columns columns (if nat_lt s.width (s.column + length columns) then carriage_return (line_feed s) else s))
written_is s columns h fits = by_test (nat_lt s.width (s.column + length columns)) refl
  where
    wide_after : (x : Bool) → (s.row + 1 == height s) ≡ x → (line_feed s).width ≡ s.width
    wide_after true e = rw e refl
    wide_after false e = rw e refl

    by_test : (x : Bool) → nat_lt s.width (s.column + length columns) ≡ x → IsScreen (write_columns columns (if nat_lt s.width (s.column + length columns) then carriage_return (line_feed s) else s))
    by_test true e =
        let w = wide_after (s.row + 1 == height s) refl in
        rw e (write_columns_is (carriage_return (line_feed s)) columns (carriage_return_is (line_feed s) (line_feed_is s h)) (omega arith))
    by_test false e = let le = ltb-false s.width (s.column + length columns) e in rw e (write_columns_is s columns h (omega arith))

-- a cluster takes one column, or two where there are two
cluster_fits : (width_of : List ℕ → ℕ) (s : Screen) (cluster : List ℕ) → IsScreen s → length (cluster_columns width_of s cluster) ≤ s.width
cluster_fits width_of s cluster h = fits (nat_le 2 (width_of cluster)) (nat_lt 1 s.width) refl
  where
    fits : (wide room : Bool) → nat_lt 1 s.width ≡ room → length (columns_of (if nat_le 2 (width_of cluster) && s.width == 1 then space else cluster) (wide && room) s.pen) ≤ s.width
    fits true true e = ltb-true 1 s.width e
    fits true false e = h.wide_enough
    fits false room e = h.wide_enough

pub put_is : (width_of : List ℕ → ℕ) (s : Screen) (cluster : List ℕ) → IsScreen s → IsScreen (put width_of s cluster)
put_is width_of s cluster h = written_is s (cluster_columns width_of s cluster) h (cluster_fits width_of s cluster h)
