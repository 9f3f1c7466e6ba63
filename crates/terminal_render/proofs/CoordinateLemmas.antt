-- Moves of the cursor lead where positions do.
use Rattle.std.proofs.Common.{◌≡◌, ◌≢◌, ℕ, ◌+◌, ◌-◌, ◌^◌, ◌<◌, Bool, true, false, List, [], ◌∷◌, ◌++◌, map, refl, sym, ap, ◌∙◌, arith}
use Rattle.std.specs.Prelude.{◌==◌, ◌&&◌, nat_le, min, ℤ, pos, negsuc, unsigned_abs, Option, None, Some, IfSome, option_map}
use Rattle.std.proofs.lemmas.Bool.Decides.{nat_tests}
use Rattle.cell_base.specs.declared.attributes.Position.{Position}
use Rattle.cell_base.specs.declared.attributes.Position.TheVariants.{Relative, Absolute, EndRelative}
use Rattle.cell_base.specs.Screen.{Screen, IsScreen, height}
use Rattle.csi_codec.specs.Parameters.{word_max}
use Rattle.csi_codec.specs.declared.cursors.Cursor.{Cursor}
use Rattle.csi_codec.specs.declared.cursors.Cursor.TheVariants as cursor
use Rattle.screen_effects.specs.Positions.{resolved, resolved_column}
use Rattle.terminal_table.specs.Modes.{SavedCursor}
use Rattle.terminal_table.specs.Functions.{function_of}
use Rattle.terminal_render.specs.Effects.{actions_done}
use Rattle.terminal_render.specs.Positions.{Way, At, Back, On, way_of, move_by, moves, position_moves}
use Rattle.terminal_render.specs.Rendering.{moved}
use Rattle.terminal_render.proofs.DoneLemmas.{on}

-- ---- a way by some columns that moves lead

no_way_back : (count : ℕ) (row : Way) → moves (Back count) row ≡ None
unfolding moves
no_way_back count row = refl

pub on_there : (width height : ℕ) (columns : ℤ) (x y : Position) (count : ℕ) (row : Way) → x ≡ Relative columns → count ≡ unsigned_abs columns → row ≡ way_of height y
    → position_moves width height x y ≢ None → moves (On count) row ≢ None
unfolding position_moves
on_there width height columns x y count row at n r h e =
    by_sign columns (λ none. h (ap (λ p. position_moves width height p y) at ∙ none)) (sym (λ i. moves (On (n i)) (r i)) ∙ e)
  where
    by_sign : (z : ℤ) → position_moves width height (Relative z) y ≢ None → moves (On (unsigned_abs z)) (way_of height y) ≢ None
    by_sign (pos m) k = k
    by_sign (negsuc m) k = absurd (k (no_way_back (m + 1) (way_of height y)))

pub on_is : (width height : ℕ) (columns : ℤ) (x y : Position) (count : ℕ) (row : Way) (list : List Cursor) → x ≡ Relative columns → count ≡ unsigned_abs columns → row ≡ way_of height y
    → position_moves width height x y ≢ None → moves (On count) row ≡ Some list → position_moves width height x y ≡ Some list
unfolding position_moves
on_is width height columns x y count row list at n r h e =
    ap (λ p. position_moves width height p y) at ∙ by_sign columns (λ none. h (ap (λ p. position_moves width height p y) at ∙ none)) (sym (λ i. moves (On (n i)) (r i)) ∙ e)
  where
    by_sign : (z : ℤ) → position_moves width height (Relative z) y ≢ None → moves (On (unsigned_abs z)) (way_of height y) ≡ Some list → position_moves width height (Relative z) y ≡ Some list
    by_sign (pos m) k same = same
    by_sign (negsuc m) k same = absurd (k (no_way_back (m + 1) (way_of height y)))

-- ---- where moves lead

-- the cursor at a position
abbrev pub placed : ℕ → ℕ → Screen → Screen
placed column row s = record s { column = column; row = row }

is_zero : (n : ℕ) → (n == 0) ≡ true → n ≡ 0
is_zero n e = grind (arith, nat_tests)

is_some : (n : ℕ) → (n == 0) ≡ false → 0 < n
is_some n e = grind (arith, nat_tests)

below : (size at : ℕ) → nat_le size at ≡ false → at < size
below size at e = grind (arith, nat_tests)

known_column : (width from at : ℕ) → nat_le width at ≡ false → resolved_column width from (Absolute at) ≡ min at (width - 1)
known_column width from at e = by_test (at == width) refl (below width at e)
  where
    by_test : (b : Bool) → (at == width) ≡ b → at < width → resolved_column width from (Absolute at) ≡ min at (width - 1)
    by_test true k h = absurd (grind (arith, nat_tests))
    by_test false k h = rw k refl

module _ (f : List ℕ → ℕ) (saved : Option SavedCursor) (replies : List ℕ) (stream : List ℕ) (s : Screen) (lawful : IsScreen s) (wide : s.width < 2 ^ 32) (high : height s < 2 ^ 32) where
  -- moves lead to a position
  abbrev Leads : List Cursor → ℕ → ℕ → Type 0
  Leads cursors column row = actions_done f (on f saved replies stream s) (map moved cursors) ≡ on f saved replies stream (placed column row s)

  to_coordinate : (x y : ℕ) → x < s.width → y < height s → Leads (cursor.Position (y + 1) (x + 1) ∷ []) x y
  unfolding function_of
  to_coordinate x y a b = λ i. on f saved replies stream (placed (columns i) (rows i) s)
    where
      columns : min (x + 1 - 1) (s.width - 1) ≡ x
      columns = omega arith

      rows : min (y + 1 - 1) (height s - 1) ≡ y
      rows = omega arith

  up_to_column : (x n : ℕ) → x < s.width → Leads (move_by cursor.Up n ++ cursor.CharacterAbsolute (x + 1) ∷ []) x (s.row - n)
  unfolding function_of
  up_to_column x n a = by_test (n == 0) refl lawful.row_in
    where
      columns : min (x + 1 - 1) (s.width - 1) ≡ x
      columns = omega arith

      by_test : (b : Bool) → (n == 0) ≡ b → s.row < height s → Leads (move_by cursor.Up n ++ cursor.CharacterAbsolute (x + 1) ∷ []) x (s.row - n)
      by_test true e h =
          let z = is_zero n e in
          let rows : min s.row (height s - 1) ≡ s.row - n = omega arith in
          rw e (λ i. on f saved replies stream (placed (columns i) (rows i) s))
      by_test false e h =
          let rows : min (min (s.row - min n word_max) (height s - 1)) (height s - 1) ≡ s.row - n = omega arith in
          rw e (λ i. on f saved replies stream (placed (columns i) (rows i) s))

  down_to_column : (x n : ℕ) → x < s.width → Leads (move_by cursor.Down n ++ cursor.CharacterAbsolute (x + 1) ∷ []) x (min (s.row + n) (height s - 1))
  unfolding function_of
  down_to_column x n a = by_test (n == 0) refl lawful.row_in
    where
      columns : min (x + 1 - 1) (s.width - 1) ≡ x
      columns = omega arith

      by_test : (b : Bool) → (n == 0) ≡ b → s.row < height s → Leads (move_by cursor.Down n ++ cursor.CharacterAbsolute (x + 1) ∷ []) x (min (s.row + n) (height s - 1))
      by_test true e h =
          let z = is_zero n e in
          let rows : min s.row (height s - 1) ≡ min (s.row + n) (height s - 1) = omega arith in
          rw e (λ i. on f saved replies stream (placed (columns i) (rows i) s))
      by_test false e h =
          let rows : min (min (s.row + min n word_max) (height s - 1)) (height s - 1) ≡ min (s.row + n) (height s - 1) = omega arith in
          rw e (λ i. on f saved replies stream (placed (columns i) (rows i) s))

  right_to_row : (m y : ℕ) → y < height s → Leads (move_by cursor.Right m ++ cursor.LinePositionAbsolute (y + 1) ∷ []) (min (s.column + m) (s.width - 1)) y
  unfolding function_of
  right_to_row m y b = by_test (m == 0) refl
    where
      rows : min (y + 1 - 1) (height s - 1) ≡ y
      rows = omega arith

      by_test : (b : Bool) → (m == 0) ≡ b → Leads (move_by cursor.Right m ++ cursor.LinePositionAbsolute (y + 1) ∷ []) (min (s.column + m) (s.width - 1)) y
      by_test true e =
          let z = is_zero m e in
          let columns : min (min s.column (s.width - 1)) (s.width - 1) ≡ min (s.column + m) (s.width - 1) = omega arith in
          rw e (λ i. on f saved replies stream (placed (columns i) (rows i) s))
      by_test false e =
          let columns : min (min (min (min s.column (s.width - 1) + min m word_max) (s.width - 1)) (s.width - 1)) (s.width - 1) ≡ min (s.column + m) (s.width - 1) = omega arith in
          rw e (λ i. on f saved replies stream (placed (columns i) (rows i) s))

  right_and_up : (m n : ℕ) → 0 < n → Leads (move_by cursor.Right m ++ move_by cursor.Up n) (min (s.column + m) (s.width - 1)) (s.row - n)
  unfolding function_of
  right_and_up m n some = by_test (m == 0) refl lawful.row_in
    where
      none : (n == 0) ≡ false
      none = grind (arith, nat_tests)

      by_test : (b : Bool) → (m == 0) ≡ b → s.row < height s → Leads (move_by cursor.Right m ++ move_by cursor.Up n) (min (s.column + m) (s.width - 1)) (s.row - n)
      by_test true e h =
          let z = is_zero m e in
          let columns : min (min s.column (s.width - 1)) (s.width - 1) ≡ min (s.column + m) (s.width - 1) = omega arith in
          let rows : min (s.row - min n word_max) (height s - 1) ≡ s.row - n = omega arith in
          rw (e, none) (λ i. on f saved replies stream (placed (columns i) (rows i) s))
      by_test false e h =
          let columns : min (min (min (min s.column (s.width - 1) + min m word_max) (s.width - 1)) (s.width - 1)) (s.width - 1) ≡ min (s.column + m) (s.width - 1) = omega arith in
          let rows : min (min s.row (height s - 1) - min n word_max) (height s - 1) ≡ s.row - n = omega arith in
          rw (e, none) (λ i. on f saved replies stream (placed (columns i) (rows i) s))

  right_and_down : (m n : ℕ) → (m == 0 && n == 0) ≡ false → Leads (move_by cursor.Right m ++ move_by cursor.Down n) (min (s.column + m) (s.width - 1)) (min (s.row + n) (height s - 1))
  unfolding function_of
  right_and_down m n some = by_test (m == 0) (n == 0) refl refl some lawful.row_in
    where
      by_test : (b c : Bool) → (m == 0) ≡ b → (n == 0) ≡ c → (b && c) ≡ false → s.row < height s → Leads (move_by cursor.Right m ++ move_by cursor.Down n) (min (s.column + m) (s.width - 1)) (min (s.row + n) (height s - 1))
      by_test true true e k x h = cc
      by_test true false e k x h =
          let z = is_zero m e in
          let columns : min (min s.column (s.width - 1)) (s.width - 1) ≡ min (s.column + m) (s.width - 1) = omega arith in
          let rows : min (s.row + min n word_max) (height s - 1) ≡ min (s.row + n) (height s - 1) = omega arith in
          rw (e, k) (λ i. on f saved replies stream (placed (columns i) (rows i) s))
      by_test false true e k x h =
          let z = is_zero n k in
          let columns : min (min s.column (s.width - 1) + min m word_max) (s.width - 1) ≡ min (s.column + m) (s.width - 1) = omega arith in
          let rows : min s.row (height s - 1) ≡ min (s.row + n) (height s - 1) = omega arith in
          rw (e, k) (λ i. on f saved replies stream (placed (columns i) (rows i) s))
      by_test false false e k x h =
          let columns : min (min (min (min s.column (s.width - 1) + min m word_max) (s.width - 1)) (s.width - 1)) (s.width - 1) ≡ min (s.column + m) (s.width - 1) = omega arith in
          let rows : min (min s.row (height s - 1) + min n word_max) (height s - 1) ≡ min (s.row + n) (height s - 1) = omega arith in
          rw (e, k) (λ i. on f saved replies stream (placed (columns i) (rows i) s))

  -- where a column's position and a row's lead
  abbrev DoesCoordinate : Position → Position → Type 0
  DoesCoordinate x y = IfSome (option_map (map moved) (position_moves s.width (height s) x y)) (λ actions. actions_done f (on f saved replies stream s) actions ≡ on f saved replies stream (placed (resolved_column s.width s.column x) (resolved (height s) s.row y) s))

  last_column : (at : ℕ) → min at (s.width - 1) < s.width
  last_column at = let h = lawful.wide_enough in omega arith

  last_row : (at : ℕ) → min at (height s - 1) < height s
  last_row at = let h = lawful.row_in in omega arith

  -- moves to the column `x`
  column_does : (x : ℕ) (y : Position) → x < s.width → IfSome (moves (At (x + 1)) (way_of (height s) y)) (λ cursors. Leads cursors x (resolved (height s) s.row y))
  unfolding moves
  column_does x (Absolute at) a = to_coordinate x (min at (height s - 1)) a (last_row at)
  column_does x (EndRelative back) a = to_coordinate x (min (height s - back) (height s - 1)) a (last_row (height s - back))
  column_does x (Relative (pos n)) a = down_to_column x n a
  column_does x (Relative (negsuc n)) a = up_to_column x (n + 1) a

  -- moves by `m` columns to the right
  on_does : (m : ℕ) (y : Position) → IfSome (moves (On m) (way_of (height s) y)) (λ cursors. Leads cursors (min (s.column + m) (s.width - 1)) (resolved (height s) s.row y))
  unfolding moves
  on_does m (Absolute at) = right_to_row m (min at (height s - 1)) (last_row at)
  on_does m (EndRelative back) = right_to_row m (min (height s - back) (height s - 1)) (last_row (height s - back))
  on_does m (Relative (pos n)) = by_test (m == 0 && n == 0) refl
    where
      by_test : (b : Bool) → (m == 0 && n == 0) ≡ b → IfSome (moves (On m) (On n)) (λ cursors. Leads cursors (min (s.column + m) (s.width - 1)) (min (s.row + n) (height s - 1)))
      by_test true e = rw e tt
      by_test false e = rw e (right_and_down m n e)
  on_does m (Relative (negsuc n)) = right_and_up m (n + 1) (omega arith)

  -- a way back in the row can't be encoded
  back_does : (m : ℕ) (y : Position) → IfSome (moves (Back m) (way_of (height s) y)) (λ cursors. Leads cursors (s.column - m) (resolved (height s) s.row y))
  unfolding moves
  back_does m y = tt

  mapped : (found : Option (List Cursor)) (column row : ℕ) → IfSome found (λ cursors. Leads cursors column row) → IfSome (option_map (map moved) found) (λ actions. actions_done f (on f saved replies stream s) actions ≡ on f saved replies stream (placed column row s))
  mapped None column row h = tt
  mapped (Some cursors) column row h = h

  pub coordinate_does : (x y : Position) → DoesCoordinate x y
  unfolding position_moves
  coordinate_does (Absolute at) y = by_test (nat_le s.width at) refl
    where
      by_test : (b : Bool) → nat_le s.width at ≡ b → DoesCoordinate (Absolute at) y
      by_test true e = rw e tt
      by_test false e =
          rw (e, known_column s.width s.column at e)
          (mapped (moves (At (min at (s.width - 1) + 1)) (way_of (height s) y)) (min at (s.width - 1)) (resolved (height s) s.row y) (column_does (min at (s.width - 1)) y (last_column at)))
  coordinate_does (EndRelative back) y =
      mapped (moves (At (min (s.width - back) (s.width - 1) + 1)) (way_of (height s) y)) (min (s.width - back) (s.width - 1)) (resolved (height s) s.row y) (column_does (min (s.width - back) (s.width - 1)) y (last_column (s.width - back)))
  coordinate_does (Relative (pos m)) y = mapped (moves (On m) (way_of (height s) y)) (min (s.column + m) (s.width - 1)) (resolved (height s) s.row y) (on_does m y)
  coordinate_does (Relative (negsuc m)) y = mapped (moves (Back (m + 1)) (way_of (height s) y)) (s.column - (m + 1)) (resolved (height s) s.row y) (back_does (m + 1) y)
