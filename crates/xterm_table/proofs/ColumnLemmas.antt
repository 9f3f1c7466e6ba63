-- What holds of each column of a row still holds after an edit.
use Rattle.std.proofs.Common.{◌≡◌, ℕ, zero, suc, ◌+◌, false, true, List, [], ◌∷◌, ◌++◌, length, take, drop, replicate}
use Rattle.std.specs.Prelude.{⊤}
use Rattle.cell_base.specs.Attributes.{Attributes}
use Rattle.cell_base.specs.Row.{Column, Row, Narrow, LeftHalf, RightHalf, space, blank, closed_end, closed_start, set_columns}
use Rattle.cell_edits.specs.RowEdits.{cut, cut_prefix, inserted}
use Rattle.screen_effects.specs.WrittenCells.{IsSoundRow, IsSoundText}
use Rattle.screen_effects.proofs.SoundLemmas.{sound_space}

-- each column of a row has a property
abbrev pub Each : (Column → Type 0) → Row → Type 0
Each P [] = ⊤
Each P (column ∷ row) = P column × Each P row

-- a blank with the attributes of a half has the property of the half
pub record IsKept (P : Column → Type 0) : Type 0 where
  pub left : (text : List ℕ) (attributes : Attributes) → P (LeftHalf text attributes) → P (blank attributes)
  pub right : (attributes : Attributes) → P (RightHalf attributes) → P (blank attributes)

module _ (P : Column → Type 0) (kept : IsKept P) where
  pub each-append : (a b : Row) → Each P a → Each P b → Each P (a ++ b)
  each-append [] b p q = q
  each-append (x ∷ a) b p q = (p.0, each-append a b p.1 q)

  pub each-take : (n : ℕ) (row : Row) → Each P row → Each P (take n row)
  each-take zero row p = tt
  each-take (suc n) [] p = tt
  each-take (suc n) (x ∷ row) p = (p.0, each-take n row p.1)

  pub each-drop : (n : ℕ) (row : Row) → Each P row → Each P (drop n row)
  each-drop zero row p = p
  each-drop (suc n) [] p = tt
  each-drop (suc n) (x ∷ row) p = each-drop n row p.1

  pub each-end : (row : Row) → Each P row → Each P (closed_end row)
  each-end [] p = tt
  each-end (Narrow text attributes ∷ []) p = p
  each-end (LeftHalf text attributes ∷ []) p = (kept.left text attributes p.0, tt)
  each-end (RightHalf attributes ∷ []) p = p
  each-end (x ∷ y ∷ row) p = (p.0, each-end (y ∷ row) p.1)

  pub each-start : (row : Row) → Each P row → Each P (closed_start row)
  each-start [] p = tt
  each-start (Narrow text attributes ∷ row) p = p
  each-start (LeftHalf text attributes ∷ row) p = p
  each-start (RightHalf attributes ∷ row) p = (kept.right attributes p.0, p.1)

  pub each-same : (n : ℕ) (column : Column) → P column → Each P (replicate n column)
  each-same zero column p = tt
  each-same (suc n) column p = (p, each-same n column p)

  -- ---- edits

  pub each-cut : (at : ℕ) (row : Row) → Each P row → Each P (cut at row)
  each-cut at row p = each-end (take at row) (each-take at row p)

  pub each-cut_prefix : (at : ℕ) (row : Row) → Each P row → Each P (cut_prefix at row)
  each-cut_prefix at row p = each-start (drop at row) (each-drop at row p)

  pub each-inserted : (at : ℕ) (columns row : Row) → Each P columns → Each P row → Each P (inserted at columns row)
  each-inserted at columns row q p =
      each-append (cut at row ++ columns) (cut_prefix at row) (each-append (cut at row) columns (each-cut at row p) q) (each-cut_prefix at row p)

  pub each-set_columns : (row : Row) (at : ℕ) (columns : Row) → Each P row → Each P columns → Each P (set_columns row at columns)
  each-set_columns row at columns p q =
      each-append (cut at row ++ columns) (cut_prefix (at + length columns) row)
      (each-append (cut at row) columns (each-cut at row p) q) (each-cut_prefix (at + length columns) row p)

-- ---- sound texts

abbrev pub IsSoundColumn : (List ℕ → ℕ) → Column → Type 0
IsSoundColumn width_of (Narrow text attributes) = IsSoundText width_of text false
IsSoundColumn width_of (LeftHalf text attributes) = IsSoundText width_of text true
IsSoundColumn width_of (RightHalf attributes) = ⊤

pub sound_kept : (width_of : List ℕ → ℕ) → width_of space ≡ 1 → IsKept (IsSoundColumn width_of)
sound_kept width_of narrow = record { left = λ text attributes p. sound_space width_of narrow; right = λ attributes p. sound_space width_of narrow }

pub each_sound : (width_of : List ℕ → ℕ) (row : Row) → IsSoundRow width_of row → Each (IsSoundColumn width_of) row
each_sound width_of [] p = tt
each_sound width_of (Narrow text attributes ∷ row) p = (p.0, each_sound width_of row p.1)
each_sound width_of (LeftHalf text attributes ∷ row) p = (p.0, each_sound width_of row p.1)
each_sound width_of (RightHalf attributes ∷ row) p = (tt, each_sound width_of row p)

pub sound_each : (width_of : List ℕ → ℕ) (row : Row) → Each (IsSoundColumn width_of) row → IsSoundRow width_of row
sound_each width_of [] p = tt
sound_each width_of (Narrow text attributes ∷ row) p = (p.0, sound_each width_of row p.1)
sound_each width_of (LeftHalf text attributes ∷ row) p = (p.0, sound_each width_of row p.1)
sound_each width_of (RightHalf attributes ∷ row) p = sound_each width_of row p.1
