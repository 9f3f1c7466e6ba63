-- Cells up to the last that doesn't pass a test, by its column.
use Rattle.std.proofs.Common.{◌≡◌, ℕ, ◌<◌, ◌≤◌, ◌+◌, ◌∙◌, Bool, true, false, List, [], ◌∷◌, length, Option, Some, None, refl, sym, ap, subst, inl, inr, arith}
use Rattle.std.specs.Prelude.{⊤, nat_le, not, ◌&&◌, ◌||◌, fold, filter, if◌then◌else◌}
use Rattle.std.specs.List.{list_all, list_any}
use Rattle.std.proofs.lemmas.Bool.{le-leb, false≢true}
use Rattle.std.proofs.lemmas.Bool.Decides.{leb_tells}
use Rattle.cell_base.specs.Row.{Narrow, LeftHalf, RightHalf, Row}
use Rattle.cell_base.specs.UpToLast.{up_to_last}
use Rattle.cell_edits.specs.VisibleCells.{VisibleCell, visible_from}
use Rattle.cell_views.specs.OpenZones.{is_kept_by}
use Rattle.cell_edits.proofs.CellLemmas.{by_test}

-- ---- columns grow

abbrev pub AreInOrder : ℕ → List VisibleCell → Type 0
AreInOrder at [] = ⊤
AreInOrder at (v ∷ cells) = (at ≤ v.column) × AreInOrder (v.column + 1) cells

from_before : (at : ℕ) (cells : List VisibleCell) → AreInOrder (at + 1) cells → AreInOrder at cells
from_before at [] p = tt
from_before at (v ∷ cells) p = let q = p.0 in (omega arith, p.1)

pub in_order : (at : ℕ) (row : Row) → AreInOrder at (visible_from at row)
in_order at [] = tt
in_order at (Narrow text attributes ∷ row) = (omega arith, in_order (at + 1) row)
in_order at (LeftHalf text attributes ∷ row) = (omega arith, in_order (at + 1) row)
in_order at (RightHalf attributes ∷ row) = from_before at (visible_from (at + 1) row) (in_order (at + 1) row)

not_below : (a b : ℕ) → b < a → nat_le a b ≡ false
not_below a b h = elim (leb_tells a b) [ inl p ↦ absurd (omega arith) | inr p ↦ p.0 ]

none_before : (at column : ℕ) (cells : List VisibleCell) → column < at → AreInOrder at cells → filter (λ v. nat_le v.column column) cells ≡ []
none_before at column [] h p = refl
none_before at column (v ∷ cells) h p =
    let q = p.0 in
    ap (λ t. if t then v ∷ filter (λ w. nat_le w.column column) cells else filter (λ w. nat_le w.column column) cells) (not_below v.column column (omega arith))
    ∙ none_before (v.column + 1) column cells (omega arith) p.1

-- ---- up to the last

all_or_any : (passes : VisibleCell → Bool) (cells : List VisibleCell) → list_any (λ v. not (passes v)) cells ≡ not (list_all passes cells)
all_or_any passes [] = refl
all_or_any passes (v ∷ cells) =
    elim (passes v) as (λ t. (not t || list_any (λ w. not (passes w)) cells) ≡ not (t && list_all passes cells)) [ true ↦ all_or_any passes cells | false ↦ refl ]

pub up_to_none : (passes : VisibleCell → Bool) (cells : List VisibleCell) → list_all passes cells ≡ true → up_to_last (λ v. not (passes v)) cells ≡ []
up_to_none passes [] p = refl
up_to_none passes (v ∷ cells) p = ap (λ t. if t then v ∷ up_to_last (λ w. not (passes w)) cells else []) (all_or_any passes (v ∷ cells) ∙ ap not p)

up_to_some : (passes : VisibleCell → Bool) (v : VisibleCell) (cells : List VisibleCell) → list_all passes (v ∷ cells) ≡ false → up_to_last (λ w. not (passes w)) (v ∷ cells) ≡ v ∷ up_to_last (λ w. not (passes w)) cells
up_to_some passes v cells p = ap (λ t. if t then v ∷ up_to_last (λ w. not (passes w)) cells else []) (all_or_any passes (v ∷ cells) ∙ ap not p)

pub some_up_to : (passes : VisibleCell → Bool) (cells : List VisibleCell) → list_all passes cells ≡ false → 0 < length (up_to_last (λ v. not (passes v)) cells)
some_up_to passes [] p = absurd (false≢true (sym p))
some_up_to passes (v ∷ cells) p = subst (λ (vs : List VisibleCell). 0 < length vs) (sym (up_to_some passes v cells p)) (omega arith)

-- ---- the column of the last

pub last_of_none : (passes : VisibleCell → Bool) (last : Option ℕ) (cells : List VisibleCell) → list_all passes cells ≡ true → fold (λ o v. if passes v then o else Some v.column) last cells ≡ last
last_of_none passes last [] p = refl
last_of_none passes last (v ∷ cells) p =
    by_test (passes v)
    (λ b. ap (λ t. fold (λ o w. if passes w then o else Some w.column) (if t then last else Some v.column) cells) b ∙ last_of_none passes last cells (sym (ap (λ t. t && list_all passes cells) b) ∙ p))
    (λ b. absurd (false≢true (sym (ap (λ t. t && list_all passes cells) b) ∙ p)))

pub record Kept (passes : VisibleCell → Bool) (last : Option ℕ) (at : ℕ) (cells : List VisibleCell) : Type 0 where
  pub column : ℕ
  pub is : fold (λ o v. if passes v then o else Some v.column) last cells ≡ Some column
  pub after : at ≤ column
  pub prefix : filter (λ v. nat_le v.column column) cells ≡ up_to_last (λ v. not (passes v)) cells

pub kept : (passes : VisibleCell → Bool) (last : Option ℕ) (at : ℕ) (cells : List VisibleCell) → AreInOrder at cells → list_all passes cells ≡ false → Kept passes last at cells
kept passes last at [] c p = absurd (false≢true (sym p))
kept passes last at (v ∷ cells) c p =
    let after = if passes v then last else Some v.column in
    let first = c.0 in
    by_test (list_all passes cells)
    (λ all.
    by_test (passes v)
    (λ b. absurd (false≢true (sym p ∙ ap (λ t. t && list_all passes cells) b ∙ all)))
    (λ b. record {
      column = v.column;
      is = last_of_none passes after cells all ∙ ap (λ t. if t then last else Some v.column) b;
      after = first;
      prefix =
          ap (λ t. if t then v ∷ filter (λ w. nat_le w.column v.column) cells else filter (λ w. nat_le w.column v.column) cells) (le-leb v.column v.column (omega arith))
          ∙ ap (λ (vs : List VisibleCell). v ∷ vs) (none_before (v.column + 1) v.column cells (omega arith) c.1 ∙ sym (up_to_none passes cells all))
          ∙ sym (up_to_some passes v cells p);
    }))
    (λ some.
    let k = kept passes after (v.column + 1) cells c.1 some in
    let far = k.after in
    record {
      column = k.column;
      is = k.is;
      after = omega arith;
      prefix =
          ap (λ t. if t then v ∷ filter (λ w. nat_le w.column k.column) cells else filter (λ w. nat_le w.column k.column) cells) (le-leb v.column k.column (omega arith))
          ∙ ap (λ (vs : List VisibleCell). v ∷ vs) k.prefix
          ∙ sym (up_to_some passes v cells p);
    })

pub all_pass : (cells : List VisibleCell) → filter (λ v. true) cells ≡ cells
all_pass [] = refl
all_pass (v ∷ cells) = ap (λ (vs : List VisibleCell). v ∷ vs) (all_pass cells)

pub kept_some : (passes : VisibleCell → Bool) (cells : List VisibleCell) → AreInOrder 0 cells → list_all passes cells ≡ false
    → filter (λ v. is_kept_by (fold (λ o w. if passes w then o else Some w.column) None cells) v.column) cells ≡ up_to_last (λ v. not (passes v)) cells
kept_some passes cells c p =
    let k = kept passes None 0 cells c p in
    ap (λ (o : Option ℕ). filter (λ v. is_kept_by o v.column) cells) k.is ∙ k.prefix

pub kept_or_all : (passes : VisibleCell → Bool) (cells : List VisibleCell) → AreInOrder 0 cells
    → filter (λ v. is_kept_by (fold (λ o w. if passes w then o else Some w.column) None cells) v.column) cells ≡ (if list_all passes cells then cells else up_to_last (λ v. not (passes v)) cells)
kept_or_all passes cells c =
    by_test (list_all passes cells)
    (λ all.
    ap (λ (o : Option ℕ). filter (λ v. is_kept_by o v.column) cells) (last_of_none passes None cells all)
    ∙ all_pass cells
    ∙ sym (ap (λ t. if t then cells else up_to_last (λ v. not (passes v)) cells) all))
    (λ some. kept_some passes cells c some ∙ sym (ap (λ t. if t then cells else up_to_last (λ v. not (passes v)) cells) some))
