-- A cell that joins zones.
use Rattle.std.proofs.Common.{◌≡◌, ℕ, zero, suc, Bool, true, false, List, [], ◌∷◌, ◌++◌, length, get_or, set, refl, sym, ap, ◌∙◌, arith}
use Rattle.std.specs.Prelude.{if◌then◌else◌, not, map, fold}
use Rattle.cell_base.specs.declared.ranges.ZoneRange.{ZoneRange}
use Rattle.cell_edits.specs.VisibleCells.{VisibleCell}
use Rattle.cell_views.specs.Groups.{joined, groups_by, IsCut}
use Rattle.cell_views.specs.Zones.{same_type, zone_column, begins_zone, type_of, zone_of}
use Rattle.cell_views.specs.OpenZones.{zone_from, joined_zone}
use Rattle.cell_edits.proofs.CellLemmas.{by_test}
use Rattle.cell_views.proofs.GroupLemmas.{cut_joined}

-- a zone that ends at another column
abbrev pub ending_at : ZoneRange → ℕ → ZoneRange
ending_at z column = record { semantic_type = z.semantic_type; range = record { start = z.range.start; «end» = column } }

cons_if : {X : Type 0} (b : Bool) (x : X) (xs ys : List X) → x ∷ (if b then xs else ys) ≡ (if b then x ∷ xs else x ∷ ys)
cons_if true x xs ys = refl
cons_if false x xs ys = refl

pub joined_last : (zs : List ZoneRange) (v : VisibleCell) (k : ℕ) (d : ZoneRange) → length zs ≡ suc k
    → joined_zone zs v ≡ (if same_type (get_or zs k d).semantic_type v.cell.attributes.semantic_type then set zs k (ending_at (get_or zs k d) (zone_column v.column)) else zs ++ zone_from v ∷ [])
joined_last [] v k d e = absurd (omega arith)
joined_last (z ∷ []) v zero d e = refl
joined_last (z ∷ []) v (suc k) d e = absurd (omega arith)
joined_last (z ∷ y ∷ zs) v zero d e = absurd (omega arith)
joined_last (z ∷ y ∷ zs) v (suc k) d e = ap (λ (xs : List ZoneRange). z ∷ xs) (joined_last (y ∷ zs) v k d (omega arith)) ∙ cons_if _ z _ _

pub joined_same : (zs : List ZoneRange) (v : VisibleCell) (k : ℕ) (d : ZoneRange) → length zs ≡ suc k → same_type (get_or zs k d).semantic_type v.cell.attributes.semantic_type ≡ true
    → set zs k (ending_at (get_or zs k d) (zone_column v.column)) ≡ joined_zone zs v
joined_same zs v k d e t = sym (joined_last zs v k d e ∙ ap (λ b. if b then set zs k (ending_at (get_or zs k d) (zone_column v.column)) else zs ++ zone_from v ∷ []) t)

pub joined_other : (zs : List ZoneRange) (v : VisibleCell) (k : ℕ) (d : ZoneRange) → length zs ≡ suc k → same_type (get_or zs k d).semantic_type v.cell.attributes.semantic_type ≡ false
    → zs ++ zone_from v ∷ [] ≡ joined_zone zs v
joined_other zs v k d e t = sym (joined_last zs v k d e ∙ ap (λ b. if b then set zs k (ending_at (get_or zs k d) (zone_column v.column)) else zs ++ zone_from v ∷ []) t)

pub joined_first : (zs : List ZoneRange) (v : VisibleCell) → length zs ≡ 0 → zs ++ zone_from v ∷ [] ≡ joined_zone zs v
joined_first [] v e = refl
joined_first (z ∷ zs) v e = absurd (omega arith)

-- ---- zones made cell by cell are those of the groups

last-one : (cells : List VisibleCell) (v : VisibleCell) (at : ℕ) → fold (λ _ w. w.column) at (cells ++ v ∷ []) ≡ v.column
last-one [] v at = refl
last-one (w ∷ cells) v at = last-one cells v w.column

grown_zone : (cells : List VisibleCell) (v : VisibleCell) → IsCut begins_zone (cells ∷ []) → zone_of (cells ++ v ∷ []) ≡ ending_at (zone_of cells) (zone_column v.column)
grown_zone [] v p = absurd p
grown_zone (w ∷ cells) v p = ap (λ n. ending_at (zone_of (w ∷ cells)) (zone_column n)) (last-one cells v w.column)

made_joined : (groups : List (List VisibleCell)) (v : VisibleCell) → IsCut begins_zone groups → map zone_of (joined begins_zone groups v) ≡ joined_zone (map zone_of groups) v
made_joined [] v p = refl
made_joined (cells ∷ []) v p =
    by_test (same_type (type_of cells) v.cell.attributes.semantic_type)
    (λ b. ap (λ t. map zone_of (if not t then cells ∷ (v ∷ []) ∷ [] else (cells ++ v ∷ []) ∷ [])) b
    ∙ ap (λ (z : ZoneRange). z ∷ []) (grown_zone cells v p)
    ∙ sym (ap (λ t. if t then ending_at (zone_of cells) (zone_column v.column) ∷ [] else zone_of cells ∷ zone_from v ∷ []) b))
    (λ b. ap (λ t. map zone_of (if not t then cells ∷ (v ∷ []) ∷ [] else (cells ++ v ∷ []) ∷ [])) b
    ∙ sym (ap (λ t. if t then ending_at (zone_of cells) (zone_column v.column) ∷ [] else zone_of cells ∷ zone_from v ∷ []) b))
made_joined (cells ∷ next ∷ groups) v p = ap (λ (zs : List ZoneRange). zone_of cells ∷ zs) (made_joined (next ∷ groups) v p.2)

made_all : (groups : List (List VisibleCell)) (cells : List VisibleCell) → IsCut begins_zone groups → map zone_of (fold (joined begins_zone) groups cells) ≡ fold joined_zone (map zone_of groups) cells
made_all groups [] p = refl
made_all groups (v ∷ cells) p = made_all (joined begins_zone groups v) cells (cut_joined begins_zone groups v p) ∙ ap (λ zs. fold joined_zone zs cells) (made_joined groups v p)

pub zones_made : (cells : List VisibleCell) → fold joined_zone [] cells ≡ map zone_of (groups_by begins_zone cells)
zones_made cells = sym (made_all [] cells tt)
