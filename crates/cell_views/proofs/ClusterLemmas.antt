-- Clusters that are made cell by cell.
use Rattle.std.proofs.Common.{◌≡◌, ℕ, zero, suc, ◌+◌, ◌<◌, Bool, true, false, List, [], ◌∷◌, ◌++◌, length, get_or, set, replicate, refl, sym, ap, ◌∙◌, arith}
use Rattle.std.specs.Prelude.{not, ◌&&◌, ◌||◌, map, sum_by, flat_map, if◌then◌else◌}
use Rattle.std.proofs.lemmas.List.{map-append, map-set, append-nil, length-append, length-map}
use Rattle.std.proofs.lemmas.List.Sums.{sum_by-append, fold-append}
use Rattle.std.proofs.lemmas.List.Folds.{list_any-append}
use Rattle.std.proofs.lemmas.Grind.{flat_map-append}
use Rattle.cell_base.specs.SameAttributes.{same_attributes}
use Rattle.cell_edits.specs.VisibleCells.{VisibleCell, is_space}
use Rattle.cell_views.specs.Groups.{joined}
use Rattle.cell_views.specs.Clusters.{ClusterContent, unwrapped, cluster_attributes, ends_in_space, holds_text, begins_cluster, cluster_of}
use Rattle.cell_views.specs.ClusterView.{grown, last_of, begins_after, IsMadeOf}
use Rattle.cell_views.specs.declared.clusters.Clusters.{Clusters}

-- ---- one cluster

-- a cell that is appended adds its items at the end
flat_map-one : {A : Type 0} (f : VisibleCell → List A) (cells : List VisibleCell) (v : VisibleCell) → flat_map f cells ++ f v ≡ flat_map f (cells ++ v ∷ [])
flat_map-one f cells v = ap (λ xs. flat_map f cells ++ xs) (sym (append-nil (f v))) ∙ sym (flat_map-append f cells (v ∷ []))

pub grown_cluster : (cells : List VisibleCell) (v : VisibleCell) → 0 < length cells → grown (cluster_of cells) v ≡ cluster_of (cells ++ v ∷ [])
grown_cluster [] v h = absurd (omega arith)
grown_cluster (c ∷ cells) v h =
    let width : sum_by (λ w. w.cell.width) (c ∷ cells) + v.cell.width ≡ sum_by (λ w. w.cell.width) (c ∷ cells ++ v ∷ []) = omega (arith, sum_by-append (λ w. w.cell.width) (c ∷ cells) (v ∷ [])) in
    λ i. record {
      attributes = cluster_attributes (c ∷ cells);
      text = flat_map-one (λ w. w.cell.text) (c ∷ cells) v i;
      width = width i;
      first_column = c.column;
      columns = flat_map-one (λ w. replicate (length w.cell.text) w.column) (c ∷ cells) v i;
      widths = flat_map-one (λ w. replicate (length w.cell.text) w.cell.width) (c ∷ cells) v i;
    }

-- the last cell decides
pub ends_in_space-one : (cells : List VisibleCell) (v : VisibleCell) → ends_in_space (cells ++ v ∷ []) ≡ is_space v
ends_in_space-one cells v = fold-append (λ _ w. is_space w) false cells (v ∷ [])

or_false : (b : Bool) → (b || false) ≡ b
or_false true = refl
or_false false = refl

pub holds_text-one : (cells : List VisibleCell) (v : VisibleCell) → holds_text (cells ++ v ∷ []) ≡ (holds_text cells || not (is_space v))
holds_text-one cells v = list_any-append (λ w. not (is_space w)) cells (v ∷ []) ∙ ap (λ b. holds_text cells || b) (or_false (not (is_space v)))

-- ---- the last one

pub last_of-append : (groups : List (List VisibleCell)) (cells : List VisibleCell) → last_of (groups ++ cells ∷ []) ≡ cells
last_of-append [] cells = refl
last_of-append (g ∷ []) cells = refl
last_of-append (g ∷ h ∷ groups) cells = last_of-append (h ∷ groups) cells

pub last_of-set : (groups : List (List VisibleCell)) (k : ℕ) (cells : List VisibleCell) → length groups ≡ suc k → last_of (set groups k cells) ≡ cells
last_of-set [] k cells e = absurd (omega arith)
last_of-set (g ∷ []) zero cells e = refl
last_of-set (g ∷ []) (suc k) cells e = absurd (omega arith)
last_of-set (g ∷ h ∷ groups) zero cells e = absurd (omega arith)
last_of-set (g ∷ h ∷ []) (suc zero) cells e = refl
last_of-set (g ∷ h ∷ []) (suc (suc k)) cells e = absurd (omega arith)
last_of-set (g ∷ h ∷ i ∷ groups) (suc zero) cells e = absurd (omega arith)
last_of-set (g ∷ h ∷ i ∷ groups) (suc (suc k)) cells e = last_of-set (h ∷ i ∷ groups) (suc k) cells (omega arith)

pub last_of-is : (groups : List (List VisibleCell)) (k : ℕ) (d : ClusterContent) → length groups ≡ suc k → get_or (map cluster_of groups) k d ≡ cluster_of (last_of groups)
last_of-is [] k d e = absurd (omega arith)
last_of-is (g ∷ []) zero d e = refl
last_of-is (g ∷ []) (suc k) d e = absurd (omega arith)
last_of-is (g ∷ h ∷ groups) zero d e = absurd (omega arith)
last_of-is (g ∷ h ∷ groups) (suc k) d e = last_of-is (h ∷ groups) k d (omega arith)

-- ---- the next cell

cons_if : {X : Type 0} (b : Bool) (x : X) (xs ys : List X) → x ∷ (if b then xs else ys) ≡ (if b then x ∷ xs else x ∷ ys)
cons_if true x xs ys = refl
cons_if false x xs ys = refl

joined_either : (groups : List (List VisibleCell)) (v : VisibleCell) (k : ℕ) → length groups ≡ suc k
    → joined begins_cluster groups v ≡ (if begins_cluster (last_of groups) v then groups ++ (v ∷ []) ∷ [] else set groups k (last_of groups ++ v ∷ []))
joined_either [] v k e = absurd (omega arith)
joined_either (g ∷ []) v zero e = refl
joined_either (g ∷ []) v (suc k) e = absurd (omega arith)
joined_either (g ∷ h ∷ groups) v zero e = absurd (omega arith)
joined_either (g ∷ h ∷ groups) v (suc k) e = ap (λ (gs : List (List VisibleCell)). g ∷ gs) (joined_either (h ∷ groups) v k (omega arith)) ∙ cons_if _ g _ _

pub joined_begins : (groups : List (List VisibleCell)) (v : VisibleCell) → begins_after groups v ≡ true → joined begins_cluster groups v ≡ groups ++ (v ∷ []) ∷ []
joined_begins [] v t = refl
joined_begins (g ∷ groups) v t =
    joined_either (g ∷ groups) v (length groups) (omega arith)
    ∙ ap (λ b. if b then g ∷ groups ++ (v ∷ []) ∷ [] else set (g ∷ groups) (length groups) (last_of (g ∷ groups) ++ v ∷ [])) t

pub joined_grows : (groups : List (List VisibleCell)) (v : VisibleCell) (k : ℕ) → length groups ≡ suc k → begins_after groups v ≡ false → joined begins_cluster groups v ≡ set groups k (last_of groups ++ v ∷ [])
joined_grows [] v k e t = absurd (omega arith)
joined_grows (g ∷ groups) v k e t =
    joined_either (g ∷ groups) v k e ∙ ap (λ b. if b then g ∷ groups ++ (v ∷ []) ∷ [] else set (g ∷ groups) k (last_of (g ∷ groups) ++ v ∷ [])) t

-- ---- the state of the clusters so far

pub made_begun : (groups : List (List VisibleCell)) (s t : Clusters) (v : VisibleCell) → IsMadeOf groups s → begins_after groups v ≡ true
    → t.made.items ≡ s.made.items ++ cluster_of (v ∷ []) ∷ [] → t.ends_in_space ≡ is_space v → t.holds_text ≡ not (is_space v) → IsMadeOf (joined begins_cluster groups v) t
made_begun groups s t v is b made space text =
    let begun = joined_begins groups v b in
    let last : last_of (joined begins_cluster groups v) ≡ v ∷ [] = ap last_of begun ∙ last_of-append groups (v ∷ []) in
    record {
      made = made ∙ ap (λ cs. cs ++ cluster_of (v ∷ []) ∷ []) is.made ∙ sym (map-append cluster_of groups ((v ∷ []) ∷ [])) ∙ ap (map cluster_of) (sym begun);
      ends_in_space = space ∙ sym (ap ends_in_space last);
      holds_text = text ∙ sym (or_false (not (is_space v))) ∙ sym (ap holds_text last);
      holds_cells = λ _. omega (arith, ap length last);
    }

joined_made : (groups : List (List VisibleCell)) (v : VisibleCell) (k : ℕ) (d : ClusterContent) → length groups ≡ suc k → 0 < length (last_of groups) → begins_after groups v ≡ false
    → set (map cluster_of groups) k (grown (get_or (map cluster_of groups) k d) v) ≡ map cluster_of (joined begins_cluster groups v)
joined_made groups v k d e h b =
    ap (λ c. set (map cluster_of groups) k (grown c v)) (last_of-is groups k d e)
    ∙ ap (λ c. set (map cluster_of groups) k c) (grown_cluster (last_of groups) v h)
    ∙ sym (map-set cluster_of groups k (last_of groups ++ v ∷ []))
    ∙ ap (map cluster_of) (sym (joined_grows groups v k e b))

pub made_joined : (groups : List (List VisibleCell)) (s t : Clusters) (v : VisibleCell) (k : ℕ) (d : ClusterContent) → length groups ≡ suc k → IsMadeOf groups s → begins_after groups v ≡ false
    → t.made.items ≡ set s.made.items k (grown (get_or s.made.items k d) v) → t.ends_in_space ≡ is_space v → t.holds_text ≡ (s.holds_text || not (is_space v)) → IsMadeOf (joined begins_cluster groups v) t
made_joined groups s t v k d e is b made space text =
    let last : last_of (joined begins_cluster groups v) ≡ last_of groups ++ v ∷ [] = ap last_of (joined_grows groups v k e b) ∙ last_of-set groups k (last_of groups ++ v ∷ []) e in
    record {
      made = made ∙ ap (λ cs. set cs k (grown (get_or cs k d) v)) is.made ∙ joined_made groups v k d e (is.holds_cells (omega arith)) b;
      ends_in_space = space ∙ sym (ends_in_space-one (last_of groups) v) ∙ sym (ap ends_in_space last);
      holds_text = text ∙ ap (λ b. b || not (is_space v)) is.holds_text ∙ sym (holds_text-one (last_of groups) v) ∙ sym (ap holds_text last);
      holds_cells = λ _. omega (arith, ap length last, length-append (last_of groups) (v ∷ []));
    }

-- the test on the last cluster is the test on its cells
pub begins_made : (groups : List (List VisibleCell)) (s : Clusters) (v : VisibleCell) (k : ℕ) (d : ClusterContent) → length groups ≡ suc k → IsMadeOf groups s
    → (not (same_attributes (get_or s.made.items k d).attributes (unwrapped v.cell.attributes)) || not (is_space v) && s.ends_in_space || is_space v && s.ends_in_space && s.holds_text) ≡ begins_after groups v
begins_made [] s v k d e is = absurd (omega arith)
begins_made (g ∷ groups) s v k d e is =
    let last : get_or s.made.items k d ≡ cluster_of (last_of (g ∷ groups)) = ap (λ cs. get_or cs k d) is.made ∙ last_of-is (g ∷ groups) k d e in
    λ i. not (same_attributes (last i).attributes (unwrapped v.cell.attributes)) || not (is_space v) && is.ends_in_space i || is_space v && is.ends_in_space i && is.holds_text i

pub made_length : (groups : List (List VisibleCell)) (s : Clusters) → IsMadeOf groups s → length s.made.items ≡ length groups
made_length groups s is = ap length is.made ∙ length-map groups cluster_of
