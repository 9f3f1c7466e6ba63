-- The groups of a list are the one cut of it by the rule.
use Rattle.std.proofs.Common.{◌≡◌, ◌<◌, Bool, true, false, List, [], ◌∷◌, ◌++◌, length, arith, refl, sym, ap, subst, ◌∙◌, append_assoc}
use Rattle.std.specs.Prelude.{fold, flat_map, if◌then◌else◌}
use Rattle.std.proofs.lemmas.List.{append-nil}
use Rattle.cell_views.specs.Groups.{joined, groups_by, GoOn, AreTogether, BeginAfter, IsCut, AreGroupsOf}
use Rattle.cell_edits.proofs.CellLemmas.{by_test}

-- ---- the groups are a cut

go_on-one : {A : Type 0} (begins : List A → A → Bool) (before xs : List A) (x : A) → GoOn begins before xs → begins (before ++ xs) x ≡ false → GoOn begins before (xs ++ x ∷ [])
go_on-one {A = A} begins before [] x p b = (ap (λ (g : List A). begins g x) (sym (append-nil before)) ∙ b, tt)
go_on-one {A = A} begins before (w ∷ xs) x p b = (p.0, go_on-one begins (before ++ w ∷ []) xs x p.1 (ap (λ (g : List A). begins g x) (append_assoc before (w ∷ []) xs) ∙ b))

together-one : {A : Type 0} (begins : List A → A → Bool) (xs : List A) (x : A) → AreTogether begins xs → begins xs x ≡ false → AreTogether begins (xs ++ x ∷ [])
together-one begins [] x p b = absurd p
together-one begins (w ∷ xs) x p b = go_on-one begins (w ∷ []) xs x p b

begin_after-one : {A : Type 0} (begins : List A → A → Bool) (before xs : List A) (x : A) → BeginAfter begins before xs → BeginAfter begins before (xs ++ x ∷ [])
begin_after-one begins before [] x p = absurd p
begin_after-one begins before (w ∷ xs) x p = p

-- an element that joins the last group, or begins one
cut_grown : {A : Type 0} (begins : List A → A → Bool) (xs : List A) (x : A) → IsCut begins (xs ∷ []) → IsCut begins (joined begins (xs ∷ []) x)
cut_grown begins xs x p =
    by_test (begins xs x)
    (λ b. subst (λ t. IsCut begins (if t then xs ∷ (x ∷ []) ∷ [] else (xs ++ x ∷ []) ∷ [])) (sym b) (p, b, tt))
    (λ b. subst (λ t. IsCut begins (if t then xs ∷ (x ∷ []) ∷ [] else (xs ++ x ∷ []) ∷ [])) (sym b) (together-one begins xs x p b))

-- the first group stays, or grows where it is the last
first_begins : {A : Type 0} (begins : List A → A → Bool) (before xs : List A) (groups : List (List A)) (x : A) → AreTogether begins before → BeginAfter begins before xs → IsCut begins (joined begins (xs ∷ groups) x)
    → IsCut begins (before ∷ joined begins (xs ∷ groups) x)
first_begins begins before xs [] x a b p =
    by_test (begins xs x)
    (λ e. subst (λ t. IsCut begins (before ∷ (if t then xs ∷ (x ∷ []) ∷ [] else (xs ++ x ∷ []) ∷ []))) (sym e) (a, b, subst (λ t. IsCut begins (if t then xs ∷ (x ∷ []) ∷ [] else (xs ++ x ∷ []) ∷ [])) e p))
    (λ e. subst (λ t. IsCut begins (before ∷ (if t then xs ∷ (x ∷ []) ∷ [] else (xs ++ x ∷ []) ∷ []))) (sym e) (a, begin_after-one begins before xs x b, subst (λ t. IsCut begins (if t then xs ∷ (x ∷ []) ∷ [] else (xs ++ x ∷ []) ∷ [])) e p))
first_begins begins before xs (next ∷ groups) x a b p = (a, b, p)

pub cut_joined : {A : Type 0} (begins : List A → A → Bool) (groups : List (List A)) (x : A) → IsCut begins groups → IsCut begins (joined begins groups x)
cut_joined begins [] x p = tt
cut_joined begins (xs ∷ []) x p = cut_grown begins xs x p
cut_joined begins (xs ∷ next ∷ groups) x p = first_begins begins xs next groups x p.0 p.1 (cut_joined begins (next ∷ groups) x p.2)

whole_if : {A : Type 0} (t : Bool) (xs : List A) (x : A) → flat_map (λ g. g) (if t then xs ∷ (x ∷ []) ∷ [] else (xs ++ x ∷ []) ∷ []) ≡ xs ++ x ∷ []
whole_if true xs x = refl
whole_if false xs x = append-nil (xs ++ x ∷ [])

whole_joined : {A : Type 0} (begins : List A → A → Bool) (groups : List (List A)) (x : A) → flat_map (λ g. g) (joined begins groups x) ≡ flat_map (λ g. g) groups ++ x ∷ []
whole_joined begins [] x = refl
whole_joined {A = A} begins (xs ∷ []) x = whole_if (begins xs x) xs x ∙ ap (λ (g : List A). g ++ x ∷ []) (sym (append-nil xs))
whole_joined {A = A} begins (xs ∷ next ∷ groups) x = ap (λ (g : List A). xs ++ g) (whole_joined begins (next ∷ groups) x) ∙ sym (append_assoc xs (flat_map (λ g. g) (next ∷ groups)) (x ∷ []))

cut_all : {A : Type 0} (begins : List A → A → Bool) (groups : List (List A)) (xs : List A) → IsCut begins groups → IsCut begins (fold (joined begins) groups xs)
cut_all begins groups [] p = p
cut_all begins groups (x ∷ xs) p = cut_all begins (joined begins groups x) xs (cut_joined begins groups x p)

pub whole_all : {A : Type 0} (begins : List A → A → Bool) (groups : List (List A)) (xs : List A) → flat_map (λ g. g) (fold (joined begins) groups xs) ≡ flat_map (λ g. g) groups ++ xs
whole_all begins groups [] = sym (append-nil (flat_map (λ g. g) groups))
whole_all {A = A} begins groups (x ∷ xs) =
    whole_all begins (joined begins groups x) xs ∙ ap (λ (g : List A). g ++ xs) (whole_joined begins groups x) ∙ append_assoc (flat_map (λ g. g) groups) (x ∷ []) xs

pub groups_are_cut : {A : Type 0} (begins : List A → A → Bool) (xs : List A) → AreGroupsOf begins xs (groups_by begins xs)
groups_are_cut begins xs = record { whole = whole_all begins [] xs; cut = cut_all begins [] xs tt }

-- ---- only the last group grows

joined_some : {A : Type 0} (begins : List A → A → Bool) (groups : List (List A)) (x : A) → 0 < length (joined begins groups x)
joined_some begins [] x = omega arith
joined_some {A = A} begins (xs ∷ []) x = elim (begins xs x) as (λ t. 0 < length (if t then xs ∷ (x ∷ []) ∷ [] else (xs ++ x ∷ []) ∷ [])) [ true ↦ omega arith | false ↦ omega arith ]
joined_some begins (xs ∷ next ∷ groups) x = omega arith

pub some_groups : {A : Type 0} (begins : List A → A → Bool) (groups : List (List A)) (xs : List A) → 0 < length groups → 0 < length (fold (joined begins) groups xs)
some_groups begins groups [] p = p
some_groups begins groups (x ∷ xs) p = some_groups begins (joined begins groups x) xs (joined_some begins groups x)

pub fold_after : {A : Type 0} (begins : List A → A → Bool) (first : List A) (groups : List (List A)) (xs : List A) → 0 < length groups
    → fold (joined begins) (first ∷ groups) xs ≡ first ∷ fold (joined begins) groups xs
fold_after begins first groups [] p = refl
fold_after begins first [] (x ∷ xs) p = absurd (omega arith)
fold_after begins first (next ∷ groups) (x ∷ xs) p = fold_after begins first (joined begins (next ∷ groups) x) xs (joined_some begins (next ∷ groups) x)

-- ---- no other cut is one

joins_last : {A : Type 0} (begins : List A → A → Bool) (groups : List (List A)) (xs : List A) (x : A) → begins xs x ≡ false → joined begins (groups ++ xs ∷ []) x ≡ groups ++ (xs ++ x ∷ []) ∷ []
joins_last begins [] xs x b = ap (λ t. if t then xs ∷ (x ∷ []) ∷ [] else (xs ++ x ∷ []) ∷ []) b
joins_last {A = A} begins (g ∷ []) xs x b = ap (λ (gs : List (List A)). g ∷ gs) (joins_last begins [] xs x b)
joins_last {A = A} begins (g ∷ h ∷ groups) xs x b = ap (λ (gs : List (List A)). g ∷ gs) (joins_last begins (h ∷ groups) xs x b)

begins_next : {A : Type 0} (begins : List A → A → Bool) (groups : List (List A)) (xs : List A) (x : A) → begins xs x ≡ true → joined begins (groups ++ xs ∷ []) x ≡ groups ++ xs ∷ (x ∷ []) ∷ []
begins_next begins [] xs x b = ap (λ t. if t then xs ∷ (x ∷ []) ∷ [] else (xs ++ x ∷ []) ∷ []) b
begins_next {A = A} begins (g ∷ []) xs x b = ap (λ (gs : List (List A)). g ∷ gs) (begins_next begins [] xs x b)
begins_next {A = A} begins (g ∷ h ∷ groups) xs x b = ap (λ (gs : List (List A)). g ∷ gs) (begins_next begins (h ∷ groups) xs x b)

-- elements that go on after an open group all join it
join_all : {A : Type 0} (begins : List A → A → Bool) (groups : List (List A)) (before xs rest : List A) → GoOn begins before xs
    → fold (joined begins) (groups ++ before ∷ []) (xs ++ rest) ≡ fold (joined begins) (groups ++ (before ++ xs) ∷ []) rest
join_all {A = A} begins groups before [] rest p = ap (λ (g : List A). fold (joined begins) (groups ++ g ∷ []) rest) (sym (append-nil before))
join_all {A = A} begins groups before (x ∷ xs) rest p =
    ap (λ gs. fold (joined begins) gs (xs ++ rest)) (joins_last begins groups before x p.0)
    ∙ join_all begins groups (before ++ x ∷ []) xs rest p.1
    ∙ ap (λ (g : List A). fold (joined begins) (groups ++ g ∷ []) rest) (append_assoc before (x ∷ []) xs)

-- groups that are cut after an open one come out as they are
all_again : {A : Type 0} (begins : List A → A → Bool) (groups : List (List A)) (before : List A) (more : List (List A)) → IsCut begins (before ∷ more) → fold (joined begins) (groups ++ before ∷ []) (flat_map (λ g. g) more) ≡ groups ++ before ∷ more
all_again begins groups before [] p = refl
all_again begins groups before ([] ∷ more) p = absurd p.1
all_again begins groups before ((x ∷ xs) ∷ []) p =
    ap (λ gs. fold (joined begins) gs (xs ++ [])) (begins_next begins groups before x p.1 ∙ sym (append_assoc groups (before ∷ []) ((x ∷ []) ∷ [])))
    ∙ join_all begins (groups ++ before ∷ []) (x ∷ []) xs [] p.2
    ∙ append_assoc groups (before ∷ []) ((x ∷ xs) ∷ [])
all_again begins groups before ((x ∷ xs) ∷ next ∷ more) p =
    ap (λ gs. fold (joined begins) gs (xs ++ flat_map (λ g. g) (next ∷ more))) (begins_next begins groups before x p.1 ∙ sym (append_assoc groups (before ∷ []) ((x ∷ []) ∷ [])))
    ∙ join_all begins (groups ++ before ∷ []) (x ∷ []) xs (flat_map (λ g. g) (next ∷ more)) p.2.0
    ∙ all_again begins (groups ++ before ∷ []) (x ∷ xs) (next ∷ more) p.2
    ∙ append_assoc groups (before ∷ []) ((x ∷ xs) ∷ next ∷ more)

again : {A : Type 0} (begins : List A → A → Bool) (groups : List (List A)) → IsCut begins groups → groups_by begins (flat_map (λ g. g) groups) ≡ groups
again begins [] p = refl
again begins ([] ∷ []) p = absurd p
again begins ([] ∷ next ∷ groups) p = absurd p.0
again begins ((x ∷ xs) ∷ []) p = join_all begins [] (x ∷ []) xs [] p
again begins ((x ∷ xs) ∷ next ∷ groups) p = join_all begins [] (x ∷ []) xs (flat_map (λ g. g) (next ∷ groups)) p.0 ∙ all_again begins [] (x ∷ xs) (next ∷ groups) p

pub one_cut : {A : Type 0} (begins : List A → A → Bool) (xs : List A) (groups : List (List A)) → AreGroupsOf begins xs groups → groups ≡ groups_by begins xs
one_cut begins xs groups is = sym (again begins groups is.cut) ∙ ap (groups_by begins) is.whole
