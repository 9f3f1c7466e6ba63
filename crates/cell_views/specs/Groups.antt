-- Lists cut into groups by a rule: whether an element begins a new group after the elements of the last one.
use Rattle.std.specs.Prelude.{◌≡◌, Bool, true, false, ⊤, List, [], ◌∷◌, ◌++◌, flat_map, fold, if◌then◌else◌}

-- the element joins the last group, or begins a new one
abbrev pub joined : {A : Type 0} → (List A → A → Bool) → List (List A) → A → List (List A)
joined begins [] x = (x ∷ []) ∷ []
joined begins (xs ∷ []) x = if begins xs x then xs ∷ (x ∷ []) ∷ [] else (xs ++ x ∷ []) ∷ []
joined begins (xs ∷ next ∷ groups) x = xs ∷ joined begins (next ∷ groups) x

-- the groups of a list, element by element
abbrev pub groups_by : {A : Type 0} → (List A → A → Bool) → List A → List (List A)
groups_by begins xs = fold (joined begins) [] xs

-- ---- the groups by what holds of them, without a fold

-- none of the elements begins a group after those before it
abbrev pub GoOn : {A : Type 0} → (List A → A → Bool) → List A → List A → Type 0
GoOn begins before [] = ⊤
GoOn begins before (x ∷ xs) = (begins before x ≡ false) × GoOn begins (before ++ x ∷ []) xs

-- there is a first element, and the remaining ones go on
abbrev pub AreTogether : {A : Type 0} → (List A → A → Bool) → List A → Type 0
AreTogether begins [] = ⊥
AreTogether begins (x ∷ xs) = GoOn begins (x ∷ []) xs

-- the first of the next elements begins a group
abbrev pub BeginAfter : {A : Type 0} → (List A → A → Bool) → List A → List A → Type 0
BeginAfter begins before [] = ⊥
BeginAfter begins before (x ∷ xs) = begins before x ≡ true

abbrev pub IsCut : {A : Type 0} → (List A → A → Bool) → List (List A) → Type 0
IsCut begins [] = ⊤
IsCut begins (xs ∷ []) = AreTogether begins xs
IsCut begins (xs ∷ next ∷ groups) = AreTogether begins xs × BeginAfter begins xs next × IsCut begins (next ∷ groups)

-- the groups, joined, are the list, and they are cut by the rule
pub record AreGroupsOf {A : Type 0} (begins : List A → A → Bool) (xs : List A) (groups : List (List A)) : Type 0 where
  pub whole : flat_map (λ g. g) groups ≡ xs
  pub cut : IsCut begins groups
