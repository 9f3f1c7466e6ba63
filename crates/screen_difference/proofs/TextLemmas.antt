-- Parts of texts in printable ASCII, and texts that differ in some characters.
use Rattle.std.proofs.Common.{◌≡◌, ℕ, zero, suc, ◌+◌, ◌-◌, ◌<◌, ◌≤◌, ◌∙◌, true, false, List, [], ◌∷◌, ◌++◌, length, take, drop, get_or, refl, sym, ap, append_assoc, arith}
use Rattle.std.specs.Prelude.{◌==◌, if◌then◌else◌}
use Rattle.std.specs.Cmp.{unsigned_Decides}
use Rattle.std.specs.List.{list_all}
use Rattle.std.proofs.Math.Seq.{drop-cons}
use Rattle.std.proofs.lemmas.Bool.{and_parts, and_from}
use Rattle.std.proofs.lemmas.List.{get_or-drop, length-drop}
use Rattle.cell_base.specs.Attributes.{Attributes}
use Rattle.screen_change.proofs.TextLemmas.{by_test}
use Rattle.cell_edits.specs.VisibleCells.{VisibleCell, visible_at, visible_each}
use Rattle.text_clusters.specs.Plain.{is_printable}
use Rattle.screen_difference.specs.Drawing.{Drawing, with_all}
use Rattle.screen_difference.specs.FreshCells.{placed}
use Rattle.screen_difference.specs.ShownCells.{differing}
use Rattle.screen_difference.proofs.SideLemmas.{written_more}

-- parts of printable texts are printable
pub plain_taken : (n : ℕ) (text : List ℕ) → list_all is_printable text ≡ true → list_all is_printable (take n text) ≡ true
plain_taken zero text p = refl
plain_taken (suc n) [] p = refl
plain_taken (suc n) (b ∷ text) p =
    let q = and_parts (is_printable b) (list_all is_printable text) p in
    and_from (is_printable b) (list_all is_printable (take n text)) q.0 (plain_taken n text q.1)

pub plain_dropped : (n : ℕ) (text : List ℕ) → list_all is_printable text ≡ true → list_all is_printable (drop n text) ≡ true
plain_dropped zero text p = p
plain_dropped (suc n) [] p = refl
plain_dropped (suc n) (b ∷ text) p = plain_dropped n text (and_parts (is_printable b) (list_all is_printable text) p).1

-- ---- characters that are compared from the left

each_more : (at n : ℕ) (text : List ℕ) (a : Attributes) (b : ℕ) → n < length text → get_or text n 0 ≡ b → visible_each at (take (suc n) text) a ≡ visible_each at (take n text) a ++ visible_at (at + n) (b ∷ []) 1 a ∷ []
each_more at n [] a b h g = absurd (omega arith)
each_more at zero (x ∷ text) a b h g = let e : at ≡ at + 0 = omega arith in (λ i. visible_at (e i) (g i ∷ []) 1 a ∷ [])
each_more at (suc n) (x ∷ text) a b h g =
    let e : at + 1 + n ≡ at + suc n = omega arith in
    ap (λ (vs : List VisibleCell). visible_at at (x ∷ []) 1 a ∷ vs) (each_more (at + 1) n text a b (omega arith) g ∙ ap (λ k. visible_each (at + 1) (take n text) a ++ visible_at k (b ∷ []) 1 a ∷ []) e)

-- those from one on and before another are written, and those after it compared
abbrev pub mixed : ℕ → ℕ → ℕ → List ℕ → List ℕ → Attributes → List VisibleCell
mixed column from at olds news a = visible_each (column + from) (take (at - from) (drop from news)) a ++ differing (column + at) (drop at olds) (drop at news) a

compared : (column at : ℕ) (olds news : List ℕ) (a : Attributes) → at < length news → length olds ≡ length news
    → differing (column + at) (drop at olds) (drop at news) a ≡ (if get_or olds at 0 == get_or news at 0 then differing (column + (at + 1)) (drop (at + 1) olds) (drop (at + 1) news) a else visible_at (column + at) (get_or news at 0 ∷ []) 1 a ∷ differing (column + (at + 1)) (drop (at + 1) olds) (drop (at + 1) news) a)
compared column at olds news a h e =
    let next : suc at ≡ at + 1 = omega arith in
    let position : column + at + 1 ≡ column + (at + 1) = omega arith in
    let old : drop at olds ≡ get_or olds at 0 ∷ drop (at + 1) olds = drop-cons olds at 0 (omega arith) ∙ ap (λ k. get_or olds at 0 ∷ drop k olds) next in
    let new : drop at news ≡ get_or news at 0 ∷ drop (at + 1) news = drop-cons news at 0 h ∙ ap (λ k. get_or news at 0 ∷ drop k news) next in
    (λ i. differing (column + at) (old i) (new i) a)
    ∙ ap (λ k. if get_or olds at 0 == get_or news at 0 then differing k (drop (at + 1) olds) (drop (at + 1) news) a else visible_at (column + at) (get_or news at 0 ∷ []) 1 a ∷ differing k (drop (at + 1) olds) (drop (at + 1) news) a) position

mixed_same : (column from at : ℕ) (olds news : List ℕ) (a : Attributes) → at < length news → length olds ≡ length news → get_or olds at 0 ≡ get_or news at 0
    → visible_each (column + from) (take (at - from) (drop from news)) a ++ mixed column (at + 1) (at + 1) olds news a ≡ mixed column from at olds news a
mixed_same column from at olds news a h e g =
    let same : (get_or olds at 0 == get_or news at 0) ≡ true = (unsigned_Decides (get_or olds at 0) (get_or news at 0)).1 g in
    let none : at + 1 - (at + 1) ≡ 0 = omega arith in
    let rest : List VisibleCell = differing (column + (at + 1)) (drop (at + 1) olds) (drop (at + 1) news) a in
    ap (λ (vs : List VisibleCell). visible_each (column + from) (take (at - from) (drop from news)) a ++ vs) (
    ap (λ n. visible_each (column + (at + 1)) (take n (drop (at + 1) news)) a ++ rest) none
    ∙ sym (compared column at olds news a h e ∙ ap (λ t. if t then rest else visible_at (column + at) (get_or news at 0 ∷ []) 1 a ∷ rest) same))

mixed_other : (column from at : ℕ) (olds news : List ℕ) (a : Attributes) → from ≤ at → at < length news → length olds ≡ length news → (get_or olds at 0 ≡ get_or news at 0 → ⊥)
    → mixed column from (at + 1) olds news a ≡ mixed column from at olds news a
mixed_other column from at olds news a le h e n =
    let b = get_or news at 0 in
    let other : (get_or olds at 0 == b) ≡ false = by_test (get_or olds at 0 == b) (λ t. absurd (n ((unsigned_Decides (get_or olds at 0) b).0 t))) (λ f. f) in
    let after = length-drop from news in
    let count : at + 1 - from ≡ suc (at - from) = omega arith in
    let position : column + from + (at - from) ≡ column + at = omega arith in
    let index : from + (at - from) ≡ at = omega arith in
    let there : get_or (drop from news) (at - from) 0 ≡ b = get_or-drop from news (at - from) 0 ∙ ap (λ k. get_or news k 0) index in
    let rest : List VisibleCell = differing (column + (at + 1)) (drop (at + 1) olds) (drop (at + 1) news) a in
    let prefix : List VisibleCell = visible_each (column + from) (take (at - from) (drop from news)) a in
    ap (λ k. visible_each (column + from) (take k (drop from news)) a ++ rest) count
    ∙ ap (λ (vs : List VisibleCell). vs ++ rest) (each_more (column + from) (at - from) (drop from news) a b (omega arith) there)
    ∙ append_assoc prefix (visible_at (column + from + (at - from)) (b ∷ []) 1 a ∷ []) rest
    ∙ ap (λ (vs : List VisibleCell). prefix ++ vs) (ap (λ k. visible_at k (b ∷ []) 1 a ∷ rest) position ∙ sym (compared column at olds news a h e ∙ ap (λ t. if t then rest else visible_at (column + at) (b ∷ []) 1 a ∷ rest) other))

-- where the next character is the same, the pending cells are written
same_written : (d next : Drawing) (row column from at : ℕ) (olds news part : List ℕ) (a : Attributes) → at < length news → length olds ≡ length news → get_or olds at 0 ≡ get_or news at 0
    → part ≡ take (at - from) (drop from news) → next ≡ with_all d (placed row (visible_each (column + from) part a))
    → with_all next (placed row (mixed column (at + 1) (at + 1) olds news a)) ≡ with_all d (placed row (mixed column from at olds news a))
same_written d next row column from at olds news part a h e g p w =
    let rest : List VisibleCell = mixed column (at + 1) (at + 1) olds news a in
    (λ i. with_all ((w ∙ ap (λ (t : List ℕ). with_all d (placed row (visible_each (column + from) t a))) p) i) (placed row rest))
    ∙ written_more d row (visible_each (column + from) (take (at - from) (drop from news)) a) rest
    ∙ ap (λ (vs : List VisibleCell). with_all d (placed row vs)) (mixed_same column from at olds news a h e g)

-- after a step, too, the cells written so far, the pending ones and the rest make the whole drawing
pub same_on : (whole d next after : Drawing) (row column from to at : ℕ) (olds news part : List ℕ) (a : Attributes) → after ≡ next → to ≡ at + 1 → at < length news → length olds ≡ length news → get_or olds at 0 ≡ get_or news at 0
    → part ≡ take (at - from) (drop from news) → next ≡ with_all d (placed row (visible_each (column + from) part a))
    → with_all d (placed row (mixed column from at olds news a)) ≡ whole → with_all after (placed row (mixed column to (at + 1) olds news a)) ≡ whole
same_on whole d next after row column from to at olds news part a f t h e g p w k =
    (λ i. with_all (f i) (placed row (mixed column (t i) (at + 1) olds news a))) ∙ same_written d next row column from at olds news part a h e g p w ∙ k

pub other_on : (whole d after : Drawing) (row column from to at : ℕ) (olds news : List ℕ) (a : Attributes) → after ≡ d → to ≡ from → from ≤ at → at < length news → length olds ≡ length news → (get_or olds at 0 ≡ get_or news at 0 → ⊥)
    → with_all d (placed row (mixed column from at olds news a)) ≡ whole → with_all after (placed row (mixed column to (at + 1) olds news a)) ≡ whole
other_on whole d after row column from to at olds news a f t le h e n k =
    (λ i. with_all (f i) (placed row (mixed column (t i) (at + 1) olds news a))) ∙ ap (λ (cells : List VisibleCell). with_all d (placed row cells)) (mixed_other column from at olds news a le h e n) ∙ k
