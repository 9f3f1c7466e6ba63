-- The steps of walks over the parts of a body.
use Rattle.std.proofs.Common.{◌≡◌, ℕ, ◌+◌, ◌<◌, ◌≤◌, false, ◌||◌, List, [], ◌∷◌, ◌++◌, length, get_or, drop, map, ap, sym, ◌∙◌, append_assoc, append-nil, Bor, Vec, Global}
use Rattle.std.specs.List.{flat_map}
use Rattle.std.proofs.lemmas.List.{at_drop_more, at_drop_all, map-append}
use Rattle.text_clusters.specs.Controls.{holds_c1}
use Rattle.escape_osc.specs.Parts.{any_holds_c1, joined, semicolon}

-- ---- a walk that looks for C1, with the part at i next

pub any_c1_next : (parts : List (Bor (List ℕ))) (i : ℕ) (part : Bor (List ℕ)) → i < length parts → part ≡ get_or parts i part
    → any_holds_c1 (map (λ p. p.now) (drop i parts)) ≡ (holds_c1 part.now || any_holds_c1 (map (λ p. p.now) (drop (i + 1) parts)))
any_c1_next parts i part below item =
    at_drop_more (λ ps. any_holds_c1 (map (λ p. p.now) ps)) parts i part below
    ∙ ap (λ (p : Bor (List ℕ)). holds_c1 p.now || any_holds_c1 (map (λ p. p.now) (drop (i + 1) parts))) (sym item)

pub any_c1_end : (parts : List (Bor (List ℕ))) (i : ℕ) → length parts ≤ i → any_holds_c1 (map (λ p. p.now) (drop i parts)) ≡ false
any_c1_end parts i h = at_drop_all (λ ps. any_holds_c1 (map (λ p. p.now) ps)) parts i h

-- ---- a walk that joins them, with the text so far

-- parts as they follow another: each after a `;`
abbrev pub after : List (List ℕ) → List ℕ
after parts = flat_map (λ part. semicolon ∷ part) parts

pub joined-cons : (first : List ℕ) (rest : List (List ℕ)) → joined (first ∷ rest) ≡ first ++ after rest
joined-cons first [] = sym (append-nil first)
joined-cons first (part ∷ rest) = ap (λ text. first ++ semicolon ∷ text) (joined-cons part rest)

pub joined_start : {P : Type 0} (text_of : P → List ℕ) (before text dest : List ℕ) (parts : List P) (first : P) (rest : List P) → parts ≡ first ∷ rest
    → text ≡ text_of first → dest ≡ before ++ text → dest ++ after (map text_of rest) ≡ before ++ joined (map text_of parts)
joined_start {P} text_of before text dest parts first rest e same appended =
    ap (λ d. d ++ after (map text_of rest)) (appended ∙ ap (λ t. before ++ t) same)
    ∙ append_assoc before (text_of first) _
    ∙ ap (λ t. before ++ t) (sym (ap (λ (ps : List P). joined (map text_of ps)) e ∙ joined-cons (text_of first) (map text_of rest)))

pub joined_next : {P : Type 0} (text_of : P → List ℕ) (text : List ℕ) (rest : List P) (i : ℕ) (part : P) → i < length rest → part ≡ get_or rest i part
    → text ++ after (map text_of (drop i rest)) ≡ text ++ semicolon ∷ [] ++ text_of part ++ after (map text_of (drop (i + 1) rest))
joined_next {P} text_of text rest i part below item =
    at_drop_more (λ (ps : List P). text ++ after (map text_of ps)) rest i part below
    ∙ ap (λ (p : P). text ++ (semicolon ∷ (text_of p ++ after (map text_of (drop (i + 1) rest))))) (sym item)
    ∙ simp append_assoc

pub joined_end : {P : Type 0} (text_of : P → List ℕ) (text : List ℕ) (rest : List P) (i : ℕ) → length rest ≤ i → text ++ after (map text_of (drop i rest)) ≡ text
joined_end {P} text_of text rest i h = at_drop_all (λ (ps : List P). text ++ after (map text_of ps)) rest i h ∙ append-nil text

pub ruleset joined_steps = (joined_start, joined_next, joined_end)

-- ---- a walk that copies them, with the copies so far

pub copied_next : (copies : List (Vec ℕ Global)) (parts : List (Bor (List ℕ))) (i : ℕ) (part : Bor (List ℕ)) (copy : Vec ℕ Global) → i < length parts → part ≡ get_or parts i part → copy.items ≡ part.now
    → map (λ v. v.items) (copies ++ copy ∷ []) ++ map (λ p. p.now) (drop (i + 1) parts) ≡ map (λ v. v.items) copies ++ map (λ p. p.now) (drop i parts)
copied_next copies parts i part copy below item same =
    rw (map-append (λ (v : Vec ℕ Global). v.items) copies (copy ∷ []), append_assoc, same)
    (sym (at_drop_more (λ ps. map (λ (v : Vec ℕ Global). v.items) copies ++ map (λ p. p.now) ps) parts i part below
    ∙ ap (λ (p : Bor (List ℕ)). map (λ (v : Vec ℕ Global). v.items) copies ++ p.now ∷ map (λ p. p.now) (drop (i + 1) parts)) (sym item)))

pub copied_end : (copies : List (Vec ℕ Global)) (parts : List (Bor (List ℕ))) (i : ℕ) → length parts ≤ i
    → map (λ v. v.items) copies ++ map (λ p. p.now) (drop i parts) ≡ map (λ v. v.items) copies
copied_end copies parts i h = at_drop_all (λ ps. map (λ (v : Vec ℕ Global). v.items) copies ++ map (λ p. p.now) ps) parts i h ∙ append-nil _
