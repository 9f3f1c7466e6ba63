-- The first part of a command's body.
use Rattle.std.proofs.Common.{◌≡◌, ℕ, suc, ◌+◌, Bool, true, false, List, [], ◌∷◌, length, take, drop, refl, sym, ap, ◌∙◌, arith}
use Rattle.std.specs.Prelude.{◌==◌}
use Rattle.std.specs.List.{prefix_len, onto_first}
use Rattle.escape_osc.specs.Parts.{semicolon, parts_of}
use Rattle.escape_stream.specs.Sequences.{is_in_part}

is_cut : (body rest : List ℕ) (b : ℕ) → drop (prefix_len is_in_part body) body ≡ b ∷ rest → parts_of body ≡ take (prefix_len is_in_part body) body ∷ parts_of rest
is_cut [] rest b e = cc
is_cut (x ∷ body) rest b e = by_test (x == semicolon) refl e (is_cut body rest b)
  where
    by_test : (t : Bool) → (x == semicolon) ≡ t → drop (prefix_len is_in_part (x ∷ body)) (x ∷ body) ≡ b ∷ rest → (drop (prefix_len is_in_part body) body ≡ b ∷ rest → parts_of body ≡ take (prefix_len is_in_part body) body ∷ parts_of rest)
        → parts_of (x ∷ body) ≡ take (prefix_len is_in_part (x ∷ body)) (x ∷ body) ∷ parts_of rest
    by_test true at e h = let k : x ∷ body ≡ b ∷ rest = rw at at e in let r : body ≡ rest = cc in rw at (ap (λ (l : List ℕ). [] ∷ parts_of l) r)
    by_test false at e h =
        let n : 1 + prefix_len is_in_part body ≡ suc (prefix_len is_in_part body) = omega arith in
        let k : drop (prefix_len is_in_part body) body ≡ b ∷ rest = rw (at, n) at e in
        rw (at, n) (ap (onto_first x) (h k))

is_whole : (body : List ℕ) → drop (prefix_len is_in_part body) body ≡ [] → parts_of body ≡ body ∷ []
is_whole [] e = refl
is_whole (x ∷ body) e = by_test (x == semicolon) refl e (is_whole body)
  where
    by_test : (t : Bool) → (x == semicolon) ≡ t → drop (prefix_len is_in_part (x ∷ body)) (x ∷ body) ≡ [] → (drop (prefix_len is_in_part body) body ≡ [] → parts_of body ≡ body ∷ []) → parts_of (x ∷ body) ≡ (x ∷ body) ∷ []
    by_test true at e h = let k : x ∷ body ≡ [] = rw at at e in cc
    by_test false at e h =
        let n : 1 + prefix_len is_in_part body ≡ suc (prefix_len is_in_part body) = omega arith in
        let k : drop (prefix_len is_in_part body) body ≡ [] = rw (at, n) at e in
        rw at (ap (onto_first x) (h k))

pub part_and_rest : (body first remaining rest : List ℕ) (b n : ℕ) → n ≡ prefix_len is_in_part body → first ≡ take n body → remaining ≡ drop n body → remaining ≡ b ∷ rest → parts_of body ≡ first ∷ parts_of rest
part_and_rest body first remaining rest b n e f g h =
    is_cut body rest b (ap (λ (m : ℕ). drop m body) (sym e) ∙ sym g ∙ h) ∙ ap (λ (l : List ℕ). l ∷ parts_of rest) (ap (λ (m : ℕ). take m body) (sym e) ∙ sym f)

no_bytes : (xs : List ℕ) → length xs ≡ 0 → xs ≡ []
no_bytes [] h = refl
no_bytes (x ∷ xs) h = absurd (omega (arith, h))

pub part_alone : (body remaining : List ℕ) (n : ℕ) → n ≡ prefix_len is_in_part body → remaining ≡ drop n body → length remaining ≡ 0 → parts_of body ≡ body ∷ []
part_alone body remaining n e g h = is_whole body (ap (λ (m : ℕ). drop m body) (sym e) ∙ sym g ∙ no_bytes remaining h)
