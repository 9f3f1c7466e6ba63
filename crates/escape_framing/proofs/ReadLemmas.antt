-- The plain reading, step by step.
use Rattle.std.proofs.Common.{◌≡◌, ℕ, Bool, true, List, [], ◌∷◌, ◌++◌, refl, sym, ap, ◌∙◌, append_assoc}
use Rattle.std.specs.List.{list_all}
use Rattle.std.proofs.lemmas.Bool.{and_parts}
use Rattle.escape_framing.specs.Segment.{Tail, Begun, Segment}
use Rattle.escape_framing.specs.Decode.{Reading, waits, ends, ends_before, first_byte, in_character, next_byte, read_on}
use Rattle.escape_framing.proofs.Existence.Utf8Lemmas.{append_nil}

-- a reading that goes on with more bytes
abbrev pub read_after : Reading → List ℕ → Reading
read_after r bytes = let rest = read_on r.tail bytes in record { segments = r.segments ++ rest.segments; tail = rest.tail }

-- a segment before a reading
abbrev pub after : Segment → Reading → Reading
after s r = record { segments = s ∷ r.segments; tail = r.tail }

pub read_nil : (t : Tail) → read_on t [] ≡ waits t
unfolding read_on
read_nil t = refl

pub read_step : (t : Tail) (b : ℕ) (bytes : List ℕ) → read_on t (b ∷ bytes) ≡ read_after (next_byte t b) bytes
unfolding read_on
read_step t b bytes = refl

pub step_waits : (t u : Tail) (b : ℕ) (bytes : List ℕ) → next_byte t b ≡ waits u → read_on t (b ∷ bytes) ≡ read_on u bytes
step_waits t u b bytes e = read_step t b bytes ∙ ap (λ (r : Reading). read_after r bytes) e

pub step_ends : (t : Tail) (s : Segment) (b : ℕ) (bytes : List ℕ) → next_byte t b ≡ ends s → read_on t (b ∷ bytes) ≡ after s (read_on (Begun []) bytes)
step_ends t s b bytes e = read_step t b bytes ∙ ap (λ (r : Reading). read_after r bytes) e

pub step_ends_before : (t : Tail) (s : Segment) (b : ℕ) (bytes : List ℕ) → next_byte t b ≡ ends_before s (first_byte b) → read_on t (b ∷ bytes) ≡ after s (read_on (Begun []) (b ∷ bytes))
unfolding next_byte in_character
step_ends_before t s b bytes e = read_step t b bytes ∙ ap (λ (r : Reading). read_after r bytes) e ∙ sym (ap (after s) (read_step (Begun []) b bytes))

-- bytes that pass a test stay open
pub spans : (test : ℕ → Bool) (open_with : List ℕ → Tail) → ((xs : List ℕ) (b : ℕ) → test b ≡ true → next_byte (open_with xs) b ≡ waits (open_with (xs ++ b ∷ [])))
    → (xs body rest : List ℕ) → list_all test body ≡ true → read_on (open_with xs) (body ++ rest) ≡ read_on (open_with (xs ++ body)) rest
spans test open_with stays xs [] rest h = ap (λ l. read_on (open_with l) rest) (sym (append_nil xs))
spans test open_with stays xs (b ∷ body) rest h =
    let k = and_parts (test b) (list_all test body) h in
    step_waits (open_with xs) (open_with (xs ++ b ∷ [])) b (body ++ rest) (stays xs b k.0)
    ∙ spans test open_with stays (xs ++ b ∷ []) body rest k.1
    ∙ ap (λ l. read_on (open_with l) rest) (append_assoc xs (b ∷ []) body)

-- the reading of more bytes, after another
pub read_append : (t : Tail) (x y : List ℕ) → read_on t (x ++ y) ≡ read_after (read_on t x) y
unfolding read_on
read_append t [] y = refl
read_append t (b ∷ x) y =
    let step = next_byte t b in
    let h = read_append step.tail x y in
    ap (λ (r : Reading). record { segments = step.segments ++ r.segments; tail = r.tail }) h
    ∙ ap (λ l. record { segments = l; tail = (read_on (read_on step.tail x).tail y).tail }) (sym (append_assoc step.segments _ _))
