-- What one byte more makes of an unfinished tail: a whole character, the beginning of one, or neither.
use Rattle.std.proofs.Common.{◌≡◌, ◌≢◌, ℕ, inl, inr, ⊎_elim, true, false, List, [], ◌∷◌, ◌++◌, length, refl, sym, ap, ◌∙◌, arith, Option, Some, None, length-append}
use Rattle.std.specs.Prelude.{is_none}
use Rattle.std.specs.Char.{IsScalar}
use Rattle.std.specs.Str.{IsUtf8, is_utf8}
use Rattle.std.specs.Str.Lossy.{utf8_error_len}
use Rattle.std.proofs.lemmas.Bool.{and_parts, false_from_ne_true, cases_Bool}
use Rattle.std.proofs.lemmas.Str.{IsUtf8-from_is_utf8, length-encode, len_utf8_bounds}
use lib.Utf8.{encode, encodes, scalar, scalars}
use Rattle.escape_framing.specs.Segment.{Begun, BeginsCharacter, IsBegun, IsUnfinished}
use Rattle.escape_framing.proofs.Existence.Utf8Lemmas.{is_text, wanted, begins_one, begins_two, begins_three, no_fifth, last_falls, not_shorter, append_nil, some_last}
use Rattle.std.proofs.lemmas.List.{nil_from_length}

pub data Outcome (t : List ℕ) (b : ℕ) : Type 0 where
  whole : (c : ℕ) → IsScalar c → encode c ≡ t ++ b ∷ [] → is_utf8 (t ++ b ∷ []) ≡ true → Outcome t b
  begun : IsBegun (t ++ b ∷ []) → is_utf8 (t ++ b ∷ []) ≡ false → is_none (utf8_error_len (t ++ b ∷ [])) ≡ true → Outcome t b
  broken : (BeginsCharacter (t ++ b ∷ []) → ⊥) → is_utf8 (t ++ b ∷ []) ≡ false → is_none (utf8_error_len (t ++ b ∷ [])) ≡ false → Outcome t b

-- the encoding of a character is not empty
pub some_bytes : (c : ℕ) (rest : List ℕ) → encode c ++ rest ≡ [] → ⊥
some_bytes c rest e = let n = len_utf8_bounds c in omega (arith, ap length e, length-append (encode c) rest, length-encode c)

-- a text begins with a character
pub first_of_text : (bs : List ℕ) → IsUtf8 bs → bs ≢ [] → (c : ℕ) × (rest : List ℕ) × IsScalar c × (encode c ++ rest ≡ bs)
first_of_text bs ([], u) n = absurd (n (sym u.1))
first_of_text bs (c ∷ cs, u) n = (c, encodes cs, (and_parts (scalar c) (scalars cs) u.0).0, u.1)

begun_is_no_text : (t : List ℕ) → IsBegun t → IsUtf8 t → ⊥
begun_is_no_text t (d, more, s, e, n, m) u =
    let f = first_of_text t u n in
    not_shorter f.0 d f.1 more (rw f.3 e) m

no_text : (t : List ℕ) → IsBegun t → is_utf8 t ≡ false
no_text t g = false_from_ne_true (is_utf8 t) (λ e. begun_is_no_text t g (IsUtf8-from_is_utf8 t e))

-- the start of a character that a text holds is whole
whole_text : (t : List ℕ) (b : ℕ) → IsUnfinished (Begun t) → is_utf8 (t ++ b ∷ []) ≡ true → (c : ℕ) × IsScalar c × (encode c ≡ t ++ b ∷ [])
whole_text t b g e =
    let f = first_of_text (t ++ b ∷ []) (IsUtf8-from_is_utf8 _ e) (some_last t b) in
    ⊎_elim (λ k. (f.0, f.2, k.1)) (λ k. absurd (shorter f.0 k.0 k.1 g)) (last_falls (encode f.0) f.1 t b f.3)
  where
    shorter : (c : ℕ) (rest : List ℕ) → t ≡ encode c ++ rest → IsUnfinished (Begun t) → ⊥
    shorter c rest k (inl n) = some_bytes c rest (sym k ∙ n)
    shorter c rest k (inr (d, more, s, e, n, m)) = not_shorter c d rest more (rw k at e) m

-- bytes of which more are wanted begin a character
wants : (t : List ℕ) (b : ℕ) → IsUnfinished (Begun t) → is_utf8 (t ++ b ∷ []) ≡ false → utf8_error_len (t ++ b ∷ []) ≡ None → IsBegun (t ++ b ∷ [])
wants [] b g f e = begins_one b e
wants (x ∷ []) b g f e = begins_two x b e f
wants (x ∷ y ∷ []) b (inl n) f e = cc
wants (x ∷ y ∷ []) b (inr g) f e = begins_three x y b e f (no_text _ g)
wants (x ∷ y ∷ z ∷ []) b g f e = absurd (no_fifth x y z b e)
wants (x ∷ y ∷ z ∷ w ∷ t) b (inl n) f e = cc
wants (x ∷ y ∷ z ∷ w ∷ t) b (inr (d, more, s, h, n, m)) f e = absurd (m (nil_from_length more (let k = len_utf8_bounds d in omega (arith, ap length h, length-append (x ∷ y ∷ z ∷ w ∷ t) more, length-encode d))))

-- a character that the bytes begin is whole or wants more
refuses : (t : List ℕ) (b : ℕ) → is_utf8 (t ++ b ∷ []) ≡ false → is_none (utf8_error_len (t ++ b ∷ [])) ≡ false → BeginsCharacter (t ++ b ∷ []) → ⊥
refuses t b f n (c, [], s, e) = let h = is_text c (t ++ b ∷ []) s (e ∙ append_nil _) in cc
refuses t b f n (c, m ∷ more, s, e) =
    let h = wanted c (t ++ b ∷ []) (m ∷ more) s e (some_last t b) (λ k. cc) in
    let k : is_none (utf8_error_len (t ++ b ∷ [])) ≡ true = rw h refl in cc

none_is : (o : Option ℕ) → is_none o ≡ true → o ≡ None
none_is None h = refl
none_is (Some n) h = cc

pub outcome : (t : List ℕ) (b : ℕ) → IsUnfinished (Begun t) → Outcome t b
outcome t b g = ⊎_elim
    (λ e. let w = whole_text t b g e in whole w.0 w.1 w.2 e)
    (λ e. ⊎_elim (λ n. begun (wants t b g e (none_is _ n)) e n) (λ n. broken (refuses t b e n) e n) (cases_Bool (is_none (utf8_error_len (t ++ b ∷ [])))))
    (cases_Bool (is_utf8 (t ++ b ∷ [])))
