-- How long the text at the start of some bytes is.
use Rattle.std.proofs.Common.{◌≡◌, ℕ, zero, suc, ◌+◌, ◌/◌, ◌%◌, ◌<◌, ◌≤◌, ◌⊎◌, inl, ⊎_elim, List, [], ◌∷◌, ◌++◌, length, take, drop, refl, sym, ap, subst, ◌∙◌, arith, append_assoc, append-nil, length-append, length-drop}
use Rattle.std.specs.Str.{IsUtf8}
use Rattle.std.proofs.lemmas.List.{take_at, drop-drop}
use Rattle.std.proofs.lemmas.Str.{IsUtf8-encode, IsUtf8-append, IsUtf8-nil}
use Rattle.std.proofs.Math.Seq.{take-add}
use lib.Utf8.{encode}
use Rattle.escape_framing.specs.Segment.{IsPrintable}
use Rattle.escape_framing.specs.Framed.{IsText, no_text, text_of, IsLendable, BeginsNoText, IsCharacterLen, IsRunLen}
use Rattle.escape_framing.proofs.Existence.Utf8Lemmas.{Spelled, in_one, in_two, in_three, in_four, spelled}

-- ---- characters, one after the other

pub text_append : (xs ys : List ℕ) → IsText xs → IsText ys → IsText (xs ++ ys)
text_append xs ys no_text u = u
text_append xs ys (text_of c more l t) u = subst IsText (sym (append_assoc (encode c) more ys)) (text_of c (more ++ ys) l (text_append more ys t u))

pub text_is_utf8 : (xs : List ℕ) → IsText xs → IsUtf8 xs
text_is_utf8 xs no_text = IsUtf8-nil
text_is_utf8 xs (text_of c more l t) = IsUtf8-append (encode c) more (IsUtf8-encode c l.0) (text_is_utf8 more t)

pub some_text : (bytes : List ℕ) (n : ℕ) → IsCharacterLen bytes n → 0 < n → IsText (take n bytes) × (n ≤ length bytes)
some_text bytes n k l =
    let s = k.some l in
    (subst IsText (append-nil (encode s.0) ∙ sym (ap (take n) s.3 ∙ take_at (encode s.0) s.1 n s.4)) (text_of s.0 [] s.2 no_text), omega (arith, s.4, ap length s.3, length-append (encode s.0) s.1))

-- a character, or none
pub character_run : (bytes : List ℕ) (n : ℕ) → IsCharacterLen bytes n → IsRunLen bytes n
character_run bytes n k = by_count n k
  where
    by_count : (n : ℕ) → IsCharacterLen bytes n → IsRunLen bytes n
    by_count zero k = record { none = λ z. k.none refl; text = no_text; within = omega arith }
    by_count (suc n) k = let t = some_text bytes (suc n) k (omega arith) in record { none = λ z. absurd (omega arith); text = t.0; within = t.1 }

-- one run more
pub longer_text : (bytes rest : List ℕ) (len n : ℕ) → len ≤ length bytes → rest ≡ drop len bytes → IsText (take len bytes) → IsRunLen rest n
    → IsText (take (len + n) bytes) × (len + n ≤ length bytes) × (drop n rest ≡ drop (len + n) bytes)
longer_text bytes rest len n l e t k = (
  subst IsText (ap (λ (x : List ℕ). take len bytes ++ take n x) e ∙ sym (take-add len n bytes)) (text_append (take len bytes) (take n rest) t k.text),
  omega (arith, k.within, ap length e, length-drop len bytes),
  ap (drop n) e ∙ drop-drop n len bytes,
)

-- ---- no text

-- no text begins with an ASCII character that is not printable
pub none_begins : (b : ℕ) (rest : List ℕ) → b < 0x80 → (IsPrintable b → ⊥) → BeginsNoText (b ∷ rest)
none_begins b rest l n = record { none = λ c more k e. by_kind c more k e (spelled c k.0) }
  where
    by_kind : (c : ℕ) (more : List ℕ) → IsLendable c → b ∷ rest ≡ encode c ++ more → Spelled c → ⊥
    by_kind c more k e (in_one g h) =
        let m : b ∷ rest ≡ c ∷ [] ++ more = e ∙ ap (λ (x : List ℕ). x ++ more) h in
        let q : b ≡ c = cc in
        n (subst IsPrintable (sym q) k.1)
    by_kind c more k e (in_two g f h) =
        let m : b ∷ rest ≡ (192 + c / 64) ∷ (128 + c % 64) ∷ more = e ∙ ap (λ (x : List ℕ). x ++ more) h in
        let q : b ≡ 192 + c / 64 = cc in
        omega arith
    by_kind c more k e (in_three g f t h) =
        let m : b ∷ rest ≡ (224 + c / 4096) ∷ (128 + (c / 64) % 64) ∷ (128 + c % 64) ∷ more = e ∙ ap (λ (x : List ℕ). x ++ more) h in
        let q : b ≡ 224 + c / 4096 = cc in
        omega arith
    by_kind c more k e (in_four g f h) =
        let m : b ∷ rest ≡ (240 + c / 262144) ∷ (128 + (c / 4096) % 64) ∷ (128 + (c / 64) % 64) ∷ (128 + c % 64) ∷ more = e ∙ ap (λ (x : List ℕ). x ++ more) h in
        let q : b ≡ 240 + c / 262144 = cc in
        omega arith

-- no text begins with a byte that is part of no character
pub none_stray : (b : ℕ) (rest : List ℕ) → 0x80 ≤ b → (b < 0xC2) ⊎ (0xF4 < b) → BeginsNoText (b ∷ rest)
none_stray b rest l n = record { none = λ c more k e. by_kind c more e (spelled c k.0) }
  where
    out : (x : ℕ) → b ≡ x → 0xC2 ≤ x → x ≤ 0xF4 → ⊥
    out x q m h = ⊎_elim (λ a. omega arith) (λ a. omega arith) n

    by_kind : (c : ℕ) (more : List ℕ) → b ∷ rest ≡ encode c ++ more → Spelled c → ⊥
    by_kind c more e (in_one g h) =
        let m : b ∷ rest ≡ c ∷ [] ++ more = e ∙ ap (λ (x : List ℕ). x ++ more) h in
        let q : b ≡ c = cc in
        omega arith
    by_kind c more e (in_two g f h) =
        let m : b ∷ rest ≡ (192 + c / 64) ∷ (128 + c % 64) ∷ more = e ∙ ap (λ (x : List ℕ). x ++ more) h in
        let q : b ≡ 192 + c / 64 = cc in
        out (192 + c / 64) q (omega arith) (omega arith)
    by_kind c more e (in_three g f t h) =
        let m : b ∷ rest ≡ (224 + c / 4096) ∷ (128 + (c / 64) % 64) ∷ (128 + c % 64) ∷ more = e ∙ ap (λ (x : List ℕ). x ++ more) h in
        let q : b ≡ 224 + c / 4096 = cc in
        out (224 + c / 4096) q (omega arith) (omega arith)
    by_kind c more e (in_four g f h) =
        let m : b ∷ rest ≡ (240 + c / 262144) ∷ (128 + (c / 4096) % 64) ∷ (128 + (c / 64) % 64) ∷ (128 + c % 64) ∷ more = e ∙ ap (λ (x : List ℕ). x ++ more) h in
        let q : b ≡ 240 + c / 262144 = cc in
        out (240 + c / 262144) q (omega arith) (omega arith)

pub none_run : (bytes : List ℕ) (b : ℕ) (rest : List ℕ) → bytes ≡ b ∷ rest → b < 0x80 → (IsPrintable b → ⊥) → IsRunLen bytes 0
none_run bytes b rest s l n = record { none = λ z. subst BeginsNoText (sym s) (none_begins b rest l n); text = no_text; within = omega arith }

pub stray_run : (bytes : List ℕ) (b : ℕ) (rest : List ℕ) → bytes ≡ b ∷ rest → 0x80 ≤ b → b < 0xC2 → IsRunLen bytes 0
stray_run bytes b rest s l h = record { none = λ z. subst BeginsNoText (sym s) (none_stray b rest l (inl h)); text = no_text; within = omega arith }
