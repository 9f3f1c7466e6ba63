-- The offsets at which the texts of a call begin.
use Rattle.std.proofs.Common.{◌≡◌, ℕ, ◌+◌, ◌-◌, ◌≤◌, true, false, List, [], ◌∷◌, ◌++◌, length, refl, arith}
use Rattle.std.specs.Prelude.{◌==◌, encode_utf8}
use Rattle.escape_framing.specs.Framed.{Framed, Text, Single, is_lent, put_text, put_character, IsLendable}
use Rattle.std.proofs.lemmas.Bool.{cond_both, ne_eqb, eq-eqb, le-leb}

-- a text that is the first item begins at offset n or later
abbrev pub BeginsFrom : ℕ → List Framed → Type 0
BeginsFrom n [] = Unit {0}
BeginsFrom n (Single d ∷ rest) = Unit {0}
BeginsFrom n (Text from text ∷ rest) = n ≤ from

put_begins : (n from : ℕ) (text : List ℕ) (rest : List Framed) → n ≤ from → BeginsFrom n (put_text from text rest)
put_begins n from text [] l = l
put_begins n from text (Single d ∷ rest) l = l
put_begins n from text (Text next more ∷ rest) l = cond_both (next == from + length text) _ _ (BeginsFrom n) (λ e. l) (λ e. l)

pub never_lent : (start offset c : ℕ) → c ≡ 0xFFFD → is_lent start offset c ≡ false
never_lent start offset c e = rw e refl

-- a printed character whose bytes begin at offset n or later
pub print_begins : (n start offset c : ℕ) (rest : List Framed) → n + length (encode_utf8 c) ≤ offset → BeginsFrom n (put_character start offset c rest)
print_begins n start offset c rest l = cond_both (is_lent start offset c) _ _ (BeginsFrom n) (λ e. put_begins n (offset - length (encode_utf8 c)) (encode_utf8 c) rest (omega arith)) (λ e. tt)

-- a text before items that don't go on with it
pub put_separate : (from : ℕ) (text : List ℕ) (rest : List Framed) → BeginsFrom (from + length text + 1) rest → put_text from text rest ≡ Text from text ∷ rest
put_separate from text [] l = refl
put_separate from text (Single d ∷ rest) l = refl
put_separate from text (Text next more ∷ rest) l = rw (ne_eqb next (from + length text) (λ e. omega arith)) refl

pub put_joined : (from : ℕ) (text more : List ℕ) (rest : List Framed) → put_text from text (Text (from + length text) more ∷ rest) ≡ Text from (text ++ more) ∷ rest
put_joined from text more rest = rw (eq-eqb (from + length text) (from + length text) refl) refl

pub lends : (start offset c : ℕ) → IsLendable c → start + length (encode_utf8 c) ≤ offset → is_lent start offset c ≡ true
lends start offset c h l = rw (ne_eqb c 0xFFFD h.2, le-leb (start + length (encode_utf8 c)) offset l) refl
