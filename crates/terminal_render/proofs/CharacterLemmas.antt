-- The parts of a text without U+0080 to U+009F: controls, and texts of printable characters.
use Rattle.std.proofs.Common.{◌≡◌, ◌≢◌, ℕ, ◌+◌, ◌/◌, ◌%◌, ◌<◌, ◌≤◌, inl, inr, Bool, true, false, List, [], ◌∷◌, ◌++◌, length, refl, sym, ap, subst, ◌∙◌, arith}
use Rattle.std.specs.Prelude.{⊤, ◌⊎◌, not, All, encode_utf8, encode_utf8_all, if◌then◌else◌}
use Rattle.std.specs.Char.{IsScalar, is_ascii_control}
use Rattle.std.specs.List.{list_all}
use Rattle.std.specs.Str.{IsUtf8, chars}
use Rattle.std.proofs.lemmas.Bool.{or_parts, and_parts}
use Rattle.std.proofs.lemmas.Bool.Decides.{nat_tests}
use Rattle.std.proofs.lemmas.List.Elements.{All-cons, All-nil}
use Rattle.std.proofs.lemmas.Str.{chars-encodes}
use Rattle.text_clusters.specs.Controls.{is_c1, holds_c1}
use lib.Utf8.{scalar, scalars}
use Rattle.escape_framing.specs.Segment.{IsPrintable}
use Rattle.escape_framing.proofs.Existence.Utf8Lemmas.{Spelled, in_one, in_two, in_three, in_four, spelled, order}
use Rattle.escape_framing.proofs.Existence.Utf8Lemmas.{append_nil}
use Rattle.escape_stream.specs.StreamWritable.{IsPrintableText}
use Rattle.screen_effects.specs.Strokes.{TextPart, Control, Plain, with_byte, text_parts}
use Rattle.terminal_table.specs.RunText.{IsPrinted}
use Rattle.terminal_table.proofs.RunLemmas.{character_printed}

-- ---- bytes before parts

-- some bytes go before the first part if that is a text without controls
abbrev before_parts : List ℕ → List TextPart → List TextPart
before_parts prefix (Plain text ∷ parts) = Plain (prefix ++ text) ∷ parts
before_parts prefix parts = Plain prefix ∷ parts

one_before : (b : ℕ) (parts : List TextPart) → with_byte b parts ≡ before_parts (b ∷ []) parts
one_before b [] = refl
one_before b (Plain text ∷ parts) = refl
one_before b (Control byte ∷ parts) = refl

more_before : (b c : ℕ) (prefix : List ℕ) (parts : List TextPart) → with_byte b (before_parts (c ∷ prefix) parts) ≡ before_parts (b ∷ c ∷ prefix) parts
more_before b c prefix [] = refl
more_before b c prefix (Plain text ∷ parts) = refl
more_before b c prefix (Control byte ∷ parts) = refl

plain_byte : (b : ℕ) → not (is_ascii_control b) ≡ true → is_ascii_control b ≡ false
plain_byte b h = grind (arith, nat_tests)

pub parts_after : (b : ℕ) (prefix rest : List ℕ) → IsPrinted (b ∷ prefix) → text_parts ((b ∷ prefix) ++ rest) ≡ before_parts (b ∷ prefix) (text_parts rest)
parts_after b [] rest h =
    let p = and_parts (not (is_ascii_control b)) true h in
    ap (λ t. if t then Control b ∷ text_parts rest else with_byte b (text_parts rest)) (plain_byte b p.0) ∙ one_before b (text_parts rest)
parts_after b (c ∷ prefix) rest h =
    let p = and_parts (not (is_ascii_control b)) (list_all (λ x. not (is_ascii_control x)) (c ∷ prefix)) h in
    ap (λ t. if t then Control b ∷ text_parts ((c ∷ prefix) ++ rest) else with_byte b (text_parts ((c ∷ prefix) ++ rest))) (plain_byte b p.0)
    ∙ ap (with_byte b) (parts_after c prefix rest p.1) ∙ more_before b c prefix (text_parts rest)

-- ---- parts by their characters

-- some printable characters
pub record Characters (text : List ℕ) : Type 0 where
  pub cs : List ℕ
  pub are : scalars cs ≡ true
  pub spell : encode_utf8_all cs ≡ text
  pub some : text ≢ []
  pub printable : All IsPrintable cs

abbrev pub IsGood : TextPart → Type 0
IsGood (Control byte) = ⊤
IsGood (Plain text) = Characters text

abbrev pub AreGood : List TextPart → Type 0
AreGood [] = ⊤
AreGood (part ∷ parts) = IsGood part × AreGood parts

not_empty : (xs ys : List ℕ) → 0 < length xs → (xs ++ ys) ≢ []
not_empty [] ys h e = omega arith
not_empty (x ∷ xs) ys h e = cc

all_after : (c : ℕ) (cs : List ℕ) → scalar c ≡ true → scalars cs ≡ true → scalars (c ∷ cs) ≡ true
all_after c cs s r = rw (s, r) refl

-- one character more
good_after : (c : ℕ) (parts : List TextPart) → IsScalar c → IsPrintable c → 0 < length (encode_utf8 c) → AreGood parts → AreGood (before_parts (encode_utf8 c) parts)
good_after c [] s p h g = (alone, tt)
  where
    alone : Characters (encode_utf8 c)
    alone = record { cs = c ∷ []; are = all_after c [] s refl; spell = append_nil (encode_utf8 c); some = λ e. not_empty (encode_utf8 c) [] h (append_nil (encode_utf8 c) ∙ e); printable = All-cons IsPrintable c [] p (All-nil IsPrintable) }
good_after c (Control byte ∷ parts) s p h g = (alone, g)
  where
    alone : Characters (encode_utf8 c)
    alone = record { cs = c ∷ []; are = all_after c [] s refl; spell = append_nil (encode_utf8 c); some = λ e. not_empty (encode_utf8 c) [] h (append_nil (encode_utf8 c) ∙ e); printable = All-cons IsPrintable c [] p (All-nil IsPrintable) }
good_after c (Plain text ∷ parts) s p h g = (more, g.1)
  where
    more : Characters (encode_utf8 c ++ text)
    more = record { cs = c ∷ g.0.cs; are = all_after c g.0.cs s g.0.are; spell = ap (λ t. encode_utf8 c ++ t) g.0.spell; some = not_empty (encode_utf8 c) text h; printable = All-cons IsPrintable c g.0.cs p g.0.printable }

long : (c : ℕ) → IsScalar c → 0 < length (encode_utf8 c)
long c s = by_kind (spelled c s)
  where
    by_kind : Spelled c → 0 < length (encode_utf8 c)
    by_kind (in_one l e) = rw e (omega arith)
    by_kind (in_two g l e) = rw e (omega arith)
    by_kind (in_three g l t e) = rw e (omega arith)
    by_kind (in_four g l e) = rw e (omega arith)

-- bytes that are printed go before the parts after them
parts_of_prefix : (prefix rest : List ℕ) → 0 < length prefix → IsPrinted prefix → text_parts (prefix ++ rest) ≡ before_parts prefix (text_parts rest)
parts_of_prefix [] rest l h = absurd (omega arith)
parts_of_prefix (b ∷ prefix) rest l h = parts_after b prefix rest h

-- ---- U+0080 to U+009F

pub no_c1_tail : (b : ℕ) (bytes : List ℕ) → holds_c1 (b ∷ bytes) ≡ false → holds_c1 bytes ≡ false
unfolding holds_c1
no_c1_tail b [] h = refl
no_c1_tail b (c ∷ bytes) h = (or_parts (is_c1 b c) (holds_c1 (c ∷ bytes)) h).1

pub no_c1_after : (prefix rest : List ℕ) → holds_c1 (prefix ++ rest) ≡ false → holds_c1 rest ≡ false
no_c1_after [] rest h = h
no_c1_after (b ∷ prefix) rest h = no_c1_after prefix rest (no_c1_tail b (prefix ++ rest) h)

is_pair : (x y : ℕ) → x ≡ 194 → 128 ≤ y → y < 160 → is_c1 x y ≡ true
is_pair x y e l h = grind (arith, nat_tests)

-- a character above ASCII is none of them
pub above : (c : ℕ) (rest : List ℕ) → IsScalar c → 128 ≤ c → holds_c1 (encode_utf8 c ++ rest) ≡ false → 0x9F < c
unfolding holds_c1
above c rest s l h = by_order (order c 160)
  where
    by_kind : c < 160 → Spelled c → 0x9F < c
    by_kind u (in_one m e) = absurd (omega arith)
    by_kind u (in_two g m e) =
        let k : holds_c1 ((192 + c / 64) ∷ (128 + c % 64) ∷ rest) ≡ false = sym (ap (λ bytes. holds_c1 (bytes ++ rest)) e) ∙ h in
        let no : is_c1 (192 + c / 64) (128 + c % 64) ≡ false = (or_parts (is_c1 (192 + c / 64) (128 + c % 64)) (holds_c1 ((128 + c % 64) ∷ rest)) k).0 in
        let yes : is_c1 (192 + c / 64) (128 + c % 64) ≡ true = is_pair (192 + c / 64) (128 + c % 64) (omega arith) (omega arith) (omega arith) in
        cc
    by_kind u (in_three g m t e) = absurd (omega arith)
    by_kind u (in_four g m e) = absurd (omega arith)

    by_order : (c < 160) ⊎ (160 ≤ c) → 0x9F < c
    by_order (inl u) = by_kind u (spelled c s)
    by_order (inr u) = omega arith

-- ---- a text

low_printable : (c : ℕ) → c < 128 → is_ascii_control c ≡ false → (0x20 ≤ c) × (c ≤ 0x7E)
low_printable c l e = (grind (arith, nat_tests), grind (arith, nat_tests))

character_good : (c : ℕ) (rest : List ℕ) → IsScalar c → IsPrintable c → AreGood (text_parts rest) → AreGood (text_parts (encode_utf8 c ++ rest))
character_good c rest s p g =
    subst AreGood (sym (parts_of_prefix (encode_utf8 c) rest (long c s) (character_printed c s p))) (good_after c (text_parts rest) s p (long c s) g)

control_good : (c : ℕ) (rest : List ℕ) → c < 128 → is_ascii_control c ≡ true → Spelled c → AreGood (text_parts rest) → AreGood (text_parts (encode_utf8 c ++ rest))
control_good c rest l e (in_one m k) g =
    subst (λ (bytes : List ℕ). AreGood (text_parts (bytes ++ rest))) (sym k) (subst AreGood (sym (ap (λ t. if t then Control c ∷ text_parts rest else with_byte c (text_parts rest)) e)) (tt, g))
control_good c rest l e (in_two h m k) g = absurd (omega arith)
control_good c rest l e (in_three h m t k) g = absurd (omega arith)
control_good c rest l e (in_four h m k) g = absurd (omega arith)

one_good : (c : ℕ) (rest : List ℕ) → IsScalar c → holds_c1 (encode_utf8 c ++ rest) ≡ false → AreGood (text_parts rest) → AreGood (text_parts (encode_utf8 c ++ rest))
one_good c rest s h g = by_order (order c 128)
  where
    by_test : (b : Bool) → is_ascii_control c ≡ b → c < 128 → AreGood (text_parts (encode_utf8 c ++ rest))
    by_test true e l = control_good c rest l e (spelled c s) g
    by_test false e l = character_good c rest s (inl (low_printable c l e)) g

    by_order : (c < 128) ⊎ (128 ≤ c) → AreGood (text_parts (encode_utf8 c ++ rest))
    by_order (inl l) = by_test (is_ascii_control c) refl l
    by_order (inr l) = character_good c rest s (inr (above c rest s l h)) g

all_good : (cs : List ℕ) → scalars cs ≡ true → holds_c1 (encode_utf8_all cs) ≡ false → AreGood (text_parts (encode_utf8_all cs))
all_good [] s h = tt
all_good (c ∷ cs) s h =
    let p = and_parts (scalar c) (scalars cs) s in
    one_good c (encode_utf8_all cs) p.0 h (all_good cs p.1 (no_c1_after (encode_utf8 c) (encode_utf8_all cs) h))

-- the parts of a text are controls and printable texts
pub parts_good : (text : List ℕ) → IsUtf8 text → holds_c1 text ≡ false → AreGood (text_parts text)
parts_good text u h = subst (λ (t : List ℕ). AreGood (text_parts t)) u.1.1 (all_good u.0 u.1.0 (ap holds_c1 u.1.1 ∙ h))

pub printable_text : (text : List ℕ) → Characters text → IsPrintableText text
printable_text text t = record {
  utf8 = (t.cs, (t.are, t.spell));
  some = t.some;
  printable = subst (All IsPrintable) (sym (ap chars (sym t.spell) ∙ chars-encodes t.cs t.are)) t.printable;
}
