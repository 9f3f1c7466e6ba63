-- Facts on the letters of a selection and their bits.
use Rattle.std.proofs.Common.{◌≡◌, ℕ, ◌+◌, ◌^◌, ◌==◌, ◌<◌, ◌≤◌, ◌⊎◌, inl, inr, true, false, List, [], ◌∷◌, length, get_or, drop, refl, ap, sym, ◌∙◌, arith, Option, Some, None, option_map, codes, eq-eqb, eqb-true, ne_eqb, lit<}
use Rattle.std.specs.List.{AllByRecursion, flat_map, find}
use Rattle.std.specs.Int.RustNames.{bit_and, bit_or}
use Rattle.std.specs.Int.Bits.{or_zero_l, or_zero_r, and_zero_l, and_zero_r}
use Rattle.std.specs.Int.{bit_at}
use Rattle.std.proofs.lemmas.Bool.{cases_Bool, cases_eq}
use Rattle.std.proofs.lemmas.List.{at_drop_more, at_drop_all, nil_from_length}
use Rattle.std.proofs.lemmas.Nat.{or_comm, and_comm}
use Rattle.std.proofs.lemmas.Option.{same_Some}
use Rattle.escape_osc.proofs.Cases.{option_cases}
use Rattle.std.proofs.lemmas.Nat.Bits.{bit_at_or, bit_at_and, bit_at-lt, and_pow, same_from_bits}
use Rattle.escape_osc.specs.Selection.{Letter, letters, letter_bits, letters_bits, letter_if_held, letters_of, selection_reading, default_selection}

pub or_assoc : (a b c : ℕ) → bit_or (bit_or a b) c ≡ bit_or a (bit_or b c)
or_assoc a b c = same_from_bits _ _ (λ i. omega (arith, bit_at_or (bit_or a b) c i, bit_at_or a b i, bit_at_or a (bit_or b c) i, bit_at_or b c i))

pub or_zero : (a : ℕ) → bit_or a 0 ≡ a
or_zero a = or_zero_r a

-- the steps of a walk over letters, with the bits so far
or_map : (a b : ℕ) (o : Option ℕ) → option_map (bit_or a) (option_map (bit_or b) o) ≡ option_map (bit_or (bit_or a b)) o
or_map a b None = refl
or_map a b (Some c) = ap Some (sym (or_assoc a b c))

letters_bits-cons : (letter bits : ℕ) (rest : List ℕ) → letter_bits letter ≡ Some bits → letters_bits (letter ∷ rest) ≡ option_map (bit_or bits) (letters_bits rest)
unfolding letters_bits
letters_bits-cons letter bits rest is = rw is refl

letters_bits-cons_none : (letter : ℕ) (rest : List ℕ) → letter_bits letter ≡ None → letters_bits (letter ∷ rest) ≡ None
unfolding letters_bits
letters_bits-cons_none letter rest is = rw is refl

pub letters_next : (text : List ℕ) (i all bits : ℕ) → i < length text → letter_bits (get_or text i 0) ≡ Some bits
    → option_map (bit_or all) (letters_bits (drop i text)) ≡ option_map (bit_or (bit_or all bits)) (letters_bits (drop (i + 1) text))
letters_next text i all bits below is =
    at_drop_more (λ t. option_map (bit_or all) (letters_bits t)) text i 0 below
    ∙ ap (option_map (bit_or all)) (letters_bits-cons (get_or text i 0) bits (drop (i + 1) text) is)
    ∙ or_map all bits (letters_bits (drop (i + 1) text))

pub letters_refused : (text : List ℕ) (i all : ℕ) → i < length text → letter_bits (get_or text i 0) ≡ None
    → option_map (bit_or all) (letters_bits (drop i text)) ≡ None
letters_refused text i all below is =
    at_drop_more (λ t. option_map (bit_or all) (letters_bits t)) text i 0 below
    ∙ ap (option_map (bit_or all)) (letters_bits-cons_none (get_or text i 0) (drop (i + 1) text) is)

pub letters_end : (text : List ℕ) (i all : ℕ) → length text ≤ i → option_map (bit_or all) (letters_bits (drop i text)) ≡ Some all
unfolding letters_bits
letters_end text i all h = at_drop_all (λ t. option_map (bit_or all) (letters_bits t)) text i h ∙ ap Some (or_zero all)

pub ruleset letters_steps = (letters_next, letters_refused, letters_end)

-- ---- letters that were read are written so that they read back

and_or : (a b c : ℕ) → bit_and a (bit_or b c) ≡ bit_or (bit_and a b) (bit_and a c)
and_or a b c = same_from_bits _ _ (λ i. omega (arith, bit_at_and a (bit_or b c) i, bit_at_or b c i, bit_at_or (bit_and a b) (bit_and a c) i, bit_at_and a b i, bit_at_and a c i))

and_absorbs : (a b : ℕ) → bit_and a (bit_or a b) ≡ a
and_absorbs a b = same_from_bits _ _ (λ i. omega (arith, bit_at_and a (bit_or a b) i, bit_at_or a b i))

or_keeps : (a b : ℕ) → bit_or a (bit_and a b) ≡ a
or_keeps a b = same_from_bits _ _ (λ i. omega (arith, bit_at_or a (bit_and a b) i, bit_at_and a b i))

-- a number has one bit or it has not
single_bit : (k a : ℕ) → (bit_and a (2 ^ k) ≡ 2 ^ k) ⊎ (bit_and a (2 ^ k) ≡ 0)
single_bit k a = elim (cases_eq (bit_at a k) 1) [
  | inl one ↦ inl (rw (and_pow a k, one) (omega arith))
  | inr other ↦
      let none : bit_at a k ≡ 0 = omega (arith, bit_at-lt a k) in
      inr (rw (and_pow a k, none) (omega arith))
]

-- all bits of some rows
abbrev pub all_bits : List Letter → ℕ
all_bits [] = 0
all_bits (l ∷ rows) = bit_or l.bits (all_bits rows)

-- a row's letter reads as the row's bits, and any number has all of these bits or none
abbrev IsRow : Letter → Type 0
IsRow l = (letter_bits l.letter ≡ Some l.bits) × ((a : ℕ) → (bit_and a l.bits ≡ l.bits) ⊎ (bit_and a l.bits ≡ 0))

letters_rows : AllByRecursion IsRow letters
unfolding letter_bits
letters_rows =
    ((refl, single_bit 1), ((refl, single_bit 2), ((refl, single_bit 3), ((refl, single_bit 4), ((refl, single_bit 5), ((refl, single_bit 6), ((refl, single_bit 7), ((refl, single_bit 8), ((refl, single_bit 9), ((refl, single_bit 10), ((refl, single_bit 11), ((refl, single_bit 12), ((refl, single_bit 13), tt)))))))))))))

-- the letters of some rows read as the bits that are held
letters_bits-rows : (rows : List Letter) (bits : ℕ) → AllByRecursion IsRow rows → letters_bits (flat_map (letter_if_held bits) rows) ≡ Some (bit_and bits (all_bits rows))
unfolding letters_bits
letters_bits-rows [] bits h = ap Some (sym (and_zero_r bits))
letters_bits-rows (l ∷ rows) bits h = elim (h.0.1 bits) [
  | inl held ↦
      let test : (bit_and bits l.bits == l.bits) ≡ true = eq-eqb _ _ held in
      rw test
      (letters_bits-cons l.letter l.bits _ h.0.0 ∙ ap (option_map (bit_or l.bits)) (letters_bits-rows rows bits h.1)
      ∙ ap Some (sym (and_or bits l.bits (all_bits rows) ∙ ap (λ a. bit_or a (bit_and bits (all_bits rows))) held)))
  | inr none ↦ elim (cases_Bool (bit_and bits l.bits == l.bits)) [
    | inl test ↦
        let held : bit_and bits l.bits ≡ l.bits = eqb-true _ _ test in
        rw test
        (letters_bits-cons l.letter l.bits _ h.0.0 ∙ ap (option_map (bit_or l.bits)) (letters_bits-rows rows bits h.1)
        ∙ ap Some (sym (and_or bits l.bits (all_bits rows) ∙ ap (λ a. bit_or a (bit_and bits (all_bits rows))) held)))
    | inr test ↦
        rw test
        (letters_bits-rows rows bits h.1
        ∙ ap Some (sym (and_or bits l.bits (all_bits rows) ∙ ap (λ a. bit_or a (bit_and bits (all_bits rows))) none ∙ or_zero_l _)))
  ]
]

-- a bit of one row is among all bits
find-all_bits : (rows : List Letter) (letter bits : ℕ) → option_map (λ l. l.bits) (find (λ l. l.letter == letter) rows) ≡ Some bits → bit_and bits (all_bits rows) ≡ bits
find-all_bits [] letter bits h = cc
find-all_bits (l ∷ rows) letter bits h = elim (cases_Bool (l.letter == letter)) [
  | inl same ↦
      let e : l.bits ≡ bits = same_Some _ _ (rw same at h) in
      rw (← e) (and_absorbs l.bits (all_bits rows))
  | inr other ↦
      let below = find-all_bits rows letter bits (rw other at h) in
      and_or bits l.bits (all_bits rows) ∙ ap (bit_or (bit_and bits l.bits)) below ∙ or_comm (bit_and bits l.bits) bits ∙ or_keeps bits l.bits
]

-- the bits of a letter are among all bits, and some bit is there
letter_known : (letter bits : ℕ) → letter_bits letter ≡ Some bits → bit_and bits (all_bits letters) ≡ bits
unfolding letter_bits
letter_known letter bits h = find-all_bits letters letter bits h

find-some_bit : (rows : List Letter) (letter bits : ℕ) → AllByRecursion (λ l. 0 < l.bits) rows → option_map (λ l. l.bits) (find (λ l. l.letter == letter) rows) ≡ Some bits → 0 < bits
find-some_bit [] letter bits h e = cc
find-some_bit (l ∷ rows) letter bits h e = elim (cases_Bool (l.letter == letter)) [
  | inl same ↦ let b : l.bits ≡ bits = same_Some _ _ (rw same at e) in let low = h.0 in omega arith
  | inr other ↦ find-some_bit rows letter bits h.1 (rw other at e)
]

letter_some_bit : (letter bits : ℕ) → letter_bits letter ≡ Some bits → 0 < bits
unfolding letter_bits
letter_some_bit letter bits h = find-some_bit letters letter bits (lit< tt, (lit< tt, (lit< tt, (lit< tt, (lit< tt, (lit< tt, (lit< tt, (lit< tt, (lit< tt, (lit< tt, (lit< tt, (lit< tt, (lit< tt, tt))))))))))))) h

or_above : (a b : ℕ) → 0 < a → 0 < bit_or a b
or_above a b h = elim (cases_eq (bit_or a b) 0) [
  | inl none ↦
      let e : a ≡ 0 = sym (and_absorbs a b) ∙ ap (bit_and a) none ∙ and_zero_r a in
      absurd (omega arith)
  | inr some ↦ omega arith
]

-- the bits that letters read as are among all bits
letters_known : (text : List ℕ) (bits : ℕ) → letters_bits text ≡ Some bits → bit_and bits (all_bits letters) ≡ bits
unfolding letters_bits
letters_known [] bits h = let e : 0 ≡ bits = same_Some _ _ h in rw (← e) (and_zero_l (all_bits letters))
letters_known (letter ∷ text) bits h = elim (option_cases (letter_bits letter)) [
  | inl none ↦ cc (rw none at h)
  | inr (first, is) ↦ elim (option_cases (letters_bits text)) [
    | inl none ↦ cc (rw (is, none) at h)
    | inr (rest, more) ↦
        let e : bit_or first rest ≡ bits = same_Some _ _ (rw (is, more) at h) in
        rw (← e)
        (and_comm _ _ ∙ and_or (all_bits letters) first rest
        ∙ ap (λ a. bit_or a (bit_and (all_bits letters) rest)) (and_comm _ _ ∙ letter_known letter first is)
        ∙ ap (bit_or first) (and_comm _ _ ∙ letters_known text rest more))
  ]
]

letters_some_bit : (text : List ℕ) (bits : ℕ) → 0 < length text → letters_bits text ≡ Some bits → 0 < bits
unfolding letters_bits
letters_some_bit [] bits some h = absurd (omega arith)
letters_some_bit (letter ∷ text) bits some h = elim (option_cases (letter_bits letter)) [
  | inl none ↦ cc (rw none at h)
  | inr (first, is) ↦ elim (option_cases (letters_bits text)) [
    | inl none ↦ cc (rw (is, none) at h)
    | inr (rest, more) ↦
        let e : bit_or first rest ≡ bits = same_Some _ _ (rw (is, more) at h) in
        rw (← e) (or_above first rest (letter_some_bit letter first is))
  ]
]

letters_bits-nil : letters_bits [] ≡ Some 0
unfolding letters_bits
letters_bits-nil = refl

default_letters : letters_bits (codes "s0") ≡ Some default_selection
unfolding letters_bits letter_bits
default_letters = refl

-- a selection that some letters name is named by its own letters
pub selection_known : (bits : ℕ) → bit_and bits (all_bits letters) ≡ bits → 0 < bits → selection_reading (letters_of bits) ≡ Some bits
unfolding selection_reading letters_of
selection_known bits known some =
    let back : letters_bits (flat_map (letter_if_held bits) letters) ≡ Some bits = letters_bits-rows letters bits letters_rows ∙ ap Some known in
    elim (cases_eq (length (flat_map (letter_if_held bits) letters)) 0) [
      | inl empty ↦
          let none : Some 0 ≡ Some bits = sym letters_bits-nil ∙ ap letters_bits (sym (nil_from_length _ empty)) ∙ back in
          let zero : 0 ≡ bits = same_Some _ _ none in
          absurd (omega arith)
      | inr full ↦ rw (ne_eqb (length (flat_map (letter_if_held bits) letters)) 0 full) back
    ]

-- and a selection that letters name has some bit, and only bits of letters
pub selection_named : (text : List ℕ) (bits : ℕ) → selection_reading text ≡ Some bits → (bit_and bits (all_bits letters) ≡ bits) × (0 < bits)
unfolding selection_reading
selection_named text bits h = elim (cases_eq (length text) 0) [
  | inl empty ↦
      let e : default_selection ≡ bits = same_Some _ _ (rw (eq-eqb (length text) 0 empty) at h) in
      rw (← e) (letters_known (codes "s0") default_selection default_letters, omega arith)
  | inr full ↦
      let e : letters_bits text ≡ Some bits = rw (ne_eqb (length text) 0 full) at h in
      (letters_known text bits e, letters_some_bit text bits (omega arith) e)
]

pub selection_back : (text : List ℕ) (bits : ℕ) → selection_reading text ≡ Some bits → selection_reading (letters_of bits) ≡ Some bits
selection_back text bits h = let named = selection_named text bits h in selection_known bits named.0 named.1

-- ---- the bytes of letters

pub letter_bytes : (P : ℕ → Type 0) (rows : List Letter) (bits : ℕ) → AllByRecursion (λ l. P l.letter) rows → AllByRecursion P (flat_map (letter_if_held bits) rows)
letter_bytes P [] bits h = tt
letter_bytes P (l ∷ rows) bits h = elim (cases_Bool (bit_and bits l.bits == l.bits)) [
  | inl held ↦ rw held (h.0, letter_bytes P rows bits h.1)
  | inr other ↦ rw other (letter_bytes P rows bits h.1)
]

-- none is `;`
pub letters_piece : (bits : ℕ) → AllByRecursion (λ b. (b == 59) ≡ false) (letters_of bits)
unfolding letters_of
letters_piece bits = letter_bytes (λ b. (b == 59) ≡ false) letters bits
    (refl, (refl, (refl, (refl, (refl, (refl, (refl, (refl, (refl, (refl, (refl, (refl, (refl, tt)))))))))))))

-- each is ASCII
pub letters_ascii : (bits : ℕ) → AllByRecursion (λ b. b < 128) (letters_of bits)
unfolding letters_of
letters_ascii bits = letter_bytes (λ b. b < 128) letters bits
    (lit< tt, (lit< tt, (lit< tt, (lit< tt, (lit< tt, (lit< tt, (lit< tt, (lit< tt, (lit< tt, (lit< tt, (lit< tt, (lit< tt, (lit< tt, tt)))))))))))))
