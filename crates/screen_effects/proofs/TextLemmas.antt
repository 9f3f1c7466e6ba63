-- Texts cut at their controls.
use Rattle.std.proofs.Common.{◌≡◌, ℕ, suc, ◌+◌, ◌<◌, Bool, true, false, List, [], ◌∷◌, ◌++◌, length, get_or, take, drop, map, refl, sym, ap, subst, ◌∙◌, arith}
use Rattle.std.specs.Prelude.{IsUtf8, ◌==◌, ◌&&◌, not, cond, nat_lt, if◌then◌else◌, IsCharBoundary}
use Rattle.std.specs.List.{concat, list_all, prefix_len}
use Rattle.std.specs.Char.{is_ascii_control}
use Rattle.std.proofs.lemmas.Bool.{and_parts, and_from, eqb-true, ltb-true, ltb-false, false≢true}
use Rattle.std.proofs.lemmas.List.Folds.{list_all-append}
use Rattle.std.proofs.lemmas.List.Sums.{prefix_len-le-length, prefix_len_stops}
use Rattle.std.proofs.lemmas.Str.{IsCharBoundary-end, IsCharBoundary-after_ascii, IsCharBoundary-before_ascii}
use Rattle.std.proofs.lemmas.Bool.Decides.{nat_tests}
use Rattle.std.proofs.lemmas.List.{drop_all, take_all}
use Rattle.unicode_segmentation.specs.Grapheme.{graphemes}
use Rattle.text_clusters.specs.Plain.{is_printable}
use Rattle.text_clusters.proofs.PlainLemmas.{graphemes-nil, printable_prefix}
use Rattle.cell_base.specs.CellContent.{shows_as_space}
use Rattle.cell_base.specs.Cluster.{clusters, is_cluster, read_cluster}
use Rattle.screen_effects.specs.Parts.{stand, IsAtControl, plain_part}
use Rattle.screen_effects.specs.Strokes.{TextPart, Control, Plain, text_parts, with_byte}

pub is_plain : ℕ → Bool
is_plain byte = not (is_ascii_control byte)

by_test : {P : Type 0} (b : Bool) → (b ≡ true → P) → (b ≡ false → P) → P
by_test true p q = p refl
by_test false p q = q refl

-- ---- the prefix without controls, and the text after it

prefix : List ℕ → List ℕ
prefix [] = []
prefix (b ∷ text) = if is_ascii_control b then [] else b ∷ prefix text

after : List ℕ → List ℕ
after [] = []
after (b ∷ text) = if is_ascii_control b then b ∷ text else after text

abbrev plain_len : List ℕ → ℕ
plain_len text = prefix_len (λ byte. not (is_ascii_control byte)) text

prefix_is : (text : List ℕ) → take (plain_len text) text ≡ prefix text
unfolding prefix
prefix_is [] = refl
prefix_is (b ∷ text) = elim (is_ascii_control b) as (λ x. take (cond (not x) (1 + plain_len text) 0) (b ∷ text) ≡ (if x then [] else b ∷ prefix text)) [
  | true ↦ refl
  | false ↦ let e : 1 + plain_len text ≡ suc (plain_len text) = omega arith in ap (λ n. take n (b ∷ text)) e ∙ ap (λ (t : List ℕ). b ∷ t) (prefix_is text)
]

after_is : (text : List ℕ) → drop (plain_len text) text ≡ after text
unfolding after
after_is [] = refl
after_is (b ∷ text) = elim (is_ascii_control b) as (λ x. drop (cond (not x) (1 + plain_len text) 0) (b ∷ text) ≡ (if x then b ∷ text else after text)) [
  | true ↦ refl
  | false ↦ let e : 1 + plain_len text ≡ suc (plain_len text) = omega arith in ap (λ n. drop n (b ∷ text)) e ∙ after_is text
]

at_control : (text : List ℕ) → IsAtControl (after text)
unfolding after
at_control [] = tt
at_control (b ∷ text) = by_test (is_ascii_control b) (λ e. rw e e) (λ e. rw e (at_control text))

-- a byte before parts that begin with a control, or with none
single : (b : ℕ) (x : ℕ) (text : List ℕ) → is_ascii_control x ≡ true → with_byte b (text_parts (x ∷ text)) ≡ Plain (b ∷ []) ∷ text_parts (x ∷ text)
single b x text e = ap (λ (t : Bool). with_byte b (if t then Control x ∷ text_parts text else with_byte x (text_parts text))) e ∙ ap (λ (ps : List TextPart). Plain (b ∷ []) ∷ ps) (sym (ap (λ (t : Bool). if t then Control x ∷ text_parts text else with_byte x (text_parts text)) e))

module _ (b : ℕ) (text : List ℕ) where
  parts_with : Bool → List TextPart
  parts_with x = if x then Control b ∷ text_parts text else with_byte b (text_parts text)

  prefix_with : is_ascii_control b ≡ true → prefix (b ∷ text) ≡ []
  unfolding prefix
  prefix_with e = ap (λ x. if x then [] else b ∷ prefix text) e

  after_with : is_ascii_control b ≡ true → after (b ∷ text) ≡ b ∷ text
  unfolding after
  after_with e = ap (λ x. if x then b ∷ text else after text) e

  prefix_on : is_ascii_control b ≡ false → prefix (b ∷ text) ≡ b ∷ prefix text
  unfolding prefix
  prefix_on e = ap (λ x. if x then [] else b ∷ prefix text) e

  after_on : is_ascii_control b ≡ false → after (b ∷ text) ≡ after text
  unfolding after
  after_on e = ap (λ x. if x then b ∷ text else after text) e

  parts_on : is_ascii_control b ≡ false → text_parts (b ∷ text) ≡ with_byte b (text_parts text)
  unfolding parts_with
  parts_on e = ap parts_with e

  at_first : is_ascii_control b ≡ true → text_parts (b ∷ text) ≡ plain_part (prefix (b ∷ text)) ++ text_parts (after (b ∷ text))
  at_first e = sym (λ i. plain_part (prefix_with e i) ++ text_parts (after_with e i))

parts_are : (text : List ℕ) → text_parts text ≡ plain_part (prefix text) ++ text_parts (after text)
unfolding prefix after
parts_are [] = refl
parts_are (b ∷ []) = by_test (is_ascii_control b) (at_first b []) (λ e. parts_on b [] e ∙ sym (λ i. plain_part (prefix_on b [] e i) ++ text_parts (after_on b [] e i)))
parts_are (b ∷ x ∷ text) = by_test (is_ascii_control b) (at_first b (x ∷ text))
    (λ e. parts_on b (x ∷ text) e
    ∙ by_test (is_ascii_control x)
    (λ k. single b x text k ∙ sym (λ i. plain_part (b ∷ prefix_with x text k i) ++ text_parts (after_with x text k i)))
    (λ k. ap (with_byte b) (parts_are (x ∷ text)) ∙ ap (λ f. with_byte b (plain_part f ++ text_parts (after (x ∷ text)))) (prefix_on x text k) ∙ ap (λ f. plain_part (b ∷ f) ++ text_parts (after (x ∷ text))) (sym (prefix_on x text k)))
    ∙ sym (λ i. plain_part (prefix_on b (x ∷ text) e i) ++ text_parts (after_on b (x ∷ text) e i)))

pub parts_cut : (text : List ℕ) → text_parts text ≡ plain_part (take (plain_len text) text) ++ text_parts (drop (plain_len text) text)
parts_cut text = parts_are text ∙ (λ i. plain_part (sym (prefix_is text) i) ++ text_parts (sym (after_is text) i))

pub control_next : (text : List ℕ) → IsAtControl (drop (plain_len text) text)
control_next text = subst IsAtControl (sym (after_is text)) (at_control text)

prefix_plain : (text : List ℕ) → list_all is_plain (prefix text) ≡ true
unfolding prefix is_plain
prefix_plain [] = refl
prefix_plain (b ∷ text) = by_test (is_ascii_control b) (λ e. ap (list_all is_plain) (prefix_with b text e)) (λ e. ap (list_all is_plain) (prefix_on b text e) ∙ and_from (is_plain b) (list_all is_plain (prefix text)) (ap not e) (prefix_plain text))

-- ---- a cell can hold each cluster of a text without controls

alone : (g : List ℕ) → list_all is_plain g ≡ true → is_cluster g ≡ true → shows_as_space g ≡ false
unfolding is_plain
alone [] p c = absurd (false≢true (sym (ap (λ (gs : List (List ℕ)). length gs == 1) graphemes-nil) ∙ c))
alone (a ∷ []) p c = by_test (is_ascii_control a) (λ e. absurd (false≢true (sym (ap (λ b. not b && true) e) ∙ p))) (λ e. e)
alone (a ∷ b ∷ []) p c = by_test (a == 13) (λ e. absurd (false≢true (sym (ap (λ c. not c && (is_plain b && true)) (ap is_ascii_control (eqb-true a 13 e))) ∙ p))) (λ e. rw e refl)
alone (a ∷ b ∷ d ∷ rest) p c = refl

each_stands : (gs : List (List ℕ)) → list_all is_plain (concat gs) ≡ true → stand (map read_cluster gs) ≡ true
each_stands [] p = refl
each_stands (g ∷ gs) p =
    let parts = and_parts (list_all is_plain g) (list_all is_plain (concat gs)) (sym (list_all-append is_plain g (concat gs)) ∙ p) in
    and_from (not (shows_as_space (read_cluster g))) (stand (map read_cluster gs))
    (by_test (is_cluster g) (λ e. rw e (ap not (alone g parts.0 e))) (λ e. rw e refl))
    (each_stands gs parts.1)

pub prefix_stands : (text shown : List ℕ) → shown ≡ take (plain_len text) text → concat (graphemes true shown) ≡ shown → stand (clusters shown) ≡ true
prefix_stands text shown e whole = each_stands (graphemes true shown) (ap (list_all is_plain) (whole ∙ e ∙ prefix_is text) ∙ prefix_plain text)

-- ---- where a text may be cut

below_space : (b : ℕ) → is_ascii_control b ≡ true → b < 128
below_space b e = grind (arith, nat_tests)

pub cut_boundary : (text : List ℕ) → IsCharBoundary text (plain_len text)
cut_boundary text = by_test (nat_lt (plain_len text) (length text))
    (λ t.
    let less = ltb-true (plain_len text) (length text) t in
    let stops : not (is_ascii_control (get_or text (plain_len text) 0)) ≡ false = prefix_len_stops (λ byte. not (is_ascii_control byte)) text 0 less in
    IsCharBoundary-before_ascii text (plain_len text) less (below_space _ (not_false (is_ascii_control (get_or text (plain_len text) 0)) stops)))
    (λ t.
    let le = prefix_len-le-length (λ byte. not (is_ascii_control byte)) text in
    let ge = ltb-false (plain_len text) (length text) t in
    let is : length text ≡ plain_len text = omega arith in
    subst (IsCharBoundary text) is (IsCharBoundary-end text))
  where
    not_false : (b : Bool) → not b ≡ false → b ≡ true
    not_false true e = refl
    not_false false e = sym e

pub control_boundary : (text : List ℕ) → IsUtf8 text → IsAtControl text → 0 < length text → IsCharBoundary text 1
control_boundary [] u e h = absurd (omega arith)
control_boundary (b ∷ text) u e h = IsCharBoundary-after_ascii (b ∷ text) 0 u h (below_space b e)

-- ---- a text of printable characters alone

pub all_printable : (text : List ℕ) → prefix_len is_printable text ≡ length text → list_all is_printable text ≡ true
all_printable text e = ap (list_all is_printable) (sym (take_all (length text) text (omega arith))) ∙ printable_prefix (length text) text (omega arith)

pub printable_all : (text : List ℕ) → list_all is_printable text ≡ true → prefix_len is_printable text ≡ length text
printable_all [] p = refl
printable_all (b ∷ text) p =
    let parts = and_parts (is_printable b) (list_all is_printable text) p in
    let rest = printable_all text parts.1 in
    ap (λ x. cond x (1 + prefix_len is_printable text) 0) parts.0 ∙ omega arith

printable_is_plain : (b : ℕ) → is_printable b ≡ true → is_ascii_control b ≡ false
printable_is_plain b e = grind (arith, nat_tests)

no_control : (text : List ℕ) → list_all is_printable text ≡ true → plain_len text ≡ length text
no_control [] p = refl
no_control (b ∷ text) p =
    let parts = and_parts (is_printable b) (list_all is_printable text) p in
    let rest = no_control text parts.1 in
    ap (λ x. cond (not x) (1 + plain_len text) 0) (printable_is_plain b parts.0) ∙ omega arith

-- it is one part
pub plain_parts : (text : List ℕ) → list_all is_printable text ≡ true → text_parts text ≡ plain_part text ++ text_parts []
plain_parts text p =
    let all = no_control text p in
    parts_cut text ∙ (λ i. plain_part ((ap (λ n. take n text) all ∙ take_all (length text) text (omega arith)) i) ++ text_parts ((ap (λ n. drop n text) all ∙ drop_all (length text) text (omega arith)) i))

-- and a cell can hold each of its clusters
pub plain_stands : (text : List ℕ) → list_all is_printable text ≡ true → concat (graphemes true text) ≡ text → stand (clusters text) ≡ true
plain_stands text p whole = prefix_stands text text (sym (ap (λ n. take n text) (no_control text p) ∙ take_all (length text) text (omega arith))) whole
