-- Printable ASCII characters that another one follows are clusters by themselves.
use Rattle.std.proofs.Common.{◌≡◌, ℕ, zero, suc, ◌+◌, ◌-◌, ◌<◌, ◌≤◌, Bool, true, false, ◌&&◌, List, [], ◌∷◌, ◌++◌, length, map, take, drop, get_or, cond, IsUtf8, IsCharBoundary, refl, sym, ap, ap₂, subst, ◌∙◌, append-nil, eqb-true, arith}
use Rattle.std.specs.Prelude.{nat_le, nat_lt, ◌==◌, min, not, slice_index, encode_utf8_all, if◌then◌else◌}
use Rattle.std.specs.List.{list_all, prefix_len}
use Rattle.std.specs.Str.{chars, chars_after}
use Rattle.std.proofs.lemmas.Bool.{false≢true, lt-ltb, ltb-true, ltb-false, and_parts}
use Rattle.std.proofs.lemmas.Bool.{eq-eqb}
use Rattle.std.proofs.lemmas.List.{take_all, drop_all}
use Rattle.std.proofs.lemmas.List.Sums.{prefix_len-le-length, prefix_len_passes, prefix_len_stops}
use Rattle.std.proofs.lemmas.Str.{chars-nil, encode_ascii, IsCharBoundary-start, IsCharBoundary-end, IsCharBoundary-before_ascii}
use Rattle.unicode_segmentation.specs.Grapheme.{graphemes}
use Rattle.unicode_segmentation.specs.Segments.{cut, segments}
use Rattle.unicode_segmentation.proofs.GraphemeLemmas.{is_grapheme_break-others}
use Rattle.text_clusters.specs.Plain.{is_printable, each, plain_len}
use Rattle.text_clusters.proofs.CharacterFacts.{printable_is_other}
use Rattle.text_clusters.proofs.CutLemmas.{by_test, breaks, pieces, forgets, cut_after, cut_here, last_alone}

pub printable_below : (c : ℕ) → is_printable c ≡ true → c < 127
printable_below c p = ltb-true c 127 (and_parts (nat_le 32 c) (nat_lt c 127) p).1

pub chars-ascii : (c : ℕ) (s : List ℕ) → c < 128 → chars (c ∷ s) ≡ c ∷ chars s
unfolding chars
chars-ascii c [] h = let e = lt-ltb c 128 h in λ i. chars_after (cond (e i) 0 (cond (nat_lt c 224) 1 (cond (nat_lt c 240) 2 3))) (cond (e i) c (cond (nat_lt c 224) (c - 192) (cond (nat_lt c 240) (c - 224) (c - 240)))) []
chars-ascii c (d ∷ s) h = let e = lt-ltb c 128 h in λ i. chars_after (cond (e i) 0 (cond (nat_lt c 224) 1 (cond (nat_lt c 240) 2 3))) (cond (e i) c (cond (nat_lt c 224) (c - 192) (cond (nat_lt c 240) (c - 224) (c - 240)))) (d ∷ s)

encode_one : (c : ℕ) → c < 128 → encode_utf8_all (c ∷ []) ≡ c ∷ []
encode_one c h = ap (λ (b : List ℕ). b ++ []) (encode_ascii c h)

pub independent : (c d : ℕ) (rest : List ℕ) → is_printable c ≡ true → is_printable d ≡ true → graphemes true (c ∷ d ∷ rest) ≡ (c ∷ []) ∷ graphemes true (d ∷ rest)
unfolding segments
independent c d rest p q =
    let below = printable_below c p in
    let below_next = printable_below d q in
    let boundary : breaks (c ∷ []) (d ∷ chars rest) ≡ true = sym (is_grapheme_break-others true (c ∷ []) d (chars rest) (omega arith) (omega arith) (printable_is_other c below p) (printable_is_other d below_next q)) in
    ap (λ (cs : List ℕ). map encode_utf8_all (pieces [] cs)) (chars-ascii c (d ∷ rest) (omega arith) ∙ ap (λ (cs : List ℕ). c ∷ cs) (chars-ascii d rest (omega arith)))
    ∙ ap (map encode_utf8_all) (cut_here [] c (d ∷ chars rest) boundary ∙ ap (λ (ps : List (List ℕ)). (c ∷ []) ∷ ps) (cut_after d (c ∷ []) (forgets d c [] (chars rest) boundary) (chars rest)))
    ∙ (λ i. encode_one c (omega arith) i ∷ map encode_utf8_all (pieces [] (sym (chars-ascii d rest (omega arith)) i)))

pub one_alone : (c : ℕ) → is_printable c ≡ true → graphemes true (c ∷ []) ≡ (c ∷ []) ∷ []
unfolding segments
one_alone c p =
    let below = printable_below c p in
    ap (λ (cs : List ℕ). map encode_utf8_all (pieces [] cs)) (chars-ascii c [] (omega arith) ∙ ap (λ (cs : List ℕ). c ∷ cs) chars-nil)
    ∙ ap (map encode_utf8_all) (last_alone [] c) ∙ ap (λ (b : List ℕ). b ∷ []) (encode_one c (omega arith))

pub graphemes-nil : graphemes true [] ≡ []
unfolding segments chars cut
graphemes-nil = refl

pub prefix_printable : (c : ℕ) (rest : List ℕ) → 0 < prefix_len is_printable (c ∷ rest) → is_printable c ≡ true
prefix_printable c rest h = by_test (is_printable c) (λ e. e) (λ e. absurd (let none : prefix_len is_printable (c ∷ rest) ≡ 0 = ap (λ t. cond t (1 + prefix_len is_printable rest) 0) e in omega arith))

pub prefix_len_more : (c : ℕ) (rest : List ℕ) → is_printable c ≡ true → prefix_len is_printable (c ∷ rest) ≡ 1 + prefix_len is_printable rest
prefix_len_more c rest e = ap (λ t. cond t (1 + prefix_len is_printable rest) 0) e

-- before the last printable character each is a cluster
pub run : (n : ℕ) (text : List ℕ) → n < prefix_len is_printable text → graphemes true text ≡ each (take n text) ++ graphemes true (drop n text)
run zero text h = refl
run (suc n) [] h = absurd (omega arith)
run (suc n) (c ∷ []) h = absurd (let l = prefix_len_more c [] (prefix_printable c [] (omega arith)) in omega arith)
run (suc n) (c ∷ d ∷ rest) h =
    let p = prefix_printable c (d ∷ rest) (omega arith) in
    let l = prefix_len_more c (d ∷ rest) p in
    let q = prefix_printable d rest (omega arith) in
    independent c d rest p q ∙ ap (λ (gs : List (List ℕ)). (c ∷ []) ∷ gs) (run n (d ∷ rest) (omega arith))

pub whole_run : (text : List ℕ) → prefix_len is_printable text ≡ length text → graphemes true text ≡ each text
whole_run [] h = graphemes-nil
whole_run (c ∷ []) h = one_alone c (prefix_printable c [] (omega arith))
whole_run (c ∷ d ∷ rest) h =
    let p = prefix_printable c (d ∷ rest) (omega arith) in
    let l = prefix_len_more c (d ∷ rest) p in
    let q = prefix_printable d rest (omega arith) in
    independent c d rest p q ∙ ap (λ (gs : List (List ℕ)). (c ∷ []) ∷ gs) (whole_run (d ∷ rest) (omega arith))

-- ---- the plain prefix of a text

pub printable_prefix : (n : ℕ) (text : List ℕ) → n ≤ prefix_len is_printable text → list_all is_printable (take n text) ≡ true
printable_prefix zero text h = refl
printable_prefix (suc n) [] h = refl
printable_prefix (suc n) (c ∷ text) h =
    let p = prefix_printable c text (omega arith) in
    let l = prefix_len_more c text p in
    ap₂ ◌&&◌ p (printable_prefix n text (omega arith))

pub prefix_taken : (most : ℕ) (text : List ℕ) → prefix_len is_printable (take most text) ≡ min most (prefix_len is_printable text)
prefix_taken zero text = omega arith
prefix_taken (suc most) [] = omega arith
prefix_taken (suc most) (c ∷ text) = by_test (is_printable c)
    (λ e. let l = prefix_len_more c text e in let m = prefix_len_more c (take most text) e in let n = prefix_taken most text in omega arith)
    (λ e.
    let taken : prefix_len is_printable (c ∷ take most text) ≡ 0 = ap (λ t. cond t (1 + prefix_len is_printable (take most text)) 0) e in
    let all : prefix_len is_printable (c ∷ text) ≡ 0 = ap (λ t. cond t (1 + prefix_len is_printable text) 0) e in
    omega arith)

not_all : (b : Bool) → (b ≡ true → b ≡ false) → b ≡ false
not_all true f = f refl
not_all false f = refl

module _ (text : List ℕ) where
  abbrev here : ℕ
  here = prefix_len is_printable text

  within : here ≤ length text
  within = prefix_len-le-length is_printable text

  plain_all : (here == length text) ≡ true → plain_len text ≡ here
  plain_all e = ap (λ t. if t then here else here - 1) e

  plain_less : (here == length text) ≡ false → plain_len text ≡ here - 1
  plain_less e = ap (λ t. if t then here else here - 1) e

  plain_le : plain_len text ≤ here
  plain_le = by_test (here == length text) (λ e. let l = plain_all e in omega arith) (λ e. let l = plain_less e in omega arith)

  plain_cut : graphemes true text ≡ each (take (plain_len text) text) ++ graphemes true (drop (plain_len text) text)
  plain_cut = by_test (here == length text)
      (λ e.
      let all : here ≡ length text = eqb-true here (length text) e in
      whole_run text all ∙ sym (append-nil (each text)) ∙ ap (λ (gs : List (List ℕ)). each text ++ gs) (sym graphemes-nil)
      ∙ (λ i. each (sym (take_all here text (omega arith)) i) ++ graphemes true (sym (drop_all here text (omega arith)) i))
      ∙ ap (λ n. each (take n text) ++ graphemes true (drop n text)) (sym (plain_all e)))
      (λ e. by_test (nat_lt 0 here)
      (λ t.
      let some : 0 < here = ltb-true 0 here t in
      run (here - 1) text (omega arith) ∙ ap (λ n. each (take n text) ++ graphemes true (drop n text)) (sym (plain_less e)))
      (λ t.
      let none : here ≤ 0 = ltb-false 0 here t in
      let start : 0 ≡ here - 1 = omega arith in
      ap (λ n. each (take n text) ++ graphemes true (drop n text)) (start ∙ sym (plain_less e))))

  -- ---- a prefix of at most `most` bytes

  module _ (most : ℕ) where
    abbrev prefix : ℕ
    prefix = min most (plain_len text)

    prefix_le : prefix ≤ here
    prefix_le = let l = plain_le in omega arith

    pub prefix_printable_all : list_all is_printable (take prefix text) ≡ true
    prefix_printable_all = printable_prefix prefix text prefix_le

    pub prefix_cut : graphemes true text ≡ each (take prefix text) ++ graphemes true (drop prefix text)
    prefix_cut = by_test (nat_lt most (plain_len text))
        (λ t.
        let less : most < plain_len text = ltb-true most (plain_len text) t in
        let le = plain_le in
        run prefix text (omega arith))
        (λ t.
        let all : plain_len text ≤ most = ltb-false most (plain_len text) t in
        let is : plain_len text ≡ prefix = omega arith in
        plain_cut ∙ ap (λ n. each (take n text) ++ graphemes true (drop n text)) is)

    pub prefix_boundary : IsUtf8 text → IsCharBoundary text prefix
    prefix_boundary u = by_test (nat_lt prefix here)
        (λ t.
        let less : prefix < here = ltb-true prefix here t in
        let bound = within in
        let below = printable_below (get_or text prefix 0) (prefix_len_passes is_printable text prefix 0 (omega arith)) in
        IsCharBoundary-before_ascii text prefix (omega arith) (omega arith))
        (λ t.
        let ge : here ≤ prefix = ltb-false prefix here t in
        by_test (here == length text)
        (λ e.
        let all : here ≡ length text = eqb-true here (length text) e in
        let le = prefix_le in
        let is : length text ≡ prefix = omega arith in
        subst (IsCharBoundary text) is (IsCharBoundary-end text))
        (λ e.
        let l = plain_less e in
        let none : 0 ≡ prefix = omega arith in
        subst (IsCharBoundary text) none (IsCharBoundary-start text u)))

    -- ---- the bytes that the code scans

    run_len : prefix_len is_printable (take most text) ≡ min most here
    run_len = prefix_taken most text

    pub prefix_less : (run : ℕ) → run ≡ prefix_len is_printable (take most text) → (nat_lt run (length text) && not (is_printable (slice_index text run))) ≡ true → run - 1 ≡ prefix
    prefix_less run e o =
        let l = run_len in
        let inside : run < length text = ltb-true run (length text) (and_parts (nat_lt run (length text)) _ o).0 in
        let stops : run ≡ here = by_test (nat_lt run here)
        (λ t. absurd (false≢true (sym (ap not (prefix_len_passes is_printable text run 0 (ltb-true run here t))) ∙ (and_parts (nat_lt run (length text)) _ o).1)))
        (λ t. let ge = ltb-false run here t in omega arith) in
        let less = plain_less (not_all (here == length text) (λ e. absurd (let is = eqb-true here (length text) e in omega arith))) in
        omega arith

    pub prefix_all : (run : ℕ) → run ≡ prefix_len is_printable (take most text) → (nat_lt run (length text) && not (is_printable (slice_index text run))) ≡ false → run ≡ prefix
    prefix_all run e o =
        let l = run_len in
        let bound = within in
        by_test (nat_lt run (length text))
        (λ t.
        let inside : run < length text = ltb-true run (length text) t in
        let printable : not (is_printable (slice_index text run)) ≡ false = sym (ap (λ b. b && not (is_printable (slice_index text run))) t) ∙ o in
        let before : run < here = by_test (nat_lt run here)
        (λ b. ltb-true run here b)
        (λ b.
        let ge = ltb-false run here b in
        let is : run ≡ here = omega arith in
        absurd (false≢true (sym printable ∙ ap (λ n. not (is_printable (slice_index text n))) is ∙ ap not (prefix_len_stops is_printable text 0 (omega arith))))) in
        by_test (here == length text) (λ b. let k = plain_all b in omega arith) (λ b. let k = plain_less b in omega arith))
        (λ t.
        let ge = ltb-false run (length text) t in
        let is : here ≡ length text = omega arith in
        let k = plain_all (eq-eqb here (length text) is) in
        omega arith)

-- ---- the first bytes

pub take_at_most : (n : ℕ) (xs : List ℕ) → take (min n (length xs)) xs ≡ take n xs
take_at_most n xs = by_test (nat_lt n (length xs))
    (λ t. let less = ltb-true n (length xs) t in let is : min n (length xs) ≡ n = omega arith in ap (λ m. take m xs) is)
    (λ t.
    let ge = ltb-false n (length xs) t in
    let is : min n (length xs) ≡ length xs = omega arith in
    ap (λ m. take m xs) is ∙ take_all (length xs) xs (omega arith) ∙ sym (take_all n xs ge))
