-- The cells of a text that is cut, after each change.
use Rattle.std.proofs.Common.{◌≡◌, ℕ, ◌+◌, ◌-◌, ◌≤◌, Bool, true, false, List, [], ◌∷◌, ◌++◌, length, map, take, replicate, refl, sym, ap, subst, ◌∙◌, arith, length-append, eqb-true, eq-eqb, IsUtf8}
use Rattle.std.specs.Prelude.{cond, ◌&&◌, ◌==◌, IsTrue, ◌↔◌}
use Rattle.std.specs.List.{list_all, concat}
use Rattle.std.specs.Str.{is_utf8}
use Rattle.std.specs.String.{string_bytes}
use Rattle.std.proofs.lemmas.Bool.{cond-true, and_parts, false≢true}
use Rattle.std.proofs.lemmas.List.{append-nil, take_all}
use Rattle.std.proofs.lemmas.Str.{is_utf8-from_IsUtf8, IsUtf8-from_ascii}
use Rattle.std.proofs.lemmas.Str.Ascii.{IsAscii-nil, IsAscii-cons}
use Rattle.unicode_segmentation.specs.Grapheme.{graphemes}
use Rattle.text_clusters.specs.Plain.{each, is_printable}
use Rattle.text_clusters.proofs.PlainLemmas.{printable_below}
use Rattle.screen_change.specs.ChangeValue.{ChangeValue, Text}
use Rattle.screen_change.specs.Cuts.{cut_at, bytes_of}
use Rattle.screen_change.specs.Texts.{same_texts, stay_independent, texts}
use Rattle.screen_change.specs.declared.cut_cells.CutCells.{CutCells}
use Rattle.screen_change.proofs.CutLemmas.{bytes_of-append, bytes_of-ones, cut_more, cut_ones, cut_push, concat-cut, cut_none, none_cut, utf8_more, utf8_push}
use Rattle.screen_change.proofs.TextLemmas.{no_texts, one_text, each_text}

-- the lengths of the first cells of a text, with their sum
pub record IsCut (text lens : List ℕ) (bytes : ℕ) : Type 0 where
  pub bytes_are : bytes ≡ bytes_of lens
  pub within : bytes ≤ length text
  pub parts : list_all is_utf8 (cut_at lens text) ≡ true

pub cut_of : (t : CutCells) → IsCut (string_bytes t.text) t.lens.items t.sized_bytes
cut_of t = record { bytes_are = t.bytes; within = omega (arith, t.within, t.text.bytes.ok.0); parts = t.parts }

pub fits : (text lens : List ℕ) (b : ℕ) → IsCut text lens b → bytes_of lens ≤ length text
fits text lens b h = let e = h.bytes_are in let l = h.within in omega (arith, e, l)

-- ---- no cell

pub empty_is : (text lens : List ℕ) (m n : ℕ) (none : Bool) → m ≡ length text → n ≡ length lens → true ≡ (m == 0) → none ≡ (n == 0) → IsTrue none ↔ (cut_at lens text ≡ [])
empty_is text lens m n none p q e f =
    (λ t. none_cut lens text (sym p ∙ eqb-true m 0 (sym e)) (sym q ∙ eqb-true n 0 (sym f ∙ t)), λ t. f ∙ eq-eqb n 0 (q ∙ (cut_none lens text t).1))

pub filled_is : (text lens : List ℕ) (m : ℕ) (none : Bool) → m ≡ length text → none ≡ false → false ≡ (m == 0) → IsTrue none ↔ (cut_at lens text ≡ [])
filled_is text lens m none p n e = (λ t. absurd (false≢true (sym n ∙ t)), λ t. absurd (false≢true (e ∙ eq-eqb m 0 (p ∙ (cut_none lens text t).0))))

-- ---- bytes after all cells

-- printable characters are UTF-8, each by itself
pub printable_utf8 : (text : List ℕ) → list_all is_printable text ≡ true → list_all is_utf8 (each text) ≡ true
printable_utf8 [] h = refl
printable_utf8 (byte ∷ text) h =
    let parts = and_parts (is_printable byte) (list_all is_printable text) h in
    let below = printable_below byte parts.0 in
    let one = is_utf8-from_IsUtf8 (byte ∷ []) (IsUtf8-from_ascii (byte ∷ []) (IsAscii-cons byte [] (omega (arith, below)) IsAscii-nil)) in
    let rest = printable_utf8 text parts.1 in
    λ i. one i && rest i

pub pushed : (text more now lens : List ℕ) (b : ℕ) → now ≡ text ++ more → list_all is_utf8 (each more) ≡ true → IsCut text lens b → IsCut now lens b
pushed text more now lens b e u h =
    let n = length-append text more in
    let l = h.within in
    subst (λ t. IsCut t lens b) (sym e) (record {
      bytes_are = h.bytes_are;
      within = omega (arith, n, l);
      parts = utf8_more lens text more (fits text lens b h) h.parts u;
    })

pub pushed_if : (ok : Bool) (text more now lens : List ℕ) (b : ℕ) → now ≡ cond ok (text ++ more) text → list_all is_utf8 (each more) ≡ true → IsCut text lens b → IsCut now lens b
pushed_if true text more now lens b e u h = pushed text more now lens b e u h
pushed_if false text more now lens b e u h = subst (λ t. IsCut t lens b) (sym e) h

pub pushed_cells : (text more now lens : List ℕ) (b : ℕ) → now ≡ text ++ more → IsCut text lens b → cut_at lens now ≡ cut_at lens text ++ each more
pushed_cells text more now lens b e h = ap (cut_at lens) e ∙ cut_more lens text more (fits text lens b h)

-- a text of one byte is a cell of one byte
pub alone_each : (text : List ℕ) → length text ≡ 1 → each text ≡ text ∷ []
alone_each [] l = absurd (omega (arith, l))
alone_each (byte ∷ []) l = refl
alone_each (byte ∷ next ∷ text) l = absurd (omega (arith, l))

pub alone_utf8 : (text : List ℕ) → length text ≡ 1 → IsUtf8 text → list_all is_utf8 (each text) ≡ true
alone_utf8 text l u = ap (list_all is_utf8) (alone_each text l) ∙ (λ i. is_utf8-from_IsUtf8 text u i && true)

-- ---- lengths that are kept

-- the lengths after a `resize` that succeeds: `count` ones are appended
pub grown : (lens now : List ℕ) (ok : Bool) (n len count : ℕ) → ok ≡ true → now ≡ cond ok (take n lens ++ replicate (n - len) 1) lens → len ≡ length lens → n ≡ len + count → now ≡ lens ++ replicate count 1
grown lens now ok n len count k e l m =
    let more : n - len ≡ count = omega (arith, m) in
    let all = take_all n lens (omega (arith, l, m)) in
    e ∙ cond-true ok (take n lens ++ replicate (n - len) 1) lens k ∙ (λ i. all i ++ replicate (more i) 1)

pub kept : (text lens now : List ℕ) (b count : ℕ) → now ≡ lens ++ replicate count 1 → b + count ≤ length text → IsCut text lens b → IsCut text now (b + count)
kept text lens now b count e l h =
    let bytes = h.bytes_are in
    let more = bytes_of-append lens (replicate count 1) in
    let ones = bytes_of-ones count in
    subst (λ ns. IsCut text ns (b + count)) (sym e) (record {
      bytes_are = omega (arith, bytes, more, ones);
      within = l;
      parts = ap (list_all is_utf8) (cut_ones lens text count (omega (arith, l, bytes))) ∙ h.parts;
    })

pub kept_cells : (text lens now : List ℕ) (b count : ℕ) → now ≡ lens ++ replicate count 1 → b + count ≤ length text → IsCut text lens b → cut_at now text ≡ cut_at lens text
kept_cells text lens now b count e l h = let bytes = h.bytes_are in ap (λ (ns : List ℕ). cut_at ns text) e ∙ cut_ones lens text count (omega (arith, l, bytes))

pub sized : (text more now lens lens_now : List ℕ) (b n : ℕ) → now ≡ text ++ more → lens_now ≡ lens ++ n ∷ [] → b ≡ length text → n ≡ length more → IsUtf8 more → IsCut text lens b → IsCut now lens_now (b + n)
sized text more now lens lens_now b n e f all l u h =
    let bytes = h.bytes_are in
    let sum = bytes_of-append lens (n ∷ []) in
    let long = length-append text more in
    subst (λ t. IsCut t lens_now (b + n)) (sym e) (subst (λ ns. IsCut (text ++ more) ns (b + n)) (sym f) (record {
      bytes_are = omega (arith, bytes, sum);
      within = omega (arith, all, l, long);
      parts = utf8_push lens text more n (omega (arith, bytes, all)) l u h.parts;
    }))

pub sized_cells : (text more now lens lens_now : List ℕ) (b n : ℕ) → now ≡ text ++ more → lens_now ≡ lens ++ n ∷ [] → b ≡ length text → n ≡ length more → IsCut text lens b → cut_at lens_now now ≡ cut_at lens text ++ more ∷ []
sized_cells text more now lens lens_now b n e f all l h =
    let bytes = h.bytes_are in
    (λ i. cut_at (f i) (e i)) ∙ cut_push lens text more n (omega (arith, bytes, all)) l

-- ---- the texts that write the cells

pub independent_cut : (lens text : List ℕ) → same_texts (graphemes true text) (cut_at lens text) ≡ stay_independent (cut_at lens text)
independent_cut lens text = ap (λ (t : List ℕ). same_texts (graphemes true t) (cut_at lens text)) (sym (concat-cut lens text))

pub texts_none : (cells : List (List ℕ)) → cells ≡ [] → texts cells ≡ []
texts_none cells e = ap texts e ∙ no_texts

pub texts_one : (cells : List (List ℕ)) → (cells ≡ [] → ⊥) → stay_independent cells ≡ true → texts cells ≡ concat cells ∷ []
texts_one [] some e = absurd (some refl)
texts_one (cell ∷ cells) some e = one_text cell cells e

pub texts_each : (cells : List (List ℕ)) → stay_independent cells ≡ false → texts cells ≡ cells
texts_each [] e = no_texts
texts_each (cell ∷ cells) e = each_text cell cells e

pub one_written : (old now : List ChangeValue) (text : List ℕ) (cells : List (List ℕ)) → (cells ≡ [] → ⊥) → stay_independent cells ≡ true → text ≡ concat cells → now ≡ old ++ Text text ∷ [] → now ≡ old ++ map Text (texts cells)
one_written old now text cells some e t n =
    n ∙ ap (λ (bytes : List ℕ). old ++ Text bytes ∷ []) t ∙ ap (λ (ts : List (List ℕ)). old ++ map Text ts) (sym (texts_one cells some e))

pub each_written : (old now : List ChangeValue) (cells : List (List ℕ)) → stay_independent cells ≡ false → now ≡ old ++ map Text cells → now ≡ old ++ map Text (texts cells)
each_written old now cells e n = n ∙ ap (λ (ts : List (List ℕ)). old ++ map Text ts) (sym (texts_each cells e))

pub nothing_written : (old : List ChangeValue) (cells : List (List ℕ)) → cells ≡ [] → old ≡ old ++ map Text (texts cells)
nothing_written old cells e = sym (append-nil old) ∙ ap (λ (ts : List (List ℕ)). old ++ map Text ts) (sym (texts_none cells e))
