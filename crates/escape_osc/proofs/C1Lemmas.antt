-- C1 controls in joined texts.
use Rattle.std.proofs.Common.{◌≡◌, ℕ, ◌<◌, ◌==◌, true, false, ◌||◌, ◌&&◌, List, [], ◌∷◌, ◌++◌, map, refl, ap, sym, ◌∙◌, arith, inl, inr}
use Rattle.std.specs.List.{join_with_byte, list_all, AllByRecursion}
use Rattle.std.proofs.Math.Bool.{or_assoc, or-false}
use Rattle.std.proofs.lemmas.Bool.{and_parts, cases_Bool, ne_eqb, lt-leb, or_parts, or_from}
use Rattle.std.specs.Str.{is_utf8}
use Rattle.std.specs.Ordering.{nat_cmp}
use Rattle.std.specs.Cmp.Lexicographic.{slice_cmp}
use Rattle.std.specs.Prelude.{Option, Some, None, Result, Ok, length}
use Rattle.std.proofs.lemmas.List.Splits.{join_with_byte-slice_split}
use Rattle.text_clusters.specs.Controls.{is_c1, holds_c1}
use Rattle.cell_base.specs.Link.{Link, Param}
use Rattle.cell_base.specs.declared.link_error.LinkError.{LinkError}
use Rattle.cell_base.specs.LinkText.{param_text, params_text, link_text, text_of_link, fields, is_param, param_of, by_key, param_fields, params_of, texts_reading, link_reading}
use Rattle.cell_base.proofs.KeyOrder.{fold_each}
use Rattle.cell_base.proofs.Fields.{cut_joined}
use Rattle.escape_osc.specs.Parts.{any_holds_c1}

-- no byte below 80 is part of a C1 control
is_c1-lead : (b c : ℕ) → b < 128 → is_c1 b c ≡ false
is_c1-lead b c h = rw (ne_eqb b 0xC2 (λ e. absurd (omega arith))) refl

is_c1-next : (b c : ℕ) → c < 128 → is_c1 b c ≡ false
is_c1-next b c h = elim (cases_Bool (b == 0xC2)) [
  | inl is ↦ rw (is, lt-leb 0x80 c h) refl
  | inr other ↦ rw other refl
]

pub holds_c1-cons : (c : ℕ) (ys : List ℕ) → c < 128 → holds_c1 (c ∷ ys) ≡ holds_c1 ys
unfolding holds_c1
holds_c1-cons c [] h = refl
holds_c1-cons c (y ∷ ys) h = rw (is_c1-lead c y h) refl

pub ascii_lacks_c1 : (text : List ℕ) → AllByRecursion (λ b. b < 128) text → holds_c1 text ≡ false
unfolding holds_c1
ascii_lacks_c1 [] h = refl
ascii_lacks_c1 (b ∷ []) h = refl
ascii_lacks_c1 (b ∷ c ∷ text) h = rw (is_c1-lead b c h.0) (ascii_lacks_c1 (c ∷ text) h.1)

-- two texts with a byte below 80 between them hold a C1 control exactly if one of the texts does
pub holds_c1-joint : (xs : List ℕ) (c : ℕ) (ys : List ℕ) → c < 128 → holds_c1 (xs ++ c ∷ ys) ≡ (holds_c1 xs || holds_c1 ys)
unfolding holds_c1
holds_c1-joint [] c ys h = holds_c1-cons c ys h
holds_c1-joint (b ∷ []) c ys h = rw (is_c1-next b c h) (holds_c1-cons c ys h)
holds_c1-joint (b ∷ d ∷ xs) c ys h = ap (λ r. is_c1 b d || r) (holds_c1-joint (d ∷ xs) c ys h) ∙ sym (or_assoc (is_c1 b d) (holds_c1 (d ∷ xs)) (holds_c1 ys))

-- joined texts hold one where one of them does
pub any_holds_c1-joined : (c : ℕ) (parts : List (List ℕ)) → c < 128 → any_holds_c1 parts ≡ holds_c1 (join_with_byte c parts)
unfolding holds_c1
any_holds_c1-joined c [] h = refl
any_holds_c1-joined c (x ∷ []) h = or-false (holds_c1 x)
any_holds_c1-joined c (x ∷ y ∷ ys) h =
    ap (λ r. holds_c1 x || r) (any_holds_c1-joined c (y ∷ ys) h) ∙ sym (holds_c1-joint x c (join_with_byte c (y ∷ ys)) h)

-- a text with no C1 control
abbrev pub LacksC1 : List ℕ → Type 0
LacksC1 text = holds_c1 text ≡ false

pub each_lacks_c1 : (texts : List (List ℕ)) → any_holds_c1 texts ≡ false → AllByRecursion LacksC1 texts
each_lacks_c1 [] h = tt
each_lacks_c1 (text ∷ texts) h =
    let both = or_parts (holds_c1 text) (any_holds_c1 texts) h in
    (both.0, each_lacks_c1 texts both.1)

pub any_lacks_c1 : (texts : List (List ℕ)) → AllByRecursion LacksC1 texts → any_holds_c1 texts ≡ false
any_lacks_c1 [] h = refl
any_lacks_c1 (text ∷ texts) h = or_from (holds_c1 text) (any_holds_c1 texts) h.0 (any_lacks_c1 texts h.1)

-- ---- the text of a link that was read from texts without one

params_cut : (texts : List (List ℕ)) → list_all is_param texts ≡ true → AllByRecursion LacksC1 texts → AllByRecursion (λ p. LacksC1 p.0 × LacksC1 p.1) (map param_of texts)
params_cut [] are h = tt
params_cut (text ∷ texts) are h =
    let both = and_parts (is_param text) (list_all is_param texts) are in
    let key : List ℕ = (param_of text).0 in
    let value : List ℕ = (param_of text).1 in
    let e : holds_c1 (key ++ 61 ∷ value) ≡ false = ap holds_c1 (cut_joined 61 text both.0) ∙ h.0 in
    let lacks = or_parts (holds_c1 key) (holds_c1 value) (sym (holds_c1-joint key 61 value (omega arith)) ∙ e) in
    ((lacks.0, lacks.1), params_cut texts both.1 h.1)

param_texts : (params : List Param) → AllByRecursion (λ p. LacksC1 p.0 × LacksC1 p.1) params → AllByRecursion LacksC1 (map param_text params)
param_texts [] h = tt
param_texts (p ∷ params) h = (holds_c1-joint p.0 61 p.1 (omega arith) ∙ or_from (holds_c1 p.0) (holds_c1 p.1) h.0.0 h.0.1, param_texts params h.1)

fields_text : (texts : List (List ℕ)) → list_all is_param texts ≡ true → AllByRecursion LacksC1 texts → LacksC1 (params_text (by_key (map param_of texts)))
fields_text texts are h =
    sym (any_holds_c1-joined 58 (map param_text (by_key (map param_of texts))) (omega arith))
    ∙ any_lacks_c1 _ (param_texts _ (fold_each (slice_cmp nat_cmp) LacksC1 LacksC1 (map param_of texts) [] (params_cut texts are h) tt))

colon_fields : (text : List ℕ) → LacksC1 text → AllByRecursion LacksC1 (fields 58 text)
colon_fields text h = each_lacks_c1 (fields 58 text) (any_holds_c1-joined 58 (fields 58 text) (omega arith) ∙ ap holds_c1 (join_with_byte-slice_split 58 text) ∙ h)

params_lack_c1 : (text : List ℕ) → list_all is_param (param_fields text) ≡ true → LacksC1 text → LacksC1 (params_text (params_of text))
params_lack_c1 text are h = elim (cases_Bool (length text == 0)) [
  | inl empty ↦
      let e : param_fields text ≡ [] = rw empty refl in
      rw e (fields_text [] refl tt)
  | inr some ↦
      let e : param_fields text ≡ fields 58 text = rw some refl in
      rw e (fields_text (fields 58 text) (rw e at are) (colon_fields text h))
]

same_Ok : (a b : Option Link) → ◌≡◌ {A = Result (Option Link) LinkError} (Ok a) (Ok b) → a ≡ b
same_Ok a b h = cc

none_lacks_c1 : LacksC1 (text_of_link None)
unfolding holds_c1
none_lacks_c1 = refl

link_text_lacks_c1 : (params uri : List ℕ) → LacksC1 params → LacksC1 uri → LacksC1 (56 ∷ 59 ∷ (params ++ 59 ∷ uri))
link_text_lacks_c1 params uri p u =
    holds_c1-cons 56 _ (omega arith) ∙ holds_c1-cons 59 _ (omega arith)
    ∙ holds_c1-joint params 59 uri (omega arith) ∙ or_from (holds_c1 params) (holds_c1 uri) p u

link_lacks_c1 : (params uri : List ℕ) (link : Option Link) → texts_reading params uri ≡ Ok link → LacksC1 params → LacksC1 uri → LacksC1 (text_of_link link)
unfolding texts_reading link_text
link_lacks_c1 params uri link is p u = elim (cases_Bool (length params == 0 && length uri == 0)) [
  | inl empty ↦
      let e : None ≡ link = same_Ok _ _ (rw empty at is) in
      rw (← e) none_lacks_c1
  | inr some ↦ elim (cases_Bool (is_utf8 params && is_utf8 uri)) [
    | inl text ↦ elim (cases_Bool (list_all is_param (param_fields params))) [
      | inl are ↦
          let l : Link = record { params = params_of params; uri = uri; implicit = false } in
          let e : Some l ≡ link = same_Ok _ _ (rw (some, text, are) at is) in
          rw (← e) (link_text_lacks_c1 (params_text (params_of params)) uri (params_lack_c1 params are p) u)
      | inr other ↦ cc (rw (some, text, other) at is)
    ]
    | inr other ↦ cc (rw (some, other) at is)
  ]
]

-- the text of a link that was read from parts without one
pub link_parts_lack_c1 : (parts : List (List ℕ)) (link : Option Link) → link_reading parts ≡ Ok link → any_holds_c1 parts ≡ false → LacksC1 (text_of_link link)
unfolding link_reading
link_parts_lack_c1 [] link is h = cc
link_parts_lack_c1 (code ∷ []) link is h = cc
link_parts_lack_c1 (code ∷ params ∷ []) link is h = cc
link_parts_lack_c1 (code ∷ params ∷ uri ∷ more) link is h =
    let lacks = each_lacks_c1 (code ∷ params ∷ uri ∷ more) h in
    link_lacks_c1 params (join_with_byte 59 (uri ∷ more)) link is lacks.1.0
    (sym (any_holds_c1-joined 59 (uri ∷ more) (omega arith)) ∙ any_lacks_c1 (uri ∷ more) lacks.1.1)
