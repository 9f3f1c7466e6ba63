-- A property of each byte of some texts is one of each byte that is read from them and written again.
use Rattle.std.proofs.Common.{◌≡◌, ℕ, ◌==◌, Bool, true, false, ◌&&◌, List, [], ◌∷◌, ◌++◌, map, refl, sym, inl, inr, subst}
use Rattle.std.specs.List.{join_with_byte, list_all, list_any, AllByRecursion}
use Rattle.std.specs.Str.{is_utf8}
use Rattle.std.specs.Ordering.{nat_cmp}
use Rattle.std.specs.Cmp.Lexicographic.{slice_cmp}
use Rattle.std.specs.Prelude.{Option, Some, None, Result, Ok, length}
use Rattle.std.proofs.lemmas.Bool.{and_parts, cases_Bool, or_parts}
use Rattle.std.proofs.lemmas.List.Splits.{join_with_byte-slice_split}
use Rattle.cell_base.specs.Link.{Link, Param}
use Rattle.cell_base.specs.declared.link_error.LinkError.{LinkError}
use Rattle.cell_base.specs.LinkText.{param_text, params_text, link_text, text_of_link, fields, is_param, param_of, by_key, param_fields, params_of, texts_reading, link_reading}
use Rattle.cell_base.proofs.KeyOrder.{fold_each}
use Rattle.cell_base.proofs.Fields.{cut_joined}

module _ (P : ℕ → Type 0) where
  abbrev pub Each : List ℕ → Type 0
  Each text = AllByRecursion P text

  abbrev pub EachText : List (List ℕ) → Type 0
  EachText texts = AllByRecursion (AllByRecursion P) texts

  pub each-append : (a b : List ℕ) → Each a → Each b → Each (a ++ b)
  each-append [] b h k = k
  each-append (x ∷ a) b h k = (h.0, each-append a b h.1 k)

  pub each-prefix : (a b : List ℕ) → Each (a ++ b) → Each a
  each-prefix [] b h = tt
  each-prefix (x ∷ a) b h = (h.0, each-prefix a b h.1)

  pub each-back : (a b : List ℕ) → Each (a ++ b) → Each b
  each-back [] b h = h
  each-back (x ∷ a) b h = each-back a b h.1

  pub joined_each : (c : ℕ) (texts : List (List ℕ)) → P c → EachText texts → Each (join_with_byte c texts)
  joined_each c [] p h = tt
  joined_each c (x ∷ []) p h = h.0
  joined_each c (x ∷ y ∷ ys) p h = each-append x (c ∷ join_with_byte c (y ∷ ys)) h.0 (p, joined_each c (y ∷ ys) p h.1)

  pub each_joined : (c : ℕ) (texts : List (List ℕ)) → Each (join_with_byte c texts) → EachText texts
  each_joined c [] h = tt
  each_joined c (x ∷ []) h = (h, tt)
  each_joined c (x ∷ y ∷ ys) h =
      (each-prefix x (c ∷ join_with_byte c (y ∷ ys)) h, each_joined c (y ∷ ys) (each-back x (c ∷ join_with_byte c (y ∷ ys)) h).1)

  -- ---- Links

  module _ (equals : P 61) (colon : P 58) (semicolon : P 59) (eight : P 56) where
    params_cut : (texts : List (List ℕ)) → list_all is_param texts ≡ true → EachText texts → AllByRecursion (λ p. Each p.0 × Each p.1) (map param_of texts)
    params_cut [] are h = tt
    params_cut (text ∷ texts) are h =
        let both = and_parts (is_param text) (list_all is_param texts) are in
        let key : List ℕ = (param_of text).0 in
        let value : List ℕ = (param_of text).1 in
        let whole : Each (key ++ 61 ∷ value) = subst Each (sym (cut_joined 61 text both.0)) h.0 in
        ((each-prefix key (61 ∷ value) whole, (each-back key (61 ∷ value) whole).1), params_cut texts both.1 h.1)

    param_texts : (params : List Param) → AllByRecursion (λ p. Each p.0 × Each p.1) params → EachText (map param_text params)
    param_texts [] h = tt
    param_texts (p ∷ params) h = (each-append p.0 (61 ∷ p.1) h.0.0 (equals, h.0.1), param_texts params h.1)

    fields_text : (texts : List (List ℕ)) → list_all is_param texts ≡ true → EachText texts → Each (params_text (by_key (map param_of texts)))
    fields_text texts are h =
        joined_each 58 (map param_text (by_key (map param_of texts))) colon
        (param_texts _ (fold_each (slice_cmp nat_cmp) Each Each (map param_of texts) [] (params_cut texts are h) tt))

    colon_fields : (text : List ℕ) → Each text → EachText (fields 58 text)
    colon_fields text h = each_joined 58 (fields 58 text) (subst Each (sym (join_with_byte-slice_split 58 text)) h)

    params_each : (text : List ℕ) → list_all is_param (param_fields text) ≡ true → Each text → Each (params_text (params_of text))
    params_each text are h = elim (cases_Bool (length text == 0)) [
      | inl empty ↦
          let e : param_fields text ≡ [] = rw empty refl in
          rw e (fields_text [] refl tt)
      | inr some ↦
          let e : param_fields text ≡ fields 58 text = rw some refl in
          rw e (fields_text (fields 58 text) (rw e at are) (colon_fields text h))
    ]

    same_Ok : (a b : Option Link) → ◌≡◌ {A = Result (Option Link) LinkError} (Ok a) (Ok b) → a ≡ b
    same_Ok a b h = cc

    link_each : (params uri : List ℕ) (link : Option Link) → texts_reading params uri ≡ Ok link → Each params → Each uri → Each (text_of_link link)
    unfolding texts_reading link_text
    link_each params uri link is p u = elim (cases_Bool (length params == 0 && length uri == 0)) [
      | inl empty ↦
          let e : None ≡ link = same_Ok _ _ (rw empty at is) in
          rw (← e) (eight, (semicolon, (semicolon, tt)))
      | inr some ↦ elim (cases_Bool (is_utf8 params && is_utf8 uri)) [
        | inl text ↦ elim (cases_Bool (list_all is_param (param_fields params))) [
          | inl are ↦
              let l : Link = record { params = params_of params; uri = uri; implicit = false } in
              let e : Some l ≡ link = same_Ok _ _ (rw (some, text, are) at is) in
              rw (← e) (eight, (semicolon, each-append (params_text (params_of params)) (59 ∷ uri) (params_each params are p) (semicolon, u)))
          | inr other ↦ cc (rw (some, text, other) at is)
        ]
        | inr other ↦ cc (rw (some, other) at is)
      ]
    ]

    -- each byte of the text of a link that was read from parts
    pub link_parts_each : (parts : List (List ℕ)) (link : Option Link) → link_reading parts ≡ Ok link → EachText parts → Each (text_of_link link)
    unfolding link_reading
    link_parts_each [] link is h = cc
    link_parts_each (code ∷ []) link is h = cc
    link_parts_each (code ∷ params ∷ []) link is h = cc
    link_parts_each (code ∷ params ∷ uri ∷ more) link is h =
        link_each params (join_with_byte 59 (uri ∷ more)) link is h.1.0 (joined_each 59 (uri ∷ more) semicolon h.1.1)

-- ---- Tests that no byte passes

pub each_fails : (test : ℕ → Bool) (text : List ℕ) → list_any test text ≡ false → AllByRecursion (λ b. test b ≡ false) text
each_fails test [] h = tt
each_fails test (b ∷ text) h =
    let both = or_parts (test b) (list_any test text) h in
    (both.0, each_fails test text both.1)

pub none_passes : (test : ℕ → Bool) (text : List ℕ) → AllByRecursion (λ b. test b ≡ false) text → list_any test text ≡ false
none_passes test [] h = refl
none_passes test (b ∷ text) h = rw h.0 (none_passes test text h.1)
