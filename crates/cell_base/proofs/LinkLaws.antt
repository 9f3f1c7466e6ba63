-- A link that a reading gave reads back equal from its text.
use Rattle.std.proofs.Common.{◌≡◌, ℕ, ◌<◌, Bool, true, false, cond, eqb, List, [], ◌∷◌, ◌++◌, length, map, refl, sym, ◌∙◌, ap, subst, arith, fold}
use Rattle.std.specs.Prelude.{◌&&◌, ◌||◌, ◌==◌, not, Option, Some, None, Result, Ok, Err, IfOk, String}
use Rattle.std.specs.List.{join_with_byte, AllByRecursion, list_all, list_any}
use Rattle.std.specs.List.Sorted.{IsStrictlySortedBy}
use Rattle.std.specs.Map.{keys_of}
use Rattle.std.specs.Ordering.{nat_cmp, match_ordering}
use Rattle.std.specs.BTreeMap.{insert_entry}
use Rattle.std.specs.declared.cmp.Ordering.{Ordering}
use Rattle.std.specs.declared.cmp.Ordering.TheVariants.{Less, Equal, Greater}
use Rattle.std.specs.Cmp.Lexicographic.{slice_cmp, nat_list_cmp_total}
use Rattle.std.specs.Str.{IsUtf8, is_utf8}
use Rattle.std.specs.String.{string_bytes}
use Rattle.std.proofs.lemmas.Str.{IsUtf8-from_is_utf8, is_utf8-from_IsUtf8, IsUtf8-string_bytes}
use Rattle.std.proofs.lemmas.Bool.{and_parts, and_from, cond-false, ne_eqb, false≢true}
use Rattle.std.proofs.lemmas.List.Splits.{join_with_byte-slice_split, length-slice_split}
use Rattle.cell_base.specs.Link.{Link, Param, texts_of}
use Rattle.cell_base.specs.LinkText.{param_text, params_text, link_text, text_of_link, fields, is_param, param_of, by_key, param_fields, params_of, texts_reading, link_reading, is_value_text, is_key_text, is_writable, is_empty_link, IsReadBack}
use Rattle.cell_base.specs.declared.link_error.LinkError.TheVariants.{Utf8, Params}
use Rattle.cell_base.proofs.Fields.{Lacks, EachLacks, all_joined, all_prefix, all_back, fields_lack, fields_more, fields_joined, joined_lacks, each_lacks, utf8_around, utf8_before, utf8_after, joined_utf8, each_utf8, cut_joined, before_lacks, before_is, after_is, has_byte}
use Rattle.cell_base.proofs.TextsReading.{reading_by}
use Rattle.cell_base.proofs.KeyOrder.{put, fold_each, sorted_by_key, by_key_sorted}

-- the key and the value of a parameter, parsed from a text without `;`: UTF-8 without `:` and `;`, and the key also without `=`
pub record IsKey (k : List ℕ) : Type 0 where
  pub no_equals : Lacks 61 k
  pub no_colon : Lacks 58 k
  pub no_semicolon : Lacks 59 k
  pub utf8 : IsUtf8 k

pub record IsValue (v : List ℕ) : Type 0 where
  pub no_colon : Lacks 58 v
  pub no_semicolon : Lacks 59 v
  pub utf8 : IsUtf8 v

abbrev IsParam : Param → Type 0
IsParam p = IsKey p.0 × IsValue p.1

abbrev EachParam : List Param → Type 0
EachParam = AllByRecursion (λ p. IsKey p.0 × IsValue p.1)

param_cut : (t : List ℕ) → is_param t ≡ true → Lacks 58 t → Lacks 59 t → IsUtf8 t → IsParam (param_of t)
param_cut t h c s u =
    let k : List ℕ = (param_of t).0 in
    let v : List ℕ = (param_of t).1 in
    let e : k ++ 61 ∷ v ≡ t = cut_joined 61 t h in
    let c' : Lacks 58 (k ++ 61 ∷ v) = subst (Lacks 58) (sym e) c in
    let s' : Lacks 59 (k ++ 61 ∷ v) = subst (Lacks 59) (sym e) s in
    let u' : IsUtf8 (k ++ 61 ∷ v) = subst IsUtf8 (sym e) u in (
      record { no_equals = before_lacks 61 t; no_colon = all_prefix _ k (61 ∷ v) c'; no_semicolon = all_prefix _ k (61 ∷ v) s'; utf8 = utf8_before 61 k v (omega arith) u' },
      record { no_colon = (all_back _ k (61 ∷ v) c').1; no_semicolon = (all_back _ k (61 ∷ v) s').1; utf8 = utf8_after 61 k v (omega arith) u' },
    )

params_cut : (ts : List (List ℕ)) → list_all is_param ts ≡ true → EachLacks 58 ts → EachLacks 59 ts → AllByRecursion IsUtf8 ts → EachParam (map param_of ts)
params_cut [] h c s u = tt
params_cut (t ∷ ts) h c s u =
    let both = and_parts (is_param t) (list_all is_param ts) h in
    (param_cut t both.0 c.0 s.0 u.0, params_cut ts both.1 c.1 s.1 u.1)

param_back : (p : Param) → IsKey p.0 → param_of (param_text p) ≡ p
param_back p k = λ i. (before_is 61 p.0 p.1 k.no_equals i, after_is 61 p.0 p.1 k.no_equals i)

params_back : (ps : List Param) → EachParam ps → map param_of (map param_text ps) ≡ ps
params_back [] h = refl
params_back (p ∷ ps) h = λ i. param_back p h.0.0 i ∷ params_back ps h.1 i

all_params : (ps : List Param) → list_all is_param (map param_text ps) ≡ true
all_params [] = refl
all_params (p ∷ ps) = and_from (is_param (param_text p)) (list_all is_param (map param_text ps)) (has_byte 61 p.0 p.1) (all_params ps)

texts_lack_colon : (ps : List Param) → EachParam ps → EachLacks 58 (map param_text ps)
texts_lack_colon [] h = tt
texts_lack_colon (p ∷ ps) h = (all_joined _ p.0 (61 ∷ p.1) h.0.0.no_colon (refl, h.0.1.no_colon), texts_lack_colon ps h.1)

texts_lack_semicolon : (ps : List Param) → EachParam ps → EachLacks 59 (map param_text ps)
texts_lack_semicolon [] h = tt
texts_lack_semicolon (p ∷ ps) h = (all_joined _ p.0 (61 ∷ p.1) h.0.0.no_semicolon (refl, h.0.1.no_semicolon), texts_lack_semicolon ps h.1)

texts_utf8 : (ps : List Param) → EachParam ps → AllByRecursion IsUtf8 (map param_text ps)
texts_utf8 [] h = tt
texts_utf8 (p ∷ ps) h = (utf8_around 61 p.0 p.1 (omega arith) h.0.0.utf8 h.0.1.utf8, texts_utf8 ps h.1)

-- ---- the parameters of a text

pub record IsPrinted (qs : List Param) : Type 0 where
  pub each : EachParam qs
  pub sorted : IsStrictlySortedBy (slice_cmp nat_cmp) (keys_of qs)

abbrev by_colon : List ℕ → List (List ℕ)
by_colon = fields 58

params_by : (P : List ℕ) (b : Bool) → list_all is_param (cond b [] (by_colon P)) ≡ true → Lacks 59 P → IsUtf8 P → IsPrinted (by_key (map param_of (cond b [] (by_colon P))))
params_by P true h s u = record { each = tt; sorted = sorted_by_key {X = List ℕ} (slice_cmp nat_cmp) nat_list_cmp_total [] }
params_by P false h s u =
    let is : join_with_byte 58 (by_colon P) ≡ P = join_with_byte-slice_split 58 P in
    let s' = each_lacks 59 58 (by_colon P) (subst (Lacks 59) (sym is) s) in
    let u' = each_utf8 58 (by_colon P) (omega arith) (subst IsUtf8 (sym is) u) in
    record {
      each = fold_each (slice_cmp nat_cmp) IsKey IsValue (map param_of (by_colon P)) [] (params_cut (by_colon P) h (fields_lack 58 P) s' u') tt;
      sorted = sorted_by_key (slice_cmp nat_cmp) nat_list_cmp_total (map param_of (by_colon P));
    }

params_printed : (P : List ℕ) → list_all is_param (param_fields P) ≡ true → Lacks 59 P → IsUtf8 P → IsPrinted (params_of P)
params_printed P h s u = params_by P (eqb (length P) 0) h s u

-- ---- the text of parameters

record ReadsBack (qs : List Param) : Type 0 where
  are : list_all is_param (param_fields (params_text qs)) ≡ true
  back : params_of (params_text qs) ≡ qs
  utf8 : is_utf8 (params_text qs) ≡ true
  lacks : Lacks 59 (params_text qs)

joined_long : (t : List ℕ) (ts : List (List ℕ)) → 0 < length t → eqb (length (join_with_byte 58 (t ∷ ts))) 0 ≡ false
joined_long [] ts l = absurd (omega arith)
joined_long (b ∷ t) [] l = ne_eqb _ 0 (λ e. absurd (omega arith))
joined_long (b ∷ t) (u ∷ ts) l = ne_eqb _ 0 (λ e. absurd (omega arith))

param_long : (p : Param) → 0 < length (param_text p)
param_long p = long p.0 p.1
  where
    long : (k v : List ℕ) → 0 < length (k ++ 61 ∷ v)
    long [] v = omega arith
    long (b ∷ k) v = omega arith

text_long : (q : Param) (qs : List Param) → eqb (length (params_text (q ∷ qs))) 0 ≡ false
text_long q qs = joined_long (param_text q) (map param_text qs) (param_long q)

text_fields : (q : Param) (qs : List Param) → EachParam (q ∷ qs) → param_fields (params_text (q ∷ qs)) ≡ map param_text (q ∷ qs)
text_fields q qs h = cond-false _ [] (by_colon (params_text (q ∷ qs))) (text_long q qs) ∙ fields_joined 58 (param_text q) (map param_text qs) (texts_lack_colon (q ∷ qs) h)

reads_back : (qs : List Param) → IsPrinted qs → ReadsBack qs
reads_back [] h = record { are = refl; back = refl; utf8 = is_utf8-from_IsUtf8 [] (joined_utf8 58 [] (omega arith) tt); lacks = tt }
reads_back (q ∷ qs) h =
    let e = text_fields q qs h.each in
    record {
      are = ap (list_all is_param) e ∙ all_params (q ∷ qs);
      back = ap (λ ts. by_key (map param_of ts)) e ∙ ap by_key (params_back (q ∷ qs) h.each) ∙ by_key_sorted (slice_cmp nat_cmp) nat_list_cmp_total (q ∷ qs) h.sorted;
      utf8 = is_utf8-from_IsUtf8 _ (joined_utf8 58 (map param_text (q ∷ qs)) (omega arith) (texts_utf8 (q ∷ qs) h.each));
      lacks = joined_lacks 59 58 (map param_text (q ∷ qs)) refl (texts_lack_semicolon (q ∷ qs) h.each);
    }

-- ---- the parts of a link's text

reading_of_parts : (a p : List ℕ) (us : List (List ℕ)) → 0 < length us → link_reading (a ∷ p ∷ us) ≡ texts_reading p (join_with_byte 59 us)
unfolding link_reading
reading_of_parts a p [] l = absurd (omega arith)
reading_of_parts a p (u ∷ us) l = refl

text_parts : (PT U : List ℕ) → Lacks 59 PT → link_reading (fields 59 (56 ∷ 59 ∷ (PT ++ 59 ∷ U))) ≡ texts_reading PT U
text_parts PT U h =
    let first : fields 59 (56 ∷ 59 ∷ (PT ++ 59 ∷ U)) ≡ (56 ∷ []) ∷ fields 59 (PT ++ 59 ∷ U) = fields_more 59 (56 ∷ []) (PT ++ 59 ∷ U) (refl, tt) in
    let second : fields 59 (PT ++ 59 ∷ U) ≡ PT ∷ fields 59 U = fields_more 59 PT U h in
    ap link_reading (first ∙ ap (λ ts. (56 ∷ []) ∷ ts) second)
    ∙ reading_of_parts (56 ∷ []) PT (fields 59 U) (omega (arith, length-slice_split (λ b. eqb b 59) U))
    ∙ ap (texts_reading PT) (join_with_byte-slice_split 59 U)

-- ---- which texts are empty

put_long : (es : List Param) (k v : List ℕ) → 0 < length (insert_entry (slice_cmp nat_cmp) es k v)
put_long [] k v = omega arith
put_long (e ∷ es) k v = by_order (slice_cmp nat_cmp k e.0)
  where
    by_order : (r : Ordering) → 0 < length (match_ordering r ((k, v) ∷ e ∷ es) ((e.0, v) ∷ es) (e ∷ insert_entry (slice_cmp nat_cmp) es k v))
    by_order Less = omega arith
    by_order Equal = omega arith
    by_order Greater = omega arith

fold_long : (ps m : List Param) → 0 < length m → 0 < length (fold (put (slice_cmp nat_cmp)) m ps)
fold_long [] m l = l
fold_long (p ∷ ps) m l = fold_long ps (put (slice_cmp nat_cmp) m p) (put_long m p.0 p.1)

by_key_long : (ts : List (List ℕ)) → 0 < length ts → 0 < length (by_key (map param_of ts))
by_key_long [] l = l
by_key_long (t ∷ ts) l = fold_long (map param_of ts) (put (slice_cmp nat_cmp) [] (param_of t)) (put_long [] (param_of t).0 (param_of t).1)

text_of_long : (qs : List Param) → 0 < length qs → eqb (length (params_text qs)) 0 ≡ false
text_of_long [] l = absurd (omega arith)
text_of_long (q ∷ qs) l = text_long q qs

same_empty_by : (P : List ℕ) (b : Bool) → eqb (length (params_text (by_key (map param_of (cond b [] (by_colon P)))))) 0 ≡ b
same_empty_by P true = refl
same_empty_by P false = text_of_long _ (by_key_long (by_colon P) (omega (arith, length-slice_split (λ b. eqb b 58) P)))

same_empty : (P : List ℕ) → eqb (length (params_text (params_of P))) 0 ≡ eqb (length P) 0
same_empty P = same_empty_by P (eqb (length P) 0)

-- ---- the law

back_some : (P U : List ℕ) → (eqb (length P) 0 && eqb (length U) 0) ≡ false → is_utf8 P ≡ true → is_utf8 U ≡ true → list_all is_param (param_fields P) ≡ true → Lacks 59 P
    → texts_reading (params_text (params_of P)) U ≡ Ok (Some (record { params = params_of P; uri = U; implicit = false }))
unfolding texts_reading
back_some P U empty p u are s =
    let r = reads_back (params_of P) (params_printed P are s (IsUtf8-from_is_utf8 P p)) in
    let none : (eqb (length (params_text (params_of P))) 0 && eqb (length U) 0) ≡ false = ap (λ b. b && eqb (length U) 0) (same_empty P) ∙ empty in
    λ i. cond (none i) (Ok None) (cond (and_from (is_utf8 (params_text (params_of P))) (is_utf8 U) r.utf8 u i) (cond (r.are i) (Ok (Some (record { params = r.back i; uri = U; implicit = false }))) (Err Params)) (Err Utf8))

none_back : link_reading (fields 59 (56 ∷ 59 ∷ 59 ∷ [])) ≡ Ok None
unfolding link_reading texts_reading
none_back = refl

back_by : (P U : List ℕ) (b1 b2 b3 : Bool) (o : Option Link) → (eqb (length P) 0 && eqb (length U) 0) ≡ b1 → (is_utf8 P && is_utf8 U) ≡ b2 → list_all is_param (param_fields P) ≡ b3 → Lacks 59 P
    → reading_by b1 b2 b3 P U ≡ Ok o → link_reading (fields 59 (text_of_link o)) ≡ Ok o
unfolding link_text
back_by P U true b2 b3 o e1 e2 e3 s e =
    let is : None ≡ o = cc in
    subst (λ x. link_reading (fields 59 (text_of_link x)) ≡ Ok x) is none_back
back_by P U false false b3 o e1 e2 e3 s e = absurd (cc)
back_by P U false true false o e1 e2 e3 s e = absurd (cc)
back_by P U false true true o e1 e2 e3 s e =
    let l : Link = record { params = params_of P; uri = U; implicit = false } in
    let is : Some l ≡ o = cc in
    let both = and_parts (is_utf8 P) (is_utf8 U) e2 in
    let r = reads_back (params_of P) (params_printed P e3 s (IsUtf8-from_is_utf8 P both.0)) in
    subst (λ x. link_reading (fields 59 (text_of_link x)) ≡ Ok x) is (text_parts (params_text (params_of P)) U r.lacks ∙ back_some P U e1 both.0 both.1 e3 s)

-- the link of two texts, of which the first has no `;`, reads back
pub texts_back : (P U : List ℕ) (o : Option Link) → Lacks 59 P → texts_reading P U ≡ Ok o → link_reading (fields 59 (text_of_link o)) ≡ Ok o
unfolding texts_reading
texts_back P U o s e = back_by P U (eqb (length P) 0 && eqb (length U) 0) (is_utf8 P && is_utf8 U) (list_all is_param (param_fields P)) o refl refl refl s e

parts_back : (ts : List (List ℕ)) (o : Option Link) → EachLacks 59 ts → link_reading ts ≡ Ok o → link_reading (fields 59 (text_of_link o)) ≡ Ok o
unfolding link_reading
parts_back [] o s e = absurd (cc)
parts_back (a ∷ []) o s e = absurd (cc)
parts_back (a ∷ p ∷ []) o s e = absurd (cc)
parts_back (a ∷ p ∷ u ∷ us) o s e = texts_back p (join_with_byte 59 (u ∷ us)) o s.1.0 e

-- the link that a body is parsed to reads back from its text
pub body_back : (body : List ℕ) (o : Option Link) → link_reading (fields 59 body) ≡ Ok o → link_reading (fields 59 (text_of_link o)) ≡ Ok o
body_back body o e = parts_back (fields 59 body) o (fields_lack 59 body) e

when_ok : {T E : Type 0} (r : Result T E) (P : T → Type 0) → ((x : T) → r ≡ Ok x → P x) → IfOk r P
when_ok (Ok x) P h = h x refl
when_ok (Err e) P h = tt

pub body_law : (body : List ℕ) → IfOk (link_reading (fields 59 body)) (λ link. link_reading (fields 59 (text_of_link link)) ≡ Ok link)
body_law body = when_ok (link_reading (fields 59 body)) _ (body_back body)

-- ---- a link that reads back

nothing_is : (c : ℕ) (t : List ℕ) → list_any (λ b. b == c) t ≡ false → Lacks c t
nothing_is c [] e = tt
nothing_is c (b ∷ t) e = elim (b == c) as (λ x. (x || list_any (λ d. d == c) t) ≡ false → (x ≡ false) × Lacks c t) [ true ↦ λ f. absurd (false≢true (sym f)) | false ↦ λ f. (refl, nothing_is c t f) ] e

is_nothing : (c : ℕ) (t : List ℕ) → Lacks c t → list_any (λ b. b == c) t ≡ false
is_nothing c [] h = refl
is_nothing c (b ∷ t) h = ap (λ x. x || list_any (λ d. d == c) t) h.0 ∙ is_nothing c t h.1

not_true : (b : Bool) → not b ≡ true → b ≡ false
not_true true e = absurd (false≢true e)
not_true false e = refl

value_is : (v : List ℕ) → IsUtf8 v → is_value_text v ≡ true → IsValue v
value_is v u e =
    let both = and_parts (not (list_any (λ b. b == 58) v)) (not (list_any (λ b. b == 59) v)) e in
    record { no_colon = nothing_is 58 v (not_true _ both.0); no_semicolon = nothing_is 59 v (not_true _ both.1); utf8 = u }

is_value_of : (v : List ℕ) → Lacks 58 v → Lacks 59 v → is_value_text v ≡ true
is_value_of v c s = and_from _ _ (ap not (is_nothing 58 v c)) (ap not (is_nothing 59 v s))

key_is : (k : List ℕ) → IsUtf8 k → is_key_text k ≡ true → IsKey k
key_is k u e =
    let both = and_parts (not (is_param k)) (is_value_text k) e in
    let v = value_is k u both.1 in
    record { no_equals = nothing_is 61 k (not_true _ both.0); no_colon = v.no_colon; no_semicolon = v.no_semicolon; utf8 = u }

abbrev pub EachText : List Param → Type 0
EachText = AllByRecursion (λ p. IsUtf8 p.0 × IsUtf8 p.1)

each_is : (qs : List Param) → EachText qs → list_all is_writable qs ≡ true → EachParam qs
each_is [] u e = tt
each_is (q ∷ qs) u e =
    let both = and_parts (is_writable q) (list_all is_writable qs) e in
    let parts = and_parts (is_key_text q.0) (is_value_text q.1) both.0 in
    ((key_is q.0 u.0.0 parts.0, value_is q.1 u.0.1 parts.1), each_is qs u.1 both.1)

is_each : (qs : List Param) → EachParam qs → list_all is_writable qs ≡ true
is_each [] h = refl
is_each (q ∷ qs) h =
    let k = h.0.0 in
    let v = h.0.1 in
    and_from (is_writable q) (list_all is_writable qs)
    (and_from (is_key_text q.0) (is_value_text q.1) (and_from _ _ (ap not (is_nothing 61 q.0 k.no_equals)) (is_value_of q.0 k.no_colon k.no_semicolon)) (is_value_of q.1 v.no_colon v.no_semicolon))
    (is_each qs h.1)

-- the text of writable parameters and a URI, not both empty, reads as the link
writable_reads : (qs : List Param) (U : List ℕ) → IsPrinted qs → IsUtf8 U → (eqb (length qs) 0 && eqb (length U) 0) ≡ false → IsReadBack (record { params = qs; uri = U; implicit = false })
unfolding link_text texts_reading
writable_reads qs U h u some =
    let r = reads_back qs h in
    let none : (eqb (length (params_text qs)) 0 && eqb (length U) 0) ≡ false = no_text qs some in
    text_parts (params_text qs) U r.lacks
    ∙ (λ i. cond (none i) (Ok None) (cond (and_from (is_utf8 (params_text qs)) (is_utf8 U) r.utf8 (is_utf8-from_IsUtf8 U u) i) (cond (r.are i) (Ok (Some (record { params = r.back i; uri = U; implicit = false }))) (Err Params)) (Err Utf8)))
  where
    no_text : (ps : List Param) → (eqb (length ps) 0 && eqb (length U) 0) ≡ false → (eqb (length (params_text ps)) 0 && eqb (length U) 0) ≡ false
    no_text [] e = e
    no_text (p ∷ ps) e = ap (λ b. b && eqb (length U) 0) (text_long p ps)

-- a parsed link: its parameters are sorted and writable, it isn't implicit, and it isn't empty
record IsRead (l : Link) : Type 0 where
  printed : IsPrinted l.params
  given : l.implicit ≡ false
  some : is_empty_link l ≡ false

empty_text : (qs : List Param) (U : List ℕ) → (eqb (length (params_text qs)) 0 && eqb (length U) 0) ≡ false → (eqb (length qs) 0 && eqb (length U) 0) ≡ false
empty_text [] U e = e
empty_text (q ∷ qs) U e = ap (λ b. b && eqb (length U) 0) (ne_eqb (length (q ∷ qs)) 0 (λ p. absurd (omega (arith, p))))

read_by : (P U : List ℕ) (b1 b2 b3 : Bool) (l : Link) → (eqb (length P) 0 && eqb (length U) 0) ≡ b1 → (is_utf8 P && is_utf8 U) ≡ b2 → list_all is_param (param_fields P) ≡ b3 → Lacks 59 P
    → reading_by b1 b2 b3 P U ≡ Ok (Some l) → IsRead l
read_by P U true b2 b3 l e1 e2 e3 s e = absurd (cc)
read_by P U false false b3 l e1 e2 e3 s e = absurd (cc)
read_by P U false true false l e1 e2 e3 s e = absurd (cc)
read_by P U false true true l e1 e2 e3 s e =
    let is : record { params = params_of P; uri = U; implicit = false } ≡ l = cc in
    let both = and_parts (is_utf8 P) (is_utf8 U) e2 in
    subst IsRead is (record {
      printed = params_printed P e3 s (IsUtf8-from_is_utf8 P both.0);
      given = refl;
      some = empty_text (params_of P) U (ap (λ b. b && eqb (length U) 0) (same_empty P) ∙ e1);
    })

parts_read : (ts : List (List ℕ)) (l : Link) → EachLacks 59 ts → link_reading ts ≡ Ok (Some l) → IsRead l
unfolding link_reading texts_reading
parts_read [] l s e = absurd (cc)
parts_read (a ∷ []) l s e = absurd (cc)
parts_read (a ∷ p ∷ []) l s e = absurd (cc)
parts_read (a ∷ p ∷ u ∷ us) l s e =
    let U : List ℕ = join_with_byte 59 (u ∷ us) in
    read_by p U (eqb (length p) 0 && eqb (length U) 0) (is_utf8 p && is_utf8 U) (list_all is_param (param_fields p)) l refl refl refl s.1.0 e

-- both ways
pub written_back : (l : Link) → EachText l.params → IsUtf8 l.uri → IsStrictlySortedBy (slice_cmp nat_cmp) (keys_of l.params) → l.implicit ≡ false → is_empty_link l ≡ false → list_all is_writable l.params ≡ true → IsReadBack l
written_back l u v sorted given some writable =
    subst IsReadBack (λ i. record { params = l.params; uri = l.uri; implicit = sym given i })
    (writable_reads l.params l.uri (record { each = each_is l.params u writable; sorted = sorted }) v some)

pub back_is_given : (l : Link) → IsReadBack l → l.implicit ≡ false
back_is_given l e = (parts_read (fields 59 (link_text l)) l (fields_lack 59 (link_text l)) e).given

pub back_is_some : (l : Link) → IsReadBack l → is_empty_link l ≡ false
back_is_some l e = (parts_read (fields 59 (link_text l)) l (fields_lack 59 (link_text l)) e).some

pub back_is_writable : (l : Link) → IsReadBack l → list_all is_writable l.params ≡ true
back_is_writable l e = is_each l.params (parts_read (fields 59 (link_text l)) l (fields_lack 59 (link_text l)) e).printed.each

-- ---- the texts of a map

pub each_text : {Z : Type 0} (es : List (String Z × String Z)) → EachText (texts_of es)
each_text [] = tt
each_text (e ∷ es) = ((IsUtf8-string_bytes e.0, IsUtf8-string_bytes e.1), each_text es)

-- a link's texts, of which the keys are in order
pub link_written_back : {Z : Type 0} (es : List (String Z × String Z)) (uri : String Z) (implicit : Bool) (l : Link) → record { params = texts_of es; uri = string_bytes uri; implicit = implicit } ≡ l
    → IsStrictlySortedBy (slice_cmp nat_cmp) (keys_of (texts_of es)) → implicit ≡ false → false ≡ is_empty_link l → list_all is_writable (texts_of es) ≡ true → IsReadBack l
link_written_back es uri implicit l is sorted given some writable =
    let link : Link = record { params = texts_of es; uri = string_bytes uri; implicit = implicit } in
    subst IsReadBack is (written_back link (each_text es) (IsUtf8-string_bytes uri) sorted given (ap is_empty_link is ∙ sym some) writable)

below_texts : {Z : Type 0} (k : String Z) (es : List (String Z × String Z)) → AllByRecursion (λ y. slice_cmp nat_cmp (string_bytes k) (string_bytes y) ≡ Less) (keys_of es) → AllByRecursion (λ y. slice_cmp nat_cmp (string_bytes k) y ≡ Less) (keys_of (texts_of es))
below_texts k [] h = tt
below_texts k (e ∷ es) h = (h.0, below_texts k es h.1)

pub texts_in_order : {Z : Type 0} (es : List (String Z × String Z)) → IsStrictlySortedBy (λ a b. slice_cmp nat_cmp (string_bytes a) (string_bytes b)) (keys_of es) → IsStrictlySortedBy (slice_cmp nat_cmp) (keys_of (texts_of es))
unfolding IsStrictlySortedBy
texts_in_order [] h = tt
texts_in_order (e ∷ es) h = (below_texts e.0 es h.0, texts_in_order es h.1)
