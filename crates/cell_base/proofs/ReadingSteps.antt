-- Steps of the functions that read a link.
use Rattle.std.proofs.Common.{◌≡◌, ℕ, suc, Some, None, ◌<◌, ◌≤◌, ◌+◌, Bool, true, false, cond, eqb, List, [], ◌∷◌, ◌++◌, length, map, take, get_or, refl, sym, ◌∙◌, ap, arith}
use Rattle.std.specs.Prelude.{Result, Ok, Err, MatchResult, MatchBool, is_ok}
use Rattle.std.specs.List.{list_any, list_all, join_with_byte, position_or_len, AllByRecursion}
use Rattle.std.specs.Str.{IsUtf8, is_utf8}
use Rattle.std.specs.Str.Pattern.{FindsChar}
use Rattle.std.specs.Cmp.{both_ways}
use Rattle.std.proofs.lemmas.Str.{IsUtf8-from_is_utf8, is_utf8-from_IsUtf8}
use Rattle.std.proofs.lemmas.Str.Pattern.{contains_char}
use Rattle.std.proofs.lemmas.Bool.{false_from_ne_true, eqb-true, eq-eqb, ne_eqb, cond-false, and_parts, and_from}
use Rattle.std.proofs.lemmas.List.Folds.{list_any_at}
use Rattle.std.proofs.lemmas.List.Sums.{passes_at_first}
use Rattle.std.proofs.lemmas.List.Sums.{fold-append}
use Rattle.std.proofs.lemmas.List.{append_assoc, take_more}
use Rattle.std.proofs.lemmas.Grind.{common_steps}
use Rattle.std.specs.Prelude.{String}
use Rattle.std.specs.String.{string_bytes, string_cmp}
use Rattle.std.specs.BTreeMap.{insert_entry}
use Rattle.std.specs.Ordering.{match_ordering}
use Rattle.std.specs.declared.cmp.Ordering.{Ordering}
use Rattle.std.specs.declared.cmp.Ordering.TheVariants.{Less, Equal, Greater}
use Rattle.cell_base.specs.Link.{Param, texts_of}
use Rattle.cell_base.specs.LinkText.{put_param, by_key, param_text, params_text}
use Rattle.cell_base.proofs.Fields.{first_within, joined_utf8, each_utf8}

-- `from_utf8` returns `Ok` exactly where `is_utf8` holds
pub utf8_answer : {S E : Type 0} (P : S → Type 0) (Q : E → Type 0) (bs : List ℕ) (r : Result S E) → MatchResult r (λ s. P s × IsUtf8 bs) (λ e. ¬ (IsUtf8 bs) × Q e) → is_ok r ≡ is_utf8 bs
utf8_answer P Q bs (Ok s) h = sym (is_utf8-from_IsUtf8 bs h.1)
utf8_answer P Q bs (Err e) h = sym (false_from_ne_true (is_utf8 bs) (λ t. h.0 (IsUtf8-from_is_utf8 bs t)))

-- for an ASCII character, `contains` returns whether some byte of the text is equal to it
pub contains_answer : (c : ℕ) (bs : List ℕ) (r : Bool) → MatchBool r ((i : ℕ) × (j : ℕ) × FindsChar c bs (Some (i, j)) × (i ≤ j) × (j ≤ length bs)) (FindsChar c bs None) → c < 128 → r ≡ list_any (λ b. eqb b c) bs
contains_answer c bs r h l =
    let f = contains_char c bs r h l in
    both_ways r (list_any (λ b. eqb b c) bs)
    (λ e. let k = f.0 e in list_any_at (λ b. eqb b c) bs k.0 0 k.1 (eq-eqb _ c k.2))
    (λ e. let w = first_within c bs e in f.1 (position_or_len (λ b. eqb b c) bs) w (eqb-true _ c (passes_at_first (λ b. eqb b c) bs 0 w)))

-- two texts or more, joined, have a byte
pub joined_some : {A : Type 0} (f : A → List ℕ) (c : ℕ) (ps : List A) → 2 ≤ length ps → 0 < length (join_with_byte c (map f ps))
joined_some f c [] l = absurd (omega arith)
joined_some f c (p ∷ []) l = absurd (omega arith)
joined_some f c (p ∷ q ∷ ps) l = long (f p) (join_with_byte c (f q ∷ map f ps))
  where
    long : (xs ys : List ℕ) → 0 < length (xs ++ c ∷ ys)
    long [] ys = omega arith
    long (x ∷ xs) ys = omega arith

-- one more text to join
pub joined_more : (c : ℕ) (ts : List (List ℕ)) (t : List ℕ) → join_with_byte c (ts ++ t ∷ []) ≡ cond (eqb (length ts) 0) t (join_with_byte c ts ++ c ∷ t)
joined_more c [] t = refl
joined_more c (s ∷ []) t = refl
joined_more c (s ∷ u ∷ ts) t =
    let on : eqb (length (u ∷ ts)) 0 ≡ false = ne_eqb _ 0 (λ e. absurd (omega arith)) in
    let off : eqb (length (s ∷ u ∷ ts)) 0 ≡ false = ne_eqb _ 0 (λ e. absurd (omega arith)) in
    ap (λ r. s ++ c ∷ r) (joined_more c (u ∷ ts) t ∙ cond-false _ _ _ on)
    ∙ sym (append_assoc s (c ∷ join_with_byte c (u ∷ ts)) (c ∷ t))
    ∙ sym (cond-false _ t (join_with_byte c (s ∷ u ∷ ts) ++ c ∷ t) off)

-- a pair put among owned texts
put_by : {Z : Type 0} (e : String Z × String Z) (es more : List (String Z × String Z)) (k v : String Z) (r : Ordering) → texts_of (match_ordering r ((k, v) ∷ e ∷ es) ((e.0, v) ∷ es) (e ∷ more)) ≡ match_ordering r ((string_bytes k, string_bytes v) ∷ texts_of (e ∷ es)) ((string_bytes e.0, string_bytes v) ∷ texts_of es) ((string_bytes e.0, string_bytes e.1) ∷ texts_of more)
put_by e es more k v Less = refl
put_by e es more k v Equal = refl
put_by e es more k v Greater = refl

pub texts_put : {Z : Type 0} (es : List (String Z × String Z)) (k v : String Z) → texts_of (insert_entry string_cmp es k v) ≡ put_param (texts_of es) (string_bytes k, string_bytes v)
texts_put [] k v = refl
texts_put (e ∷ es) k v =
    put_by e es (insert_entry string_cmp es k v) k v (string_cmp k e.0)
    ∙ ap (λ more. match_ordering (string_cmp k e.0) ((string_bytes k, string_bytes v) ∷ texts_of (e ∷ es)) ((string_bytes e.0, string_bytes v) ∷ texts_of es) ((string_bytes e.0, string_bytes e.1) ∷ more)) (texts_put es k v)

map-append : {A B : Type 0} (f : A → B) (xs ys : List A) → map f (xs ++ ys) ≡ map f xs ++ map f ys
map-append f [] ys = refl
map-append f (x ∷ xs) ys = ap (λ zs. f x ∷ zs) (map-append f xs ys)

length-map : {A B : Type 0} (f : A → B) (xs : List A) → length (map f xs) ≡ length xs
length-map f [] = refl
length-map f (x ∷ xs) = ap suc (length-map f xs)

-- a step of a loop that joins the texts of ps
pub joined_step : {A : Type 0} (f : A → List ℕ) (c : ℕ) (ps : List A) (i : ℕ) (d : A) → i < length ps → join_with_byte c (map f (take (i + 1) ps)) ≡ cond (eqb i 0) (f (get_or ps i d)) (join_with_byte c (map f (take i ps)) ++ c ∷ f (get_or ps i d))
joined_step f c ps i d l =
    let n : length (map f (take i ps)) ≡ i = length-map f (take i ps) ∙ grind (arith, common_steps) in
    ap (λ ts. join_with_byte c (map f ts)) (take_more ps i d l)
    ∙ ap (join_with_byte c) (map-append f (take i ps) (get_or ps i d ∷ []))
    ∙ joined_more c (map f (take i ps)) (f (get_or ps i d))
    ∙ ap (λ k. cond (eqb k 0) (f (get_or ps i d)) (join_with_byte c (map f (take i ps)) ++ c ∷ f (get_or ps i d))) n

pub joined_next : {A : Type 0} (f : A → List ℕ) (c : ℕ) (ps : List A) (i : ℕ) (d : A) → i < length ps → 0 < i → join_with_byte c (map f (take (i + 1) ps)) ≡ (join_with_byte c (map f (take i ps)) ++ c ∷ []) ++ f (get_or ps i d)
joined_next f c ps i d l some =
    let off : eqb i 0 ≡ false = ne_eqb i 0 (λ e. absurd (omega arith)) in
    joined_step f c ps i d l ∙ cond-false _ _ _ off ∙ sym (append_assoc (join_with_byte c (map f (take i ps))) (c ∷ []) (f (get_or ps i d)))

-- one more parameter
pub by_key_more : {A : Type 0} (f : A → Param) (xs : List A) (x : A) → by_key (map f (xs ++ x ∷ [])) ≡ put_param (by_key (map f xs)) (f x)
by_key_more f xs x = ap by_key (map-append f xs (x ∷ [])) ∙ fold-append put_param [] (map f xs) (f x ∷ [])

pub map_now : {A B C : Type 0} (f : B → C) (g : A → B) (xs : List A) → map (λ x. f (g x)) xs ≡ map f (map g xs)
map_now f g [] = refl
map_now f g (x ∷ xs) = ap (λ ys. f (g x) ∷ ys) (map_now f g xs)

-- parts are UTF-8 where they are joined
module _ {A : Type 0} (f : A → List ℕ) where
  each_part : (qs : List A) → list_all (λ p. is_utf8 (f p)) qs ≡ true → AllByRecursion IsUtf8 (map f qs)
  each_part [] e = tt
  each_part (q ∷ qs) e = let both = and_parts (is_utf8 (f q)) (list_all (λ p. is_utf8 (f p)) qs) e in (IsUtf8-from_is_utf8 (f q) both.0, each_part qs both.1)

  all_parts : (qs : List A) → AllByRecursion IsUtf8 (map f qs) → list_all (λ p. is_utf8 (f p)) qs ≡ true
  all_parts [] h = refl
  all_parts (q ∷ qs) h = and_from (is_utf8 (f q)) (list_all (λ p. is_utf8 (f p)) qs) (is_utf8-from_IsUtf8 (f q) h.0) (all_parts qs h.1)

  pub parts_utf8 : (ps : List A) → list_all (λ p. is_utf8 (f p)) ps ≡ is_utf8 (join_with_byte 59 (map f ps))
  parts_utf8 ps = both_ways _ _ (λ e. is_utf8-from_IsUtf8 _ (joined_utf8 59 (map f ps) (omega arith) (each_part ps e))) (λ e. all_parts ps (each_utf8 59 (map f ps) (omega arith) (IsUtf8-from_is_utf8 _ e)))

-- ---- printing parameters one by one

abbrev pub separator_after : {A : Type 0} → List A → List ℕ
separator_after xs = cond (eqb (length xs) 0) [] (58 ∷ [])

pub separator_more : {A : Type 0} (xs : List A) (x : A) → separator_after (xs ++ x ∷ []) ≡ 58 ∷ []
separator_more [] x = refl
separator_more (y ∷ xs) x = cond-false _ [] (58 ∷ []) (ne_eqb _ 0 (λ e. absurd (omega arith)))

joined_after : {A : Type 0} (xs : List A) (ts : List (List ℕ)) (t : List ℕ) → length ts ≡ length xs → join_with_byte 58 ts ++ (separator_after xs ++ t) ≡ join_with_byte 58 (ts ++ t ∷ [])
joined_after [] [] t e = refl
joined_after [] (u ∷ ts) t e = absurd (omega arith)
joined_after (x ∷ xs) [] t e = absurd (omega arith)
joined_after (x ∷ xs) (u ∷ ts) t e =
    let off : eqb (length (x ∷ xs)) 0 ≡ false = ne_eqb _ 0 (λ z. absurd (omega arith)) in
    let off' : eqb (length (u ∷ ts)) 0 ≡ false = ne_eqb _ 0 (λ z. absurd (omega arith)) in
    ap (λ s. join_with_byte 58 (u ∷ ts) ++ (s ++ t)) (cond-false _ [] (58 ∷ []) off)
    ∙ sym (cond-false _ t (join_with_byte 58 (u ∷ ts) ++ 58 ∷ t) off')
    ∙ sym (joined_more 58 (u ∷ ts) t)

pub params_more : {A B : Type 0} (g : B → Param) (h : A → B) (xs : List A) (x : A) (s : List ℕ) → s ≡ separator_after xs → params_text (map g (map h xs)) ++ (s ++ param_text (g (h x))) ≡ params_text (map g (map h (xs ++ x ∷ [])))
params_more g h xs x s e =
    let n : length (map param_text (map g (map h xs))) ≡ length xs = length-map param_text (map g (map h xs)) ∙ length-map g (map h xs) ∙ length-map h xs in
    ap (λ r. params_text (map g (map h xs)) ++ (r ++ param_text (g (h x)))) e
    ∙ joined_after xs (map param_text (map g (map h xs))) (param_text (g (h x))) n
    ∙ ap (join_with_byte 58) (sym (map-append param_text (map g (map h xs)) (g (h x) ∷ [])))
    ∙ ap (λ ps. params_text ps) (sym (map-append g (map h xs) (h x ∷ [])))
    ∙ ap (λ ys. params_text (map g ys)) (sym (map-append h xs (x ∷ [])))
