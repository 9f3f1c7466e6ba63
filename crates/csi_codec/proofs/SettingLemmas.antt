-- The first setting of an SGR list that is read where its bytes stand, and what is left after it.
use Rattle.std.proofs.Common.{◌≡◌, ℕ, zero, suc, ◌+◌, ◌-◌, ◌*◌, ◌<◌, ◌&&◌, Bool, true, false, List, [], ◌∷◌, ◌++◌, length, length-drop, drop, Option, Some, None, refl, sym, ap, ◌∙◌, arith}
use Rattle.std.specs.Prelude.{unwrap_or, ◌==◌}
use Rattle.std.specs.List.{list_all}
use Rattle.std.specs.Char.{is_ascii_digit}
use Rattle.std.proofs.lemmas.Bool.{cond_both}
use Rattle.std.proofs.lemmas.Bool.Decides.{nat_tests}
use Rattle.csi_codec.specs.Actions.{Action, sgr, sgr_groups, groups, is_sgr_token, all_sgr_tokens, csi_reading}
use Rattle.csi_codec.specs.Laws.{begins_with_question}
use Rattle.csi_codec.specs.Rendition.{sgr_group}
use Rattle.csi_codec.specs.Sources.{read_off, is_list_byte, settings_left, IsSgrList}
use Rattle.csi_codec.specs.Texts.{begun_token, tokens_after, tokens_of}
use Rattle.csi_codec.specs.declared.parameters.CsiParam.{CsiParam}
use Rattle.csi_codec.specs.declared.parameters.CsiParam.TheVariants.{P}
use Rattle.csi_codec.specs.declared.rendition.Sgr.{Sgr}
use Rattle.csi_codec.specs.declared.rendition.Sgr.TheVariants.{Reset}
use Rattle.csi_codec.proofs.CoordinateLemmas.{as_group, rendition_fits, reading_by}
use Rattle.csi_codec.proofs.PieceLemmas.{groups_found}

-- ---- bytes of lists

-- some bytes are some tokens
some_tokens : (bs : List ℕ) (n : ℕ) → 0 < length (tokens_after (Some n) bs)
some_tokens [] n = omega arith
some_tokens (b ∷ bs) n =
    cond_both (is_ascii_digit b) (tokens_after (Some (10 * n + (b - 48))) bs) (begun_token (Some n) ++ P b ∷ tokens_after None bs) (λ ts. 0 < length ts)
    (λ e. some_tokens bs (10 * n + (b - 48))) (λ e. omega arith)

first_token : (b : ℕ) (bs : List ℕ) → 0 < length (tokens_of (b ∷ bs))
first_token b bs =
    cond_both (is_ascii_digit b) (tokens_after (Some (10 * 0 + (b - 48))) bs) (P b ∷ tokens_after None bs) (λ ts. 0 < length ts)
    (λ e. some_tokens bs (10 * 0 + (b - 48))) (λ e. omega arith)

-- ---- all tokens of SGR

drop_all : (n : ℕ) (ts : List CsiParam) → all_sgr_tokens ts ≡ true → all_sgr_tokens (drop n ts) ≡ true
drop_all zero ts h = h
drop_all (suc n) [] h = refl
drop_all (suc n) (t ∷ ts) h = drop_all n ts (rest (is_sgr_token t) (all_sgr_tokens ts) h)
  where
    rest : (a b : Bool) → (a && b) ≡ true → b ≡ true
    rest true b e = e
    rest false b e = cc

reading_is : (ts : List CsiParam) (truncated : Bool) → 0 < length ts → all_sgr_tokens ts ≡ true → csi_reading ts truncated 109 ≡ groups sgr_groups truncated 109 ts
unfolding csi_reading
reading_is ts truncated h e = reading_by truncated 109 ts true h e

-- the groups of what is left
left_is : (bytes : List ℕ) (truncated : Bool) → all_sgr_tokens (tokens_of bytes) ≡ true → groups sgr_groups truncated 109 (tokens_of bytes) ≡ settings_left bytes truncated
unfolding groups
left_is [] truncated e = refl
left_is (b ∷ bs) truncated e = sym (reading_is (tokens_of (b ∷ bs)) truncated (first_token b bs) e)

pub reset_first : (list : List ℕ) (truncated : Bool) → length list ≡ 0 → csi_reading (tokens_of list) truncated 109 ≡ sgr Reset ∷ settings_left list truncated
unfolding csi_reading
reset_first [] truncated e = refl
reset_first (b ∷ bs) truncated e = absurd (omega arith)

read_first : (ts : List CsiParam) (found : Option (Sgr × ℕ)) (v : Sgr) (rest : List CsiParam) → Some (v, rest) ≡ read_off ts found → (n : ℕ) × (found ≡ Some (v, n)) × (rest ≡ drop n ts)
read_first ts None v rest e = cc
read_first ts (Some f) v rest e =
    let both : ◌≡◌ {A = Sgr × List CsiParam} (v, rest) (f.0, drop f.1 ts) = cc in
    (f.1, ap (λ (w : Sgr). Some (w, f.1)) (sym (ap (λ (p : Sgr × List CsiParam). p.0) both)), ap (λ (p : Sgr × List CsiParam). p.1) both)

-- a setting, and what is left
pub setting_first : (list rest : List ℕ) (v : Sgr) → IsSgrList list → Some (v, tokens_of rest) ≡ read_off (tokens_of list) (sgr_group (tokens_of list))
    → ((truncated : Bool) → csi_reading (tokens_of list) truncated 109 ≡ sgr v ∷ settings_left rest truncated) × IsSgrList rest
setting_first list rest v k e =
    let ts = tokens_of list in
    let f = read_first ts (sgr_group ts) v (tokens_of rest) e in
    let fits = rendition_fits ts v f.0 f.1 in
    let remaining : all_sgr_tokens (tokens_of rest) ≡ true = ap all_sgr_tokens f.2 ∙ drop_all f.0 ts k.tokens in (
      λ truncated.
          reading_is ts truncated (omega (arith, fits.0, fits.1)) k.tokens
          ∙ groups_found sgr_groups truncated 109 ts (sgr v) f.0 (as_group ts v f.0 f.1)
          ∙ ap (λ (l : List CsiParam). sgr v ∷ groups sgr_groups truncated 109 l) (sym f.2)
          ∙ ap (λ (l : List Action). sgr v ∷ l) (left_is rest truncated remaining),
      record { tokens = remaining; short = let shown = k.short in let n = ap length f.2 ∙ length-drop f.0 ts in omega arith },
    )

-- ---- the tokens of bytes of lists

list_sign : (b : ℕ) → is_list_byte b ≡ true → is_ascii_digit b ≡ false → is_sgr_token (P b) ≡ true
unfolding is_list_byte
list_sign b l d = grind (arith, nat_tests)

sign_first : (b : ℕ) (begun : Option ℕ) (ts : List CsiParam) → is_sgr_token (P b) ≡ true → all_sgr_tokens ts ≡ true → all_sgr_tokens (begun_token begun ++ P b ∷ ts) ≡ true
sign_first b None ts s a = rw (s, a) refl
sign_first b (Some n) ts s a = rw (s, a) refl

byte_after : (b : ℕ) (bs : List ℕ) (begun : Option ℕ) (x y : Bool) → is_list_byte b ≡ x → list_all is_list_byte bs ≡ y → (x && y) ≡ true
    → (list_all is_list_byte bs ≡ true → (next : Option ℕ) → all_sgr_tokens (tokens_after next bs) ≡ true) → all_sgr_tokens (tokens_after begun (b ∷ bs)) ≡ true
byte_after b bs begun true true l a e more =
    cond_both (is_ascii_digit b) (tokens_after (Some (10 * unwrap_or begun 0 + (b - 48))) bs) (begun_token begun ++ P b ∷ tokens_after None bs) (λ ts. all_sgr_tokens ts ≡ true)
    (λ d. more a (Some (10 * unwrap_or begun 0 + (b - 48)))) (λ d. sign_first b begun (tokens_after None bs) (list_sign b l d) (more a None))
byte_after b bs begun true false l a e more = cc
byte_after b bs begun false y l a e more = cc

list_after : (bs : List ℕ) (begun : Option ℕ) → list_all is_list_byte bs ≡ true → all_sgr_tokens (tokens_after begun bs) ≡ true
list_after [] None h = refl
list_after [] (Some n) h = refl
list_after (b ∷ bs) begun h = byte_after b bs begun (is_list_byte b) (list_all is_list_byte bs) refl refl h (λ a next. list_after bs next a)

pub list_tokens : (bytes : List ℕ) → list_all is_list_byte bytes ≡ true → all_sgr_tokens (tokens_of bytes) ≡ true
list_tokens bytes h = list_after bytes None h

-- a list of numbers begins with no `?`
number_first : (bs : List ℕ) (n : ℕ) → begins_with_question (tokens_after (Some n) bs) ≡ false
number_first [] n = refl
number_first (b ∷ bs) n =
    cond_both (is_ascii_digit b) (tokens_after (Some (10 * n + (b - 48))) bs) (begun_token (Some n) ++ P b ∷ tokens_after None bs) (λ ts. begins_with_question ts ≡ false)
    (λ e. number_first bs (10 * n + (b - 48))) (λ e. refl)

list_plain : (b : ℕ) → is_list_byte b ≡ true → (b == 63) ≡ false
unfolding is_list_byte
list_plain b l = grind (arith, nat_tests)

pub no_question : (bytes : List ℕ) → list_all is_list_byte bytes ≡ true → begins_with_question (tokens_of bytes) ≡ false
no_question [] h = refl
no_question (b ∷ bs) h = by_first (is_list_byte b) refl h
  where
    by_first : (x : Bool) → is_list_byte b ≡ x → (x && list_all is_list_byte bs) ≡ true → begins_with_question (tokens_of (b ∷ bs)) ≡ false
    by_first true l e =
        cond_both (is_ascii_digit b) (tokens_after (Some (10 * 0 + (b - 48))) bs) (P b ∷ tokens_after None bs) (λ ts. begins_with_question ts ≡ false)
        (λ d. number_first bs (10 * 0 + (b - 48))) (λ d. list_plain b l)
    by_first false l e = cc
