-- The parameters that are kept byte by byte are the first tokens of all parameter bytes.
use Rattle.std.proofs.Common.{◌≡◌, ◌⊎◌, ℕ, pos, ◌+◌, ◌-◌, ◌*◌, ◌<◌, ◌≤◌, min, ⊎_elim, Bool, true, false, List, [], ◌∷◌, ◌++◌, length, take, refl, sym, ap, subst, ◌∙◌, arith, Option, Some, None, append_assoc, length-append}
use Rattle.std.specs.Prelude.{nat_lt, unwrap_or, fold}
use Rattle.std.specs.Char.{is_ascii_digit}
use Rattle.std.proofs.lemmas.Bool.Decides.{nat_tests}
use Rattle.std.proofs.lemmas.Bool.{cases_lt}
use Rattle.std.proofs.lemmas.List.{append-nil, length-take-le, take-append-le, take_all}
use Rattle.std.proofs.Math.Seq.{take-length}
use Rattle.csi_codec.specs.Texts.{largest_number, begun_token, tokens_after, tokens_of}
use Rattle.csi_codec.specs.Prefixes.{most_tokens}
use Rattle.csi_codec.specs.Tokens.{Parameters, no_parameters, with_token, with_number, next_number, with_byte, parameters_of}
use Rattle.csi_codec.specs.declared.parameters.CsiParam.{CsiParam}
use Rattle.csi_codec.specs.declared.parameters.CsiParam.TheVariants.{Integer, P}

-- a number that is cut at the largest
abbrev cut : Option ℕ → Option ℕ
cut None = None
cut (Some n) = Some (min n largest_number)

-- the parameters keep the first of these tokens
pub record Keeps (p : Parameters) (tokens : List CsiParam) : Type 0 where
  pub kept : p.tokens ≡ take most_tokens tokens
  pub more : p.truncated ≡ nat_lt most_tokens (length tokens)

-- the state of the parameters after some whole tokens and a number that has begun
record Shows (p : Parameters) (whole : List CsiParam) (begun : Option ℕ) : Type 0 where
  keeps : Keeps p (whole ++ begun_token begun)
  number : p.number ≡ cut begun

abbrev with_one : Bool → Parameters → CsiParam → Option ℕ → Parameters
with_one true p token number = record { tokens = p.tokens ++ token ∷ []; truncated = p.truncated; number = number }
with_one false p token number = record { tokens = p.tokens; truncated = true; number = number }

with_token_is : (p : Parameters) (token : CsiParam) (number : Option ℕ) → with_token p token number ≡ with_one (nat_lt (length p.tokens) most_tokens) p token number
with_token_is p token number = by_test (nat_lt (length p.tokens) most_tokens) refl
  where
    by_test : (t : Bool) → nat_lt (length p.tokens) most_tokens ≡ t → with_token p token number ≡ with_one (nat_lt (length p.tokens) most_tokens) p token number
    by_test true e = rw e refl
    by_test false e = rw e refl

length-one : (xs : List CsiParam) (x : CsiParam) → length (xs ++ x ∷ []) ≡ length xs + 1
length-one xs x = length-append xs (x ∷ [])

-- one token more
token_more : (p : Parameters) (ts : List CsiParam) (token : CsiParam) (number : Option ℕ) → Keeps p ts → Keeps (with_token p token number) (ts ++ token ∷ [])
token_more p ts token number k = ⊎_elim below_most at_most (order (length ts) most_tokens)
  where
    order : (m n : ℕ) → (m < n) ⊎ (n ≤ m)
    order m n = cases_lt m n

    below_most : length ts < most_tokens → Keeps (with_token p token number) (ts ++ token ∷ [])
    below_most l =
        let all : p.tokens ≡ ts = k.kept ∙ take_all most_tokens ts (omega arith) in
        let room : nat_lt (length p.tokens) most_tokens ≡ true = let e = ap length all in grind (arith, nat_tests) in
        subst (λ (q : Parameters). Keeps q (ts ++ token ∷ [])) (sym (with_token_is p token number ∙ ap (λ (t : Bool). with_one t p token number) room))
        (record {
          kept = ap (λ l. l ++ token ∷ []) all ∙ sym (take_all most_tokens (ts ++ token ∷ []) (omega (arith, length-one ts token)));
          more = k.more ∙ (let e = length-one ts token in grind (arith, nat_tests));
        })

    at_most : most_tokens ≤ length ts → Keeps (with_token p token number) (ts ++ token ∷ [])
    at_most l =
        let full : length p.tokens ≡ most_tokens = ap length k.kept ∙ length-take-le most_tokens ts l in
        let none : nat_lt (length p.tokens) most_tokens ≡ false = grind (arith, nat_tests) in
        subst (λ (q : Parameters). Keeps q (ts ++ token ∷ [])) (sym (with_token_is p token number ∙ ap (λ (t : Bool). with_one t p token number) none))
        (record {
          kept = k.kept ∙ sym (take-append-le most_tokens ts (token ∷ []) l);
          more = sym (let e = length-one ts token in grind (arith, nat_tests));
        })

-- the last token is another number
abbrev renumbered : Bool → Parameters → ℕ → Parameters
renumbered true p n = record { tokens = p.tokens; truncated = true; number = Some n }
renumbered false p n = record { tokens = take (length p.tokens - 1) p.tokens ++ Integer (pos n) ∷ []; truncated = false; number = Some n }

with_number_is : (p : Parameters) (n : ℕ) → with_number p n ≡ renumbered p.truncated p n
with_number_is p n = by_test p.truncated refl
  where
    by_test : (t : Bool) → p.truncated ≡ t → with_number p n ≡ renumbered p.truncated p n
    by_test true e = rw e refl
    by_test false e = rw e refl

number_more : (p : Parameters) (ts : List CsiParam) (token : CsiParam) (n : ℕ) → Keeps p (ts ++ token ∷ []) → Keeps (with_number p n) (ts ++ Integer (pos n) ∷ [])
number_more p ts token n k = by_test (nat_lt most_tokens (length (ts ++ token ∷ []))) refl
  where
    same : length (ts ++ Integer (pos n) ∷ []) ≡ length (ts ++ token ∷ [])
    same = length-one ts (Integer (pos n)) ∙ sym (length-one ts token)

    by_test : (t : Bool) → nat_lt most_tokens (length (ts ++ token ∷ [])) ≡ t → Keeps (with_number p n) (ts ++ Integer (pos n) ∷ [])
    by_test true e =
        let l : most_tokens ≤ length ts = let h = length-one ts token in grind (arith, nat_tests) in
        subst (λ (q : Parameters). Keeps q (ts ++ Integer (pos n) ∷ [])) (sym (with_number_is p n ∙ ap (λ (t : Bool). renumbered t p n) (k.more ∙ e)))
        (record {
          kept = k.kept ∙ take-append-le most_tokens ts (token ∷ []) l ∙ sym (take-append-le most_tokens ts (Integer (pos n) ∷ []) l);
          more = sym (ap (λ (m : ℕ). nat_lt most_tokens m) same ∙ e);
        })
    by_test false e =
        let l : length (ts ++ token ∷ []) ≤ most_tokens = grind (arith, nat_tests) in
        let all : p.tokens ≡ ts ++ token ∷ [] = k.kept ∙ take_all most_tokens (ts ++ token ∷ []) l in
        let count : length p.tokens - 1 ≡ length ts = omega (arith, ap length all, length-one ts token) in
        let prefix : take (length p.tokens - 1) p.tokens ≡ ts = ap (λ (m : ℕ). take m p.tokens) count ∙ ap (λ xs. take (length ts) xs) all ∙ take-append-le (length ts) ts (token ∷ []) (omega arith) ∙ take-length ts in
        subst (λ (q : Parameters). Keeps q (ts ++ Integer (pos n) ∷ [])) (sym (with_number_is p n ∙ ap (λ (t : Bool). renumbered t p n) (k.more ∙ e)))
        (record {
          kept = ap (λ xs. xs ++ Integer (pos n) ∷ []) prefix ∙ sym (take_all most_tokens (ts ++ Integer (pos n) ∷ []) (omega (arith, same)));
          more = sym (ap (λ (m : ℕ). nat_lt most_tokens m) same ∙ e);
        })

numbered : (p : Parameters) (token : CsiParam) (number : Option ℕ) → (with_token p token number).number ≡ number
numbered p token number = ap (λ (q : Parameters). q.number) (with_token_is p token number) ∙ by_test (nat_lt (length p.tokens) most_tokens)
  where
    by_test : (t : Bool) → (with_one t p token number).number ≡ number
    by_test true = refl
    by_test false = refl

renumbered_is : (p : Parameters) (n : ℕ) → (with_number p n).number ≡ Some n
renumbered_is p n = ap (λ (q : Parameters). q.number) (with_number_is p n) ∙ by_test p.truncated
  where
    by_test : (t : Bool) → (renumbered t p n).number ≡ Some n
    by_test true = refl
    by_test false = refl

digits_more : (n d : ℕ) → min (10 * min n largest_number + d) largest_number ≡ min (10 * n + d) largest_number
digits_more n d = omega arith

-- one byte more
shows_digit : (p : Parameters) (ts : List CsiParam) (begun : Option ℕ) (b : ℕ) → is_ascii_digit b ≡ true → Shows p ts begun → Shows (with_byte p b) ts (Some (10 * unwrap_or begun 0 + (b - 48)))
unfolding with_byte
shows_digit p ts None b d s =
    rw (d, s.number)
    (record {
      keeps = token_more p ts _ _ (subst (Keeps p) (append-nil ts) s.keeps);
      number = numbered p _ _;
    })
shows_digit p ts (Some n) b d s =
    let is : next_number p.number b ≡ min (10 * n + (b - 48)) largest_number = ap (λ (o : Option ℕ). next_number o b) s.number ∙ digits_more n (b - 48) in
    rw (d, s.number)
    (subst (λ (m : ℕ). Shows (with_number p m) ts (Some (10 * n + (b - 48)))) (sym (digits_more n (b - 48)))
    (record {
      keeps = number_more p ts _ _ s.keeps;
      number = renumbered_is p _;
    }))

shows_other : (p : Parameters) (ts : List CsiParam) (begun : Option ℕ) (b : ℕ) → is_ascii_digit b ≡ false → Shows p ts begun → Shows (with_byte p b) ((ts ++ begun_token begun) ++ P b ∷ []) None
unfolding with_byte
shows_other p ts begun b d s =
    rw d
    (record {
      keeps = subst (Keeps (with_token p (P b) None)) (sym (append-nil _)) (token_more p (ts ++ begun_token begun) (P b) None s.keeps);
      number = numbered p (P b) None;
    })

keeps_all : (bytes : List ℕ) (p : Parameters) (ts : List CsiParam) (begun : Option ℕ) → Shows p ts begun → Keeps (fold with_byte p bytes) (ts ++ tokens_after begun bytes)
keeps_all [] p ts begun s = s.keeps
keeps_all (b ∷ bytes) p ts begun s = by_test (λ q us c h. keeps_all bytes q us c h) (is_ascii_digit b) refl
  where
    by_test : ((q : Parameters) (us : List CsiParam) (c : Option ℕ) → Shows q us c → Keeps (fold with_byte q bytes) (us ++ tokens_after c bytes))
        → (t : Bool) → is_ascii_digit b ≡ t → Keeps (fold with_byte p (b ∷ bytes)) (ts ++ tokens_after begun (b ∷ bytes))
    by_test go true d = rw d (go (with_byte p b) ts (Some (10 * unwrap_or begun 0 + (b - 48))) (shows_digit p ts begun b d s))
    by_test go false d =
        rw d (subst (Keeps (fold with_byte (with_byte p b) bytes)) (append_assoc (ts ++ begun_token begun) (P b ∷ []) (tokens_after None bytes) ∙ append_assoc ts (begun_token begun) (P b ∷ tokens_after None bytes))
        (go (with_byte p b) ((ts ++ begun_token begun) ++ P b ∷ []) None (shows_other p ts begun b d s)))

pub keeps_tokens : (bytes : List ℕ) → Keeps (parameters_of bytes) (tokens_of bytes)
keeps_tokens bytes = keeps_all bytes no_parameters [] None (record { keeps = record { kept = refl; more = refl }; number = refl })
