-- Bytes encode no more tokens than there are bytes, so a few bytes lose none.
use Rattle.std.proofs.Common.{◌≡◌, ℕ, ◌+◌, ◌-◌, ◌*◌, ◌≤◌, false, List, [], ◌∷◌, ◌++◌, length, Option, Some, None, ◌∙◌, arith}
use Rattle.std.specs.Char.{is_ascii_digit}
use Rattle.std.proofs.lemmas.Bool.{cond_both}
use Rattle.std.proofs.lemmas.Bool.Decides.{nat_tests}
use Rattle.std.proofs.lemmas.List.{take_all}
use Rattle.csi_codec.specs.Prefixes.{most_tokens}
use Rattle.csi_codec.specs.Texts.{begun_token, tokens_after, tokens_of}
use Rattle.csi_codec.specs.Tokens.{parameters_of}
use Rattle.csi_codec.specs.declared.parameters.CsiParam.TheVariants.{P}
use Rattle.csi_codec.proofs.TokenLemmas.{keeps_tokens}

-- a number that has begun is one token
abbrev begun_count : Option ℕ → ℕ
begun_count None = 0
begun_count (Some n) = 1

with_byte_more : (begun : Option ℕ) (b : ℕ) (bs : List ℕ) → ((next : Option ℕ) → length (tokens_after next bs) ≤ begun_count next + length bs)
    → length (tokens_after begun (b ∷ bs)) ≤ begun_count begun + length (b ∷ bs)
with_byte_more None b bs more =
    cond_both (is_ascii_digit b) (tokens_after (Some (10 * 0 + (b - 48))) bs) (P b ∷ tokens_after None bs) (λ ts. length ts ≤ 0 + length (b ∷ bs))
    (λ e. omega (arith, more (Some (10 * 0 + (b - 48))))) (λ e. omega (arith, more None))
with_byte_more (Some n) b bs more =
    cond_both (is_ascii_digit b) (tokens_after (Some (10 * n + (b - 48))) bs) (begun_token (Some n) ++ P b ∷ tokens_after None bs) (λ ts. length ts ≤ 1 + length (b ∷ bs))
    (λ e. omega (arith, more (Some (10 * n + (b - 48))))) (λ e. omega (arith, more None))

few_tokens : (bytes : List ℕ) (begun : Option ℕ) → length (tokens_after begun bytes) ≤ begun_count begun + length bytes
few_tokens [] None = omega arith
few_tokens [] (Some n) = omega arith
few_tokens (b ∷ bs) begun = with_byte_more begun b bs (λ next. few_tokens bs next)

pub few_kept : (bytes : List ℕ) → length bytes ≤ most_tokens → length (tokens_of bytes) ≤ most_tokens
few_kept bytes h = omega (arith, few_tokens bytes None)

pub all_kept : (bytes : List ℕ) → length (tokens_of bytes) ≤ most_tokens → (parameters_of bytes).tokens ≡ tokens_of bytes
all_kept bytes h = (keeps_tokens bytes).kept ∙ take_all most_tokens (tokens_of bytes) h

pub none_dropped : (bytes : List ℕ) → length (tokens_of bytes) ≤ most_tokens → (parameters_of bytes).truncated ≡ false
none_dropped bytes h = (keeps_tokens bytes).more ∙ grind (arith, nat_tests)
