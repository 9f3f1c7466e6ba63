-- A sign that does not come first.
use Rattle.std.proofs.Common.{◌≡◌, ◌≢◌, ℕ, ◌+◌, ◌-◌, ◌*◌, eqb, Bool, true, false, List, [], ◌∷◌, ◌++◌, Some, None, refl}
use Rattle.std.proofs.lemmas.Bool.{cond_both, eqb-true}
use Rattle.std.specs.Char.{is_ascii_digit}
use Rattle.csi_codec.specs.Texts.{begun_token, tokens_after, tokens_of}
use Rattle.csi_codec.specs.declared.parameters.CsiParam.{CsiParam}
use Rattle.csi_codec.specs.declared.parameters.CsiParam.TheVariants.{P}
use Rattle.csi_codec.specs.Sources.{after}

-- after a digit comes no sign but a number
number_first : (bs : List ℕ) (n sign : ℕ) → after sign (tokens_after (Some n) bs) ≡ None
number_first [] n sign = refl
number_first (b ∷ bs) n sign =
    let first = number_first bs (10 * n + (b - 48)) sign in
    cond_both (is_ascii_digit b) (tokens_after (Some (10 * n + (b - 48))) bs) (begun_token (Some n) ++ P b ∷ tokens_after None bs) (λ ts. after sign ts ≡ None) (λ e. first) (λ e. refl)

unlike : (t : Bool) (b sign : ℕ) (ts : List CsiParam) → eqb b sign ≡ t → b ≢ sign → after sign (P b ∷ ts) ≡ None
unlike true b sign ts e h = absurd (h (eqb-true b sign e))
unlike false b sign ts e h = rw e refl

pub other_first : (b sign : ℕ) (bs : List ℕ) → b ≢ sign → after sign (tokens_of (b ∷ bs)) ≡ None
other_first b sign bs h =
    cond_both (is_ascii_digit b) (tokens_after (Some (10 * 0 + (b - 48))) bs) (P b ∷ tokens_after None bs) (λ ts. after sign ts ≡ None)
    (λ e. number_first bs (10 * 0 + (b - 48)) sign) (λ e. unlike (eqb b sign) b sign (tokens_after None bs) refl h)
