-- Laws of every reading.
use Rattle.std.specs.Prelude.{◌≡◌, ℕ, ◌<◌, ◌-◌, Bool, true, false, not, ◌&&◌, ◌||◌, ◌==◌, nat_lt, List, [], ◌∷◌, ◌++◌}
use Rattle.std.specs.Prelude.{length, drop}
use Rattle.std.specs.List.{list_all, AllByRecursion}
use Rattle.csi_codec.specs.declared.parameters.CsiParam.{CsiParam}
use Rattle.csi_codec.specs.declared.parameters.CsiParam.TheVariants.{P}
use Rattle.csi_codec.specs.Parameters.{semicolon_at}
use Rattle.csi_codec.specs.Actions.{Action, unspecified, all_sgr_tokens, csi_reading, spelling_of}

-- `rest` is `ts` without some tokens at its start
abbrev pub IsSuffix : List CsiParam → List CsiParam → Type 0
IsSuffix rest ts = (n : ℕ) × (rest ≡ drop n ts)

-- the rest is a suffix of the list, keeps the flag and the final byte, and comes last
abbrev pub KeepsRests : List CsiParam → Bool → ℕ → List Action → Type 0
KeepsRests ts truncated final [] = Unit {0}
KeepsRests ts truncated final (unspecified rest flag control ∷ remaining) =
    IsSuffix rest ts × (flag ≡ truncated) × (control ≡ final) × (remaining ≡ [])
KeepsRests ts truncated final (known ∷ remaining) = KeepsRests ts truncated final remaining

-- whether an action is not the rest of a list
abbrev pub is_known : Action → Bool
is_known (unspecified rest truncated final) = false
is_known _ = true

-- two lists of SGR can be joined by a `;`
pub record CanJoin (a b : List CsiParam) (truncated : Bool) : Type 0 where
  pub first_tokens : all_sgr_tokens a ≡ true
  pub other_tokens : all_sgr_tokens b ≡ true
  pub first_some : 0 < length a
  pub other_some : 0 < length b
  pub unended : semicolon_at a (length a - 1) ≡ 0
  pub known : list_all is_known (csi_reading a truncated 109) ≡ true

-- the actions of a list, a `;` and a second list are the actions of the first and then those of the second
abbrev pub SgrListsJoin : Type 0
SgrListsJoin = (a b : List CsiParam) (truncated : Bool) → CanJoin a b truncated
    → csi_reading (a ++ P 59 ∷ b) truncated 109 ≡ csi_reading a truncated 109 ++ csi_reading b truncated 109

-- ---- The round trip

-- an action is what the parameters and the final byte that are written for it mean
abbrev pub ReadsBack : Bool → Action → Type 0
ReadsBack truncated a = csi_reading (spelling_of a).params truncated (spelling_of a).control ≡ a ∷ []

abbrev pub begins_with_question : List CsiParam → Bool
begins_with_question (P b ∷ ts) = b == 63
begins_with_question _ = false

-- the exception: the unread rest of modes after at least one mode, if it begins with a `?` or its final byte is s or r
abbrev pub is_exempt : List CsiParam → ℕ → Action → Bool
is_exempt ts final (unspecified rest truncated control) =
    nat_lt (length rest) (length ts) && not (final == 109)
    && (begins_with_question rest || (final == 115 || final == 114))
is_exempt ts final _ = false

-- each action of a list reads back under the same flag, except the exempt ones
abbrev pub ActionsReadBack : Type 0
ActionsReadBack = (ts : List CsiParam) (truncated : Bool) (final : ℕ)
    → AllByRecursion (λ a. is_exempt ts final a ≡ false → ReadsBack truncated a) (csi_reading ts truncated final)
