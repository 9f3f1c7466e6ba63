-- How many actions a reading has.
use Rattle.std.proofs.Common.{◌≡◌, ℕ, zero, suc, ◌-◌, ◌<◌, ◌≤◌, max, eqb, Bool, true, ◌||◌, List, [], ◌∷◌, length, Option, Some, None, arith, refl}
use Rattle.std.proofs.lemmas.Bool.{cond_both}
use Rattle.std.specs.Prelude.{is_some}
use Rattle.std.specs.Option.{option_map_or}
use Rattle.csi_codec.specs.declared.parameters.CsiParam.{CsiParam}
use Rattle.csi_codec.specs.declared.parameters.CsiParam.TheVariants.{Integer, P}
use Rattle.csi_codec.specs.declared.rendition.Sgr.TheVariants.{Reset}
use Rattle.csi_codec.specs.Actions.{Kind, sgr_groups, private_mode_groups, standard_mode_groups, Action, sgr, unspecified, group_of, groups_from, groups, all_sgr_tokens, sgr_reading, modes_or, single_reading, single_or, standard_reading, other_reading, csi_reading}
use Rattle.csi_codec.proofs.PieceLemmas.{group_of_takes}

-- ---- The count

groups_from-length : (group : List CsiParam → Option (Action × ℕ)) (unread : List CsiParam → Action) (k : ℕ) (ts : List CsiParam) → length (groups_from group unread k ts) ≤ length ts
groups_from-length group unread zero [] = omega arith
groups_from-length group unread (suc k) [] = omega arith
groups_from-length group unread (suc k) (t ∷ ts) = let h : length (groups_from group unread k ts) ≤ length ts = groups_from-length group unread k ts in omega arith
groups_from-length group unread zero (t ∷ ts) =
    elim (group (t ∷ ts)) as (λ found. length (option_map_or (λ f. f.0 ∷ groups_from group unread (f.1 - 1) ts) found (unread (t ∷ ts) ∷ [])) ≤ length (t ∷ ts)) [
      | None ↦ omega arith
      | Some f ↦ let h : length (groups_from group unread (f.1 - 1) ts) ≤ length ts = groups_from-length group unread (f.1 - 1) ts in omega arith
    ]

groups-some : (k : Kind) (truncated : Bool) (final : ℕ) (ts : List CsiParam) → 0 < length ts → 0 < length (groups k truncated final ts)
unfolding groups
groups-some k truncated final [] h = absurd (omega arith)
groups-some k truncated final (t ∷ ts) h =
    let unread : List CsiParam → Action = λ rest. unspecified rest truncated final in
    elim (group_of k final (t ∷ ts)) as (λ found. 0 < length (option_map_or (λ f. f.0 ∷ groups_from (group_of k final) unread (f.1 - 1) ts) found (unread (t ∷ ts) ∷ [])))
    [ None ↦ omega arith | Some f ↦ omega arith ]

-- between one action and as many as there are tokens, or one
pub record IsCounted (ts : List CsiParam) (actions : List Action) : Type 0 where
  pub some : 0 < length actions
  pub bounded : length actions ≤ max 1 (length ts)

counted_one : (ts : List CsiParam) (a : Action) → IsCounted ts (a ∷ [])
counted_one ts a = record { some = omega arith; bounded = omega arith }

groups-counted : (k : Kind) (truncated : Bool) (final : ℕ) (ts whole : List CsiParam) → 0 < length ts → length ts ≤ length whole → IsCounted whole (groups k truncated final ts)
unfolding groups
groups-counted k truncated final ts whole h le =
    let n : length (groups k truncated final ts) ≤ length ts = groups_from-length (group_of k final) (λ rest. unspecified rest truncated final) 0 ts in
    record { some = groups-some k truncated final ts h; bounded = omega arith }

stands_in : (k : Kind) (final : ℕ) (ts : List CsiParam) (found : Option (Action × ℕ)) → group_of k final ts ≡ found → is_some found ≡ true → 0 < length ts
stands_in k final ts None e h = cc
stands_in k final ts (Some f) e h = let t : (0 < f.1) × (f.1 ≤ length ts) = group_of_takes k final ts f.0 f.1 e in omega (arith, t.0, t.1)

modes_or-counted : (k : Kind) (truncated : Bool) (final : ℕ) (ts whole : List CsiParam) → length ts ≤ length whole → IsCounted whole (modes_or k truncated final ts whole)
modes_or-counted k truncated final ts whole le =
    cond_both (is_some (group_of k final ts)) _ _ (IsCounted whole) (λ e. groups-counted k truncated final ts whole (stands_in k final ts (group_of k final ts) refl e) le)
    (λ e. counted_one whole (unspecified whole truncated final))

single_or-counted : (truncated : Bool) (final : ℕ) (ts : List CsiParam) → IsCounted ts (single_or truncated final ts)
single_or-counted truncated final ts =
    elim (single_reading final ts) as (λ found. IsCounted ts (option_map_or (λ known. known ∷ []) found (unspecified ts truncated final ∷ [])))
    [ None ↦ counted_one ts (unspecified ts truncated final) | Some known ↦ counted_one ts known ]

standard_reading-counted : (truncated : Bool) (final : ℕ) (ts : List CsiParam) → IsCounted ts (standard_reading truncated final ts)
standard_reading-counted truncated final ts =
    cond_both (eqb final 104 || eqb final 108) _ _ (IsCounted ts) (λ e. modes_or-counted standard_mode_groups truncated final ts ts (omega arith)) (λ e. single_or-counted truncated final ts)

other_reading-counted : (truncated : Bool) (final : ℕ) (ts : List CsiParam) → IsCounted ts (other_reading truncated final ts)
other_reading-counted truncated final [] = standard_reading-counted truncated final []
other_reading-counted truncated final (Integer z ∷ ts) = standard_reading-counted truncated final (Integer z ∷ ts)
other_reading-counted truncated final (P b ∷ ts) =
    cond_both (eqb b 63) _ _ (IsCounted (P b ∷ ts)) (λ e. modes_or-counted private_mode_groups truncated final ts (P b ∷ ts) (omega arith)) (λ e. standard_reading-counted truncated final (P b ∷ ts))

sgr_reading-counted : (truncated : Bool) (final : ℕ) (ts : List CsiParam) → IsCounted ts (sgr_reading truncated final ts)
sgr_reading-counted truncated final [] = counted_one [] (sgr Reset)
sgr_reading-counted truncated final (t ∷ ts) =
    cond_both (all_sgr_tokens (t ∷ ts)) _ _ (IsCounted (t ∷ ts)) (λ e. groups-counted sgr_groups truncated final (t ∷ ts) (t ∷ ts) (omega arith) (omega arith)) (λ e. counted_one (t ∷ ts) (unspecified (t ∷ ts) truncated final))

pub csi_reading-counted : (ts : List CsiParam) (truncated : Bool) (final : ℕ) → IsCounted ts (csi_reading ts truncated final)
unfolding csi_reading
csi_reading-counted ts truncated final = cond_both (eqb final 109) _ _ (IsCounted ts) (λ e. sgr_reading-counted truncated final ts) (λ e. other_reading-counted truncated final ts)
