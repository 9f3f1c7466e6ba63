-- Groups: how many tokens a group takes, and the actions of a list by its first group.
use Rattle.std.proofs.Common.{◌≡◌, ℕ, zero, suc, ◌+◌, ◌-◌, ◌<◌, ◌≤◌, ℤ, eqb, Bool, true, false, cond, List, [], ◌∷◌, length, length-drop, drop, Option, Some, None, option_map, arith, refl, ap, ◌∙◌, subst}
use Rattle.std.specs.Option.{option_map_or}
use Rattle.csi_codec.specs.declared.parameters.CsiParam.{CsiParam}
use Rattle.csi_codec.specs.declared.parameters.CsiParam.TheVariants.{Integer, P}
use Rattle.csi_codec.specs.declared.rendition.Sgr.{Sgr}
use Rattle.csi_codec.specs.declared.modes.Mode.{Mode}
use Rattle.csi_codec.specs.Parameters.{semicolon_count, semicolon_at, with_semicolon}
use Rattle.csi_codec.specs.Modes.{private_mode_reading, mode_reading}
use Rattle.csi_codec.specs.Rendition.{taking, sgr_shape, sgr_group}
use Rattle.csi_codec.specs.Actions.{Kind, sgr_groups, private_mode_groups, standard_mode_groups, Action, sgr, mode, unspecified, mode_group, group_of, groups_from, groups}
use Rattle.csi_codec.proofs.SgrLemmas.{Takes, taking-takes, sgr_shape_takes}

-- ---- How many tokens a group takes

pub semicolon_count-le : (t : Option CsiParam) → semicolon_count t ≤ 1
semicolon_count-le None = omega arith
semicolon_count-le (Some (Integer z)) = omega arith
semicolon_count-le (Some (P b)) = elim (eqb b 59) as (λ v. cond v 1 0 ≤ 1) [ true ↦ omega arith | false ↦ omega arith ]

semicolon_at-fits : (ts : List CsiParam) (n : ℕ) → n ≤ length ts → n + semicolon_at ts n ≤ length ts
semicolon_at-fits [] n h = omega arith
semicolon_at-fits (t ∷ ts) zero h = let s : semicolon_count (Some t) ≤ 1 = semicolon_count-le (Some t) in omega arith
semicolon_at-fits (t ∷ ts) (suc n) h = let i : n + semicolon_at ts n ≤ length ts = semicolon_at-fits ts n (omega arith) in omega arith

with_semicolon-takes : {A : Type 0} (ts : List CsiParam) (found : Option (A × ℕ)) → Takes (length ts) found → Takes (length ts) (with_semicolon ts found)
with_semicolon-takes ts None h = tt
with_semicolon-takes ts (Some f) h = (omega (arith, h.0), semicolon_at-fits ts f.1 h.1)

as_action : (n : ℕ) (found : Option (Sgr × ℕ)) → Takes n found → Takes n (option_map (λ f. (sgr f.0, f.1)) found)
as_action n None h = tt
as_action n (Some f) h = h

-- an SGR group, as an action
abbrev pub rendition_group : List CsiParam → Option (Action × ℕ)
rendition_group ts = option_map (λ found. (sgr found.0, found.1)) (sgr_group ts)

rendition_group-takes : (ts : List CsiParam) → Takes (length ts) (rendition_group ts)
unfolding sgr_group
rendition_group-takes ts = as_action (length ts) (sgr_group ts) (with_semicolon-takes ts (sgr_shape ts) (sgr_shape_takes ts))

mode_group-takes : (read : ℤ → Option Mode) (ts : List CsiParam) → Takes (length ts) (mode_group read ts)
unfolding mode_group
mode_group-takes read [] = tt
mode_group-takes read (P b ∷ ts) = tt
mode_group-takes read (Integer z ∷ ts) =
    with_semicolon-takes (Integer z ∷ ts) (taking 1 (option_map mode (read z))) (taking-takes (length (Integer z ∷ ts)) (option_map mode (read z)) (omega arith))

-- a group takes at least one token, and no more than there are
pub group_of-takes : (k : Kind) (final : ℕ) (ts : List CsiParam) → Takes (length ts) (group_of k final ts)
group_of-takes sgr_groups final ts = rendition_group-takes ts
group_of-takes private_mode_groups final ts = mode_group-takes (private_mode_reading final) ts
group_of-takes standard_mode_groups final ts = mode_group-takes (mode_reading final) ts

pub group_of_takes : (k : Kind) (final : ℕ) (ts : List CsiParam) (a : Action) (n : ℕ) → group_of k final ts ≡ Some (a, n) → (0 < n) × (n ≤ length ts)
group_of_takes k final ts a n e = let P : Option (Action × ℕ) → Type 0 = λ found. Takes (length ts) found in subst P e (group_of-takes k final ts)

-- ---- The first group

-- used up tokens are as good as dropped
pub groups_from-drop : (group : List CsiParam → Option (Action × ℕ)) (unread : List CsiParam → Action) (k : ℕ) (ts : List CsiParam) → groups_from group unread k ts ≡ groups_from group unread 0 (drop k ts)
groups_from-drop group unread zero ts = refl
groups_from-drop group unread (suc k) [] = refl
groups_from-drop group unread (suc k) (t ∷ ts) = groups_from-drop group unread k ts

-- where a group is found it is the first action, and the remaining actions are those of the tokens after it
pub groups_found : (k : Kind) (truncated : Bool) (final : ℕ) (ts : List CsiParam) (a : Action) (n : ℕ) → group_of k final ts ≡ Some (a, n) → groups k truncated final ts ≡ a ∷ groups k truncated final (drop n ts)
unfolding groups
groups_found k truncated final [] a n e = let t : (0 < n) × (n ≤ 0) = group_of_takes k final [] a n e in absurd (omega (arith, t.0, t.1))
groups_found k truncated final (t ∷ ts) a zero e = let h : (0 < 0) × (0 ≤ length (t ∷ ts)) = group_of_takes k final (t ∷ ts) a zero e in absurd (omega (arith, h.0))
groups_found k truncated final (t ∷ ts) a (suc n) e =
    let unread : List CsiParam → Action = λ rest. unspecified rest truncated final in
    let group : List CsiParam → Option (Action × ℕ) = group_of k final in
    ap (λ found. option_map_or (λ f. f.0 ∷ groups_from group unread (f.1 - 1) ts) found (unread (t ∷ ts) ∷ [])) e
    ∙ ap (λ m. a ∷ groups_from group unread m ts) (sub_one n)
    ∙ ap (λ rest. a ∷ rest) (groups_from-drop group unread n ts)
  where
    sub_one : (n : ℕ) → suc n - 1 ≡ n
    sub_one n = omega arith

-- where no group is found the whole list is a single action
pub groups_rest : (k : Kind) (truncated : Bool) (final : ℕ) (ts : List CsiParam) → group_of k final ts ≡ None → 0 < length ts → groups k truncated final ts ≡ unspecified ts truncated final ∷ []
unfolding groups
groups_rest k truncated final [] e h = absurd (omega arith)
groups_rest k truncated final (t ∷ ts) e h =
    let unread : List CsiParam → Action = λ rest. unspecified rest truncated final in
    let group : List CsiParam → Option (Action × ℕ) = group_of k final in
    ap (λ found. option_map_or (λ f. f.0 ∷ groups_from group unread (f.1 - 1) ts) found (unread (t ∷ ts) ∷ [])) e

-- an empty list has no actions
pub groups_none : (k : Kind) (truncated : Bool) (final : ℕ) (ts : List CsiParam) → length ts ≡ 0 → groups k truncated final ts ≡ []
unfolding groups
groups_none k truncated final [] h = refl
groups_none k truncated final (t ∷ ts) h = absurd (omega arith)

-- and a list whose tokens are all dropped has none either
pub groups_ended : (k : Kind) (truncated : Bool) (final : ℕ) (ts : List CsiParam) (n : ℕ) → length ts ≤ n → groups k truncated final (drop n ts) ≡ []
groups_ended k truncated final ts n h = groups_none k truncated final (drop n ts) (omega (arith, length-drop n ts))
