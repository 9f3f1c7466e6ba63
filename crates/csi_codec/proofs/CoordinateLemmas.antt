-- Steps from position to position of a list.
use Rattle.std.proofs.Common.{◌≡◌, ◌≢◌, ℕ, zero, suc, ◌+◌, ◌<◌, ◌≤◌, max, eqb, nat_lt, ◌||◌, Bool, true, false, cond, List, [], ◌∷◌, length, length-drop, drop, drop-drop, Option, Some, None, Result, option_map, zero-add, arith, refl, sym, ap, ◌∙◌, subst}
use Rattle.std.proofs.lemmas.Bool.{cond_both}
use Rattle.std.proofs.lemmas.Bool.Decides.{nat_tests}
use Rattle.std.specs.Prelude.{◌==◌, is_some}
use Rattle.std.specs.declared.alloc.AllocError.{AllocError}
use Rattle.csi_codec.specs.declared.parameters.CsiParam.{CsiParam}
use Rattle.csi_codec.specs.declared.parameters.CsiParam.TheVariants.{Integer, P}
use Rattle.csi_codec.specs.declared.rendition.Sgr.{Sgr}
use Rattle.csi_codec.specs.declared.rendition.Sgr.TheVariants.{Reset}
use Rattle.csi_codec.specs.declared.sequences.CSI.{CSI}
use Rattle.csi_codec.specs.Parsing.{actions_after, list_kind}
use Rattle.csi_codec.specs.Laws.{begins_with_question}
use Rattle.csi_codec.specs.Rendition.{sgr_group}
use Rattle.csi_codec.specs.Sequences.{HandsOut}
use Rattle.csi_codec.specs.Actions.{Kind, Action, sgr, sgr_groups, private_mode_groups, standard_mode_groups, unspecified, group_of, groups, all_sgr_tokens, sgr_reading, modes_or, single_or, csi_reading}
use Rattle.csi_codec.proofs.BackLemmas.{standard_is}
use Rattle.csi_codec.proofs.PieceLemmas.{rendition_group, group_of_takes, groups_found, groups_rest, groups_ended}
use Rattle.csi_codec.proofs.ReadingLemmas.{csi_reading-counted}
use Rattle.csi_codec.proofs.SgrTokens.{sgr_tokens_after}

-- ---- The first group of an SGR list

pub as_group : (ts : List CsiParam) (v : Sgr) (n : ℕ) → sgr_group ts ≡ Some (v, n) → rendition_group ts ≡ Some (sgr v, n)
as_group ts v n e = ap (λ found. option_map (λ f. (sgr f.0, f.1)) found) e

pub rendition_fits : (ts : List CsiParam) (v : Sgr) (n : ℕ) → sgr_group ts ≡ Some (v, n) → (0 < n) × (n ≤ length ts)
rendition_fits ts v n e = group_of_takes sgr_groups 0 ts (sgr v) n (as_group ts v n e)

pub reading_by : (truncated : Bool) (final : ℕ) (ts : List CsiParam) (b : Bool) → 0 < length ts → all_sgr_tokens ts ≡ b
    → sgr_reading truncated final ts ≡ cond b (groups sgr_groups truncated final ts) (unspecified ts truncated final ∷ [])
reading_by truncated final [] b h e = absurd (omega arith)
reading_by truncated final (t ∷ ts) b h e = ap (λ v. cond v (groups sgr_groups truncated final (t ∷ ts)) (unspecified (t ∷ ts) truncated final ∷ [])) e

no_group : (ts : List CsiParam) → sgr_group ts ≡ None → rendition_group ts ≡ None
no_group ts e = ap (λ found. option_map (λ f. (sgr f.0, f.1)) found) e

-- ---- The end, and the actions after some tokens

not_none : (n : ℕ) → 0 < n → eqb n 0 ≡ false
not_none n h = grind (arith, nat_tests)

pub some_read : (n : ℕ) → 0 < n → nat_lt 0 n ≡ true
some_read n h = grind (arith, nat_tests)

pub after_some : (n : ℕ) (ts : List CsiParam) (truncated : Bool) (final : ℕ) → 0 < n → actions_after n ts truncated final ≡ groups (list_kind final ts) truncated final (drop n ts)
unfolding actions_after
after_some n ts truncated final h = rw (not_none n h) refl

-- the group after some tokens is the first action there
group_next : (at n : ℕ) (ts : List CsiParam) (truncated : Bool) (final : ℕ) (a : Action) → group_of (list_kind final ts) final (drop at ts) ≡ Some (a, n)
    → groups (list_kind final ts) truncated final (drop at ts) ≡ a ∷ actions_after (at + n) ts truncated final
group_next at n ts truncated final a e =
    let takes = group_of_takes (list_kind final ts) final (drop at ts) a n e in
    groups_found (list_kind final ts) truncated final (drop at ts) a n e
    ∙ ap (λ rest. a ∷ groups (list_kind final ts) truncated final rest) (drop-drop n at ts)
    ∙ ap (λ rest. a ∷ rest) (sym (after_some (at + n) ts truncated final (omega (arith, takes.0))))

-- ---- Settings of an SGR list

pub reset_first : (read : ℕ) (ts : List CsiParam) (truncated : Bool) → read < max (length ts) 1 → length ts ≡ 0
    → actions_after read ts truncated 109 ≡ sgr Reset ∷ actions_after 1 ts truncated 109
unfolding actions_after csi_reading groups
reset_first zero [] truncated h e = refl
reset_first (suc read) [] truncated h e = absurd (omega arith)
reset_first read (t ∷ ts) truncated h e = absurd (omega arith)

-- the first, with only tokens of SGR after it
pub first_next : (read n : ℕ) (ts us : List CsiParam) (v : Sgr) (truncated : Bool) → read ≤ 0 → 0 < length ts → us ≡ drop read ts → sgr_group us ≡ Some (v, n)
    → all_sgr_tokens (drop (read + n) ts) ≡ true → actions_after read ts truncated 109 ≡ sgr v ∷ actions_after (read + n) ts truncated 109
unfolding actions_after csi_reading
first_next (suc read) n ts us v truncated none h at e tokens = absurd (omega arith)
first_next zero n ts us v truncated none h at e tokens =
    let group = as_group ts v n (sym (ap sgr_group at) ∙ e) in
    reading_by truncated 109 ts true h (sgr_tokens_after ts (sgr v) n group ∙ sym (ap (λ m. all_sgr_tokens (drop m ts)) (zero-add n)) ∙ tokens)
    ∙ group_next 0 n ts truncated 109 (sgr v) group

-- a further one
pub further_next : (read n : ℕ) (ts us : List CsiParam) (v : Sgr) (truncated : Bool) → 0 < read → us ≡ drop read ts → sgr_group us ≡ Some (v, n)
    → actions_after read ts truncated 109 ≡ sgr v ∷ actions_after (read + n) ts truncated 109
further_next read n ts us v truncated h at e =
    after_some read ts truncated 109 h ∙ group_next read n ts truncated 109 (sgr v) (as_group (drop read ts) v n (sym (ap sgr_group at) ∙ e))

-- where no group matches, or a token that isn't SGR's comes after the first group, the rest is the last action
pub none_next : (read : ℕ) (ts us : List CsiParam) (truncated : Bool) → read < length ts → us ≡ drop read ts → sgr_group us ≡ None
    → actions_after read ts truncated 109 ≡ unspecified (drop read ts) truncated 109 ∷ []
unfolding actions_after csi_reading
none_next zero ts us truncated h at e =
    let group = no_group ts (sym (ap sgr_group at) ∙ e) in
    reading_by truncated 109 ts (all_sgr_tokens ts) h refl
    ∙ cond_both (all_sgr_tokens ts) _ _ (λ found. found ≡ unspecified ts truncated 109 ∷ []) (λ p. groups_rest sgr_groups truncated 109 ts group h) (λ p. refl)
none_next (suc read) ts us truncated h at e =
    after_some (suc read) ts truncated 109 (omega arith)
    ∙ groups_rest sgr_groups truncated 109 (drop (suc read) ts) (no_group (drop (suc read) ts) (sym (ap sgr_group at) ∙ e)) (omega (arith, length-drop (suc read) ts))

pub first_lost : (read n : ℕ) (ts us : List CsiParam) (v : Sgr) (truncated : Bool) → read ≤ 0 → 0 < length ts → us ≡ drop read ts → sgr_group us ≡ Some (v, n)
    → all_sgr_tokens (drop (read + n) ts) ≡ false → actions_after read ts truncated 109 ≡ unspecified (drop read ts) truncated 109 ∷ []
unfolding actions_after csi_reading
first_lost (suc read) n ts us v truncated none h at e tokens = absurd (omega arith)
first_lost zero n ts us v truncated none h at e tokens =
    let group = as_group ts v n (sym (ap sgr_group at) ∙ e) in
    reading_by truncated 109 ts false h (sgr_tokens_after ts (sgr v) n group ∙ sym (ap (λ m. all_sgr_tokens (drop m ts)) (zero-add n)) ∙ tokens)

-- ---- Modes

-- the first mode, or a further one
pub mode_next : (read at n : ℕ) (k : Kind) (ts us whole : List CsiParam) (truncated : Bool) (final : ℕ) (a : Action) → us ≡ drop at ts → list_kind final ts ≡ k
    → group_of k final us ≡ Some (a, n) → actions_after read ts truncated final ≡ modes_or k truncated final (drop at ts) whole
    → actions_after read ts truncated final ≡ a ∷ actions_after (at + n) ts truncated final
mode_next read at n k ts us whole truncated final a after kind e modes =
    let found : group_of k final (drop at ts) ≡ Some (a, n) = sym (ap (group_of k final) after) ∙ e in
    modes ∙ ap (λ found. cond (is_some found) (groups k truncated final (drop at ts)) (unspecified whole truncated final ∷ [])) found
    ∙ ap (λ k. groups k truncated final (drop at ts)) (sym kind)
    ∙ group_next at n ts truncated final a (ap (λ k. group_of k final (drop at ts)) kind ∙ found)

pub no_mode : (at : ℕ) (k : Kind) (ts us whole : List CsiParam) (truncated : Bool) (final : ℕ) → us ≡ drop at ts → group_of k final us ≡ None
    → modes_or k truncated final (drop at ts) whole ≡ unspecified whole truncated final ∷ []
no_mode at k ts us whole truncated final after e =
    ap (λ found. cond (is_some found) (groups k truncated final (drop at ts)) (unspecified whole truncated final ∷ [])) (sym (ap (group_of k final) after) ∙ e)

-- groups that are not the first ones are as those of a whole list
further_modes : (k : Kind) (truncated : Bool) (final : ℕ) (ts : List CsiParam) → 0 < length ts → groups k truncated final ts ≡ modes_or k truncated final ts ts
further_modes k truncated final ts h = further (group_of k final ts) refl
  where
    further : (found : Option (Action × ℕ)) → group_of k final ts ≡ found → groups k truncated final ts ≡ cond (is_some found) (groups k truncated final ts) (unspecified ts truncated final ∷ [])
    further None e = groups_rest k truncated final ts e h
    further (Some f) e = refl

other_final : (final : ℕ) → ¬ (final ≡ 109) → eqb final 109 ≡ false
other_final final h = grind (arith, nat_tests)

-- the modes of a list that begins with a ?, which is no group
pub private_modes : (read at : ℕ) (ts : List CsiParam) (truncated : Bool) (final : ℕ) → ¬ (final ≡ 109) → begins_with_question ts ≡ true → read < max (length ts) 1 → at ≡ max read 1
    → actions_after read ts truncated final ≡ modes_or private_mode_groups truncated final (drop at ts) (drop read ts)
unfolding actions_after csi_reading
private_modes zero at [] truncated final m q h one = cc
private_modes zero at (Integer z ∷ ts) truncated final m q h one = cc
private_modes zero at (P b ∷ ts) truncated final m q h one =
    let is_one : 1 ≡ at = omega arith in
    rw (other_final final m, q) (ap (λ n. modes_or private_mode_groups truncated final (drop n (P b ∷ ts)) (P b ∷ ts)) is_one)
private_modes (suc read) at ts truncated final m q h one =
    let same : suc read ≡ at = omega arith in
    let kind : list_kind final ts ≡ private_mode_groups = rw (other_final final m, q) refl in
    after_some (suc read) ts truncated final (omega arith) ∙ ap (λ k. groups k truncated final (drop (suc read) ts)) kind
    ∙ further_modes private_mode_groups truncated final (drop (suc read) ts) (omega (arith, length-drop (suc read) ts))
    ∙ ap (λ n. modes_or private_mode_groups truncated final (drop n ts) (drop (suc read) ts)) same

-- the modes of any other list: under h and l, or after the first action
pub standard_modes : (read : ℕ) (ts : List CsiParam) (truncated : Bool) (final : ℕ) → ¬ (final ≡ 109) → begins_with_question ts ≡ false → read < max (length ts) 1
    → (nat_lt 0 read || (final == 104 || final == 108)) ≡ true
    → actions_after read ts truncated final ≡ modes_or standard_mode_groups truncated final (drop read ts) (drop read ts)
unfolding actions_after csi_reading
standard_modes zero ts truncated final m q h e =
    rw (other_final final m) (standard_is truncated final ts q ∙ ap (λ b. cond b (modes_or standard_mode_groups truncated final ts ts) (single_or truncated final ts)) e)
standard_modes (suc read) ts truncated final m q h e =
    let kind : list_kind final ts ≡ standard_mode_groups = rw (other_final final m, q) refl in
    after_some (suc read) ts truncated final (omega arith) ∙ ap (λ k. groups k truncated final (drop (suc read) ts)) kind
    ∙ further_modes standard_mode_groups truncated final (drop (suc read) ts) (omega (arith, length-drop (suc read) ts))

-- ---- A single action

pub single_first : (read : ℕ) (ts : List CsiParam) (truncated : Bool) (final : ℕ) → ¬ (final ≡ 109) → begins_with_question ts ≡ false
    → (nat_lt 0 read || (final == 104 || final == 108)) ≡ false → actions_after read ts truncated final ≡ single_or truncated final ts
unfolding actions_after csi_reading
single_first zero ts truncated final m q e =
    rw (other_final final m) (standard_is truncated final ts q ∙ ap (λ b. cond b (modes_or standard_mode_groups truncated final ts ts) (single_or truncated final ts)) e)
single_first (suc read) ts truncated final m q e = let some = some_read (suc read) (omega arith) in cc

-- a whole list that is neither settings nor modes
pub single_whole : (ts : List CsiParam) (truncated : Bool) (final : ℕ) → ¬ (final ≡ 109) → (final == 104 || final == 108) ≡ false → begins_with_question ts ≡ false → csi_reading ts truncated final ≡ single_or truncated final ts
unfolding actions_after
single_whole ts truncated final m e q = single_first 0 ts truncated final m q e

-- ---- The end of a list

pub none_after : (n : ℕ) (ts : List CsiParam) → 0 < n → length ts ≤ n → (truncated : Bool) (final : ℕ) → actions_after n ts truncated final ≡ []
none_after n ts some h truncated final = after_some n ts truncated final some ∙ groups_ended (list_kind final ts) truncated final ts n h

-- the last action of a list, after which its end is
pub last_step : (n : ℕ) (ts : List CsiParam) (truncated : Bool) (final : ℕ) (before known : List Action) (action : Option (Result CSI AllocError)) → n ≡ max (length ts) 1
    → before ≡ known → HandsOut known action [] → HandsOut before action (actions_after n ts truncated final)
last_step n ts truncated final before known action e same h =
    let P : List Action → Type 0 = λ first. HandsOut first action (actions_after n ts truncated final) in
    let Q : List Action → Type 0 = λ after. HandsOut known action after in
    subst P (sym same) (subst Q (sym (none_after n ts (omega arith) (omega arith) truncated final)) h)

one_or_more : (x : Action) (xs : List Action) → x ∷ xs ≢ []
one_or_more x xs e = cc

not_empty : (xs : List Action) → 0 < length xs → xs ≢ []
not_empty [] h e = absurd (omega arith)
not_empty (x ∷ xs) h e = cc

pub first_to_come : (n : ℕ) (ts : List CsiParam) → n ≡ 0 → (truncated : Bool) (final : ℕ) → actions_after n ts truncated final ≢ []
unfolding actions_after
first_to_come n ts e truncated final = rw e (not_empty (csi_reading ts truncated final) (csi_reading-counted ts truncated final).some)

groups_to_come : (k : Kind) (truncated : Bool) (final : ℕ) (ts : List CsiParam) (found : Option (Action × ℕ)) → 0 < length ts → group_of k final ts ≡ found → groups k truncated final ts ≢ []
groups_to_come k truncated final ts None h e z = one_or_more _ _ (sym (groups_rest k truncated final ts e h) ∙ z)
groups_to_come k truncated final ts (Some f) h e z = one_or_more _ _ (sym (groups_found k truncated final ts f.0 f.1 e) ∙ z)

pub more_to_come : (n : ℕ) (ts : List CsiParam) → 0 < n → n < length ts → (truncated : Bool) (final : ℕ) → actions_after n ts truncated final ≢ []
more_to_come n ts some h truncated final z =
    groups_to_come (list_kind final ts) truncated final (drop n ts) _ (omega (arith, length-drop n ts)) refl (sym (after_some n ts truncated final some) ∙ z)
