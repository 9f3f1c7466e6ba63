-- Each action of a list can be written, except the unparsed rest of the list; so each reads back.
use Rattle.std.proofs.Common.{◌≡◌, ◌⊎◌, ℕ, zero, suc, ◌+◌, ◌-◌, ◌<◌, ◌≤◌, ℤ, eqb, Bool, true, false, cond, ◌||◌, List, [], ◌∷◌, length, length-drop, drop, drop-drop, Option, Some, None, option_map, inl, inr, arith, refl, sym, ap, ◌∙◌, subst}
use Rattle.std.specs.Prelude.{is_some}
use Rattle.std.specs.Option.{option_map_or, option_or}
use Rattle.std.specs.List.{AllByRecursion}
use Rattle.std.proofs.lemmas.Bool.{eqb-true, le-leb, false≢true, and_parts, or_parts, or_cases, or_left}
use Rattle.csi_codec.specs.declared.parameters.CsiParam.{CsiParam}
use Rattle.csi_codec.specs.declared.parameters.CsiParam.TheVariants.{Integer, P}
use Rattle.csi_codec.specs.declared.rendition.Sgr.{Sgr}
use Rattle.csi_codec.specs.declared.modes.Mode.{Mode}
use Rattle.csi_codec.specs.declared.cursors.Cursor.{Cursor}
use Rattle.csi_codec.specs.declared.edits.Edit.{Edit}
use Rattle.csi_codec.specs.declared.devices.Device.{Device}
use Rattle.csi_codec.specs.Parameters.{with_semicolon}
use Rattle.csi_codec.specs.Cursors.{cursor_reading}
use Rattle.csi_codec.specs.Edits.{edit_reading}
use Rattle.csi_codec.specs.Devices.{device_reading}
use Rattle.csi_codec.specs.Modes.{private_mode_reading, mode_reading}
use Rattle.csi_codec.specs.Rendition.{taking, sgr_shape, sgr_group}
use Rattle.csi_codec.specs.Actions.{Kind, sgr_groups, private_mode_groups, standard_mode_groups, Action, sgr, cursor, edit, mode, device, unspecified, mode_group, group_of, groups_from, groups, is_sgr_token, all_sgr_tokens, sgr_reading, modes_or, single_or, standard_reading, other_reading, csi_reading}
use Rattle.csi_codec.specs.Writable.{IsWritable, IsWritableMode, IsWritableSgr, WritableActionsReadBack}
use Rattle.csi_codec.specs.Laws.{IsSuffix, KeepsRests, ReadsBack, is_exempt, begins_with_question, ActionsReadBack}
use Rattle.csi_codec.proofs.BackLemmas.{standard_is}
use Rattle.csi_codec.proofs.PieceLemmas.{group_of_takes, groups_found, groups_rest}
use Rattle.csi_codec.proofs.ReadWritable.{cursor_reading-writable, edit_reading-writable, private_mode-writable, standard_mode-writable, sgr_shape-writable}
use Rattle.csi_codec.proofs.TableBack.{cursor_back, edit_back, device_back}
use Rattle.csi_codec.proofs.SgrBack.{sgr_back}
use Rattle.csi_codec.proofs.ModeBack.{mode_back, neither_mode, some_private}

-- ---- Each action of a list

-- the unparsed rest of a list, which reads back unless it is exempt
pub record IsRest (whole : List CsiParam) (truncated : Bool) (final : ℕ) (rest : List CsiParam) : Type 0 where
  pub suffix : IsSuffix rest whole
  pub back : is_exempt whole final (unspecified rest truncated final) ≡ false → ReadsBack truncated (unspecified rest truncated final)

-- each action can be written, except that the last one may be the unparsed rest of the list
abbrev pub Each : List CsiParam → Bool → ℕ → List Action → Type 0
Each whole truncated final [] = Unit {0}
Each whole truncated final (a ∷ remaining) =
    (IsWritable a × Each whole truncated final remaining)
    ⊎ ((rest : List CsiParam) × (a ≡ unspecified rest truncated final) × (remaining ≡ []) × IsRest whole truncated final rest)

suffix_tail : (whole : List CsiParam) (t : CsiParam) (ts : List CsiParam) → IsSuffix (t ∷ ts) whole → IsSuffix ts whole
suffix_tail whole t ts s = (s.0 + 1, ap (drop 1) s.1 ∙ drop-drop 1 s.0 whole)

-- ---- Groups

-- groups that are modes
abbrev IsModes : Kind → Type 0
IsModes sgr_groups = ⊥
IsModes private_mode_groups = Unit {0}
IsModes standard_mode_groups = Unit {0}

abbrev first_of : Action → Option (Action × ℕ) → Action
first_of a None = a
first_of a (Some f) = f.0

rendition-writable : (found : Option (Sgr × ℕ)) (ts : List CsiParam) → ((f : Sgr × ℕ) → found ≡ Some f → IsWritableSgr f.0) → (a : Action) (n : ℕ)
    → option_map {U = Action × ℕ} (λ f. (sgr f.0, f.1)) (with_semicolon ts found) ≡ Some (a, n) → IsWritable a
rendition-writable None ts h a n e = cc
rendition-writable (Some f) ts h a n e = subst IsWritable (ap (first_of a) e) (h f refl)

moded-writable : (found : Option Mode) (ts : List CsiParam) → ((m : Mode) → found ≡ Some m → IsWritableMode m) → (a : Action) (n : ℕ)
    → with_semicolon ts (taking 1 (option_map mode found)) ≡ Some (a, n) → IsWritable a
moded-writable None ts h a n e = cc
moded-writable (Some m) ts h a n e = subst IsWritable (ap (first_of a) e) (h m refl)

mode_group-writable : (read : ℤ → Option Mode) → ((z : ℤ) (m : Mode) → read z ≡ Some m → IsWritableMode m) → (ts : List CsiParam) (a : Action) (n : ℕ) → mode_group read ts ≡ Some (a, n) → IsWritable a
unfolding mode_group
mode_group-writable read h [] a n e = cc
mode_group-writable read h (P b ∷ ts) a n e = cc
mode_group-writable read h (Integer z ∷ ts) a n e = moded-writable (read z) (Integer z ∷ ts) (h z) a n e

group-writable : (k : Kind) (final : ℕ) (ts : List CsiParam) (a : Action) (n : ℕ) → group_of k final ts ≡ Some (a, n) → IsWritable a
unfolding sgr_group
group-writable sgr_groups final ts a n e = rendition-writable (sgr_shape ts) ts (λ f q. sgr_shape-writable ts f q) a n e
group-writable private_mode_groups final ts a n e = mode_group-writable (private_mode_reading final) (λ z m q. private_mode-writable final z m q) ts a n e
group-writable standard_mode_groups final ts a n e = mode_group-writable (mode_reading final) (λ z m q. standard_mode-writable final z m q) ts a n e

module _ (truncated : Bool) where
  -- ---- A list of groups

  module _ (k : Kind) (final : ℕ) (whole : List CsiParam) (Keeps : List CsiParam → Type 0) (tail : (t : CsiParam) (ts : List CsiParam) → Keeps (t ∷ ts) → Keeps ts)
      (unread : (t : CsiParam) (ts : List CsiParam) → Keeps (t ∷ ts) → group_of k final (t ∷ ts) ≡ None → is_exempt whole final (unspecified (t ∷ ts) truncated final) ≡ false → ReadsBack truncated (unspecified (t ∷ ts) truncated final)) where
    abbrev from : ℕ → List CsiParam → List Action
    from = groups_from (group_of k final) (λ rest. unspecified rest truncated final)

    from_found : (t : CsiParam) (ts : List CsiParam) (remaining : ℕ → List Action) (found : Option (Action × ℕ)) → group_of k final (t ∷ ts) ≡ found → Keeps (t ∷ ts) → IsSuffix (t ∷ ts) whole
        → ((j : ℕ) → Each whole truncated final (remaining j))
        → Each whole truncated final (option_map_or (λ f. f.0 ∷ remaining (f.1 - 1)) found (unspecified (t ∷ ts) truncated final ∷ []))
    from_found t ts remaining None e h s each = inr (t ∷ ts, refl, refl, record { suffix = s; back = unread t ts h e })
    from_found t ts remaining (Some f) e h s each = inl (group-writable k final (t ∷ ts) f.0 f.1 e, each (f.1 - 1))

    from-each : (j : ℕ) (ts : List CsiParam) → Keeps ts → IsSuffix ts whole → Each whole truncated final (from j ts)
    from-each zero [] h s = tt
    from-each (suc j) [] h s = tt
    from-each (suc j) (t ∷ ts) h s = from-each j ts (tail t ts h) (suffix_tail whole t ts s)
    from-each zero (t ∷ ts) h s = from_found t ts (λ j. from j ts) (group_of k final (t ∷ ts)) refl h s (λ j. from-each j ts (tail t ts h) (suffix_tail whole t ts s))

    groups-each : (ts : List CsiParam) → Keeps ts → IsSuffix ts whole → Each whole truncated final (groups k truncated final ts)
    unfolding groups
    groups-each ts h s = from-each 0 ts h s

  -- a list that stays whole reads back as it is
  whole-each : (ts : List CsiParam) (final : ℕ) → csi_reading ts truncated final ≡ unspecified ts truncated final ∷ [] → Each ts truncated final (unspecified ts truncated final ∷ [])
  whole-each ts final e = inr (ts, refl, refl, record { suffix = (0, refl); back = λ x. e })

  -- ---- SGR

  abbrev AreSgr : List CsiParam → Type 0
  AreSgr ts = all_sgr_tokens ts ≡ true

  sgr_rest : (t : CsiParam) (ts : List CsiParam) → AreSgr (t ∷ ts) → group_of sgr_groups 109 (t ∷ ts) ≡ None → ReadsBack truncated (unspecified (t ∷ ts) truncated 109)
  unfolding csi_reading
  sgr_rest t ts h e =
      ap (λ b. cond b (groups sgr_groups truncated 109 (t ∷ ts)) (unspecified (t ∷ ts) truncated 109 ∷ [])) h
      ∙ groups_rest sgr_groups truncated 109 (t ∷ ts) e (omega arith)

  sgr_by : (t : CsiParam) (ts : List CsiParam) (b : Bool) → all_sgr_tokens (t ∷ ts) ≡ b
      → Each (t ∷ ts) truncated 109 (cond b (groups sgr_groups truncated 109 (t ∷ ts)) (unspecified (t ∷ ts) truncated 109 ∷ []))
  unfolding csi_reading
  sgr_by t ts true h = groups-each sgr_groups 109 (t ∷ ts) AreSgr (λ u us h. (and_parts (is_sgr_token u) (all_sgr_tokens us) h).1) (λ u us r e x. sgr_rest u us r e) (t ∷ ts) h (0, refl)
  sgr_by t ts false h = whole-each (t ∷ ts) 109 (ap (λ b. cond b (groups sgr_groups truncated 109 (t ∷ ts)) (unspecified (t ∷ ts) truncated 109 ∷ [])) h)

  sgr-each : (ts : List CsiParam) → Each ts truncated 109 (sgr_reading truncated 109 ts)
  sgr-each [] = inl (tt, tt)
  sgr-each (t ∷ ts) = sgr_by t ts (all_sgr_tokens (t ∷ ts)) refl

  -- ---- Modes

  abbrev Shorter : List CsiParam → List CsiParam → Type 0
  Shorter whole ts = length ts < length whole

  no_standard : (final : ℕ) (ts : List CsiParam) → (eqb final 104 || eqb final 108) ≡ true → group_of private_mode_groups final ts ≡ None → group_of standard_mode_groups final ts ≡ None
  unfolding mode_group
  no_standard final [] h e = refl
  no_standard final (P b ∷ ts) h e = refl
  no_standard final (Integer z ∷ ts) h e =
      ap (λ found. with_semicolon (Integer z ∷ ts) (taking 1 (option_map mode found))) (neither_mode final z h (none_from (private_mode_reading final z) (Integer z ∷ ts) e))
    where
      none_from : (found : Option Mode) (us : List CsiParam) → with_semicolon us (taking 1 (option_map mode found)) ≡ None → found ≡ None
      none_from None us q = refl
      none_from (Some m) us q = cc

  no_standard_of : (k : Kind) (final : ℕ) (ts : List CsiParam) → IsModes k → (eqb final 104 || eqb final 108) ≡ true → group_of k final ts ≡ None → group_of standard_mode_groups final ts ≡ None
  no_standard_of sgr_groups final ts m h e = absurd m
  no_standard_of private_mode_groups final ts m h e = no_standard final ts h e
  no_standard_of standard_mode_groups final ts m h e = e

  -- a list without a `?` that no mode begins stays as it is under h and l
  standard_whole : (final : ℕ) (ts : List CsiParam) → eqb final 109 ≡ false → (eqb final 104 || eqb final 108) ≡ true → begins_with_question ts ≡ false → group_of standard_mode_groups final ts ≡ None
      → csi_reading ts truncated final ≡ unspecified ts truncated final ∷ []
  unfolding csi_reading
  standard_whole final ts o h q e =
      rw o (standard_is truncated final ts q ∙ rw h (ap (λ found. cond (is_some found) (groups standard_mode_groups truncated final ts) (unspecified ts truncated final ∷ [])) e))

  exempt_not : (final : ℕ) (whole rest : List CsiParam) → length rest < length whole → eqb final 109 ≡ false → is_exempt whole final (unspecified rest truncated final) ≡ false
      → (begins_with_question rest || (eqb final 115 || eqb final 114)) ≡ false
  exempt_not final whole rest h o e = sym (rw (le-leb (suc (length rest)) (length whole) h, o) refl) ∙ e

  under_h_or_l : (final : ℕ) → ((eqb final 104 || eqb final 108) || (eqb final 115 || eqb final 114)) ≡ true → (eqb final 115 || eqb final 114) ≡ false → (eqb final 104 || eqb final 108) ≡ true
  under_h_or_l final h e = elim (or_cases (eqb final 104 || eqb final 108) (eqb final 115 || eqb final 114) h) [
    | inl p ↦ p
    | inr q ↦ absurd (false≢true (sym e ∙ q))
  ]

  modes_rest : (k : Kind) (final : ℕ) (whole : List CsiParam) → IsModes k → eqb final 109 ≡ false → ((eqb final 104 || eqb final 108) || (eqb final 115 || eqb final 114)) ≡ true
      → (t : CsiParam) (ts : List CsiParam) → Shorter whole (t ∷ ts) → group_of k final (t ∷ ts) ≡ None → is_exempt whole final (unspecified (t ∷ ts) truncated final) ≡ false
      → ReadsBack truncated (unspecified (t ∷ ts) truncated final)
  modes_rest k final whole m o h t ts s e x =
      let not_exempt : (begins_with_question (t ∷ ts) || (eqb final 115 || eqb final 114)) ≡ false = exempt_not final whole (t ∷ ts) s o x in
      let parts : (begins_with_question (t ∷ ts) ≡ false) × ((eqb final 115 || eqb final 114) ≡ false) = or_parts (begins_with_question (t ∷ ts)) (eqb final 115 || eqb final 114) not_exempt in
      let standard : (eqb final 104 || eqb final 108) ≡ true = under_h_or_l final h parts.1 in
      standard_whole final (t ∷ ts) o standard parts.0 (no_standard_of k final (t ∷ ts) m standard e)

  modes-each : (k : Kind) (final : ℕ) (whole ts : List CsiParam) → IsModes k → eqb final 109 ≡ false → ((eqb final 104 || eqb final 108) || (eqb final 115 || eqb final 114)) ≡ true
      → Shorter whole ts → IsSuffix ts whole → Each whole truncated final (groups k truncated final ts)
  modes-each k final whole ts m o h l s = groups-each k final whole (Shorter whole) (λ t us r. omega arith) (modes_rest k final whole m o h) ts l s

  -- where the first mode is found, the remaining actions are those of a shorter list
  standing-each : (k : Kind) (final : ℕ) (whole ts : List CsiParam) (found : Option (Action × ℕ)) → IsModes k → eqb final 109 ≡ false
      → ((eqb final 104 || eqb final 108) || (eqb final 115 || eqb final 114)) ≡ true → IsSuffix ts whole
      → group_of k final ts ≡ found → is_some found ≡ true → Each whole truncated final (groups k truncated final ts)
  standing-each k final whole ts None m o h s e x = cc
  standing-each k final whole ts (Some f) m o h s e x =
      let takes : (0 < f.1) × (f.1 ≤ length ts) = group_of_takes k final ts f.0 f.1 e in
      let shorter : length (drop f.1 ts) < length whole = omega (arith, length-drop f.1 ts, takes.0, takes.1, ap length s.1, length-drop s.0 whole) in
      let after : IsSuffix (drop f.1 ts) whole = (s.0 + f.1, ap (drop f.1) s.1 ∙ drop-drop f.1 s.0 whole) in
      let both : Each whole truncated final (f.0 ∷ groups k truncated final (drop f.1 ts)) = inl (group-writable k final ts f.0 f.1 e, modes-each k final whole (drop f.1 ts) m o h shorter after) in
      subst (Each whole truncated final) (sym (groups_found k truncated final ts f.0 f.1 e)) both

  finals_of_private : (final : ℕ) (ts : List CsiParam) → is_some (group_of private_mode_groups final ts) ≡ true → ((eqb final 104 || eqb final 108) || (eqb final 115 || eqb final 114)) ≡ true
  unfolding mode_group
  finals_of_private final [] h = cc
  finals_of_private final (P b ∷ ts) h = cc
  finals_of_private final (Integer z ∷ ts) h = some_private final z (some_from (private_mode_reading final z) (Integer z ∷ ts) h)
    where
      some_from : (found : Option Mode) (us : List CsiParam) → is_some (with_semicolon us (taking 1 (option_map mode found))) ≡ true → is_some found ≡ true
      some_from None us q = cc
      some_from (Some m) us q = refl

  modes_or-each : (k : Kind) (final : ℕ) (whole ts : List CsiParam) (b : Bool) → is_some (group_of k final ts) ≡ b → IsModes k → eqb final 109 ≡ false
      → (is_some (group_of k final ts) ≡ true → ((eqb final 104 || eqb final 108) || (eqb final 115 || eqb final 114)) ≡ true) → IsSuffix ts whole
      → csi_reading whole truncated final ≡ modes_or k truncated final ts whole
      → Each whole truncated final (cond b (groups k truncated final ts) (unspecified whole truncated final ∷ []))
  modes_or-each k final whole ts true e m o finals l q = standing-each k final whole ts (group_of k final ts) m o (finals e) l refl e
  modes_or-each k final whole ts false e m o finals l q =
      whole-each whole final (q ∙ ap (λ b. cond b (groups k truncated final ts) (unspecified whole truncated final ∷ [])) e)

  -- ---- One action for the whole list

  single_by : (ts : List CsiParam) (final : ℕ) (c : Option Cursor) (e : Option Edit) (d : Option Device) → cursor_reading final ts ≡ c → edit_reading final ts ≡ e → device_reading final ts ≡ d
      → csi_reading ts truncated final ≡ single_or truncated final ts
      → Each ts truncated final (option_map_or (λ known. known ∷ []) (option_or (option_map cursor c) (option_or (option_map edit e) (option_map device d))) (unspecified ts truncated final ∷ []))
  single_by ts final (Some c) e d p q r w = inl (cursor_reading-writable final ts c p, tt)
  single_by ts final None (Some e) d p q r w = inl (edit_reading-writable final ts e q, tt)
  single_by ts final None None (Some d) p q r w = inl (tt, tt)
  single_by ts final None None None p q r w = whole-each ts final (w
      ∙ ap (λ c. option_map_or (λ known. known ∷ []) (option_or (option_map cursor c) (option_or (option_map edit (edit_reading final ts)) (option_map device (device_reading final ts)))) (unspecified ts truncated final ∷ [])) p
      ∙ ap (λ e. option_map_or (λ known. known ∷ []) (option_or (option_map edit e) (option_map device (device_reading final ts))) (unspecified ts truncated final ∷ [])) q
      ∙ ap (λ d. option_map_or (λ known. known ∷ []) (option_map device d) (unspecified ts truncated final ∷ [])) r)

  standard_by : (ts : List CsiParam) (final : ℕ) (b : Bool) → (eqb final 104 || eqb final 108) ≡ b → eqb final 109 ≡ false
      → csi_reading ts truncated final ≡ cond b (modes_or standard_mode_groups truncated final ts ts) (single_or truncated final ts)
      → Each ts truncated final (cond b (modes_or standard_mode_groups truncated final ts ts) (single_or truncated final ts))
  standard_by ts final true h o w =
      modes_or-each standard_mode_groups final ts ts (is_some (group_of standard_mode_groups final ts)) refl tt o (λ x. or_left (eqb final 104 || eqb final 108) (eqb final 115 || eqb final 114) h) (0, refl) w
  standard_by ts final false h o w = single_by ts final (cursor_reading final ts) (edit_reading final ts) (device_reading final ts) refl refl refl w

  standard-each : (ts : List CsiParam) (final : ℕ) → eqb final 109 ≡ false → csi_reading ts truncated final ≡ standard_reading truncated final ts → Each ts truncated final (standard_reading truncated final ts)
  standard-each ts final o w = standard_by ts final (eqb final 104 || eqb final 108) refl o w

  question_by : (b : ℕ) (ts : List CsiParam) (final : ℕ) (v : Bool) → eqb final 109 ≡ false
      → csi_reading (P b ∷ ts) truncated final ≡ cond v (modes_or private_mode_groups truncated final ts (P b ∷ ts)) (standard_reading truncated final (P b ∷ ts))
      → Each (P b ∷ ts) truncated final (cond v (modes_or private_mode_groups truncated final ts (P b ∷ ts)) (standard_reading truncated final (P b ∷ ts)))
  question_by b ts final true o w =
      modes_or-each private_mode_groups final (P b ∷ ts) ts (is_some (group_of private_mode_groups final ts)) refl tt o (finals_of_private final ts) (1, refl) w
  question_by b ts final false o w = standard-each (P b ∷ ts) final o w

  other-each : (ts : List CsiParam) (final : ℕ) → eqb final 109 ≡ false → csi_reading ts truncated final ≡ other_reading truncated final ts → Each ts truncated final (other_reading truncated final ts)
  other-each [] final o w = standard-each [] final o w
  other-each (Integer z ∷ ts) final o w = standard-each (Integer z ∷ ts) final o w
  other-each (P b ∷ ts) final o w = question_by b ts final (eqb b 63) o w

  reading_by : (ts : List CsiParam) (final : ℕ) (b : Bool) → eqb final 109 ≡ b
      → csi_reading ts truncated final ≡ cond b (sgr_reading truncated final ts) (other_reading truncated final ts)
      → Each ts truncated final (cond b (sgr_reading truncated final ts) (other_reading truncated final ts))
  reading_by ts final true e w = subst (λ (f : ℕ). Each ts truncated f (sgr_reading truncated f ts)) (sym (eqb-true final 109 e)) (sgr-each ts)
  reading_by ts final false e w = other-each ts final e w

pub reading-each : (ts : List CsiParam) (truncated : Bool) (final : ℕ) → Each ts truncated final (csi_reading ts truncated final)
unfolding csi_reading
reading-each ts truncated final = reading_by truncated ts final (eqb final 109) refl refl

-- ---- Each reads back

pub writable_actions_read_back-lem : WritableActionsReadBack
writable_actions_read_back-lem truncated (sgr v) h = sgr_back truncated v h
writable_actions_read_back-lem truncated (cursor c) h = cursor_back truncated c h
writable_actions_read_back-lem truncated (edit e) h = edit_back truncated e h
writable_actions_read_back-lem truncated (mode m) h = mode_back truncated m h
writable_actions_read_back-lem truncated (device d) h = device_back truncated d
writable_actions_read_back-lem truncated (unspecified params flag final) h = absurd h

pub actions_read_back-lem : ActionsReadBack
actions_read_back-lem ts truncated final = by (csi_reading ts truncated final) (reading-each ts truncated final)
  where
    Back : Action → Type 0
    Back a = is_exempt ts final a ≡ false → ReadsBack truncated a

    by : (actions : List Action) → Each ts truncated final actions → AllByRecursion Back actions
    by [] h = tt
    by (a ∷ remaining) (inl h) = (λ x. writable_actions_read_back-lem truncated a h.0, by remaining h.1)
    by (a ∷ remaining) (inr r) =
        (subst Back (sym r.1) r.3.back, subst (AllByRecursion Back) (sym r.2) tt)

-- ---- The rest comes last

known_keeps : (ts : List CsiParam) (truncated : Bool) (final : ℕ) (a : Action) (remaining : List Action) → IsWritable a → KeepsRests ts truncated final remaining → KeepsRests ts truncated final (a ∷ remaining)
known_keeps ts truncated final (unspecified rest flag control) remaining w h = absurd w
known_keeps ts truncated final (sgr v) remaining w h = h
known_keeps ts truncated final _ remaining w h = h

pub csi_reading-keeps : (ts : List CsiParam) (truncated : Bool) (final : ℕ) → KeepsRests ts truncated final (csi_reading ts truncated final)
csi_reading-keeps ts truncated final = by (csi_reading ts truncated final) (reading-each ts truncated final)
  where
    by : (actions : List Action) → Each ts truncated final actions → KeepsRests ts truncated final actions
    by [] h = tt
    by (a ∷ remaining) (inl h) = known_keeps ts truncated final a remaining h.0 (by remaining h.1)
    by (a ∷ remaining) (inr r) = subst (λ (x : Action). KeepsRests ts truncated final (x ∷ remaining)) (sym r.1) (r.3.suffix, refl, refl, r.2)
