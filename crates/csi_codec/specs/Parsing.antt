-- The remaining actions of a list from a position on.
use Rattle.std.specs.Prelude.{◌≡◌, ℕ, ◌<◌, Bool, List, [], ◌∷◌, length, drop, ◌==◌, if◌then◌else◌}
use Rattle.csi_codec.specs.declared.parameters.CsiParam.{CsiParam}
use Rattle.csi_codec.specs.declared.groups.Kind.{Kind}
use Rattle.csi_codec.specs.declared.groups.Kind.TheVariants as code
use Rattle.csi_codec.specs.declared.param_cursor.ParamCursor.{ParamCursor}
use Rattle.csi_codec.specs.Actions as actions
use Rattle.csi_codec.specs.Actions.{Action, unspecified, sgr_groups, private_mode_groups, standard_mode_groups, groups}
use Rattle.csi_codec.specs.Actions.{csi_reading}
use Rattle.csi_codec.specs.Laws.{begins_with_question}

-- the kind of groups for a `Kind` of the code
abbrev pub kind_of : Kind → actions.Kind
kind_of code.PrivateModes = private_mode_groups
kind_of code.StandardModes = standard_mode_groups

-- the kind of the groups of a list, by its final byte and whether it begins with a ?
abbrev pub list_kind : ℕ → List CsiParam → actions.Kind
list_kind final ts =
    if final == 109 then sgr_groups
    else (if begins_with_question ts then private_mode_groups else standard_mode_groups)

-- the remaining actions of a list after `read` of its tokens: all of its actions where `read` is 0, else the groups of
-- the remaining tokens
unfoldable pub actions_after : ℕ → List CsiParam → Bool → ℕ → List Action
actions_after read ts truncated final =
    if read == 0 then csi_reading ts truncated final else groups (list_kind final ts) truncated final (drop read ts)

-- the remaining actions of a list from a position on, under a flag and a final byte
abbrev pub actions_from : ParamCursor → List CsiParam → Bool → ℕ → List Action
actions_from position ts truncated final = actions_after position.index ts truncated final

-- at this position all actions of any list remain
abbrev pub IsStart : ParamCursor → Type 0
IsStart position = (ts : List CsiParam) (truncated : Bool) (final : ℕ)
    → actions_from position ts truncated final ≡ csi_reading ts truncated final

-- the next action of a list after `read` tokens, and how many tokens are read after it
pub record IsNext (read : ℕ) (ts : List CsiParam) (final : ℕ) (next : Action) (after : ℕ) : Type 0 where
  pub actions : (truncated : Bool)
      → actions_after read ts truncated final ≡ next ∷ actions_after after ts truncated final

-- no setting follows the first `read` tokens: the rest is the last action
pub record HasNoSetting (read : ℕ) (ts : List CsiParam) : Type 0 where
  pub rest : (truncated : Bool) → actions_after read ts truncated 109 ≡ unspecified (drop read ts) truncated 109 ∷ []
  pub within : read < length ts
