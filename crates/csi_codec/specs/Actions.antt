-- Actions, and the reading of a list before a final byte as a list of them.
-- ECMA-48 5.4 (control sequences); xterm: Functions using CSI.
use Rattle.std.specs.Prelude.{ℕ, zero, suc, ℤ, List, [], ◌∷◌, Bool, true, ◌||◌, Option, None, ◌==◌, ◌-◌, if◌then◌else◌}
use Rattle.std.specs.Prelude.{option_map, is_some}
use Rattle.std.specs.List.{list_all}
use Rattle.std.specs.Option.{option_or, option_map_or}
use Rattle.csi_codec.specs.Parameters.{with_semicolon, Spelled, spelled}
use Rattle.csi_codec.specs.Cursors.{cursor_reading, cursor_spelling}
use Rattle.csi_codec.specs.Edits.{edit_reading, edit_spelling}
use Rattle.csi_codec.specs.Devices.{device_reading, device_spelling}
use Rattle.csi_codec.specs.Modes.{private_mode_reading, mode_reading, mode_spelling}
use Rattle.csi_codec.specs.Rendition.{taking, sgr_group, sgr_spelling}
use Rattle.csi_codec.specs.declared.parameters.CsiParam.{CsiParam}
use Rattle.csi_codec.specs.declared.parameters.CsiParam.TheVariants.{Integer, P}
use Rattle.csi_codec.specs.declared.rendition.Sgr.{Sgr}
use Rattle.csi_codec.specs.declared.rendition.Sgr.TheVariants.{Reset}
use Rattle.csi_codec.specs.declared.cursors.Cursor.{Cursor}
use Rattle.csi_codec.specs.declared.edits.Edit.{Edit}
use Rattle.csi_codec.specs.declared.modes.Mode.{Mode}
use Rattle.csi_codec.specs.declared.devices.Device.{Device}

-- an action, without where it lies in memory; the rest of a list keeps its parameters, flag and final byte
pub data Action : Type 0 where
  sgr : Sgr → Action
  cursor : Cursor → Action
  edit : Edit → Action
  mode : Mode → Action
  device : Device → Action
  unspecified : List CsiParam → Bool → ℕ → Action

-- ---- Lists of groups

-- what a list of groups is made of: SGR, private modes, or modes of the standard
pub data Kind : Type 0 where
  sgr_groups : Kind
  private_mode_groups : Kind
  standard_mode_groups : Kind

-- a mode group is a number, with the `;` right after it
unfoldable pub mode_group : (ℤ → Option Mode) → List CsiParam → Option (Action × ℕ)
mode_group read (Integer z ∷ ts) = with_semicolon (Integer z ∷ ts) (taking 1 (option_map mode (read z)))
mode_group read _ = None

-- a mode as an action, and how many tokens it took
abbrev pub found_mode : Mode × ℕ → Action × ℕ
found_mode found = (mode found.0, found.1)

-- the group at the start of a list: of SGR, of private modes, or of modes of the standard
abbrev pub group_of : Kind → ℕ → List CsiParam → Option (Action × ℕ)
group_of sgr_groups final ts = option_map (λ found. (sgr found.0, found.1)) (sgr_group ts)
group_of private_mode_groups final ts = mode_group (private_mode_reading final) ts
group_of standard_mode_groups final ts = mode_group (mode_reading final) ts

-- the actions of a list whose first k tokens are used up: group after group, and the rest that begins no group
abbrev pub groups_from
    : (List CsiParam → Option (Action × ℕ)) → (List CsiParam → Action) → ℕ → List CsiParam → List Action
groups_from group rest k [] = []
groups_from group rest (suc k) (t ∷ ts) = groups_from group rest k ts
groups_from group rest zero (t ∷ ts) =
    option_map_or (λ found. found.0 ∷ groups_from group rest (found.1 - 1) ts) (group (t ∷ ts)) (rest (t ∷ ts) ∷ [])

-- the actions of a list of groups, under a flag and a final byte
unfoldable pub groups : Kind → Bool → ℕ → List CsiParam → List Action
groups kind truncated final ts = groups_from (group_of kind final) (λ rest. unspecified rest truncated final) 0 ts

-- ---- A whole list

-- numbers, `;`, `:` and `?` are the tokens of SGR
abbrev pub is_sgr_token : CsiParam → Bool
is_sgr_token (Integer z) = true
is_sgr_token (P b) = b == 59 || b == 58 || b == 63

abbrev pub all_sgr_tokens : List CsiParam → Bool
all_sgr_tokens ts = list_all is_sgr_token ts

-- the empty list is a reset; a list with another token has no reading
abbrev pub sgr_reading : Bool → ℕ → List CsiParam → List Action
sgr_reading truncated final [] = sgr Reset ∷ []
sgr_reading truncated final (t ∷ ts) =
    if all_sgr_tokens (t ∷ ts) then groups sgr_groups truncated final (t ∷ ts)
    else unspecified (t ∷ ts) truncated final ∷ []

-- the modes of a list that begins with one; any other list stays whole, as one unread action
abbrev pub modes_or : Kind → Bool → ℕ → List CsiParam → List CsiParam → List Action
modes_or modes truncated final ts whole =
    if is_some (group_of modes final ts) then groups modes truncated final ts
    else unspecified whole truncated final ∷ []

-- the one action that a whole list encodes, if there is one
abbrev pub single_reading : ℕ → List CsiParam → Option Action
single_reading final ts =
    option_or (option_map cursor (cursor_reading final ts))
    (option_or (option_map edit (edit_reading final ts)) (option_map device (device_reading final ts)))

abbrev pub single_or : Bool → ℕ → List CsiParam → List Action
single_or truncated final ts =
    option_map_or (λ known. known ∷ []) (single_reading final ts) (unspecified ts truncated final ∷ [])

-- a list without a `?`: modes under h and l, else one action for the whole list
abbrev pub standard_reading : Bool → ℕ → List CsiParam → List Action
standard_reading truncated final ts =
    if final == 104 || final == 108 then modes_or standard_mode_groups truncated final ts ts
    else single_or truncated final ts

-- a list under a final byte other than m: private modes after a `?`, else as without a `?`
abbrev pub other_reading : Bool → ℕ → List CsiParam → List Action
other_reading truncated final (P b ∷ ts) =
    if b == 63 then modes_or private_mode_groups truncated final ts (P b ∷ ts)
    else standard_reading truncated final (P b ∷ ts)
other_reading truncated final ts = standard_reading truncated final ts

-- the actions of a list under a flag and a final byte
unfoldable pub csi_reading : List CsiParam → Bool → ℕ → List Action
csi_reading ts truncated final =
    if final == 109 then sgr_reading truncated final ts else other_reading truncated final ts

-- ---- Writing

-- the parameters and the final byte that are written for an action
abbrev pub spelling_of : Action → Spelled
spelling_of (sgr value) = sgr_spelling value
spelling_of (cursor value) = cursor_spelling value
spelling_of (edit value) = edit_spelling value
spelling_of (mode value) = mode_spelling value
spelling_of (device value) = device_spelling value
spelling_of (unspecified params truncated final) = spelled params final
