-- The SGRs among the actions that are read from parameters can be written, so their colours are of bytes.
use Rattle.std.proofs.Common.{◌≡◌, ℕ, zero, suc, ◌-◌, ℤ, Bool, List, [], ◌∷◌, Option, Some, None, option_map, refl}
use Rattle.std.specs.Prelude.{⊤, ◌==◌, ◌||◌, is_some, IfSome}
use Rattle.std.specs.List.{AllByRecursion}
use Rattle.std.specs.Option.{option_or, option_map_or}
use Rattle.std.proofs.lemmas.Bool.{cond_both}
use Rattle.csi_codec.specs.declared.cursors.Cursor.{Cursor}
use Rattle.csi_codec.specs.declared.devices.Device.{Device}
use Rattle.csi_codec.specs.declared.edits.Edit.{Edit}
use Rattle.csi_codec.specs.declared.modes.Mode.{Mode}
use Rattle.csi_codec.specs.declared.parameters.CsiParam.{CsiParam}
use Rattle.csi_codec.specs.declared.parameters.CsiParam.TheVariants.{Integer, P}
use Rattle.csi_codec.specs.declared.rendition.Sgr.{Sgr}
use Rattle.csi_codec.specs.Parameters.{with_semicolon}
use Rattle.csi_codec.specs.Cursors.{cursor_reading}
use Rattle.csi_codec.specs.Edits.{edit_reading}
use Rattle.csi_codec.specs.Devices.{device_reading}
use Rattle.csi_codec.specs.Modes.{private_mode_reading, mode_reading}
use Rattle.csi_codec.specs.Rendition.{taking, sgr_shape, sgr_group}
use Rattle.csi_codec.specs.Actions.{Kind, sgr_groups, private_mode_groups, standard_mode_groups, Action, sgr, cursor, edit, mode, device, unspecified, mode_group, group_of, groups_from, groups, all_sgr_tokens, sgr_reading, modes_or, single_or, standard_reading, other_reading, csi_reading}
use Rattle.csi_codec.specs.Writable.{IsWritableSgr}
use Rattle.csi_codec.proofs.ReadWritable.{sgr_shape-writable}

abbrev pub IsSpelledSequence : Action → Type 0
IsSpelledSequence (sgr value) = IsWritableSgr value
IsSpelledSequence _ = ⊤

abbrev pub AreSpelledSequences : List Action → Type 0
AreSpelledSequences = AllByRecursion IsSpelledSequence

-- ---- groups

abbrev FindsSpelled : Option (Action × ℕ) → Type 0
FindsSpelled found = IfSome found (λ f. IsSpelledSequence f.0)

rendition_spelled : (ts : List CsiParam) (found : Option (Sgr × ℕ)) → ((f : Sgr × ℕ) → found ≡ Some f → IsWritableSgr f.0) → FindsSpelled (option_map (λ f. (sgr f.0, f.1)) (with_semicolon ts found))
rendition_spelled ts None h = tt
rendition_spelled ts (Some f) h = h f refl

mode_spelled : (read : ℤ → Option Mode) (ts : List CsiParam) → FindsSpelled (mode_group read ts)
unfolding mode_group
mode_spelled read [] = tt
mode_spelled read (P b ∷ ts) = tt
mode_spelled read (Integer z ∷ ts) = by_reading (read z)
  where
    by_reading : (found : Option Mode) → FindsSpelled (with_semicolon (Integer z ∷ ts) (taking 1 (option_map mode found)))
    by_reading None = tt
    by_reading (Some m) = tt

piece_spelled : (kind : Kind) (final : ℕ) (ts : List CsiParam) → FindsSpelled (group_of kind final ts)
unfolding sgr_group
piece_spelled sgr_groups final ts = rendition_spelled ts (sgr_shape ts) (sgr_shape-writable ts)
piece_spelled private_mode_groups final ts = mode_spelled (private_mode_reading final) ts
piece_spelled standard_mode_groups final ts = mode_spelled (mode_reading final) ts

-- ---- lists of groups

found_spelled : (remaining : ℕ → List Action) (found : Option (Action × ℕ)) (rest : Action) → FindsSpelled found → IsSpelledSequence rest → ((k : ℕ) → AreSpelledSequences (remaining k)) → AreSpelledSequences (option_map_or (λ f. f.0 ∷ remaining (f.1 - 1)) found (rest ∷ []))
found_spelled remaining None rest h r each = (r, tt)
found_spelled remaining (Some f) rest h r each = (h, each (f.1 - 1))

from_spelled : (kind : Kind) (truncated : Bool) (final k : ℕ) (ts : List CsiParam) → AreSpelledSequences (groups_from (group_of kind final) (λ rest. unspecified rest truncated final) k ts)
from_spelled kind truncated final zero [] = tt
from_spelled kind truncated final (suc k) [] = tt
from_spelled kind truncated final (suc k) (t ∷ ts) = from_spelled kind truncated final k ts
from_spelled kind truncated final zero (t ∷ ts) =
    found_spelled (λ k. groups_from (group_of kind final) (λ rest. unspecified rest truncated final) k ts) (group_of kind final (t ∷ ts)) (unspecified (t ∷ ts) truncated final)
    (piece_spelled kind final (t ∷ ts)) tt (λ k. from_spelled kind truncated final k ts)

pieces_spelled : (kind : Kind) (truncated : Bool) (final : ℕ) (ts : List CsiParam) → AreSpelledSequences (groups kind truncated final ts)
unfolding groups
pieces_spelled kind truncated final ts = from_spelled kind truncated final 0 ts

-- ---- whole lists

sgr_spelled : (truncated : Bool) (final : ℕ) (ts : List CsiParam) → AreSpelledSequences (sgr_reading truncated final ts)
sgr_spelled truncated final [] = (tt, tt)
sgr_spelled truncated final (t ∷ ts) = cond_both (all_sgr_tokens (t ∷ ts)) _ _ AreSpelledSequences (λ e. pieces_spelled sgr_groups truncated final (t ∷ ts)) (λ e. (tt, tt))

modes_spelled : (kind : Kind) (truncated : Bool) (final : ℕ) (ts whole : List CsiParam) → AreSpelledSequences (modes_or kind truncated final ts whole)
modes_spelled kind truncated final ts whole = cond_both (is_some (group_of kind final ts)) _ _ AreSpelledSequences (λ e. pieces_spelled kind truncated final ts) (λ e. (tt, tt))

single_spelled : (truncated : Bool) (final : ℕ) (ts : List CsiParam) → AreSpelledSequences (single_or truncated final ts)
single_spelled truncated final ts = by_reading (cursor_reading final ts) (edit_reading final ts) (device_reading final ts)
  where
    by_reading : (c : Option Cursor) (e : Option Edit) (d : Option Device) → AreSpelledSequences (option_map_or (λ known. known ∷ []) (option_or (option_map cursor c) (option_or (option_map edit e) (option_map device d))) (unspecified ts truncated final ∷ []))
    by_reading (Some c) e d = (tt, tt)
    by_reading None (Some e) d = (tt, tt)
    by_reading None None (Some d) = (tt, tt)
    by_reading None None None = (tt, tt)

standard_spelled : (truncated : Bool) (final : ℕ) (ts : List CsiParam) → AreSpelledSequences (standard_reading truncated final ts)
standard_spelled truncated final ts = cond_both (final == 104 || final == 108) _ _ AreSpelledSequences (λ e. modes_spelled standard_mode_groups truncated final ts ts) (λ e. single_spelled truncated final ts)

other_spelled : (truncated : Bool) (final : ℕ) (ts : List CsiParam) → AreSpelledSequences (other_reading truncated final ts)
other_spelled truncated final [] = standard_spelled truncated final []
other_spelled truncated final (Integer z ∷ ts) = standard_spelled truncated final (Integer z ∷ ts)
other_spelled truncated final (P b ∷ ts) = cond_both (b == 63) _ _ AreSpelledSequences (λ e. modes_spelled private_mode_groups truncated final ts (P b ∷ ts)) (λ e. standard_spelled truncated final (P b ∷ ts))

pub reading_spelled : (ts : List CsiParam) (truncated : Bool) (final : ℕ) → AreSpelledSequences (csi_reading ts truncated final)
unfolding csi_reading
reading_spelled ts truncated final = cond_both (final == 109) _ _ AreSpelledSequences (λ e. sgr_spelled truncated final ts) (λ e. other_spelled truncated final ts)
