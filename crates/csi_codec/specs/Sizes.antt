-- The largest length in bytes of the text of an action that can be written.
use Rattle.std.specs.Prelude.{◌≤◌, length}
use Rattle.csi_codec.specs.Actions.{Action}
use Rattle.csi_codec.specs.Sequences.{csi_text}
use Rattle.csi_codec.specs.Writable.{IsWritable}

-- 24 bytes, the length of ESC [ 38:6::255:255:255:255 m and of ESC [ 4294967295;4294967295 H
abbrev pub ActionsAreShort : Type 0
ActionsAreShort = (a : Action) → IsWritable a → length (csi_text a) ≤ 24
