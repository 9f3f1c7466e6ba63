-- What an `Action` shows: two actions are equal where their values are.
use Rattle.std.specs.String.{string_bytes}
use Rattle.csi_codec.specs.Sequences.{action_of}
use Rattle.escape_osc.specs.CommandView.{command_of}
use Rattle.escape_stream.specs.declared.action.Action.{Action}
use Rattle.escape_stream.specs.declared.action.Action.TheVariants as variant
use Rattle.escape_stream.specs.declared.device.DeviceControlMode.{DeviceControlMode}
use Rattle.escape_stream.specs.declared.device.DeviceControlMode.TheVariants as mode
use Rattle.escape_stream.specs.Controls.{control_number}
use Rattle.escape_stream.specs.StreamAction.{StreamAction, print, print_string, control, enter, data_byte, exit}
use Rattle.escape_stream.specs.StreamAction.{command, csi, esc}

abbrev pub device_value : DeviceControlMode → StreamAction
device_value (mode.Enter opening) = enter opening.value.header.items opening.value.byte
device_value (mode.Data byte) = data_byte byte
device_value mode.Exit = exit

abbrev pub value_of : Action → StreamAction
value_of (variant.Print character) = print character
value_of (variant.PrintString text) = print_string (string_bytes text)
value_of (variant.Control code) = control (control_number code)
value_of (variant.DeviceControl part) = device_value part
value_of (variant.OperatingSystemCommand c) = command (command_of c.value)
value_of (variant.CSI sequence) = csi (action_of sequence)
value_of (variant.Esc pair) = esc pair
