-- The action that a borrowed action represents.
use Rattle.std.specs.Prelude.{List, map, option_map}
use Rattle.csi_codec.specs.Actions as codec
use Rattle.escape_osc.specs.Command.{set_window_title}
use Rattle.escape_stream.specs.Controls.{control_number}
use Rattle.escape_stream.specs.StreamAction.{StreamAction, print_string, control, command, csi}
use Rattle.terminal_render.specs.declared.borrowed_action.BorrowedAction.{BorrowedAction}
use Rattle.terminal_render.specs.declared.borrowed_action.BorrowedAction.TheVariants as variant
use Rattle.terminal_render.specs.Pen.{link_action}
use Rattle.terminal_render.specs.PositionsView.{move_cursor}

abbrev pub borrowed_value : BorrowedAction → StreamAction
borrowed_value (variant.Setting value) = csi (codec.sgr value)
borrowed_value (variant.Move step) = csi (codec.cursor (move_cursor step))
borrowed_value (variant.Edit edit) = csi (codec.edit edit)
borrowed_value (variant.Mode mode) = csi (codec.mode mode)
borrowed_value (variant.Control code) = control (control_number code)
borrowed_value (variant.Text text) = print_string text.now
borrowed_value (variant.Title title) = command (set_window_title title.now)
borrowed_value (variant.Link link) = link_action (option_map (λ l. l.now.value) link)

abbrev pub borrowed_values : List BorrowedAction → List StreamAction
borrowed_values items = map borrowed_value items
