-- The value of an `OperatingSystemCommand`: two commands are equal where their values are.
use Rattle.std.specs.Prelude.{map, option_map}
use Rattle.std.specs.String.{string_bytes}
use Rattle.escape_osc.specs.declared.command.OperatingSystemCommand.{OperatingSystemCommand}
use Rattle.escape_osc.specs.declared.command.OperatingSystemCommand.TheVariants.{SetIconNameAndWindowTitle, SetIconName}
use Rattle.escape_osc.specs.declared.command.OperatingSystemCommand.TheVariants.{SetWindowTitle}
use Rattle.escape_osc.specs.declared.command.OperatingSystemCommand.TheVariants.{CurrentWorkingDirectory, SetHyperlink}
use Rattle.escape_osc.specs.declared.command.OperatingSystemCommand.TheVariants.{SetSelection, QuerySelection}
use Rattle.escape_osc.specs.declared.command.OperatingSystemCommand.TheVariants.{ClearSelection, Unspecified}
use Rattle.escape_osc.specs.Command.{Command, set_icon_name_and_window_title, set_icon_name, set_window_title}
use Rattle.escape_osc.specs.Command.{current_working_directory, set_hyperlink, set_selection, query_selection}
use Rattle.escape_osc.specs.Command.{clear_selection, unspecified}
use Rattle.escape_osc.specs.Selection.{bits_of}

abbrev pub command_of : OperatingSystemCommand → Command
command_of (SetIconNameAndWindowTitle text) = set_icon_name_and_window_title (string_bytes text)
command_of (SetIconName text) = set_icon_name (string_bytes text)
command_of (SetWindowTitle text) = set_window_title (string_bytes text)
command_of (CurrentWorkingDirectory text) = current_working_directory (string_bytes text)
command_of (SetHyperlink link) = set_hyperlink (option_map (λ r. r.value) link)
command_of (SetSelection selection text) = set_selection (bits_of selection) (string_bytes text)
command_of (QuerySelection selection) = query_selection (bits_of selection)
command_of (ClearSelection selection) = clear_selection (bits_of selection)
command_of (Unspecified parts) = unspecified (map (λ part. part.items) parts.items)
