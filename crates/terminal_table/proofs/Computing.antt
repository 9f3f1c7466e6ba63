-- The definitions that worked examples unfold: from bytes to actions, and from actions to their effects by the table.
use Rattle.std.specs.Str.{chars, is_utf8}
use Rattle.std.specs.Char.{encode_utf8}
use Rattle.std.specs.Str.Lossy.{utf8_valid_len, utf8_error_len}
use Rattle.std.specs.Fmt.{digits}
use Rattle.text_clusters.specs.Controls.{holds_c1}
use Rattle.unicode_segmentation.proofs.Computing.{unicode_segmentation}
use Rattle.unicode_width.proofs.Computing.{unicode_width}
use Rattle.cell_base.specs.Cluster.{program_width}
use Rattle.cell_base.specs.LinkText.{texts_reading, link_reading}
use Rattle.csi_codec.specs.Actions.{mode_group, groups, csi_reading}
use Rattle.csi_codec.specs.Cursors.{cursor_reading}
use Rattle.csi_codec.specs.Edits.{edit_reading}
use Rattle.csi_codec.specs.Devices.{device_reading}
use Rattle.csi_codec.specs.Modes.{private_mode_reading, mode_reading}
use Rattle.csi_codec.specs.Rendition.{colour_form, single_code, numbered_shape, sgr_shape, sgr_group}
use Rattle.csi_codec.specs.Escapes.{known_code}
use Rattle.escape_framing.specs.Bytes.{is_stop, is_embedded, is_intermediate, is_final, is_escape_final, is_string_opener, is_opener, is_cut}
use Rattle.csi_codec.specs.Tokens.{is_parameter}
use Rattle.escape_framing.specs.Cut.{the_cut}
use Rattle.escape_framing.specs.Decode.{first_byte, in_character, opened_by, after_escape, next_byte, read_on}
use Rattle.escape_framing.specs.Dispatch.{escape_dispatch, control_sequence_dispatch, command_dispatch}
use Rattle.escape_osc.specs.Reading.{utf8_reading, text_reading, base64_reading, data_reading, clear_reading, lettered_reading, selection_command, link_command, coded_reading}
use Rattle.escape_osc.specs.Selection.{letter_bits, letters_bits, selection_reading}
use Rattle.terminal_table.specs.Functions.{function_of}
use Rattle.terminal_table.specs.XtermRequests.{xterm_request}

-- `unfolding table` lets `refl` compute the view after a history
unfoldable pub table : Unit {0}
unfolding chars is_utf8 digits encode_utf8 utf8_valid_len utf8_error_len unicode_segmentation unicode_width program_width mode_group groups csi_reading cursor_reading edit_reading device_reading private_mode_reading mode_reading colour_form single_code numbered_shape sgr_shape sgr_group known_code is_stop is_embedded is_intermediate is_parameter is_final is_escape_final is_string_opener is_opener is_cut the_cut first_byte in_character opened_by after_escape next_byte read_on escape_dispatch control_sequence_dispatch command_dispatch holds_c1 utf8_reading text_reading base64_reading data_reading clear_reading lettered_reading selection_command link_command coded_reading letter_bits letters_bits selection_reading texts_reading link_reading function_of xterm_request
table = tt
