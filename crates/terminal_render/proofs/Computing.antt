-- The definitions that worked examples unfold, from a change to the bytes of its encoding.
use Rattle.std.specs.Str.{chars, is_utf8}
use Rattle.std.specs.Char.{encode_utf8}
use Rattle.std.specs.Fmt.{digits}
use Rattle.text_clusters.specs.Controls.{holds_c1}
use Rattle.cell_base.specs.LinkText.{link_text, texts_reading, link_reading}
use Rattle.csi_codec.specs.Cursors.{cursor_spelling}
use Rattle.csi_codec.specs.Edits.{edit_spelling}
use Rattle.csi_codec.specs.Modes.{mode_spelling}
use Rattle.csi_codec.specs.Rendition.{sgr_spelling}
use Rattle.terminal_render.specs.Links.{is_carried}
use Rattle.terminal_render.specs.Pen.{attribute_action, pen_rendering, clear_rendering}
use Rattle.terminal_render.specs.Positions.{moves, position_moves}
use Rattle.terminal_render.specs.Rendering.{scroll_rendering}
use Rattle.terminal_render.specs.Texts.{text_rendering, title_rendering}

-- `unfolding sending` lets `refl` compute the bytes of a change's encoding
unfoldable pub sending : Unit {0}
unfolding chars is_utf8 digits encode_utf8 link_text texts_reading link_reading cursor_spelling edit_spelling mode_spelling sgr_spelling holds_c1 is_carried attribute_action pen_rendering clear_rendering moves position_moves scroll_rendering text_rendering title_rendering
sending = tt
