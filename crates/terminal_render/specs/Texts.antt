-- Texts and titles as actions.
use Rattle.std.specs.Prelude.{ℕ, List, [], ◌∷◌, Option, Some, None, ◌==◌, ◌||◌, if◌then◌else◌}
use Rattle.std.specs.List.{flat_map}
use Rattle.text_clusters.specs.Controls.{holds_c1}
use Rattle.cell_base.specs.Row.{space}
use Rattle.escape_osc.specs.Command.{set_window_title}
use Rattle.escape_stream.specs.StreamAction.{StreamAction, print_string, control, command}
use Rattle.screen_effects.specs.Strokes.{TextPart, Plain, Control, text_parts}
use Rattle.terminal_render.specs.Links.{is_plain_text}

-- a text that is printed, and NUL, which ends the run and has no other effect (ECMA-48 8.3.88)
abbrev pub run_actions : List ℕ → List StreamAction
run_actions text = print_string text ∷ control 0 ∷ []

-- CR and LF are written as they are (8.3.15 and 8.3.74), any other control as a space
abbrev pub part_actions : TextPart → List StreamAction
part_actions (Plain text) = run_actions text
part_actions (Control byte) = if byte == 13 || byte == 10 then control byte ∷ [] else run_actions space

-- a text, cut at its controls; `None` where it holds U+0080 to U+009F, which would be read as controls
unfoldable pub text_rendering : List ℕ → Option (List StreamAction)
text_rendering text = if holds_c1 text then None else Some (flat_map part_actions (text_parts text))

-- OSC 2 (xterm: Operating System Commands); `None` where the title holds a control, which would end it or be skipped
unfoldable pub title_rendering : List ℕ → Option (List StreamAction)
title_rendering text = if is_plain_text text then Some (command (set_window_title text) ∷ []) else None
