-- The actions that encode changes, one after another.
use Rattle.std.specs.Prelude.{ℕ, ◌==◌, Bool, false, List, [], Option, Some, None}
use Rattle.std.specs.List.{flat_map}
use Rattle.cell_base.specs.declared.attributes.Position.TheVariants.{Absolute}
use Rattle.screen_change.specs.ChangeValue.{ChangeValue, CursorPosition}
use Rattle.escape_stream.specs.StreamAction.{StreamAction}
use Rattle.escape_stream.specs.StreamText.{stream_text}
use Rattle.terminal_render.specs.Rendering.{rendering}

-- actions, if there are any
abbrev pub actions_or_none : Option (List StreamAction) → List StreamAction
actions_or_none None = []
actions_or_none (Some actions) = actions

-- the actions that encode a change for a terminal of a width and a height, and those of changes in turn
unfoldable pub encoded_for : ℕ → ℕ → ChangeValue → List StreamAction
encoded_for width height change = actions_or_none (rendering change width height)

abbrev pub all_encoded : ℕ → ℕ → List ChangeValue → List StreamAction
all_encoded width height changes = flat_map (encoded_for width height) changes

-- the bytes that encode a change for a terminal of a width and a height, and those of changes in turn
unfoldable pub encoded_text : ℕ → ℕ → ChangeValue → List ℕ
encoded_text width height change = stream_text (encoded_for width height change)

abbrev pub encoded_texts : ℕ → ℕ → List ChangeValue → List ℕ
encoded_texts width height changes = flat_map (encoded_text width height) changes

-- whether a change puts the cursor past the last column, where a wrap is pending
abbrev pub is_pending : ℕ → ChangeValue → Bool
is_pending width (CursorPosition (Absolute column) y) = column == width
is_pending width _ = false
