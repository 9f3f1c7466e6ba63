-- How many bytes encode a change at most.
use Rattle.std.specs.Prelude.{◌≡◌, ℕ, ◌+◌, ◌*◌, ◌≤◌, false, List, length, Option, Some, None}
use Rattle.cell_base.specs.AttributeValue as one
use Rattle.cell_base.specs.AttributeValue.{AttributeValue}
use Rattle.cell_base.specs.Link.{Link}
use Rattle.cell_base.specs.LinkText.{params_text}
use Rattle.cell_base.specs.ScreenSize.{IsScreenSize}
use Rattle.screen_change.specs.ChangeValue.{ChangeValue, Attribute, AllAttributes, Text, Title, is_text}
use Rattle.escape_stream.specs.StreamAction.{StreamAction}
use Rattle.escape_stream.specs.StreamText.{stream_text}
use Rattle.terminal_table.specs.RunText.{IsPrinted}
use Rattle.terminal_render.specs.Carried.{IsChange}
use Rattle.terminal_render.specs.Rendering.{rendering}

-- the number of bytes of a link's parameters and URI
abbrev pub link_size : Option Link → ℕ
link_size None = 0
link_size (Some link) = length (params_text link.params) + length link.uri

abbrev pub attribute_size : AttributeValue → ℕ
attribute_size (one.Hyperlink link) = link_size link
attribute_size _ = 0

-- the number of bytes of the title or the link that a change carries
abbrev pub carried_size : ChangeValue → ℕ
carried_size (Title text) = length text
carried_size (Attribute change) = attribute_size change
carried_size (AllAttributes attributes) = link_size attributes.hyperlink
carried_size _ = 0

-- at most 320 bytes besides `carried_size` encode a change that is no text
abbrev pub RenderingsAreShort : Type 0
RenderingsAreShort =
    (change : ChangeValue) (width height : ℕ) (actions : List StreamAction) → IsChange change
    → IsScreenSize width height → is_text change ≡ false → rendering change width height ≡ Some actions
    → length (stream_text actions) ≤ carried_size change + 320

-- the bytes that encode a text are at most twice its length; one byte more than the text where it holds no C0 control
-- or DEL
abbrev pub TextsAreShort : Type 0
TextsAreShort =
    (text : List ℕ) (width height : ℕ) (actions : List StreamAction) → rendering (Text text) width height ≡ Some actions
    → length (stream_text actions) ≤ 2 * length text

abbrev pub RunsAreShort : Type 0
RunsAreShort =
    (text : List ℕ) (width height : ℕ) (actions : List StreamAction) → IsPrinted text
    → rendering (Text text) width height ≡ Some actions → length (stream_text actions) ≤ length text + 1
