-- What the laws say of the bytes of actions that encode changes: a stream that has the bytes has these actions.
use Rattle.std.specs.Prelude.{◌≡◌, ℕ, ◌≤◌, ⊤, List, Some}
use Rattle.std.specs.Str.{IsUtf8}
use Rattle.cell_base.specs.declared.color.ColorAttribute.{ColorAttribute}
use Rattle.cell_base.specs.declared.color.ColorAttribute.TheVariants as attribute
use Rattle.cell_base.specs.Attributes.{Attributes}
use Rattle.cell_base.specs.AttributeValue as one
use Rattle.cell_base.specs.AttributeValue.{AttributeValue}
use Rattle.cell_base.specs.ScreenSize.{IsScreenSize}
use Rattle.screen_change.specs.ChangeValue.{ChangeValue, Attribute, AllAttributes, Text, ClearScreen, ClearToEndOfLine}
use Rattle.screen_change.specs.ChangeValue.{ClearToEndOfScreen, Title}
use Rattle.escape_stream.specs.StreamAction.{StreamAction}
use Rattle.escape_stream.specs.StreamWritable.{IsWritable}
use Rattle.terminal_render.specs.Rendering.{rendering}

-- a colour whose components and palette index are bytes, 0 to 255, as every colour of the code is
abbrev pub IsColor : ColorAttribute → Type 0
IsColor (attribute.TrueColorWithPaletteFallback c index) = (c.0 ≤ 255) × (c.1 ≤ 255) × (c.2 ≤ 255) × (c.3 ≤ 255)
IsColor (attribute.TrueColorWithDefaultFallback c) = (c.0 ≤ 255) × (c.1 ≤ 255) × (c.2 ≤ 255) × (c.3 ≤ 255)
IsColor (attribute.PaletteIndex index) = index ≤ 255
IsColor attribute.Default = ⊤

abbrev pub HaveColors : Attributes → Type 0
HaveColors a = IsColor a.foreground × IsColor a.background × IsColor a.underline_color

abbrev pub HasColor : AttributeValue → Type 0
HasColor (one.Foreground color) = IsColor color
HasColor (one.Background color) = IsColor color
HasColor _ = ⊤

-- a change as the code can hold it: the components of its colours are bytes, and its texts are UTF-8
abbrev pub IsChange : ChangeValue → Type 0
IsChange (Text text) = IsUtf8 text
IsChange (Title text) = IsUtf8 text
IsChange (Attribute change) = HasColor change
IsChange (AllAttributes attributes) = HaveColors attributes
IsChange (ClearScreen color) = IsColor color
IsChange (ClearToEndOfLine color) = IsColor color
IsChange (ClearToEndOfScreen color) = IsColor color
IsChange _ = ⊤

-- the encoding of a change is a list of actions that reads back from its bytes
abbrev pub RenderingsAreWritable : Type 0
RenderingsAreWritable =
    (change : ChangeValue) (width height : ℕ) (actions : List StreamAction) → IsChange change
    → IsScreenSize width height → rendering change width height ≡ Some actions → IsWritable actions
