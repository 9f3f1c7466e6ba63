-- The value of a `Change`.
use Rattle.std.specs.String.{string_bytes}
use Rattle.cell_base.specs.AttributeValueOf.{attribute_value}
use Rattle.screen_change.specs.ChangeValue as to
use Rattle.screen_change.specs.declared.change.Change.{Change}
use Rattle.screen_change.specs.declared.change.Change.TheVariants.{Attribute, AllAttributes, Text, ClearScreen}
use Rattle.screen_change.specs.declared.change.Change.TheVariants.{ClearToEndOfLine, ClearToEndOfScreen, CursorPosition}
use Rattle.screen_change.specs.declared.change.Change.TheVariants.{CursorColor, CursorShape, CursorVisibility}
use Rattle.screen_change.specs.declared.change.Change.TheVariants.{LineAttribute, ScrollRegionUp, ScrollRegionDown}
use Rattle.screen_change.specs.declared.change.Change.TheVariants.{Title}

-- texts as bytes, attributes and links as their values
abbrev pub value_of : Change → to.ChangeValue
value_of (Attribute change) = to.Attribute (attribute_value change)
value_of (AllAttributes attributes) = to.AllAttributes attributes
value_of (Text text) = to.Text (string_bytes text)
value_of (ClearScreen color) = to.ClearScreen color
value_of (ClearToEndOfLine color) = to.ClearToEndOfLine color
value_of (ClearToEndOfScreen color) = to.ClearToEndOfScreen color
value_of (CursorPosition x y) = to.CursorPosition x y
value_of (CursorColor color) = to.CursorColor color
value_of (CursorShape shape) = to.CursorShape shape
value_of (CursorVisibility visibility) = to.CursorVisibility visibility
value_of (LineAttribute kind) = to.LineAttribute kind
value_of (ScrollRegionUp first_row region_size scroll_count) = to.ScrollRegionUp first_row region_size scroll_count
value_of (ScrollRegionDown first_row region_size scroll_count) = to.ScrollRegionDown first_row region_size scroll_count
value_of (Title text) = to.Title (string_bytes text)
