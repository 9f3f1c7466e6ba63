-- Underlines, blinking and cursor shapes as booleans.
use Rattle.std.specs.Prelude.{Bool, true, false}
use Rattle.cell_base.specs.declared.attributes.Underline.{Underline}
use Rattle.cell_base.specs.declared.attributes.Underline.TheVariants.{None}
use Rattle.cell_base.specs.declared.attributes.Blink.{Blink}
use Rattle.cell_base.specs.declared.attributes.Blink.TheVariants.{None as steady}
use Rattle.cell_base.specs.declared.attributes.CursorShape.{CursorShape}
use Rattle.cell_base.specs.declared.attributes.CursorShape.TheVariants.{BlinkingBlock, BlinkingUnderline, BlinkingBar}

-- some kind of underline
abbrev pub is_underlined : Underline → Bool
is_underlined None = false
is_underlined _ = true

-- some kind of blinking
abbrev pub is_blinking_text : Blink → Bool
is_blinking_text steady = false
is_blinking_text _ = true

-- the three shapes that blink
abbrev pub is_blinking_shape : CursorShape → Bool
is_blinking_shape BlinkingBlock = true
is_blinking_shape BlinkingUnderline = true
is_blinking_shape BlinkingBar = true
is_blinking_shape _ = false
