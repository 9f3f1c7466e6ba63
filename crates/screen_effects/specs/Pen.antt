-- What changes of attributes do to the pen.
use Rattle.cell_base.specs.Attributes.{Attributes}
use Rattle.cell_base.specs.AttributeValue.{AttributeValue, Intensity, Underline, Italic, Blink, Reverse, StrikeThrough}
use Rattle.cell_base.specs.AttributeValue.{Invisible, Foreground, Background, Hyperlink}

-- the attributes with one of them set
abbrev pub with_attribute : Attributes → AttributeValue → Attributes
with_attribute a (Intensity value) = record a { intensity = value }
with_attribute a (Underline value) = record a { underline = value }
with_attribute a (Italic value) = record a { italic = value }
with_attribute a (Blink value) = record a { blink = value }
with_attribute a (Reverse value) = record a { reverse = value }
with_attribute a (StrikeThrough value) = record a { strikethrough = value }
with_attribute a (Invisible value) = record a { invisible = value }
with_attribute a (Foreground value) = record a { foreground = value }
with_attribute a (Background value) = record a { background = value }
with_attribute a (Hyperlink value) = record a { hyperlink = value }
