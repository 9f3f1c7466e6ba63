-- What a change of one attribute does.
use Rattle.std.specs.Option.{option_map}
use Rattle.cell_base.specs.Attributes.{Attributes}
use Rattle.cell_base.specs.declared.attribute_change.AttributeChange.{AttributeChange}
use Rattle.cell_base.specs.declared.attribute_change.AttributeChange.TheVariants.{Intensity, Underline, Italic, Blink}
use Rattle.cell_base.specs.declared.attribute_change.AttributeChange.TheVariants.{Reverse, StrikeThrough, Invisible}
use Rattle.cell_base.specs.declared.attribute_change.AttributeChange.TheVariants.{Foreground, Background, Hyperlink}

-- the attributes with the changed one set
abbrev pub changed_by : Attributes → AttributeChange → Attributes
changed_by a (Intensity value) = record a { intensity = value }
changed_by a (Underline value) = record a { underline = value }
changed_by a (Italic value) = record a { italic = value }
changed_by a (Blink value) = record a { blink = value }
changed_by a (Reverse value) = record a { reverse = value }
changed_by a (StrikeThrough value) = record a { strikethrough = value }
changed_by a (Invisible value) = record a { invisible = value }
changed_by a (Foreground value) = record a { foreground = value }
changed_by a (Background value) = record a { background = value }
changed_by a (Hyperlink value) = record a { hyperlink = option_map (λ link. link.value) value }
