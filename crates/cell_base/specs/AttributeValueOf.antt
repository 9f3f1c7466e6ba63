-- The value of an `AttributeChange`.
use Rattle.std.specs.Option.{option_map}
use Rattle.cell_base.specs.AttributeValue as to
use Rattle.cell_base.specs.declared.attribute_change.AttributeChange.{AttributeChange}
use Rattle.cell_base.specs.declared.attribute_change.AttributeChange.TheVariants.{Intensity, Underline, Italic, Blink}
use Rattle.cell_base.specs.declared.attribute_change.AttributeChange.TheVariants.{Reverse, StrikeThrough, Invisible}
use Rattle.cell_base.specs.declared.attribute_change.AttributeChange.TheVariants.{Foreground, Background, Hyperlink}

abbrev pub attribute_value : AttributeChange → to.AttributeValue
attribute_value (Intensity value) = to.Intensity value
attribute_value (Underline value) = to.Underline value
attribute_value (Italic value) = to.Italic value
attribute_value (Blink value) = to.Blink value
attribute_value (Reverse value) = to.Reverse value
attribute_value (StrikeThrough value) = to.StrikeThrough value
attribute_value (Invisible value) = to.Invisible value
attribute_value (Foreground value) = to.Foreground value
attribute_value (Background value) = to.Background value
attribute_value (Hyperlink link) = to.Hyperlink (option_map (λ l. l.value) link)
