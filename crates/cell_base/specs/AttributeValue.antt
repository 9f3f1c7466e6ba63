-- A change of one attribute as a value: its link by what it holds.
use Rattle.std.specs.Prelude.{Bool, true, false, Option, Some}
use Rattle.cell_base.specs.declared.attributes.Intensity.{Intensity as Boldness}
use Rattle.cell_base.specs.declared.attributes.Underline.{Underline as Underlining}
use Rattle.cell_base.specs.declared.attributes.Blink.{Blink as Blinking}
use Rattle.cell_base.specs.declared.color.ColorAttribute.{ColorAttribute}
use Rattle.cell_base.specs.Link.{Link}

-- each variant holds the argument of the variant of `AttributeChange` that has its name
pub data AttributeValue : Type 0 where
  Intensity : Boldness → AttributeValue
  Underline : Underlining → AttributeValue
  Italic : Bool → AttributeValue
  Blink : Blinking → AttributeValue
  Reverse : Bool → AttributeValue
  StrikeThrough : Bool → AttributeValue
  Invisible : Bool → AttributeValue
  Foreground : ColorAttribute → AttributeValue
  Background : ColorAttribute → AttributeValue
  Hyperlink : Option Link → AttributeValue

-- the change sets a link; it doesn't remove one
abbrev pub holds_link : AttributeValue → Bool
holds_link (Hyperlink (Some link)) = true
holds_link value = false
