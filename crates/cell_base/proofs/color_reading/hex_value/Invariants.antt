use Rattle.std.proofs.Common.{◌≡◌, ◌<◌, ◌^◌, true, take}
use Rattle.std.specs.List.{list_all}
use Rattle.std.specs.Char.{is_ascii_hexdigit}
use Rattle.cell_base.specs.ColorText.{hex_value}
use Rattle.cell_base.proofs.color_reading.hex_value.Given as goal

abbrev pub invariant-loop-digit : goal.invariant-loop-digit
invariant-loop-digit l =
    (list_all is_ascii_hexdigit (take l.digit-index l.digits) ≡ true) × (l.value ≡ hex_value (take l.digit-index l.digits)) × (l.value < 16 ^ l.digit-index)
