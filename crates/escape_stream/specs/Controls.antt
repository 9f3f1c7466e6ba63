-- The control characters by their numbers (ECMA-48 5.2, ISO 646).
use Rattle.std.specs.Prelude.{ℕ, List, [], ◌∷◌, Option, find, ◌==◌}
use Rattle.escape_stream.specs.declared.control.ControlCode.{ControlCode}
use Rattle.escape_stream.specs.declared.control.ControlCode.TheVariants as code

abbrev pub control_number : ControlCode → ℕ
control_number code.Null = 0
control_number code.StartOfHeading = 1
control_number code.StartOfText = 2
control_number code.EndOfText = 3
control_number code.EndOfTransmission = 4
control_number code.Enquiry = 5
control_number code.Acknowledge = 6
control_number code.Bell = 7
control_number code.Backspace = 8
control_number code.HorizontalTab = 9
control_number code.LineFeed = 10
control_number code.VerticalTab = 11
control_number code.FormFeed = 12
control_number code.CarriageReturn = 13
control_number code.ShiftOut = 14
control_number code.ShiftIn = 15
control_number code.DataLinkEscape = 16
control_number code.DeviceControlOne = 17
control_number code.DeviceControlTwo = 18
control_number code.DeviceControlThree = 19
control_number code.DeviceControlFour = 20
control_number code.NegativeAcknowledge = 21
control_number code.SynchronousIdle = 22
control_number code.EndOfTransmissionBlock = 23
control_number code.Cancel = 24
control_number code.EndOfMedium = 25
control_number code.Substitute = 26
control_number code.Escape = 27
control_number code.FileSeparator = 28
control_number code.GroupSeparator = 29
control_number code.RecordSeparator = 30
control_number code.UnitSeparator = 31
control_number code.Delete = 127

abbrev pub control_codes : List ControlCode
control_codes =
    code.Null ∷ code.StartOfHeading ∷ code.StartOfText ∷ code.EndOfText ∷ code.EndOfTransmission ∷ code.Enquiry
    ∷ code.Acknowledge ∷ code.Bell ∷ code.Backspace ∷ code.HorizontalTab ∷ code.LineFeed ∷ code.VerticalTab
    ∷ code.FormFeed ∷ code.CarriageReturn ∷ code.ShiftOut ∷ code.ShiftIn ∷ code.DataLinkEscape
    ∷ code.DeviceControlOne ∷ code.DeviceControlTwo ∷ code.DeviceControlThree ∷ code.DeviceControlFour
    ∷ code.NegativeAcknowledge ∷ code.SynchronousIdle ∷ code.EndOfTransmissionBlock ∷ code.Cancel ∷ code.EndOfMedium
    ∷ code.Substitute ∷ code.Escape ∷ code.FileSeparator ∷ code.GroupSeparator ∷ code.RecordSeparator
    ∷ code.UnitSeparator ∷ code.Delete ∷ []

-- the control character of a byte
abbrev pub control_named : ℕ → Option ControlCode
control_named byte = find (λ known. control_number known == byte) control_codes
