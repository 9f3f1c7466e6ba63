-- Requests to the terminal itself: how they are read, by final byte, and how they are written.
use Rattle.std.specs.Prelude.{ℕ, List, [], ◌∷◌, Option, Some, None, ◌==◌, if◌then◌else◌}
use Rattle.csi_codec.specs.Parameters.{is_number, Lines, read_by, Spelled, spelled, number_tokens}
use Rattle.csi_codec.specs.declared.parameters.CsiParam.{CsiParam}
use Rattle.csi_codec.specs.declared.parameters.CsiParam.TheVariants.{Integer, P}
use Rattle.csi_codec.specs.declared.devices.Device.{Device}
use Rattle.csi_codec.specs.declared.devices.Device.TheVariants.{SoftReset, RequestPrimaryDeviceAttributes, StatusReport}

-- ---- Reading

abbrev pub soft_reset : List CsiParam → Option Device
soft_reset (P b ∷ []) = if b == 33 then Some SoftReset else None
soft_reset _ = None

abbrev pub primary_attributes : List CsiParam → Option Device
primary_attributes [] = Some RequestPrimaryDeviceAttributes
primary_attributes (Integer z ∷ []) = if is_number 0 z then Some RequestPrimaryDeviceAttributes else None
primary_attributes _ = None

abbrev pub status_report : List CsiParam → Option Device
status_report (Integer z ∷ []) = if is_number 5 z then Some StatusReport else None
status_report _ = None

-- the table of readings: a line for each final byte
abbrev pub device_lines : Lines Device
device_lines =
    (112, soft_reset)  -- p: DECSTR, xterm
    ∷ (99, primary_attributes)  -- c: DA, ECMA-48 8.3.24
    ∷ (110, status_report)  -- n: DSR 5, 8.3.35
    ∷ []

-- the request that a list before a final byte encodes, if there is one
unfoldable pub device_reading : ℕ → List CsiParam → Option Device
device_reading final ts = read_by device_lines final ts

-- ---- Writing

unfoldable pub device_spelling : Device → Spelled
device_spelling SoftReset = spelled (P 33 ∷ []) 112  -- p: DECSTR
device_spelling RequestPrimaryDeviceAttributes = spelled [] 99  -- c: DA
device_spelling StatusReport = spelled (number_tokens 5) 110  -- n: DSR 5
