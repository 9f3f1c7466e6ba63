-- The classes of bytes in escape sequences (ECMA-48, 5.2 to 5.6).
use Rattle.std.specs.Prelude.{ℕ, Bool, not, ◌&&◌, ◌||◌, nat_le, ◌==◌, List, filter}
use Rattle.std.specs.Char.{is_ascii_control}
use Rattle.csi_codec.specs.Tokens.{is_parameter}

-- CAN, SUB and ESC: each ends what is open, and does not belong to it
unfoldable pub is_stop : ℕ → Bool
is_stop b = b == 0x18 || b == 0x1A || b == 0x1B

-- a control that can be within a sequence and leaves it open
unfoldable pub is_embedded : ℕ → Bool
is_embedded b = is_ascii_control b && not (is_stop b)

-- an intermediate byte (ECMA-48, 5.4)
unfoldable pub is_intermediate : ℕ → Bool
is_intermediate b = nat_le 0x20 b && nat_le b 0x2F

-- the final byte of a control sequence
unfoldable pub is_final : ℕ → Bool
is_final b = nat_le 0x40 b && nat_le b 0x7E

-- the final byte of an escape sequence
unfoldable pub is_escape_final : ℕ → Bool
is_escape_final b = nat_le 0x30 b && nat_le b 0x7E

-- X, ^ and _, which open a string that does nothing: SOS, PM and APC
unfoldable pub is_string_opener : ℕ → Bool
is_string_opener b = b == 0x58 || b == 0x5E || b == 0x5F

-- the bytes that open something longer after ESC: [, ], P, and those of strings
unfoldable pub is_opener : ℕ → Bool
is_opener b = b == 0x5B || b == 0x5D || b == 0x50 || is_string_opener b

-- a byte that cuts off a sequence before its final byte
unfoldable pub is_cut : ℕ → Bool
is_cut b = is_stop b || nat_le 0x80 b

-- a byte within an escape sequence, before its final byte
abbrev pub in_escape : ℕ → Bool
in_escape b = is_embedded b || is_intermediate b

-- a byte within a control sequence or the header of a device control string, before the final byte
abbrev pub in_parameters : ℕ → Bool
in_parameters b = is_embedded b || is_parameter b

-- a byte that ends an operating system command: BEL, which is its last, and CAN, SUB and ESC
abbrev pub ends_command : ℕ → Bool
ends_command b = b == 0x07 || is_stop b

-- the bytes of a list that are no C0 control and not DEL
abbrev pub taken : List ℕ → List ℕ
taken bytes = filter (λ b. not (is_ascii_control b)) bytes
