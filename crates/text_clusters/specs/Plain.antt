-- Plain text: printable ASCII.
use Rattle.std.specs.Prelude.{ℕ, ◌-◌, Bool, ◌&&◌, ◌==◌, nat_le, nat_lt, List, [], ◌∷◌, length, map, if◌then◌else◌}
use Rattle.std.specs.List.{prefix_len}

-- a printable ASCII character: 20h to 7Eh
abbrev pub is_printable : ℕ → Bool
is_printable byte = nat_le 32 byte && nat_lt byte 127

-- each byte as a text of one character
abbrev pub each : List ℕ → List (List ℕ)
each bytes = map (λ byte. byte ∷ []) bytes

-- the length of the printable prefix, less its last character where another character follows the prefix: that may
-- join the last character
abbrev pub plain_len : List ℕ → ℕ
plain_len text = let run = prefix_len is_printable text in if run == length text then run else run - 1
