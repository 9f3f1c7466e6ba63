-- Facts on held states that lemmas use: whether a body is open, and how many bytes of a character have begun.
use Rattle.std.specs.Prelude.{ℕ, Bool, true, false, length}
use Rattle.escape_framing.specs.Held.{Kept, InCharacter, InCommand, InDevice, InString}

-- the body of a command, data, or a string that does nothing
abbrev pub is_body : Kept → Bool
is_body (InCommand body) = true
is_body InDevice = true
is_body InString = true
is_body _ = false

-- how many bytes of a character are kept
abbrev pub begun_in : Kept → ℕ
begun_in (InCharacter bytes) = length bytes
begun_in _ = 0
