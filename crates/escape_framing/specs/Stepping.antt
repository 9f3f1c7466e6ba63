-- What a byte does, as the steps of a framer return it.
use Rattle.std.specs.Prelude.{◌≡◌, ℕ, false}
use Rattle.escape_framing.specs.Held.{Step, Handed}
use Rattle.escape_framing.specs.Lending.{Lending}
use Rattle.escape_framing.specs.Event.{handed_out, resumed, held_resumed, IsLeft, IsHeldLeft}
use Rattle.escape_framing.specs.declared.states.Stepped.{Stepped}

-- a byte of the seven-bit form, with what the framer shows after it
abbrev pub as_stepped : Lending → Stepped → ℕ → Step
as_stepped new s b = resumed (handed_out new s.event) new.held.kept s.is_read b

-- a byte of the stream
abbrev pub as_advanced : Lending → Stepped → ℕ → Handed
as_advanced new s b = held_resumed (handed_out new s.event) new.held s.is_read b

-- a byte that is left unread closes what was open
abbrev pub Closes : Lending → Stepped → Lending → Type 0
Closes old s new = s.is_read ≡ false → IsLeft old.held.kept s.event new.held.kept

abbrev pub Leaves : Lending → ℕ → Stepped → Lending → Type 0
Leaves old b s new = s.is_read ≡ false → IsHeldLeft old.held b s.event new.held
