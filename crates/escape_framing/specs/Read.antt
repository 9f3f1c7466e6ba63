-- What a framer has read of some bytes.
use Rattle.std.specs.Prelude.{◌≡◌, ◌≤◌, ◌<◌, ℕ, ◌+◌, List, [], ◌∷◌, length, take, drop, map, Some, None}
use Rattle.escape_framing.specs.Held.{Held, TakesMemory, hand_out}
use Rattle.escape_framing.specs.Framed.{Framed, Text, Single, IsText, IsReached, IsCarried, Frames}
use Rattle.escape_framing.specs.Lending.{Lending}
use Rattle.escape_framing.specs.Event.{handed_out, rank}
use Rattle.escape_framing.specs.declared.event.Event.TheVariants as event
use Rattle.escape_framing.specs.declared.event.Read.{Read}
use Rattle.escape_framing.specs.declared.event.Read.TheVariants as read

-- how many bytes were read
abbrev pub count_of : Read → ℕ
count_of (read.Text n) = n
count_of (read.Bytes event n) = n

abbrev pub text_of : Read → ℕ
text_of (read.Text n) = n
text_of (read.Bytes event n) = 0

-- the text that was read, which begins at offset `from`, or the event, with what is lent
abbrev pub items_of : Lending → Read → List ℕ → ℕ → List Framed
items_of l (read.Text n) bytes from = Text from (take n bytes) ∷ []
items_of l (read.Bytes event n) bytes from = map Single (handed_out l event)

-- a control sequence of n bytes, by its final byte
abbrev pub whole_sequence : ℕ → ℕ → Read
whole_sequence final n = read.Bytes (Some (event.ControlSequence final)) n

-- an operating system command of n bytes
abbrev pub whole_command : ℕ → Read
whole_command n = read.Bytes (Some event.OperatingSystemCommand) n

-- a control, which is one byte
abbrev pub whole_control : ℕ → Read
whole_control b = read.Bytes (Some (event.Control b)) 1

-- U+FFFD for n bytes: one that is part of no character, or those of a character that the byte after them breaks off
abbrev pub whole_stray : ℕ → Read
whole_stray n = read.Bytes (Some (event.Print 0xFFFD)) n

-- an ESC pair, which is two bytes
abbrev pub whole_escape : ℕ → Read
whole_escape b = read.Bytes (Some (event.Escape None b)) 2

-- a byte of a device control string
abbrev pub whole_data : ℕ → Read
whole_data b = read.Bytes (Some (event.Data b)) 1

-- what is held after the first n bytes
abbrev pub held_after : Held → List ℕ → ℕ → Held
held_after held bytes n = (hand_out held (take n bytes)).held

-- after the first n bytes the body of a command or a header is read, which takes memory
abbrev pub TakesMemoryAt : Held → List ℕ → ℕ → Type 0
TakesMemoryAt held bytes n = TakesMemory (held_after held bytes n).kept

-- After `held`, the framer has read `r` at the start of the bytes, and has the view `after`.
pub record ReadsEvent (held : Held) (bytes : List ℕ) (r : Read) (after : Lending) : Type 0 where
  -- in a call that holds these bytes, after `count` bytes of it were read
  pub frames : (count : ℕ) → IsReached held → IsCarried 0 count held bytes
      → Frames count held bytes (items_of after r bytes) (count_of r) after.held
  -- at most all of the bytes were read, and those read as a text are one
  pub within : count_of r ≤ length bytes
  pub text : IsText (take (text_of r) bytes)
  -- where no byte is read of one or more, something that the first byte ends was closed: the rank, at most 3, falls
  pub moves : count_of r ≡ 0 → 0 < length bytes → rank after.held < rank held
  -- where the state after m more bytes takes memory, it is the state after all of these bytes, read from `held`
  pub opens : IsReached held → (m : ℕ) → TakesMemoryAt after.held (drop (count_of r) bytes) m
      → held_after after.held (drop (count_of r) bytes) m ≡ held_after held bytes (count_of r + m)
