-- What a framer hands out, one event at a time, and what it leaves unread.
use Rattle.std.specs.Prelude.{◌≡◌, ◌<◌, ◌≤◌, ◌⊎◌, ℕ, ◌+◌, Bool, true, false, List, [], ◌∷◌, ◌++◌, Option, Some, None}
use Rattle.std.specs.Prelude.{if◌then◌else◌}
use Rattle.text_clusters.specs.Controls.{is_c1}
use Rattle.escape_framing.specs.Bytes.{is_stop, is_cut}
use Rattle.escape_framing.specs.Dispatch as stream
use Rattle.escape_framing.specs.Held.{Kept, InCharacter, InEscape, InControlSequence, InCommand, InHeader, InDevice}
use Rattle.escape_framing.specs.Held.{InString, Step, steps, before, kept_step, Held, Handed, held_step}
use Rattle.escape_framing.specs.Framed.{takes_text}
use Rattle.escape_framing.specs.Lending.{Lending}
use Rattle.escape_framing.specs.declared.event.Event.{Event}
use Rattle.escape_framing.specs.declared.event.Event.TheVariants.{Print, Control, Escape, ControlSequence}
use Rattle.escape_framing.specs.declared.event.Event.TheVariants.{OperatingSystemCommand, Enter, Data, Exit}

-- an event, with what the framer lends
abbrev pub dispatch_in : Lending → Event → stream.Dispatch
dispatch_in l (Print c) = stream.Print c
dispatch_in l (Control b) = stream.Control b
dispatch_in l (Escape intermediate final) = stream.Escape intermediate final
dispatch_in l (ControlSequence final) = stream.ControlSequence l.parameters.tokens l.parameters.truncated final
dispatch_in l OperatingSystemCommand = stream.OperatingSystemCommand l.body
dispatch_in l (Enter final) = stream.Enter l.body final
dispatch_in l (Data b) = stream.Data b
dispatch_in l Exit = stream.Exit

abbrev pub handed_out : Lending → Option Event → List stream.Dispatch
handed_out l None = []
handed_out l (Some e) = dispatch_in l e ∷ []

-- the step of a byte of the seven-bit form that hands out `ds` and leaves `kept`; a byte left unread then takes its own
-- step from there
abbrev pub resumed : List stream.Dispatch → Kept → Bool → ℕ → Step
resumed ds kept true b = steps ds kept
resumed ds kept false b = before ds (kept_step kept b)

-- the step of a byte of the stream that hands out `ds` and leaves `held`
abbrev pub held_resumed : List stream.Dispatch → Held → Bool → ℕ → Handed
held_resumed ds held true b = record { dispatches = ds; held = held }
held_resumed ds held false b =
    let rest = held_step held b in record { dispatches = ds ++ rest.dispatches; held = rest.held }

-- the event is no character that a text can lend
abbrev pub IsAlone : Option Event → Type 0
IsAlone None = Unit {0}
IsAlone (Some (Print c)) = c ≡ 0xFFFD
IsAlone (Some (Control b)) = Unit {0}
IsAlone (Some (Escape intermediate final)) = Unit {0}
IsAlone (Some (ControlSequence final)) = Unit {0}
IsAlone (Some OperatingSystemCommand) = Unit {0}
IsAlone (Some (Enter final)) = Unit {0}
IsAlone (Some (Data b)) = Unit {0}
IsAlone (Some Exit) = Unit {0}

-- 1 where something is open, else 0
abbrev pub kept_rank : Kept → ℕ
kept_rank (InCharacter []) = 0
kept_rank (InCharacter (b ∷ bytes)) = 1
kept_rank (InEscape xs) = 1
kept_rank (InControlSequence p) = 1
kept_rank (InCommand body) = 1
kept_rank (InHeader header) = 1
kept_rank InDevice = 1
kept_rank InString = 1

-- How often a byte can be left unread: a C2 that waits is read first, and then what is open is closed. At most 3.
abbrev pub rank : Held → ℕ
rank held = (if held.waiting then 2 else 0) + kept_rank held.kept

-- A byte that is left unread has closed what was open, with this event.
pub record IsLeft (old : Kept) (event : Option Event) (new : Kept) : Type 0 where
  pub closed : new ≡ InCharacter []
  pub was_open : kept_rank old ≡ 1
  pub alone : IsAlone event

-- A byte of the seven-bit form that is read after what is kept cuts nothing off.
abbrev pub GoesOn : Kept → ℕ → Type 0
GoesOn (InCharacter bytes) b = (bytes ≡ []) ⊎ ((0x80 ≤ b) × (b ≤ 0xBF))
GoesOn (InEscape xs) b = is_cut b ≡ false
GoesOn (InControlSequence p) b = is_cut b ≡ false
GoesOn (InCommand body) b = is_stop b ≡ false
GoesOn (InHeader header) b = is_cut b ≡ false
GoesOn InDevice b = is_stop b ≡ false
GoesOn InString b = is_stop b ≡ false

-- Where a byte of the stream is left unread, a C2 that waited was read as a byte of data, or what was open was closed.
-- A C2 then waits only if it waited before, and makes a C1 control with the byte, or the byte may belong to a text.
pub record IsHeldLeft (old : Held) (b : ℕ) (event : Option Event) (new : Held) : Type 0 where
  pub falls : rank new < rank old
  pub closed : (new.kept ≡ InCharacter []) ⊎ (new ≡ record { kept = InDevice; waiting = false })
  pub waits : new.waiting ≡ true → (old.waiting ≡ true) × ((is_c1 0xC2 b ≡ true) ⊎ (takes_text old b ≡ true))
  pub alone : IsAlone event
