-- A byte that cuts off the sequence that a framer has open.
use Rattle.std.proofs.Common.{◌≡◌, ℕ, true, false, [], ◌∷◌, Some, None, sym, ap, ◌∙◌}
use Rattle.std.specs.Prelude.{not}
use Rattle.escape_framing.specs.Bytes.{is_stop}
use Rattle.escape_framing.specs.Dispatch.{OperatingSystemCommand}
use Rattle.escape_framing.specs.Held.{InCharacter, before, character_step, command_step}
use Rattle.escape_framing.specs.Lending.{Lending}
use Rattle.escape_framing.specs.Event.{handed_out, resumed}
use Rattle.escape_framing.specs.declared.event.Event.TheVariants as event
use Rattle.escape_framing.specs.declared.states.Stepped.{Stepped}

-- the state with nothing open
abbrev pub closed : Lending → Lending
closed old = record old { held = record old.held { kept = InCharacter [] } }

-- the byte is left, and nothing handed out
pub cut_left : (old new : Lending) (r : Stepped) (b : ℕ) → new ≡ closed old → r ≡ record { event = None; is_read = false } → character_step [] b ≡ resumed (handed_out new r.event) new.held.kept r.is_read b
cut_left old new r b n e = sym (λ i. resumed (handed_out (n i) (e i).event) (n i).held.kept (e i).is_read b)

-- ESC is left after the command
pub command_left : (old new : Lending) (r : Stepped) (b : ℕ) → b ≡ 0x1B → new ≡ closed old → r ≡ record { event = Some event.OperatingSystemCommand; is_read = false } → command_step old.body b ≡ resumed (handed_out new r.event) new.held.kept r.is_read b
unfolding command_step is_stop
command_left old new r b h n e =
    ap (command_step old.body) h
    ∙ ap (λ (x : ℕ). before (OperatingSystemCommand old.body ∷ []) (character_step [] x)) (sym h)
    ∙ sym (λ i. resumed (handed_out (n i) (e i).event) (n i).held.kept (e i).is_read b)

pub escape_stops : (r : Stepped) (b : ℕ) → b ≡ 0x1B → r.is_read ≡ false → r.is_read ≡ not (is_stop b)
unfolding is_stop
escape_stops r b h e = e ∙ ap (λ (x : ℕ). not (is_stop x)) (sym h)

pub bell_goes : (r : Stepped) (b : ℕ) → b ≡ 0x07 → r.is_read ≡ true → r.is_read ≡ not (is_stop b)
unfolding is_stop
bell_goes r b h e = e ∙ ap (λ (x : ℕ). not (is_stop x)) (sym h)
