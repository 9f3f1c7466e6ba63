-- How the fields of a framer are read.
use Rattle.std.specs.Prelude.{ℕ, List, [], ◌∷◌}
use Rattle.csi_codec.specs.Tokens.{Parameters}
use Rattle.escape_framing.specs.Held.{Kept, InCharacter, InEscape, InControlSequence, InCommand, InHeader, InDevice}
use Rattle.escape_framing.specs.Held.{InString}
use Rattle.escape_framing.specs.Lending.{Lending}
use Rattle.escape_framing.specs.declared.states.Intermediates.{Intermediates}
use Rattle.escape_framing.specs.declared.states.Intermediates.TheVariants.{Zero, One, More}
use Rattle.escape_framing.specs.declared.states.State.{State}
use Rattle.escape_framing.specs.declared.states.State.TheVariants as state
use Rattle.escape_framing.specs.declared.framer.Framer.TheInside.{Inside}

-- the intermediate bytes, two at most
abbrev pub bytes_in : Intermediates → List ℕ
bytes_in Zero = []
bytes_in (One first) = first ∷ []
bytes_in (More first second) = first ∷ second ∷ []

-- what is open, with the first bytes of a character, the parameters and the body that are kept
abbrev pub kept_as : State → List ℕ → Parameters → List ℕ → Kept
kept_as state.Characters characters p body = InCharacter characters
kept_as (state.Escape intermediates) characters p body = InEscape (bytes_in intermediates)
kept_as state.ControlSequence characters p body = InControlSequence p
kept_as state.Command characters p body = InCommand body
kept_as state.Header characters p body = InHeader body
kept_as state.Device characters p body = InDevice
kept_as state.String characters p body = InString

abbrev pub lending_of : Inside → Lending
lending_of r = record {
  held = record { kept = kept_as r.state r.characters r.parameters r.body.items; waiting = r.waiting };
  parameters = r.parameters;
  body = r.body.items;
}
