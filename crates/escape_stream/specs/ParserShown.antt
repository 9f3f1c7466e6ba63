-- What a parser shows.
use Rattle.std.specs.Prelude.{ℕ, Bool, List}
use Rattle.csi_codec.specs.Tokens.{Parameters}
use Rattle.escape_framing.specs.Held.{Held}
use Rattle.escape_framing.specs.Lending.{Lending}

-- what is held of the stream; the parameters and the body that its framer lends; and whether the parser has failed
pub record Parsing : Type 0 where
  pub held : Held
  pub parameters : Parameters
  pub body : List ℕ
  pub failed : Bool

-- what its framer shows
abbrev pub lending_in : Parsing → Lending
lending_in p = record { held = p.held; parameters = p.parameters; body = p.body }
