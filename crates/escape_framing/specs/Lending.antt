-- What a framer shows.
use Rattle.std.specs.Prelude.{ℕ, List}
use Rattle.csi_codec.specs.Tokens.{Parameters}
use Rattle.escape_framing.specs.Held.{Held}

-- the held state of the stream, and what a framer lends: the parameters of the last control sequence, and the last body
-- of a command or header of a device control string, or the part of one that has been read
pub record Lending : Type 0 where
  pub held : Held
  pub parameters : Parameters
  pub body : List ℕ
