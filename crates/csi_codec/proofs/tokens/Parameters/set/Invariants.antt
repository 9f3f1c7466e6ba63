use Rattle.std.proofs.Common.{◌≡◌, take}
use Rattle.csi_codec.specs.Tokens.{parameters_of}
use Rattle.csi_codec.proofs.tokens.Parameters.set.Given as goal

abbrev pub invariant-loop-byte : goal.invariant-loop-byte
invariant-loop-byte l = l.self ≡ parameters_of (take l.byte-index l.bytes)
