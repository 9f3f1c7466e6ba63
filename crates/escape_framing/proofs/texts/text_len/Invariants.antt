use Rattle.std.proofs.Common.{◌≡◌, ◌≤◌, length, take, drop}
use Rattle.escape_framing.specs.Framed.{IsText}
use Rattle.escape_framing.proofs.texts.text_len.Given as goal

abbrev pub invariant-loop-rest : goal.invariant-loop-rest
invariant-loop-rest l = record { within : l.len ≤ length l.fn.bytes; text : IsText (take l.len l.fn.bytes); rest : l.rest ≡ drop l.len l.fn.bytes }

abbrev pub decreases-loop-rest : goal.decreases-loop-rest
decreases-loop-rest l = length l.rest
