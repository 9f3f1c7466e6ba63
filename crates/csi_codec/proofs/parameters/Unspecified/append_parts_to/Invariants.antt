-- the bytes from before, ESC [ and the tokens written so far
use Rattle.std.proofs.Common.{◌≡◌, ◌++◌, take}
use Rattle.csi_codec.specs.Writing.{opened_text}
use Rattle.csi_codec.proofs.parameters.Unspecified.append_parts_to.Given as goal

abbrev pub invariant-loop-token : goal.invariant-loop-token
invariant-loop-token l = l.bytes.items ≡ l.fn.bytes.items ++ opened_text (take l.token-index l.token-items)
