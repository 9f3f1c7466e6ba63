-- the remaining tokens are all SGR's exactly where all tokens are
use Rattle.std.proofs.Common.{◌≡◌, drop}
use Rattle.csi_codec.specs.Actions.{all_sgr_tokens}
use Rattle.csi_codec.proofs.groups.all_sgr_tokens.Given as goal

abbrev pub invariant-loop-param : goal.invariant-loop-param
invariant-loop-param l = all_sgr_tokens (drop l.param-index l.params) ≡ all_sgr_tokens l.params
