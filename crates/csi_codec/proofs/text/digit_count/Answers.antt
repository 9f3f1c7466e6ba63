use Rattle.std.proofs.Common.{arith, sym}
use Rattle.csi_codec.proofs.TextSteps.{one_long, two_long, three_long}
use Rattle.csi_codec.proofs.text.digit_count.Goals as goal

pub returns-then-number-lt10-clause-same : goal.returns-then-number-lt10-clause-same
returns-then-number-lt10-clause-same c = sym (one_long c.args.number (omega arith))

pub returns-then-number-lt100-clause-same : goal.returns-then-number-lt100-clause-same
returns-then-number-lt100-clause-same c = sym (two_long c.args.number (omega arith) (omega arith))

pub returns-else-number-lt100-clause-same : goal.returns-else-number-lt100-clause-same
returns-else-number-lt100-clause-same c = sym (three_long c.args.number (omega arith) (omega arith))
