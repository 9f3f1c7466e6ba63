use Rattle.std.proofs.Common.{arith}
use Rattle.escape_osc.proofs.ReadBack.{body_back}
use Rattle.escape_osc.proofs.laws.read_command_reads_back.Goals as goal

pub returns : goal.returns
returns c = body_back c.args.body.now (λ i. let f = c.type_inv.body i in omega arith)
