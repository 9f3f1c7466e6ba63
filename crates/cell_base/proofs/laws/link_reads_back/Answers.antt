use Rattle.cell_base.proofs.LinkLaws.{body_law}
use Rattle.cell_base.proofs.laws.link_reads_back.Goals as goal

pub returns : goal.returns
returns c = body_law c.args.body.now
