use Rattle.std.proofs.Common.{◌-◌, length}
use Rattle.clustered_row.proofs.CellRows.{whole_shown}
use Rattle.clustered_row.proofs.row.ClusteredRow.len.Goals as goal

pub returns-clause-whole : goal.returns-clause-whole
returns-clause-whole c =
    let r = c.self.inside in
    whole_shown r.columns (r.width - length r.columns) r.rest c.args.self.now c.len.ensures.whole c.self.view_is
