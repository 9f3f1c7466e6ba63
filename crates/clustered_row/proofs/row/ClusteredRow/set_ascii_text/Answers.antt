use Rattle.std.proofs.Common.{rules, ◌<◌, ◌∙◌, length}
use Rattle.clustered_row.proofs.SetLemmas.{plain_cells_set}
use Rattle.clustered_row.proofs.row.ClusteredRow.set_ascii_text.Goals as goal

pub returns-clause-done : goal.returns-clause-done
returns-clause-done c =
    let some : 0 < length c.args.text.now = search rules in
    c.in_ok-set_plain.ensures.done ∙ plain_cells_set c.args.self.now c.args.at c.args.text.now c.args.attrs.now c.requires.printable some c.requires.within
