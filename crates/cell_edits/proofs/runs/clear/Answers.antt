use Rattle.std.proofs.Common.{arith}
use Rattle.cell_base.specs.CellContent.{blank_cell}
use Rattle.cell_edits.proofs.RunLemmas.{blanks_after}
use Rattle.cell_edits.proofs.runs.clear.Goals as goal

pub returns-in_ok-push_blanks_with : goal.returns-in_ok-push_blanks_with
returns-in_ok-push_blanks_with c =
    blanks_after c.truncate.new.self.items c.write_blanks.new.cells.items c.push_blanks_with.new.cells.items c.len-len.result c.args.width (blank_cell c.args.attrs.now)
    (omega (arith, c.len-len.ensures)) (omega arith) c.in_ok-write_blanks.ensures.items c.in_ok-push_blanks_with.ensures
