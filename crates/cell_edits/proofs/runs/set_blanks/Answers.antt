use Rattle.cell_edits.proofs.RunLemmas.{blanks_set}
use Rattle.cell_edits.proofs.runs.set_blanks.Goals as goal

pub returns : goal.returns
returns c =
    blanks_set c.args.cells.now.items c.open.new.cells.items c.write_blanks.new.cells.items c.args.start c.args.end c.args.attrs.now c.requires.order
    c.in_ok-open.ensures.whole c.in_ok-open.ensures.before c.in_ok-open.ensures.after c.in_ok-write_blanks.ensures.items
