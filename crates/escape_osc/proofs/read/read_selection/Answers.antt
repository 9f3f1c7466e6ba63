use Rattle.std.proofs.Common.{[], sym, ◌∙◌, arith}
use Rattle.escape_osc.proofs.ReadingLemmas.{selection_one, selection_two}
use Rattle.escape_osc.proofs.read.read_selection.Goals as goal

pub returns-in-len1 : goal.returns-in-len1
returns-in-len1 c = c.read_clear.ensures ∙ sym (selection_one c.args.rest.now _ (omega arith) (omega arith))

pub returns-in-len2 : goal.returns-in-len2
returns-in-len2 c =
    rw (selection_two c.args.rest.now (record { ref_ptr = (0, 0); now = [] }) (omega arith) (omega arith)) c.read_lettered.ensures
