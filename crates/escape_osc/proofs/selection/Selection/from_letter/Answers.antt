use Rattle.std.proofs.Common.{sym, ◌∙◌}
use Rattle.escape_osc.specs.declared.show.TheConstants.{LETTERS}
use Rattle.escape_osc.specs.Selection.{letter_bits}
use Rattle.escape_osc.proofs.ShowLemmas.{row_bits-LETTERS, row_passed}
use Rattle.escape_osc.proofs.selection.Selection.from_letter.Goals as goal

pub loop-known-init : goal.loop-known-init
loop-known-init c = row_bits-LETTERS c.args.letter

pub loop-known-preserved : goal.loop-known-preserved
loop-known-preserved c = row_passed LETTERS c.loop-known.known-index c.args.letter (0, record { 0 = 0 }) (letter_bits c.args.letter) c.loop-known-test.true
    (λ e. c.if-known-from.false (e ∙ sym c.from.ensures)) c.loop-known.invariant
