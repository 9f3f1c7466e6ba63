use Rattle.std.proofs.Common.{sym, ◌∙◌, arith}
use Rattle.cell_base.proofs.KnownWidths.{eastern_width, western_width, eastern_independent, western_independent}
use Rattle.cell_base.proofs.widths.known_columns.Goals as goal

pub returns-then-is_eastern_letter : goal.returns-then-is_eastern_letter
returns-then-is_eastern_letter c =
    let eastern = sym c.is_eastern_letter.ensures ∙ c.if-is_eastern_letter.true in
    record { value = sym (eastern_width c.args.character c.ranges.character.0 eastern); some = omega arith; independent = eastern_independent c.args.character eastern }

pub returns-then-is_western_letter : goal.returns-then-is_western_letter
returns-then-is_western_letter c =
    let western = sym c.is_western_letter.ensures ∙ c.if-is_western_letter.true in
    record { value = sym (western_width c.args.character c.ranges.character.0 western); some = omega arith; independent = western_independent c.args.character western }
