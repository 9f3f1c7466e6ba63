use Rattle.std.specs.String.{string_bytes}
use Rattle.screen_grid.proofs.LineLemmas.{new_shown, new_drawn}
use Rattle.screen_grid.proofs.grid.Grid.new.Goals as goal

pub returns-clause-display : goal.returns-clause-display
returns-clause-display g c =
    new_shown {W = g.row.W.Denot} c.args.widths c.args.width c.args.height c.in_ok-blank_lines.field-0 c.blank.result (string_bytes c.new.result) c.in_ok-blank_lines.ensures c.blank.ensures c.new.ensures.bytes

pub returns-clause-drawn : goal.returns-clause-drawn
returns-clause-drawn g c =
    new_drawn {W = g.row.W.Denot} c.args.widths c.args.width c.args.height c.in_ok-blank_lines.field-0 c.blank.result (string_bytes c.new.result) c.requires.wide_enough c.requires.high_enough c.in_ok-blank_lines.ensures c.blank.ensures c.new.ensures.bytes
