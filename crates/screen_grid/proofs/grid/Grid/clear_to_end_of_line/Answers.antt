use Rattle.std.proofs.Common.{ap, sym, subst, ◌∙◌, set, length, arith}
use Rattle.cell_base.specs.Attributes.{Attributes}
use Rattle.screen_change.specs.ChangeValue.{ClearToEndOfLine}
use Rattle.cell_line.specs.LineCalls.{set_blanks as blanks_set}
use Rattle.screen_grid.specs.Grid.{Grid, IsDrawn, Shows, display_of, line_at}
use Rattle.screen_grid.specs.GridView.{grid_of}
use Rattle.screen_grid.proofs.LineLemmas.{line_width, row_in}
use Rattle.screen_grid.proofs.ShowLemmas.{line_blanked}
use Rattle.screen_effects.specs.Effect.{effect}
use Rattle.screen_grid.proofs.grid.Grid.clear_to_end_of_line.Goals as goal

pub set_blanks-requires-clause-within : goal.set_blanks-requires-clause-within
set_blanks-requires-clause-within g c =
    let old = grid_of {W = g.row.W.Denot} c.self.inside in
    let h : IsDrawn old = subst IsDrawn (sym c.self.view_is) c.requires in
    let wide = line_width old old.row h (row_in old h) in
    let column = h.lawful.lawful.column_in in
    omega arith

pub returns : goal.returns
returns g c =
    let old = grid_of {W = g.row.W.Denot} c.self.inside in
    let pen = c.blank_of-pen.ensures in
    let lines = c.in_ok-set_blanks.ensures.lines ∙ ap (λ (a : Attributes). set old.lines old.row (blanks_set (line_at old.lines old.row) old.column (length (line_at old.lines old.row).columns) a)) pen in
    subst (λ (x : Grid g.row.W.Denot). Shows x (record old { lines = c.set_blanks.new.rows; pen = c.blank_of-pen.result }) (effect (g.W.Widths.width_of x.widths) (display_of x) (ClearToEndOfLine c.args.color))) c.self.view_is
    (subst (λ (a : Attributes). Shows old (record old { lines = c.set_blanks.new.rows; pen = a }) (effect (g.W.Widths.width_of old.widths) (display_of old) (ClearToEndOfLine c.args.color))) (sym pen)
    (line_blanked (g.W.Widths.width_of old.widths) old c.set_blanks.new.rows c.args.color (subst IsDrawn (sym c.self.view_is) c.requires) lines))
