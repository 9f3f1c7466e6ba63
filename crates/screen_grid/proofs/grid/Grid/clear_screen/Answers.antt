use Rattle.std.proofs.Common.{ap, sym, subst, ◌∙◌, take, drop, map, ◌++◌}
use Rattle.cell_base.specs.Attributes.{Attributes}
use Rattle.screen_change.specs.ChangeValue.{ClearScreen}
use Rattle.screen_grid.specs.Grid.{Grid, IsDrawn, Shows, display_of}
use Rattle.screen_grid.specs.GridView.{grid_of}
use Rattle.screen_grid.specs.Rows.{blanked}
use Rattle.screen_grid.proofs.ShowLemmas.{screen_blanked}
use Rattle.screen_effects.specs.Effect.{effect}
use Rattle.screen_grid.proofs.grid.Grid.clear_screen.Goals as goal

pub returns : goal.returns
returns g c =
    let old = grid_of {W = g.row.W.Denot} c.self.inside in
    let pen = c.blank_of-pen.ensures in
    let lines = c.in_ok-blank_rows.ensures ∙ ap (λ (a : Attributes). take 0 old.lines ++ map (blanked a) (drop 0 old.lines)) pen in
    subst (λ (x : Grid g.row.W.Denot). Shows x (record old { lines = c.blank_rows.new.rows; pen = c.blank_of-pen.result; column = 0; row = 0 }) (effect (g.W.Widths.width_of x.widths) (display_of x) (ClearScreen c.args.color))) c.self.view_is
    (subst (λ (a : Attributes). Shows old (record old { lines = c.blank_rows.new.rows; pen = a; column = 0; row = 0 }) (effect (g.W.Widths.width_of old.widths) (display_of old) (ClearScreen c.args.color))) (sym pen)
    (screen_blanked (g.W.Widths.width_of old.widths) old c.blank_rows.new.rows c.args.color (subst IsDrawn (sym c.self.view_is) c.requires) lines))
