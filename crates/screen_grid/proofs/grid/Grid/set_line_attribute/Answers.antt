use Rattle.std.proofs.Common.{sym, subst}
use Rattle.screen_change.specs.ChangeValue.{LineAttribute}
use Rattle.screen_grid.specs.Grid.{Grid, IsDrawn, Shows, display_of}
use Rattle.screen_grid.specs.GridView.{grid_of}
use Rattle.screen_grid.proofs.ShowLemmas.{sized}
use Rattle.screen_effects.specs.Effect.{effect}
use Rattle.screen_grid.proofs.grid.Grid.set_line_attribute.Goals as goal

pub returns : goal.returns
returns g c =
    let old = grid_of {W = g.row.W.Denot} c.self.inside in
    subst (λ (x : Grid g.row.W.Denot). Shows x (record old { lines = c.set_size.new.rows }) (effect (g.W.Widths.width_of x.widths) (display_of x) (LineAttribute c.args.size))) c.self.view_is
    (sized (g.W.Widths.width_of old.widths) old c.set_size.new.rows c.args.size (subst IsDrawn (sym c.self.view_is) c.requires) c.set_size.ensures)
