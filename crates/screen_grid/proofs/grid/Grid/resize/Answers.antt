use Rattle.std.proofs.Common.{◌≡◌, ◌-◌, sym, subst}
use Rattle.std.specs.Prelude.{min}
use Rattle.screen_grid.specs.Grid.{Grid, IsDrawn, Shows, display_of}
use Rattle.screen_grid.specs.GridView.{grid_of}
use Rattle.screen_grid.proofs.ShowLemmas.{resized_shown}
use Rattle.screen_effects.specs.Resize.{resized}
use Rattle.screen_grid.proofs.grid.Grid.resize.Goals as goal

pub returns : goal.returns
returns g c =
    let old = grid_of {W = g.row.W.Denot} c.self.inside in
    let lines = c.resize.new.rows in
    let made = resized_shown old lines c.args.width c.args.height (subst IsDrawn (sym c.self.view_is) c.requires.drawn) c.requires.wide_enough c.requires.high_enough c.in_ok-resize.ensures in
    let same : record old { width = c.args.width; lines = lines; column = min old.column (c.args.width - 1); row = min old.row (c.args.height - 1) } ≡ record old { width = c.args.width; lines = lines; column = c.min-self-inside.result; row = c.min-self-inside-2.result } =
    λ i. record old { width = c.args.width; lines = lines; column = sym c.min-self-inside.ensures i; row = sym c.min-self-inside-2.ensures i } in
    subst (λ (x : Grid g.row.W.Denot). Shows x (record old { width = c.args.width; lines = lines; column = c.min-self-inside.result; row = c.min-self-inside-2.result }) (resized c.args.width c.args.height (display_of x))) c.self.view_is
    (subst (λ (x : Grid g.row.W.Denot). Shows old x (resized c.args.width c.args.height (display_of old))) same made)
