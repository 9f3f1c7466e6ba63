use Rattle.std.proofs.Common.{◌≤◌, ◌+◌, subst, length, arith}
use Rattle.screen_grid.specs.Grid.{Grid, IsDrawn, Shows, display_of}
use Rattle.screen_grid.specs.GridView.{grid_of}
use Rattle.screen_effects.specs.Strokes.{LineFeed, stroke_done}
use Rattle.screen_grid.proofs.FeedLemmas.{fed_last}
use Rattle.screen_grid.proofs.grid.Grid.line_feed.Goals as goal

pub returns : goal.returns
returns g c =
    let last : length c.self.inside.rows ≤ c.self.inside.row + 1 = let n = c.len-height.ensures in let t = c.if-self-height.false in omega arith in
    let old = grid_of {W = g.row.W.Denot} c.self.inside in
    subst (λ (x : Grid g.row.W.Denot). IsDrawn x → Shows x (record old { lines = c.scroll.new.rows }) (stroke_done (g.W.Widths.width_of x.widths) (display_of x) LineFeed)) c.self.view_is
    (λ h. fed_last (g.W.Widths.width_of c.self.inside.widths) old c.scroll.new.rows h last c.scroll.ensures) c.requires
