use Rattle.std.proofs.Common.{◌≡◌, ◌+◌, ap, sym, subst, ◌∙◌, take, drop, ◌++◌, length, arith}
use Rattle.std.specs.Prelude.{ℕ, ◌-◌, min, List}
use Rattle.screen_change.specs.ChangeValue.{ScrollRegionDown}
use Rattle.cell_line.specs.LineContent.{LineContent}
use Rattle.screen_grid.specs.Grid.{Grid, IsDrawn, Shows, display_of}
use Rattle.screen_grid.specs.GridView.{grid_of}
use Rattle.screen_grid.specs.Rows.{rows_down}
use Rattle.screen_grid.proofs.ShowLemmas.{scrolled_down_shown, region_cut}
use Rattle.screen_effects.specs.Effect.{effect}
use Rattle.screen_grid.proofs.grid.Grid.scroll_region_down.Goals as goal

pub returns : goal.returns
returns g c =
    let old = grid_of {W = g.row.W.Denot} c.self.inside in
    let tall : c.len-height.result ≡ length old.lines = let n = c.len-height.ensures in omega arith in
    let from : ℕ = min c.args.first (length old.lines) in
    let a : c.min-first.result ≡ from = c.min-first.ensures ∙ ap (min c.args.first) tall in
    let m : c.min.result ≡ min c.args.size (length old.lines - from) = c.min.ensures ∙ (λ i. min c.args.size (tall i - a i)) in
    let n : c.min-2.result ≡ min c.args.count (from + min c.args.size (length old.lines - from) - from) = c.min-2.ensures ∙ (λ i. min c.args.count (a i + m i - a i)) in
    let moved : ℕ → ℕ → ℕ → List LineContent = λ x y z. take x old.lines ++ rows_down z (take (x + y - x) (drop x old.lines)) ++ drop (x + y) old.lines in
    let lines = c.scroll_down.ensures ∙ (λ i. moved (a i) (m i) (n i)) ∙ region_cut rows_down old.lines c.args.first c.args.size c.args.count in
    subst (λ (x : Grid g.row.W.Denot). Shows x (record old { lines = c.scroll_down.new.rows }) (effect (g.W.Widths.width_of x.widths) (display_of x) (ScrollRegionDown c.args.first c.args.size c.args.count))) c.self.view_is
    (scrolled_down_shown (g.W.Widths.width_of old.widths) old c.scroll_down.new.rows c.args.first c.args.size c.args.count (subst IsDrawn (sym c.self.view_is) c.requires) lines)
