use Rattle.std.proofs.Common.{◌≡◌, length, ap, sym, ◌∙◌}
use Rattle.std.proofs.lemmas.List.{length-map, length-replicate}
use Rattle.cell_base.specs.Row.{plain_row}
use Rattle.screen_log.specs.Log.{most_due}
use Rattle.screen_grid.specs.Grid.{display_of}
use Rattle.screen_effects.specs.Display.{Display}
use Rattle.cell_surface.proofs.TextLemmas.{sound_new}
use Rattle.cell_surface.proofs.surface.Surface.new.Goals as goal

pub invariant_of-result : goal.invariant_of-result
invariant_of-result g c =
    let grid = c.in_ok-grid.grid in
    let width : grid.width ≡ c.args.width = ap (λ (d : Display). d.screen.width) c.in_ok-grid.ensures.display in
    let tall : length grid.lines ≡ c.args.height =
    sym (length-map grid.lines (λ l. l.columns)) ∙ ap (λ (d : Display). length d.screen.rows) c.in_ok-grid.ensures.display ∙ length-replicate c.args.height (plain_row c.args.width) in
    record {
      drawn = λ _. c.in_ok-grid.ensures.drawn;
      cells = λ _. sound_new (g.W.Widths.width_of grid.widths) (display_of grid) c.args.width c.args.height (g.met.W.Widths.space_is_one grid.widths) c.in_ok-grid.ensures.display;
      most = λ _. c.new-2.ensures.most ∙ c.most_due.ensures ∙ (λ i. most_due (sym width i) (sym tall i));
    }
