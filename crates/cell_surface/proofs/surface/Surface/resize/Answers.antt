use Rattle.std.proofs.Common.{◌≡◌, length, ap, sym, ◌∙◌}
use Rattle.std.proofs.lemmas.List.{length-map}
use Rattle.screen_log.specs.Log.{most_due}
use Rattle.screen_log.specs.LogSteps.{Sized}
use Rattle.screen_grid.specs.Grid.{display_of}
use Rattle.screen_effects.specs.Display.{Display}
use Rattle.cell_surface.proofs.TextLemmas.{resized_height, sound_resized}
use Rattle.cell_surface.proofs.surface.Surface.resize.Goals as goal

pub invariant_of-self-2 : goal.invariant_of-self-2
invariant_of-self-2 g c =
    let old = c.self.inside in
    let shows = c.in_ok-resize.ensures in
    let width : c.resize.new.self.width ≡ c.args.width = ap (λ (d : Display). d.screen.width) shows.same in
    let tall : length c.resize.new.self.lines ≡ c.args.height =
    sym (length-map c.resize.new.self.lines (λ l. l.columns)) ∙ ap (λ (d : Display). length d.screen.rows) shows.same ∙ resized_height c.args.width c.args.height (display_of old.grid) in
    record {
      drawn = λ _. shows.drawn;
      cells = λ _. sound_resized g.W.Widths.width_of old.grid.widths c.resize.new.self.widths shows.widths (g.met.W.Widths.space_is_one old.grid.widths) (display_of old.grid) (display_of c.resize.new.self) c.args.width c.args.height shows.same (c.self.invariant.cells c.if-self.false);
      most = λ _. ap (λ (s : Sized). s.most) c.resize-2.ensures ∙ c.most_due.ensures ∙ (λ i. most_due (sym width i) (sym tall i));
    }
