use Rattle.std.proofs.Common.{sym, ap, ◌∙◌, length}
use Rattle.std.proofs.lemmas.List.{length-map}
use Rattle.screen_change.specs.ValueOf.{value_of}
use Rattle.screen_log.specs.Log.{most_due}
use Rattle.screen_log.specs.LogSteps.{Sized}
use Rattle.screen_grid.specs.Grid.{display_of}
use Rattle.screen_effects.specs.Display.{Display}
use Rattle.cell_surface.specs.Surface.{Surface}
use Rattle.cell_surface.proofs.TextLemmas.{has_utf8, sound_after}
use Rattle.screen_effects.proofs.SizeLemmas.{effect_size}
use Rattle.cell_surface.proofs.surface.Surface.push.Goals as goal

pub invariant_of-self-2 : goal.invariant_of-self-2
invariant_of-self-2 g c =
    let old = c.self.inside in
    let shows = c.in_ok-apply.ensures in
    let drawn = c.self.invariant.drawn (ap (λ (s : Surface g.row.W.Denot). s.is_failed) c.self.view_is ∙ c.requires.stays) in
    let size = effect_size (g.W.Widths.width_of old.grid.widths) (display_of old.grid) (value_of c.args.change) drawn.lawful in
    let width = ap (λ (d : Display). d.screen.width) shows.same ∙ size.width in
    let rows = ap (λ (d : Display). length d.screen.rows) shows.same ∙ size.tall in
    let tall = sym (length-map c.apply.new.self.lines (λ l. l.columns)) ∙ rows ∙ length-map old.grid.lines (λ l. l.columns) in
    record {
      drawn = λ _. shows.drawn;
      cells = λ _. sound_after g.W.Widths.width_of old.grid.widths c.apply.new.self.widths shows.widths (g.met.W.Widths.space_is_one old.grid.widths) (display_of old.grid) (display_of c.apply.new.self) (value_of c.args.change) shows.same drawn.lawful (has_utf8 c.args.change) (c.self.invariant.cells (ap (λ (s : Surface g.row.W.Denot). s.is_failed) c.self.view_is ∙ c.requires.stays));
      most = λ _. ap (λ (s : Sized). s.most) c.in_ok-push.ensures.done ∙ c.self.invariant.most (ap (λ (s : Surface g.row.W.Denot). s.is_failed) c.self.view_is ∙ c.requires.stays) ∙ (λ i. most_due (sym width i) (sym tall i));
    }
