use denote.Shadow.{shadow}
use denote.Text.{Utf8}
use Rattle.std.proofs.Common.{length}
use Rattle.screen_grid.specs.Parts.{PartsLead}
use Rattle.screen_grid.proofs.grid.Grid.draw_parts.Given as goal

-- the rest of the text gives the same display on the current grid as the whole text on the first one
abbrev pub invariant-loop-control : goal.invariant-loop-control
invariant-loop-control g l = record {
  leads : PartsLead (g.W.Widths.width_of l.fn.self.widths) l.fn.self l.self l.text l.rest;
  text : shadow (Utf8 l.rest);
}

abbrev pub decreases-loop-control : goal.decreases-loop-control
decreases-loop-control g l = length l.rest
