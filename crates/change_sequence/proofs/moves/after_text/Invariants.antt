use denote.Shadow.{shadow}
use denote.Text.{Utf8}
use Rattle.std.proofs.Common.{◌≡◌, ◌≤◌, length}
use Rattle.screen_effects.specs.Parts.{IsAtControl}
use Rattle.screen_effects.specs.Strokes.{text_parts}
use Rattle.change_sequence.specs.Positions.{position_of}
use Rattle.change_sequence.specs.Sequence.{parts_moved}
use Rattle.change_sequence.proofs.moves.after_text.Given as goal

-- the rest of the text leads from here to the position that the whole text leads to
abbrev pub invariant-loop-control : goal.invariant-loop-control
invariant-loop-control g l = record {
  leads : parts_moved (g.W.Widths.width_of l.widths) l.columns (position_of l.position) (text_parts l.rest) ≡ parts_moved (g.W.Widths.width_of l.widths) l.columns (position_of l.fn.position) (text_parts l.text);
  within : l.position.0 ≤ l.columns;
  control : IsAtControl l.rest;
  text : shadow (Utf8 l.rest);
}

abbrev pub decreases-loop-control : goal.decreases-loop-control
decreases-loop-control g l = length l.rest
