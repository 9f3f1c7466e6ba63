-- the actions so far, then those of the rest of the text, are the initial ones, then those of the whole text; the rest is UTF-8, at a control
use denote.Shadow.{shadow}
use denote.Text.{Utf8}
use Rattle.std.proofs.Common.{◌≡◌, ◌++◌, length}
use Rattle.std.specs.List.{flat_map}
use Rattle.screen_effects.specs.Parts.{IsAtControl}
use Rattle.screen_effects.specs.Strokes.{text_parts}
use Rattle.terminal_render.specs.Texts.{part_actions}
use Rattle.terminal_render.proofs.texts.push_text.Given as goal

abbrev pub invariant-loop-control : goal.invariant-loop-control
invariant-loop-control l = record {
  same : l.actions ++ flat_map part_actions (text_parts l.rest) ≡ l.fn.actions ++ flat_map part_actions (text_parts l.text);
  control : IsAtControl l.rest;
  text : shadow (Utf8 l.rest);
}

abbrev pub decreases-loop-control : goal.decreases-loop-control
decreases-loop-control l = length l.rest
