use Rattle.std.proofs.Common.{◌≡◌, ◌++◌, map, take}
use Rattle.std.specs.List.{flat_map}
use Rattle.screen_change.specs.ValueOf.{value_of}
use Rattle.cell_surface.specs.Surface.{shown_by}
use Rattle.terminal_viewers.specs.Encoding.{encoded_texts}
use Rattle.terminal_viewers.specs.Update.{as_encoded}
use Rattle.terminal_viewers.proofs.update.ViewerEncoder.encode_repaint.Given as goal

abbrev pub invariant-loop-change : goal.invariant-loop-change
invariant-loop-change g l =
    l.bytes.items ≡ l.initial.bytes.items ++ encoded_texts l.self.width l.self.height (flat_map (as_encoded (shown_by l.surface).screen) (map value_of (take l.change-index l.changes)))
