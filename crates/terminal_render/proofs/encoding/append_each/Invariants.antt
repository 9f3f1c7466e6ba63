-- the bytes so far are the initial ones and the encoding of the changes so far, and begin with the initial ones; `actions` is empty
use Rattle.std.proofs.Common.{◌≡◌, [], length, map, take}
use Rattle.std.specs.Prelude.{Some}
use Rattle.screen_change.specs.ValueOf.{value_of}
use Rattle.terminal_render.specs.Lists.{all_rendered}
use Rattle.terminal_render.proofs.EncodedLemmas.{bytes_after}
use Rattle.terminal_render.proofs.encoding.append_each.Given as goal

abbrev pub invariant-loop-change : goal.invariant-loop-change
invariant-loop-change l = (bytes_after l.initial.bytes.items (all_rendered (map value_of (take l.change-index l.changes)) l.width l.height) ≡ Some l.bytes.items) × (l.actions ≡ []) × (take (length l.initial.bytes.items) l.bytes.items ≡ l.initial.bytes.items)
