use Rattle.std.proofs.Common.{◌≡◌, ◌++◌, true, length, map, drop}
use denote.Text.{Utf8}
use denote.Shadow.{shadow}
use Rattle.std.specs.List.{list_all}
use Rattle.std.specs.Str.{is_utf8}
use Rattle.screen_change.specs.ChangeValue.{Text}
use Rattle.screen_change.specs.Cuts.{cut_at, bytes_of}
use Rattle.screen_change.specs.ValueOf.{value_of}
use Rattle.screen_change.proofs.texts.push_each.Given as goal

-- with the texts of the cells that are left, the changes become those with the texts of all
abbrev pub invariant-loop-len : goal.invariant-loop-len
invariant-loop-len l = record {
  text : shadow (Utf8 l.rest);
  bytes : bytes_of (drop l.len-index l.lens) ≡ length l.rest;
  parts : list_all is_utf8 (cut_at (drop l.len-index l.lens) l.rest) ≡ true;
  done : map value_of l.changes.items ++ map Text (cut_at (drop l.len-index l.lens) l.rest) ≡ map value_of l.initial.changes.items ++ map Text (cut_at l.lens l.fn.text);
}
