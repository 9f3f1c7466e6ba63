use Rattle.std.proofs.Common.{◌≡◌, ◌++◌, take}
use Rattle.std.specs.List.{flat_map}
use Rattle.std.specs.String.{string_bytes}
use Rattle.screen_formats.specs.Ansi.{ansi_under}
use Rattle.screen_formats.proofs.ansi.push_all_under.Given as goal

-- the runs so far are written
abbrev pub invariant-loop-run : goal.invariant-loop-run
invariant-loop-run l = string_bytes l.out ≡ string_bytes l.initial.out ++ flat_map ansi_under (take l.run-index l.runs)
