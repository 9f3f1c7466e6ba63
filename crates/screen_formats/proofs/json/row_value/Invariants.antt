use Rattle.std.proofs.Common.{◌≡◌, map, take}
use Rattle.serde_json.specs.View.{view}
use Rattle.screen_formats.specs.Json.{run_data}
use Rattle.screen_formats.proofs.json.row_value.Given as goal

-- the runs so far
abbrev pub invariant-loop-run : goal.invariant-loop-run
invariant-loop-run l = map view l.values.items ≡ map run_data (take l.run-index l.run-items)
