use Rattle.std.proofs.Common.{◌≡◌, map, take}
use Rattle.serde_json.specs.View.{view}
use Rattle.screen_formats.specs.Json.{row_data}
use Rattle.screen_formats.proofs.json.rows_value.Given as goal

-- the rows so far
abbrev pub invariant-loop-line : goal.invariant-loop-line
invariant-loop-line l = map view l.values.items ≡ map row_data (map (λ line. line.columns) (take l.line-index l.lines))
