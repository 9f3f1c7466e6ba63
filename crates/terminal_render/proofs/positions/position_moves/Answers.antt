use Rattle.std.proofs.Common.{◌≡◌, rules}
use Rattle.std.specs.Prelude.{unsigned_abs}
use Rattle.terminal_render.specs.PositionsView.{both_listed, way_value}
use Rattle.terminal_render.proofs.CoordinateLemmas.{on_is, on_there}
use Rattle.terminal_render.proofs.positions.position_moves.Goals as goal

pub moves_on-requires : goal.moves_on-requires
moves_on-requires c =
    let count : c.unsigned_abs.result ≡ unsigned_abs c.in-Relative.columns = search rules in
    on_there c.args.width c.args.height c.in-Relative.columns c.args.x c.args.y c.unsigned_abs.result (way_value c.way_of-row.result) c.in-Relative.is count c.way_of-row.ensures.way c.requires.encoded

pub returns-in-Relative : goal.returns-in-Relative
returns-in-Relative c =
    let count : c.unsigned_abs.result ≡ unsigned_abs c.in-Relative.columns = search rules in
    on_is c.args.width c.args.height c.in-Relative.columns c.args.x c.args.y c.unsigned_abs.result (way_value c.way_of-row.result) (both_listed c.moves_on.result) c.in-Relative.is count c.way_of-row.ensures.way
    c.requires.encoded c.moves_on.ensures
