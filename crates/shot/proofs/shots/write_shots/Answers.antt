use Rattle.std.proofs.lemmas.Result.{err_from_is_err_and}
use Rattle.shot.specs.Shots.{shots}
use Rattle.shot.proofs.shots.write_shots.Goals as goal

pub returns-clause-writes : goal.returns-clause-writes
unfolding shots
returns-clause-writes g c = c.in_ok-write_by.ensures.writes _ c.in_ok-terminal.ensures.stands

pub returns-in_err-write_by-clause-part : goal.returns-in_err-write_by-clause-part
unfolding shots
returns-in_err-write_by-clause-part g c =
    let p = err_from_is_err_and c.from_residual-in_err-write_by.result c.from_residual-in_err-write_by.ensures.1 in
    rw p.1 (c.in_err-write_by.ensures.part _ c.in_ok-terminal.ensures.stands)
