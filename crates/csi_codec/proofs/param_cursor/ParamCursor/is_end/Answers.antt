use Rattle.std.proofs.Common.{rules, arith, ◌≤◌, ◌<◌, length}
use Rattle.csi_codec.proofs.CoordinateLemmas.{none_after, first_to_come, more_to_come}
use Rattle.csi_codec.proofs.param_cursor.ParamCursor.is_end.Goals as goal

pub returns-then-read-eq0-clause-more : goal.returns-then-read-eq0-clause-more
returns-then-read-eq0-clause-more c = λ e. first_to_come c.args.self.now.index c.args.params.now c.if-read-eq0.true

pub returns-clause-done : goal.returns-clause-done
returns-clause-done c = λ e.
    let h : length c.args.params.now ≤ c.args.self.now.index = search rules in
    none_after c.args.self.now.index c.args.params.now (omega arith) h

pub returns-clause-more : goal.returns-clause-more
returns-clause-more c = λ e.
    let h : c.args.self.now.index < length c.args.params.now = search rules in
    more_to_come c.args.self.now.index c.args.params.now (omega arith) h
