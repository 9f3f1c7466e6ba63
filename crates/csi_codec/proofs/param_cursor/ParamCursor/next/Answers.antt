use Rattle.std.proofs.Common.{rules, ◌≡◌, ◌||◌, nat_lt, true, false, arith}
use Rattle.std.specs.Prelude.{◌==◌}
use Rattle.csi_codec.specs.Laws.{begins_with_question}
use Rattle.csi_codec.proofs.CoordinateLemmas.{last_step, single_first, none_after, private_modes, standard_modes}
use Rattle.csi_codec.proofs.param_cursor.ParamCursor.next.Goals as goal

pub returns-then-read-max : goal.returns-then-read-max
returns-then-read-max c =
    let ended = none_after c.args.self.now.index c.args.params.now (omega arith) (omega arith) c.args.parameters_truncated c.args.control in (ended, ended)

pub mode-requires-clause-modes : goal.mode-requires-clause-modes
mode-requires-clause-modes c =
    let question : begins_with_question c.args.params.now ≡ true = search rules in
    private_modes c.args.self.now.index c.max-start.result c.args.params.now c.args.parameters_truncated c.args.control c.if-control-eq109.false question (omega arith) c.max-start.ensures

pub mode-requires-in_default-2-clause-modes : goal.mode-requires-in_default-2-clause-modes
mode-requires-in_default-2-clause-modes c =
    let question : begins_with_question c.args.params.now ≡ false = search rules in
    let modes : (nat_lt 0 c.args.self.now.index || (c.args.control == 104 || c.args.control == 108)) ≡ true = search rules in
    standard_modes c.args.self.now.index c.args.params.now c.args.parameters_truncated c.args.control c.if-control-eq109.false question (omega arith) modes

pub returns-in_default-3 : goal.returns-in_default-3
returns-in_default-3 c =
    let question : begins_with_question c.args.params.now ≡ false = search rules in
    let single : (nat_lt 0 c.args.self.now.index || (c.args.control == 104 || c.args.control == 108)) ≡ false = search rules in
    last_step c.max-self.result c.args.params.now c.args.parameters_truncated c.args.control _ _ c.single.result c.max-self.ensures
    (single_first c.args.self.now.index c.args.params.now c.args.parameters_truncated c.args.control c.if-control-eq109.false question single) c.single.ensures
