use Rattle.std.proofs.Common.{◌-◌, length, get_or, ap, arith}
use Rattle.std.proofs.lemmas.Result.{IfOk-weaker, on_err_weaker}
use Rattle.escape_stream.specs.declared.action.Action.{Action}
use Rattle.escape_stream.specs.StreamActionView.{value_of}
use Rattle.escape_stream.proofs.StreamLemmas.{joins_at, kept_at}
use Rattle.escape_stream.proofs.action.join_last.Goals as goal

pub returns-in_default-clause-ok : goal.returns-in_default-clause-ok
returns-in_default-clause-ok c =
    let actions = c.args.actions.now in
    let n = length actions - 1 in
    IfOk-weaker c.join.result _ _
    (λ joined h. joins_at actions n (get_or actions n c.index-actions-count.result) c.join.new.last (value_of c.args.next.now) joined (omega arith)
    (ap (λ (x : Action). get_or actions n x) c.index-actions-count.is) h)
    c.join.ensures.ok

pub returns-in_default-clause-err : goal.returns-in_default-clause-err
returns-in_default-clause-err c =
    let actions = c.args.actions.now in
    let n = length actions - 1 in
    on_err_weaker c.join.result
    (kept_at actions n (get_or actions n c.index-actions-count.result) c.join.new.last (ap (λ (x : Action). get_or actions n x) c.index-actions-count.is))
    c.join.ensures.err
