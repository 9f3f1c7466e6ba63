use Rattle.std.proofs.Common.{arith}
use Rattle.clustered_row.proofs.ColumnLemmas.{ends_here, ends_there}
use Rattle.clustered_row.proofs.columns.Columns.end_at.Goals as goal

pub returns-then-at-len-clause-done : goal.returns-then-at-len-clause-done
returns-then-at-len-clause-done c =
    let count = c.len-len.ensures.len in
    ends_here c.args.self.now c.args.at c.args.attrs.now c.len-len.ensures.whole (omega (arith, count, c.if-at-len.true))

pub returns-clause-done : goal.returns-clause-done
returns-clause-done c =
    let count = c.len-len.ensures.len in
    record {
      cut = λ h. ends_there c.args.self.now c.pad.new.self c.args.at c.args.attrs.now c.len-len.ensures.whole h (omega (arith, count, c.if-at-len-2.false)) c.in_ok-pad.ensures.done;
      padded = λ h. c.in_ok-pad.ensures.done;
    }
