use Rattle.std.proofs.Common.{ap, length, arith}
use Rattle.clustered_row.specs.Faces.{plain_faces}
use Rattle.clustered_row.proofs.ColumnLemmas.{ends_here, length-plain}
use Rattle.clustered_row.proofs.ShownLemmas.{same_length, sets_end, width_of_row}
use Rattle.clustered_row.proofs.row.ClusteredRow.set_plain.Goals as goal

pub push_plain-requires-clause-small : goal.push_plain-requires-clause-small
push_plain-requires-clause-small c =
    let r = c.self.inside in
    let width = width_of_row r.columns r.width r.rest c.args.self.now c.self.invariant c.self.view_is in
    let within = c.requires.within in
    let stored = c.len.ensures.len in
    let fits = c.self.ranges in
    omega (arith, stored, c.if-at-len.false, width, within, fits)

pub returns-in_err-push_plain-clause-len : goal.returns-in_err-push_plain-clause-len
returns-in_err-push_plain-clause-len c =
    let r = c.self.inside in
    let same = ap length c.in_err-push_plain.ensures.refused in
    let most = c.self.invariant in
    same_length c.push_plain.new.self r.columns r.width r.rest r.rest c.args.self.now (omega (arith, same, most)) c.self.invariant c.self.view_is

pub invariant_of-self-2 : goal.invariant_of-self-2
invariant_of-self-2 c =
    let r = c.self.inside in
    let stored = c.len.ensures.len in
    (sets_end r.columns c.push_plain.new.self r.width r.rest c.args.self.now c.args.at (length c.args.text.now) (plain_faces c.args.text.now) c.args.attrs.now c.self.invariant c.self.view_is (length-plain c.args.text.now) r.columns c.len.ensures.whole
    (ends_here r.columns c.args.at r.rest c.len.ensures.whole (omega (arith, stored, c.if-at-len.false))) c.in_ok-push_plain.ensures.done (omega (arith, stored, c.if-at-len.false)) c.requires.within).within

pub returns-clause-len : goal.returns-clause-len
returns-clause-len c =
    let r = c.self.inside in
    let stored = c.len.ensures.len in
    (sets_end r.columns c.push_plain.new.self r.width r.rest c.args.self.now c.args.at (length c.args.text.now) (plain_faces c.args.text.now) c.args.attrs.now c.self.invariant c.self.view_is (length-plain c.args.text.now) r.columns c.len.ensures.whole
    (ends_here r.columns c.args.at r.rest c.len.ensures.whole (omega (arith, stored, c.if-at-len.false))) c.in_ok-push_plain.ensures.done (omega (arith, stored, c.if-at-len.false)) c.requires.within).len

pub returns-clause-done : goal.returns-clause-done
returns-clause-done c =
    let r = c.self.inside in
    let stored = c.len.ensures.len in
    (sets_end r.columns c.push_plain.new.self r.width r.rest c.args.self.now c.args.at (length c.args.text.now) (plain_faces c.args.text.now) c.args.attrs.now c.self.invariant c.self.view_is (length-plain c.args.text.now) r.columns c.len.ensures.whole
    (ends_here r.columns c.args.at r.rest c.len.ensures.whole (omega (arith, stored, c.if-at-len.false))) c.in_ok-push_plain.ensures.done (omega (arith, stored, c.if-at-len.false)) c.requires.within).done
