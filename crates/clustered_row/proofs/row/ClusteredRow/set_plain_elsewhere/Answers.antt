use Rattle.std.proofs.Common.{ap, length, arith}
use Rattle.clustered_row.specs.Faces.{plain_faces}
use Rattle.clustered_row.proofs.ColumnLemmas.{length-plain}
use Rattle.clustered_row.proofs.ShownLemmas.{length-ended, same_length, sets_end, sets_within, width_of_row}
use Rattle.clustered_row.proofs.row.ClusteredRow.set_plain_elsewhere.Goals as goal

pub invariant_of-self-then-at-text : goal.invariant_of-self-then-at-text
invariant_of-self-then-at-text c =
    let r = c.self.inside in
    let stored = c.len-len.ensures.len in
    (sets_within r.columns c.set_plain.new.self r.width r.rest c.args.self.now c.args.at (length c.args.text.now) (plain_faces c.args.text.now) c.args.attrs.now c.self.invariant c.self.view_is (length-plain c.args.text.now) c.in_ok-set_plain.ensures.done (omega (arith, stored, c.if-at-text.true))).within

pub returns-then-at-text-clause-len : goal.returns-then-at-text-clause-len
returns-then-at-text-clause-len c =
    let r = c.self.inside in
    let stored = c.len-len.ensures.len in
    (sets_within r.columns c.set_plain.new.self r.width r.rest c.args.self.now c.args.at (length c.args.text.now) (plain_faces c.args.text.now) c.args.attrs.now c.self.invariant c.self.view_is (length-plain c.args.text.now) c.in_ok-set_plain.ensures.done (omega (arith, stored, c.if-at-text.true))).len

pub returns-then-at-text-clause-done : goal.returns-then-at-text-clause-done
returns-then-at-text-clause-done c =
    let r = c.self.inside in
    let stored = c.len-len.ensures.len in
    (sets_within r.columns c.set_plain.new.self r.width r.rest c.args.self.now c.args.at (length c.args.text.now) (plain_faces c.args.text.now) c.args.attrs.now c.self.invariant c.self.view_is (length-plain c.args.text.now) c.in_ok-set_plain.ensures.done (omega (arith, stored, c.if-at-text.true))).done

pub push_plain-requires-clause-small : goal.push_plain-requires-clause-small
push_plain-requires-clause-small c =
    let r = c.self.inside in
    let ended = length-ended r.columns c.end_at.new.self c.args.at r.rest c.in_ok-end_at.ensures.done in
    let width = width_of_row r.columns r.width r.rest c.args.self.now c.self.invariant c.self.view_is in
    let within = c.requires.within in
    let fits = c.self.ranges in
    omega (arith, ended, width, within, fits)

pub invariant_of-self-in_err-push_plain : goal.invariant_of-self-in_err-push_plain
invariant_of-self-in_err-push_plain c =
    let r = c.self.inside in
    let ended = length-ended r.columns c.end_at.new.self c.args.at r.rest c.in_ok-end_at.ensures.done in
    let width = width_of_row r.columns r.width r.rest c.args.self.now c.self.invariant c.self.view_is in
    let within = c.requires.within in
    let same = ap length c.in_err-push_plain.ensures.refused in
    omega (arith, ended, width, within, same)

pub returns-in_err-push_plain-clause-len : goal.returns-in_err-push_plain-clause-len
returns-in_err-push_plain-clause-len c =
    let r = c.self.inside in
    let ended = length-ended r.columns c.end_at.new.self c.args.at r.rest c.in_ok-end_at.ensures.done in
    let width = width_of_row r.columns r.width r.rest c.args.self.now c.self.invariant c.self.view_is in
    let within = c.requires.within in
    let same = ap length c.in_err-push_plain.ensures.refused in
    same_length c.push_plain.new.self r.columns r.width r.rest r.rest c.args.self.now (omega (arith, ended, width, within, same)) c.self.invariant c.self.view_is

pub invariant_of-self-2 : goal.invariant_of-self-2
invariant_of-self-2 c =
    let r = c.self.inside in
    let stored = c.len-len.ensures.len in
    (sets_end r.columns c.push_plain.new.self r.width r.rest c.args.self.now c.args.at (length c.args.text.now) (plain_faces c.args.text.now) c.args.attrs.now c.self.invariant c.self.view_is (length-plain c.args.text.now) c.end_at.new.self c.in_ok-end_at.ensures.whole c.in_ok-end_at.ensures.done
    c.in_ok-push_plain.ensures.done (omega (arith, stored, c.if-at-text.false)) c.requires.within).within

pub returns-clause-len : goal.returns-clause-len
returns-clause-len c =
    let r = c.self.inside in
    let stored = c.len-len.ensures.len in
    (sets_end r.columns c.push_plain.new.self r.width r.rest c.args.self.now c.args.at (length c.args.text.now) (plain_faces c.args.text.now) c.args.attrs.now c.self.invariant c.self.view_is (length-plain c.args.text.now) c.end_at.new.self c.in_ok-end_at.ensures.whole c.in_ok-end_at.ensures.done
    c.in_ok-push_plain.ensures.done (omega (arith, stored, c.if-at-text.false)) c.requires.within).len

pub returns-clause-done : goal.returns-clause-done
returns-clause-done c =
    let r = c.self.inside in
    let stored = c.len-len.ensures.len in
    (sets_end r.columns c.push_plain.new.self r.width r.rest c.args.self.now c.args.at (length c.args.text.now) (plain_faces c.args.text.now) c.args.attrs.now c.self.invariant c.self.view_is (length-plain c.args.text.now) c.end_at.new.self c.in_ok-end_at.ensures.whole c.in_ok-end_at.ensures.done
    c.in_ok-push_plain.ensures.done (omega (arith, stored, c.if-at-text.false)) c.requires.within).done
