use Rattle.std.proofs.Common.{◌∙◌, ap, sym, length, arith}
use Rattle.clustered_row.specs.Sizes.{faces_of}
use Rattle.clustered_row.proofs.ShownLemmas.{length-ended, same_length, sets_end, sets_within, width_of_row}
use Rattle.clustered_row.proofs.StepLemmas.{length-cells}
use Rattle.clustered_row.proofs.row.ClusteredRow.set.Goals as goal

pub invariant_of-self-then-at-count : goal.invariant_of-self-then-at-count
invariant_of-self-then-at-count c =
    let r = c.self.inside in
    let stored = c.len-len.ensures.len in
    (sets_within r.columns c.set.new.self r.width r.rest c.args.self.now c.args.at c.args.count (faces_of c.args.text.now c.args.sizes.now) c.args.attrs.now c.self.invariant c.self.view_is (length-cells c.args.text.now c.args.sizes.now c.requires.sizes.bytes ∙ sym c.requires.count) c.in_ok-set.ensures.done (omega (arith, stored, c.if-at-count.true))).within

pub returns-then-at-count-clause-len : goal.returns-then-at-count-clause-len
returns-then-at-count-clause-len c =
    let r = c.self.inside in
    let stored = c.len-len.ensures.len in
    (sets_within r.columns c.set.new.self r.width r.rest c.args.self.now c.args.at c.args.count (faces_of c.args.text.now c.args.sizes.now) c.args.attrs.now c.self.invariant c.self.view_is (length-cells c.args.text.now c.args.sizes.now c.requires.sizes.bytes ∙ sym c.requires.count) c.in_ok-set.ensures.done (omega (arith, stored, c.if-at-count.true))).len

pub returns-then-at-count-clause-done : goal.returns-then-at-count-clause-done
returns-then-at-count-clause-done c =
    let r = c.self.inside in
    let stored = c.len-len.ensures.len in
    (sets_within r.columns c.set.new.self r.width r.rest c.args.self.now c.args.at c.args.count (faces_of c.args.text.now c.args.sizes.now) c.args.attrs.now c.self.invariant c.self.view_is (length-cells c.args.text.now c.args.sizes.now c.requires.sizes.bytes ∙ sym c.requires.count) c.in_ok-set.ensures.done (omega (arith, stored, c.if-at-count.true))).done

pub push-requires-clause-small : goal.push-requires-clause-small
push-requires-clause-small c =
    let r = c.self.inside in
    let ended = length-ended r.columns c.end_at.new.self c.args.at r.rest c.in_ok-end_at.ensures.done in
    let width = width_of_row r.columns r.width r.rest c.args.self.now c.self.invariant c.self.view_is in
    let within = c.requires.within in
    let fits = c.self.ranges in
    omega (arith, ended, width, within, fits)

pub invariant_of-self-in_err-push : goal.invariant_of-self-in_err-push
invariant_of-self-in_err-push c =
    let r = c.self.inside in
    let ended = length-ended r.columns c.end_at.new.self c.args.at r.rest c.in_ok-end_at.ensures.done in
    let width = width_of_row r.columns r.width r.rest c.args.self.now c.self.invariant c.self.view_is in
    let within = c.requires.within in
    let same = ap length c.in_err-push.ensures.refused in
    omega (arith, ended, width, within, same)

pub returns-in_err-push-clause-len : goal.returns-in_err-push-clause-len
returns-in_err-push-clause-len c =
    let r = c.self.inside in
    let ended = length-ended r.columns c.end_at.new.self c.args.at r.rest c.in_ok-end_at.ensures.done in
    let width = width_of_row r.columns r.width r.rest c.args.self.now c.self.invariant c.self.view_is in
    let within = c.requires.within in
    let same = ap length c.in_err-push.ensures.refused in
    same_length c.push.new.self r.columns r.width r.rest r.rest c.args.self.now (omega (arith, ended, width, within, same)) c.self.invariant c.self.view_is

pub invariant_of-self-2 : goal.invariant_of-self-2
invariant_of-self-2 c =
    let r = c.self.inside in
    let stored = c.len-len.ensures.len in
    (sets_end r.columns c.push.new.self r.width r.rest c.args.self.now c.args.at c.args.count (faces_of c.args.text.now c.args.sizes.now) c.args.attrs.now c.self.invariant c.self.view_is (length-cells c.args.text.now c.args.sizes.now c.requires.sizes.bytes ∙ sym c.requires.count) c.end_at.new.self c.in_ok-end_at.ensures.whole c.in_ok-end_at.ensures.done
    c.in_ok-push.ensures.done (omega (arith, stored, c.if-at-count.false)) c.requires.within).within

pub returns-clause-len : goal.returns-clause-len
returns-clause-len c =
    let r = c.self.inside in
    let stored = c.len-len.ensures.len in
    (sets_end r.columns c.push.new.self r.width r.rest c.args.self.now c.args.at c.args.count (faces_of c.args.text.now c.args.sizes.now) c.args.attrs.now c.self.invariant c.self.view_is (length-cells c.args.text.now c.args.sizes.now c.requires.sizes.bytes ∙ sym c.requires.count) c.end_at.new.self c.in_ok-end_at.ensures.whole c.in_ok-end_at.ensures.done
    c.in_ok-push.ensures.done (omega (arith, stored, c.if-at-count.false)) c.requires.within).len

pub returns-clause-done : goal.returns-clause-done
returns-clause-done c =
    let r = c.self.inside in
    let stored = c.len-len.ensures.len in
    (sets_end r.columns c.push.new.self r.width r.rest c.args.self.now c.args.at c.args.count (faces_of c.args.text.now c.args.sizes.now) c.args.attrs.now c.self.invariant c.self.view_is (length-cells c.args.text.now c.args.sizes.now c.requires.sizes.bytes ∙ sym c.requires.count) c.end_at.new.self c.in_ok-end_at.ensures.whole c.in_ok-end_at.ensures.done
    c.in_ok-push.ensures.done (omega (arith, stored, c.if-at-count.false)) c.requires.within).done
