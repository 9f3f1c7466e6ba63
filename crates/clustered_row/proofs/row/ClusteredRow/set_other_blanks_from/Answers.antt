use Rattle.std.proofs.Common.{◌≡◌, ◌∙◌, ◌-◌, ◌++◌, ap, length, replicate, arith, List}
use Rattle.cell_base.specs.Row.{Column, blank, set_columns}
use Rattle.clustered_row.proofs.ShownLemmas.{blanks_show, length-shown, same_length}
use Rattle.clustered_row.proofs.row.ClusteredRow.set_other_blanks_from.Goals as goal

pub invariant_of-self-2 : goal.invariant_of-self-2
invariant_of-self-2 c =
    let r = c.self.inside in
    let long = length-shown r.columns r.width r.rest c.self.invariant in
    let shown = ap (λ (x : List Column). length x) c.self.view_is in
    let within = c.requires in
    (blanks_show r.columns c.end_at.new.self c.args.at r.width r.rest c.args.attrs.now c.in_ok-end_at.ensures.whole c.self.invariant c.in_ok-end_at.ensures.done (omega (arith, long, shown, within))).within

pub returns-clause-len : goal.returns-clause-len
returns-clause-len c =
    let r = c.self.inside in
    let long = length-shown r.columns r.width r.rest c.self.invariant in
    let shown = ap (λ (x : List Column). length x) c.self.view_is in
    let within = c.requires in
    same_length c.end_at.new.self r.columns r.width c.in_ok-rest.rest r.rest c.args.self.now
    (blanks_show r.columns c.end_at.new.self c.args.at r.width r.rest c.args.attrs.now c.in_ok-end_at.ensures.whole c.self.invariant c.in_ok-end_at.ensures.done (omega (arith, long, shown, within))).within
    c.self.invariant c.self.view_is

pub returns-clause-done : goal.returns-clause-done
returns-clause-done c =
    let r = c.self.inside in
    let long = length-shown r.columns r.width r.rest c.self.invariant in
    let shown = ap (λ (x : List Column). length x) c.self.view_is in
    let within = c.requires in
    let s = blanks_show r.columns c.end_at.new.self c.args.at r.width r.rest c.args.attrs.now c.in_ok-end_at.ensures.whole c.self.invariant c.in_ok-end_at.ensures.done (omega (arith, long, shown, within)) in
    let width_is : r.width ≡ length c.args.self.now = omega (arith, long, shown) in
    (λ i. c.end_at.new.self ++ replicate (r.width - length c.end_at.new.self) (blank (c.in_ok-rest.ensures.copy i))) ∙ s.is
    ∙ (λ i. set_columns (c.self.view_is i) c.args.at (replicate (width_is i - c.args.at) (blank c.args.attrs.now)))
