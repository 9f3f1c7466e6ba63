use Rattle.std.proofs.Common.{◌∙◌, ap, arith}
use Rattle.cell_edits.specs.RowEdits.{resized}
use Rattle.clustered_row.proofs.ShownLemmas.{length-cut, resize_cut, resize_less}
use Rattle.clustered_row.proofs.row.ClusteredRow.resize.Goals as goal

pub invariant_of-self : goal.invariant_of-self
invariant_of-self c =
    let r = c.self.inside in
    let count = c.len.ensures.len in
    let cut = length-cut r.columns c.cut.new.self c.args.width c.cut.ensures (omega (arith, count, c.if-width-len.true)) in
    omega (arith, cut)

pub returns-then-width-len : goal.returns-then-width-len
returns-then-width-len c =
    let r = c.self.inside in
    let count = c.len.ensures.len in
    resize_cut r.columns r.width r.rest c.self.invariant c.cut.new.self c.args.width c.cut.ensures (omega (arith, count, c.if-width-len.true)) ∙ ap (resized c.args.width) c.self.view_is

pub returns : goal.returns
returns c =
    let r = c.self.inside in
    let count = c.len.ensures.len in
    resize_less r.columns r.width r.rest c.self.invariant c.args.width c.len.ensures.whole (omega (arith, count, c.if-width-len.false)) (omega (arith, c.if-self-width.false)) ∙ ap (resized c.args.width) c.self.view_is
