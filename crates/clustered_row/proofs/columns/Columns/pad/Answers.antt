use Rattle.std.proofs.Common.{◌∙◌, ◌++◌, ◌-◌, ap, length, replicate, arith, List}
use Rattle.cell_base.specs.Row.{Column, blank}
use Rattle.clustered_row.specs.TextsShown.{faces}
use Rattle.clustered_row.proofs.ColumnLemmas.{pad_makes}
use Rattle.clustered_row.proofs.RowLemmas.{length-row_of}
use Rattle.clustered_row.proofs.columns.Columns.pad.Goals as goal

pub overflow_sub-count : goal.overflow_sub-count
overflow_sub-count c =
    let even = c.self.invariant.even in
    let long = length-row_of (faces c.self.inside.texts) c.self.inside.runs (omega (arith, even)) in
    let shown = ap (λ (r : List Column). length r) c.self.view_is in
    let within = c.requires in
    let count = c.len.ensures in
    omega (arith, long, shown, within, count, even)

pub invariant_of-self-2 : goal.invariant_of-self-2
invariant_of-self-2 c =
    let count = c.len.ensures in
    let m = pad_makes (faces c.self.inside.texts) (faces c.pad.new.self) c.self.inside.runs c.push.new.self c.self.invariant.even c.self.invariant.whole c.args.to (c.args.to - c.len.result) c.args.attrs.now
    (c.in_ok-pad.ensures.done ∙ ap (λ fs. Rattle.clustered_row.specs.Faces.padded c.args.to fs) c.in_ok-reserve.ensures.faces) c.in_ok-push.ensures.done (ap (λ n. c.args.to - n) count) in
    record { even = m.even; whole = m.whole }

pub returns-clause-done : goal.returns-clause-done
returns-clause-done c =
    let count = c.len.ensures in
    (pad_makes (faces c.self.inside.texts) (faces c.pad.new.self) c.self.inside.runs c.push.new.self c.self.invariant.even c.self.invariant.whole c.args.to (c.args.to - c.len.result) c.args.attrs.now
    (c.in_ok-pad.ensures.done ∙ ap (λ fs. Rattle.clustered_row.specs.Faces.padded c.args.to fs) c.in_ok-reserve.ensures.faces) c.in_ok-push.ensures.done (ap (λ n. c.args.to - n) count)).is
    ∙ ap (λ (r : List Column). r ++ replicate (c.args.to - length r) (blank c.args.attrs.now)) c.self.view_is
