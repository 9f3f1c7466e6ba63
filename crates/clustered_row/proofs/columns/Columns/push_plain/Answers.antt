use Rattle.std.proofs.Common.{◌∙◌, ◌++◌, ap, sym, length, replicate, arith, List}
use Rattle.cell_base.specs.Row.{Column}
use Rattle.clustered_row.specs.Faces.{plain_faces, row_of}
use Rattle.clustered_row.specs.TextsShown.{faces}
use Rattle.clustered_row.proofs.ColumnLemmas.{length-plain, push_makes, whole_plain}
use Rattle.clustered_row.proofs.RowLemmas.{length-row_of}
use Rattle.clustered_row.proofs.columns.Columns.push_plain.Goals as goal

pub push-requires : goal.push-requires
push-requires c =
    let even = c.self.invariant.even in
    let long = length-row_of (faces c.self.inside.texts) c.self.inside.runs (omega (arith, even)) in
    let shown = ap (λ (r : List Column). length r) c.self.view_is in
    let small = c.requires.small in
    omega (arith, long, shown, small, even)

pub invariant_of-self-2 : goal.invariant_of-self-2
invariant_of-self-2 c =
    let text = c.args.text.now in
    let m = push_makes (faces c.self.inside.texts) (faces c.push_plain.new.self) c.self.inside.runs c.push.new.self c.self.invariant.even c.self.invariant.whole (plain_faces text) (length text) c.args.attrs.now
    (c.in_ok-push_plain.ensures.done ∙ ap (λ fs. fs ++ plain_faces text) c.in_ok-reserve.ensures.faces) c.in_ok-push.ensures.done (sym (length-plain text)) (whole_plain text c.args.attrs.now) in
    record { even = m.even; whole = m.whole }

pub returns-clause-done : goal.returns-clause-done
returns-clause-done c =
    let text = c.args.text.now in
    (push_makes (faces c.self.inside.texts) (faces c.push_plain.new.self) c.self.inside.runs c.push.new.self c.self.invariant.even c.self.invariant.whole (plain_faces text) (length text) c.args.attrs.now
    (c.in_ok-push_plain.ensures.done ∙ ap (λ fs. fs ++ plain_faces text) c.in_ok-reserve.ensures.faces) c.in_ok-push.ensures.done (sym (length-plain text)) (whole_plain text c.args.attrs.now)).is
    ∙ ap (λ (r : List Column). r ++ row_of (plain_faces text) (replicate (length text) c.args.attrs.now)) c.self.view_is
