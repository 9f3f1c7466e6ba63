use Rattle.std.proofs.Common.{◌≡◌, ◌∙◌, ◌++◌, ap, sym, length, replicate, arith, List}
use Rattle.cell_base.specs.Row.{Column}
use Rattle.clustered_row.specs.Faces.{row_of}
use Rattle.clustered_row.specs.Sizes.{faces_of}
use Rattle.clustered_row.specs.TextsShown.{faces}
use Rattle.clustered_row.proofs.ColumnLemmas.{counted, push_makes, whole_cells}
use Rattle.clustered_row.proofs.SizeLemmas.{columns_many}
use Rattle.clustered_row.proofs.StepLemmas.{length-cells}
use Rattle.clustered_row.proofs.columns.Columns.push.Goals as goal

pub overflow_add-covered : goal.overflow_add-covered
overflow_add-covered c =
    let even = c.self.invariant.even in
    let count = counted (faces c.self.inside.texts) c.self.inside.runs c.args.self.now even c.self.view_is in
    let all = c.columns.ensures in
    let many = columns_many c.args.sizes.now in
    let small = c.requires.small in
    let wide = c.requires.count in
    omega (arith, even, count, all, many, small, wide)

pub push-requires : goal.push-requires
push-requires c =
    let even = c.self.invariant.even in
    let count = counted (faces c.self.inside.texts) c.self.inside.runs c.args.self.now even c.self.view_is in
    let small = c.requires.small in
    omega (arith, count, small)

pub invariant_of-self-2 : goal.invariant_of-self-2
invariant_of-self-2 c =
    let text = c.args.text.now in
    let sizes = c.args.sizes.now in
    let n : c.args.count ≡ length (faces_of text sizes) = c.requires.count ∙ sym (length-cells text sizes c.requires.sizes.bytes) in
    let m = push_makes (faces c.self.inside.texts) (faces c.push_cells.new.self) c.self.inside.runs c.push.new.self c.self.invariant.even c.self.invariant.whole (faces_of text sizes) c.args.count c.args.attrs.now
    (c.in_ok-push_cells.ensures.done ∙ ap (λ fs. fs ++ faces_of text sizes) c.in_ok-reserve.ensures.faces) c.in_ok-push.ensures.done n (whole_cells text sizes c.args.count c.args.attrs.now n) in
    record { even = m.even; whole = m.whole }

pub returns-clause-done : goal.returns-clause-done
returns-clause-done c =
    let text = c.args.text.now in
    let sizes = c.args.sizes.now in
    let n : c.args.count ≡ length (faces_of text sizes) = c.requires.count ∙ sym (length-cells text sizes c.requires.sizes.bytes) in
    (push_makes (faces c.self.inside.texts) (faces c.push_cells.new.self) c.self.inside.runs c.push.new.self c.self.invariant.even c.self.invariant.whole (faces_of text sizes) c.args.count c.args.attrs.now
    (c.in_ok-push_cells.ensures.done ∙ ap (λ fs. fs ++ faces_of text sizes) c.in_ok-reserve.ensures.faces) c.in_ok-push.ensures.done n (whole_cells text sizes c.args.count c.args.attrs.now n)).is
    ∙ ap (λ (r : List Column). r ++ row_of (faces_of text sizes) (replicate c.args.count c.args.attrs.now)) c.self.view_is
