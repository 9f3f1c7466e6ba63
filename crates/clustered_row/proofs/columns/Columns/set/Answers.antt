use Rattle.std.proofs.Common.{◌≡◌, ◌∙◌, ◌+◌, refl, ap, sym, length, replicate, arith, List}
use Rattle.cell_base.specs.Row.{Column, set_columns}
use Rattle.clustered_row.specs.Faces.{row_of, set_faces}
use Rattle.clustered_row.specs.Sizes.{faces_of}
use Rattle.clustered_row.specs.TextsShown.{faces}
use Rattle.clustered_row.proofs.ColumnLemmas.{counted, set_makes, whole_cells}
use Rattle.clustered_row.proofs.StepLemmas.{column_count, length-cells, sized_of}
use Rattle.clustered_row.proofs.columns.Columns.set.Goals as goal

pub overflow_add-covered : goal.overflow_add-covered
overflow_add-covered c =
    let even = c.self.invariant.even in
    let count = counted (faces c.self.inside.texts) c.self.inside.runs c.args.self.now even c.self.view_is in
    let within = c.requires.within in
    let t = c.self.inside.texts.cut in
    let k = column_count t.text.items t.sizes.items t.sized_bytes t.sized_columns (length t.text.items) (sized_of t) refl in
    omega (arith, k, even, count, within, c.saturating_sub-covered.ensures, c.plain_from.ensures.column, t.within, t.text.ok.0, t.text.ok.1, t.text.small)

pub set-requires-clause-within : goal.set-requires-clause-within
set-requires-clause-within c =
    let even = c.self.invariant.even in
    let count = counted (faces c.self.inside.texts) c.self.inside.runs c.args.self.now even c.self.view_is in
    let within = c.requires.within in
    omega (arith, count, within)

pub splice-requires-clause-within : goal.splice-requires-clause-within
splice-requires-clause-within c =
    let even = c.self.invariant.even in
    let count = counted (faces c.self.inside.texts) c.self.inside.runs c.args.self.now even c.self.view_is in
    let within = c.requires.within in
    let same = ap length c.in_ok-reserve.ensures.faces in
    omega (arith, even, count, within, same)

pub invariant_of-self-2 : goal.invariant_of-self-2
invariant_of-self-2 c =
    let text = c.args.text.now in
    let sizes = c.args.sizes.now in
    let even = c.self.invariant.even in
    let count = counted (faces c.self.inside.texts) c.self.inside.runs c.args.self.now even c.self.view_is in
    let within = c.requires.within in
    let n : c.args.count ≡ length (faces_of text sizes) = c.requires.count ∙ sym (length-cells text sizes c.requires.sizes.bytes) in
    let m = set_makes (faces c.self.inside.texts) (faces c.splice.new.self) c.self.inside.runs c.set.new.self c.self.invariant.even c.self.invariant.whole (faces_of text sizes) c.args.at (c.args.at + c.args.count) c.args.count c.args.attrs.now
    (c.in_ok-splice.ensures.done ∙ ap (λ fs. set_faces fs c.args.at (faces_of text sizes)) c.in_ok-reserve.ensures.faces) c.in_ok-set.ensures.done refl n (omega (arith, even, count, within)) (whole_cells text sizes c.args.count c.args.attrs.now n) in
    record { even = m.even; whole = m.whole }

pub returns-clause-done : goal.returns-clause-done
returns-clause-done c =
    let text = c.args.text.now in
    let sizes = c.args.sizes.now in
    let even = c.self.invariant.even in
    let count = counted (faces c.self.inside.texts) c.self.inside.runs c.args.self.now even c.self.view_is in
    let within = c.requires.within in
    let n : c.args.count ≡ length (faces_of text sizes) = c.requires.count ∙ sym (length-cells text sizes c.requires.sizes.bytes) in
    (set_makes (faces c.self.inside.texts) (faces c.splice.new.self) c.self.inside.runs c.set.new.self c.self.invariant.even c.self.invariant.whole (faces_of text sizes) c.args.at (c.args.at + c.args.count) c.args.count c.args.attrs.now
    (c.in_ok-splice.ensures.done ∙ ap (λ fs. set_faces fs c.args.at (faces_of text sizes)) c.in_ok-reserve.ensures.faces) c.in_ok-set.ensures.done refl n (omega (arith, even, count, within)) (whole_cells text sizes c.args.count c.args.attrs.now n)).is
    ∙ ap (λ (r : List Column). set_columns r c.args.at (row_of (faces_of text sizes) (replicate c.args.count c.args.attrs.now))) c.self.view_is
