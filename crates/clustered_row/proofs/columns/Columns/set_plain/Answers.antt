use Rattle.std.proofs.Common.{◌∙◌, ◌+◌, refl, ap, sym, length, replicate, arith, List}
use Rattle.cell_base.specs.Row.{Column, set_columns}
use Rattle.clustered_row.specs.Faces.{plain_faces, row_of}
use Rattle.clustered_row.specs.TextsShown.{faces}
use Rattle.clustered_row.proofs.ColumnLemmas.{counted, length-plain, set_makes, whole_plain}
use Rattle.clustered_row.proofs.columns.Columns.set_plain.Goals as goal

pub set-requires-clause-within : goal.set-requires-clause-within
set-requires-clause-within c =
    let count = counted (faces c.self.inside.texts) c.self.inside.runs c.args.self.now c.self.invariant.even c.self.view_is in
    let within = c.requires.within in
    omega (arith, count, within)

pub set_plain-requires-clause-within : goal.set_plain-requires-clause-within
set_plain-requires-clause-within c =
    let even = c.self.invariant.even in
    let count = counted (faces c.self.inside.texts) c.self.inside.runs c.args.self.now even c.self.view_is in
    let within = c.requires.within in
    omega (arith, even, count, within)

pub invariant_of-self-2 : goal.invariant_of-self-2
invariant_of-self-2 c =
    let text = c.args.text.now in
    let even = c.self.invariant.even in
    let count = counted (faces c.self.inside.texts) c.self.inside.runs c.args.self.now even c.self.view_is in
    let within = c.requires.within in
    let m = set_makes (faces c.self.inside.texts) (faces c.set_plain.new.self) c.self.inside.runs c.set.new.self even c.self.invariant.whole (plain_faces text) c.args.at (c.args.at + length text) (length text) c.args.attrs.now
    c.set_plain.ensures.faces c.in_ok-set.ensures.done refl (sym (length-plain text)) (omega (arith, even, count, within)) (whole_plain text c.args.attrs.now) in
    record { even = m.even; whole = m.whole }

pub returns-clause-done : goal.returns-clause-done
returns-clause-done c =
    let text = c.args.text.now in
    let even = c.self.invariant.even in
    let count = counted (faces c.self.inside.texts) c.self.inside.runs c.args.self.now even c.self.view_is in
    let within = c.requires.within in
    (set_makes (faces c.self.inside.texts) (faces c.set_plain.new.self) c.self.inside.runs c.set.new.self even c.self.invariant.whole (plain_faces text) c.args.at (c.args.at + length text) (length text) c.args.attrs.now
    c.set_plain.ensures.faces c.in_ok-set.ensures.done refl (sym (length-plain text)) (omega (arith, even, count, within)) (whole_plain text c.args.attrs.now)).is
    ∙ ap (λ (r : List Column). set_columns r c.args.at (row_of (plain_faces text) (replicate (length text) c.args.attrs.now))) c.self.view_is
