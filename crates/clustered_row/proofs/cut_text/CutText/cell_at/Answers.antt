use Rattle.std.proofs.Common.{◌+◌, ◌-◌, ◌<◌, length, arith, ap, sym, ◌∙◌}
use Rattle.cell_base.specs.CellContent.{shows_as_space}
use Rattle.clustered_row.specs.Faces.{Own}
use Rattle.clustered_row.proofs.TextLemmas.{face_after, plain_kept, plain_utf8}
use Rattle.clustered_row.proofs.StepLemmas.{sized_of, after, plain_within}
use Rattle.clustered_row.proofs.cut_text.CutText.cell_at.Goals as goal

pub part-requires-clause-within : goal.part-requires-clause-within
part-requires-clause-within c =
    let t = c.args.self.now in
    plain_within t.text.items t.sizes.items t.sized_bytes t.sized_columns c.plain_byte-from.result c.args.column 1 (sized_of t) c.plain_byte-from.ensures.column (omega arith)

pub part-requires-clause-utf8 : goal.part-requires-clause-utf8
part-requires-clause-utf8 c =
    let t = c.args.self.now in
    let p = after t.text.items t.sizes.items t.sized_bytes t.sized_columns c.plain_byte-from.result c.args.column (sized_of t) c.plain_byte-from.ensures.after c.plain_byte-from.ensures.within c.plain_byte-from.ensures.column in
    let l : c.plain_byte-from.result < length t.text.items = let k = plain_within t.text.items t.sizes.items t.sized_bytes t.sized_columns c.plain_byte-from.result c.args.column 1 (sized_of t) c.plain_byte-from.ensures.column (omega arith) in omega (arith, k) in
    plain_utf8 t.text.items t.sizes.items c.plain_byte-from.result c.args.column (c.plain_byte-from.result + 1 - c.plain_byte-from.result) p l (omega arith) t.parts

pub returns-then-self-column : goal.returns-then-self-column
returns-then-self-column c =
    let t = c.args.self.now in
    let p = after t.text.items t.sizes.items t.sized_bytes t.sized_columns c.plain_byte-from.result c.args.column (sized_of t) c.plain_byte-from.ensures.after c.plain_byte-from.ensures.within c.plain_byte-from.ensures.column in
    let l : c.plain_byte-from.result < length t.text.items = let k = plain_within t.text.items t.sizes.items t.sized_bytes t.sized_columns c.plain_byte-from.result c.args.column 1 (sized_of t) c.plain_byte-from.ensures.column (omega arith) in omega (arith, k) in
    face_after t.text.items t.sizes.items c.plain_byte-from.result c.args.column (c.plain_byte-from.result + 1 - c.plain_byte-from.result) p l (omega arith)
    ∙ ap Own (sym c.part.ensures)

pub invariant_of-result : goal.invariant_of-result
invariant_of-result c =
    let t = c.args.self.now in
    let p = after t.text.items t.sizes.items t.sized_bytes t.sized_columns c.plain_byte-from.result c.args.column (sized_of t) c.plain_byte-from.ensures.after c.plain_byte-from.ensures.within c.plain_byte-from.ensures.column in
    let l : c.plain_byte-from.result < length t.text.items = let k = plain_within t.text.items t.sizes.items t.sized_bytes t.sized_columns c.plain_byte-from.result c.args.column 1 (sized_of t) c.plain_byte-from.ensures.column (omega arith) in omega (arith, k) in
    record { kept = ap shows_as_space c.part.ensures ∙ plain_kept t.text.items t.sizes.items c.plain_byte-from.result c.args.column (c.plain_byte-from.result + 1 - c.plain_byte-from.result) p l (omega arith) t.parts }
