use Rattle.std.proofs.Common.{◌≡◌, arith, ap, sym, ◌∙◌}
use Rattle.cell_base.specs.CellContent.{shows_as_space}
use Rattle.clustered_row.specs.Faces.{first_face}
use Rattle.clustered_row.proofs.StepLemmas.{sized_of, a_size, index_inside, next_read, lent_cell, lent_kept, lent_utf8, lent_right}
use Rattle.clustered_row.proofs.cut_text.CutText.sized_cell_at.Goals as goal

pub returns-then-position-column : goal.returns-then-position-column
returns-then-position-column c =
    let t = c.args.self.now in
    lent_right t.text.items t.sizes.items t.sized_bytes t.sized_columns c.position-position.result c.args.column a_size (sized_of t) c.position-position.ensures.position (c.position-position.ensures.cell a_size c.if-position-column.true)

pub overflow_add-position : goal.overflow_add-position
overflow_add-position c =
    let t = c.args.self.now in
    let position = c.position-position.ensures.position in
    let same : c.position-position.result.columns ≡ c.args.column = omega (arith, c.position-position.ensures.columns, c.if-position-column.false) in
    let l = index_inside t.sizes.items c.position-position.result position (omega (arith, same, c.requires, t.columns)) in
    let k = (next_read t.sizes.items c.position-position.result c.index-size.result.now position l c.index-size.ensures).0 in
    omega (arith, k, t.bytes, t.within, t.text.ok.0, t.text.ok.1, t.text.small)

pub part-requires-clause-within : goal.part-requires-clause-within
part-requires-clause-within c =
    let t = c.args.self.now in
    let position = c.position-position.ensures.position in
    let same : c.position-position.result.columns ≡ c.args.column = omega (arith, c.position-position.ensures.columns, c.if-position-column.false) in
    let l = index_inside t.sizes.items c.position-position.result position (omega (arith, same, c.requires, t.columns)) in
    let k = (next_read t.sizes.items c.position-position.result c.index-size.result.now position l c.index-size.ensures).0 in
    omega (arith, k, t.bytes, t.within)

pub part-requires-clause-utf8 : goal.part-requires-clause-utf8
part-requires-clause-utf8 c =
    let t = c.args.self.now in
    let position = c.position-position.ensures.position in
    let same : c.position-position.result.columns ≡ c.args.column = omega (arith, c.position-position.ensures.columns, c.if-position-column.false) in
    let l = index_inside t.sizes.items c.position-position.result position (omega (arith, same, c.requires, t.columns)) in
    lent_utf8 t.text.items t.sizes.items t.sized_bytes t.sized_columns c.position-position.result c.index-size.result.now (sized_of t) position l c.index-size.ensures

pub returns : goal.returns
returns c =
    let t = c.args.self.now in
    let position = c.position-position.ensures.position in
    let same : c.position-position.result.columns ≡ c.args.column = omega (arith, c.position-position.ensures.columns, c.if-position-column.false) in
    let l = index_inside t.sizes.items c.position-position.result position (omega (arith, same, c.requires, t.columns)) in
    lent_cell t.text.items t.sizes.items t.sized_bytes t.sized_columns c.position-position.result c.index-size.result.now c.args.column (sized_of t) position l c.index-size.ensures same
    ∙ ap (first_face c.index-size.result.now.is_wide) (sym c.part.ensures)

pub invariant_of-result : goal.invariant_of-result
invariant_of-result c =
    let t = c.args.self.now in
    let position = c.position-position.ensures.position in
    let same : c.position-position.result.columns ≡ c.args.column = omega (arith, c.position-position.ensures.columns, c.if-position-column.false) in
    let l = index_inside t.sizes.items c.position-position.result position (omega (arith, same, c.requires, t.columns)) in
    record { kept = ap shows_as_space c.part.ensures ∙ lent_kept t.text.items t.sizes.items t.sized_bytes t.sized_columns c.position-position.result c.index-size.result.now (sized_of t) position l c.index-size.ensures }
