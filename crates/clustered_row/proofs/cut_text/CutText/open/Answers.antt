use Rattle.std.proofs.Common.{◌+◌, refl, ◌<◌, arith, ap, sym, ◌∙◌}
use Rattle.clustered_row.specs.Faces.{opened}
use Rattle.clustered_row.specs.CutTexts.{shown}
use Rattle.clustered_row.proofs.StepLemmas.{sized_of, position_within, a_size, opened_here}
use Rattle.clustered_row.proofs.cut_text.CutText.open.Goals as goal

pub returns-then-position-at-clause-faces : goal.returns-then-position-at-clause-faces
returns-then-position-at-clause-faces c =
    let t = c.args.self.now in
    opened_here t.text.items t.sizes.items t.sized_bytes t.sized_columns c.position-position.result c.args.at (sized_of t) c.position-position.ensures.position c.if-position-at.true

pub returns-clause-faces : goal.returns-clause-faces
returns-clause-faces c =
    let t = c.args.self.now in
    let less : c.position-position.result.columns < c.args.at = omega (arith, c.position-position.ensures.columns, c.if-position-at.false) in
    let half = c.position-position.ensures.cell a_size less in
    c.split_wide_cell.ensures.faces ∙ ap (λ n. opened n (shown t)) (sym half.column)

pub returns-clause-position : goal.returns-clause-position
returns-clause-position c =
    let less : c.position-position.result.columns < c.args.at = omega (arith, c.position-position.ensures.columns, c.if-position-at.false) in
    let half = c.position-position.ensures.cell a_size less in
    let p = c.position-position.result in
    c.split_wide_cell.ensures.position (record { index = p.index + 1; bytes = p.bytes + 1; columns = c.args.at }) refl refl half.column

pub overflow_add-result-2 : goal.overflow_add-result-2
overflow_add-result-2 c =
    let t = c.args.self.now in
    let k = position_within t.text.items t.sizes.items t.sized_bytes t.sized_columns c.position-position.result (sized_of t) c.position-position.ensures.position in
    omega (arith, k, t.within, t.text.ok.0, t.text.ok.1, t.text.small)
