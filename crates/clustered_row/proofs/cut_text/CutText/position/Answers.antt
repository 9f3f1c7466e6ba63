use Rattle.std.proofs.Common.{arith, ap}
use Rattle.std.proofs.Common.{subst, List}
use Rattle.clustered_row.specs.declared.cell_size.CellSize.{CellSize}
use Rattle.clustered_row.specs.Sizes.{columns_of}
use Rattle.clustered_row.specs.Position.{IsSplit}
use Rattle.clustered_row.proofs.SizeLemmas.{columns_bound}
use Rattle.clustered_row.proofs.cut_text.CutText.position.Goals as goal

pub find-requires-clause-columns : goal.find-requires-clause-columns
find-requires-clause-columns c =
    let t = c.args.self.now in
    let same = ap columns_of c.deref-2.ensures.value in
    let bound = columns_bound t.sizes.items in
    omega (arith, same, bound, t.bytes, t.within, t.text.ok.0, t.text.ok.1, t.text.small)

pub returns-clause-cell : goal.returns-clause-cell
returns-clause-cell c d h =
    subst (λ (sizes : List CellSize). IsSplit sizes c.find.result c.args.at d) c.deref-2.ensures.value (c.find.ensures.cell d h)

pub returns-then-self-at-clause-cell : goal.returns-then-self-at-clause-cell
returns-then-self-at-clause-cell c d h =
    subst (λ (sizes : List CellSize). IsSplit sizes c.find_back.result c.args.at d) c.deref.ensures.value (c.find_back.ensures.cell d h)
