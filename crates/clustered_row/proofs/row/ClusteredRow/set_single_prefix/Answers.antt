use Rattle.std.proofs.Common.{◌∙◌, ◌-◌, refl, replicate, arith}
use Rattle.cell_base.specs.Row.{set_columns}
use Rattle.clustered_row.specs.Faces.{row_of}
use Rattle.clustered_row.specs.Sizes.{faces_of}
use Rattle.clustered_row.proofs.SetLemmas.{walk_boundary, walk_set}
use Rattle.clustered_row.proofs.row.ClusteredRow.set_single_prefix.Goals as goal

pub split_at-requires : goal.split_at-requires
split_at-requires g c = walk_boundary _ _ c.args.text.now _ _ c.in_ok-count.rest.now c.in_ok-count.ensures c.utf8.text

pub returns-clause-leads : goal.returns-clause-leads
returns-clause-leads g c =
    let f = g.W.Widths.width_of c.args.w.now in
    let text = c.args.text.now in
    let rest = c.in_ok-count.rest.now in
    let sizes = c.single_cells.new.sizes.items in
    let n = c.in_ok-count.count in
    let a = c.args.attrs.now in
    let at = c.args.at in (
      omega arith,
      walk_set f (c.args.end - at) text sizes n rest c.in_ok-count.ensures c.args.self.now at c.args.end a c.requires.order c.requires.within refl c.split_at.result.0.now _ c.split_at.ensures.front (omega arith)
          (c.self-2.view_is ∙ c.in_ok-set.ensures.done ∙ (λ i. set_columns (c.self.view_is i) at (row_of (faces_of c.split_at.result.0.now (c.deref.ensures.value i)) (replicate n a)))),
    )
