use Rattle.std.proofs.Common.{◌<◌, ◌∙◌, ◌++◌, ap, arith}
use Rattle.cell_edits.specs.VisibleCells.{visible_from}
use Rattle.clustered_row.specs.VisibleColumns.{is_split}
use Rattle.cell_views.specs.Region.{inner_start}
use Rattle.cell_views.proofs.EdgeLemmas.{start_clean, end_clean, start_before, in_order, end_within}
use Rattle.cell_views.proofs.EdgeLemmas.{inner_part, region_parts}
use Rattle.cell_views.proofs.region.RegionIter.of_clustered.Goals as goal

pub cells_between-cells-requires-clause-order : goal.cells_between-cells-requires-clause-order
cells_between-cells-requires-clause-order c =
    let row = c.args.row.now in
    let start = c.args.start in
    let last = c.args.end in
    let less : start < last = omega arith in
    let clean = start_clean start row c.start_edge-first.ensures.whole in
    let order = in_order (inner_start start row) last row (start_before start last row less) clean in
    let from = c.start_edge-first.ensures.column in
    let to = c.end_edge-last.ensures.column in
    omega arith

pub cells_between-cells-requires-clause-within : goal.cells_between-cells-requires-clause-within
cells_between-cells-requires-clause-within c =
    let within = end_within c.args.end c.args.row.now in
    let to = c.end_edge-last.ensures.column in
    omega arith

pub cells_between-cells-requires-clause-first : goal.cells_between-cells-requires-clause-first
cells_between-cells-requires-clause-first c =
    let row = c.args.row.now in
    let from = c.start_edge-first.ensures.column in
    ap (λ n. is_split n row) from ∙ start_clean c.args.start row c.start_edge-first.ensures.whole

pub cells_between-cells-requires-clause-last : goal.cells_between-cells-requires-clause-last
cells_between-cells-requires-clause-last c =
    let row = c.args.row.now in
    let to = c.end_edge-last.ensures.column in
    ap (λ n. is_split n row) to ∙ end_clean c.args.end row c.start_edge-first.ensures.whole (omega arith)

pub returns : goal.returns
returns c =
    let row = c.args.row.now in
    let first = c.start_edge-first.ensures in
    let last = c.end_edge-last.ensures in
    let part = c.cells_between-cells.ensures in
    let cells =
    (λ i. visible_from (part.column i) (part.row i)) ∙ (λ i. inner_part (first.column i) (last.column i) row) in
    (λ i. first.half i ++ (c.of_clustered.ensures ∙ (λ j. cells j ++ last.half j)) i)
    ∙ region_parts row c.args.start c.args.end c.start_edge-first.ensures.whole (omega arith) c.requires.within
