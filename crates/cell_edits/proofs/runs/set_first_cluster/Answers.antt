use Rattle.std.proofs.Common.{rules, refl, true, [], ◌≡◌, ◌∙◌, ◌<◌, ◌+◌, ap, sym, subst, length, arith, inl, inr}
use Rattle.std.proofs.lemmas.List.{nil_from_length}
use Rattle.text_clusters.proofs.PlainLemmas.{graphemes-nil}
use Rattle.text_clusters.proofs.TextLemmas.{joined_clusters}
use Rattle.unicode_segmentation.specs.Grapheme.{graphemes}
use Rattle.cell_base.specs.CellContent.{row_of_cells, cell_of}
use Rattle.cell_edits.specs.CellList.{cell_columns}
use Rattle.cell_edits.specs.TextRuns.{Leads}
use Rattle.cell_edits.proofs.CellLemmas.{length-row}
use Rattle.cell_edits.proofs.CutLemmas.{length-cell_columns}
use Rattle.cell_edits.proofs.RunLemmas.{leads_first, stops_full, stops_empty, stops_wide, rest_first}
use Rattle.cell_edits.proofs.runs.set_first_cluster.Goals as goal

pub returns-then-at-end-clause-leads : goal.returns-then-at-end-clause-leads
returns-then-at-end-clause-leads g c =
    (refl, stops_full (g.W.Widths.width_of c.args.w.now) c.args.attrs.now _ c.args.at c.args.end c.args.text.now (joined_clusters c.args.text.now c.utf8.text) (omega arith))

pub returns-then-is_empty-clause-leads : goal.returns-then-is_empty-clause-leads
returns-then-is_empty-clause-leads g c =
    let none : length c.args.text.now ≡ 0 = search rules in
    let empty : c.args.text.now ≡ [] = nil_from_length c.args.text.now none in
    (refl, stops_empty (g.W.Widths.width_of c.args.w.now) c.args.attrs.now _ c.args.at c.args.end c.args.text.now (joined_clusters c.args.text.now c.utf8.text) (ap (graphemes true) empty ∙ graphemes-nil))

pub returns-in_default-clause-leads : goal.returns-in_default-clause-leads
returns-in_default-clause-leads g c =
    let empty : c.args.text.now ≡ [] = c.in_default.ensures.none.0 refl in
    (refl, stops_empty (g.W.Widths.width_of c.args.w.now) c.args.attrs.now _ c.args.at c.args.end c.args.text.now (joined_clusters c.args.text.now c.utf8.text) (ap (graphemes true) empty ∙ graphemes-nil))

pub returns-then-end-at-clause-leads : goal.returns-then-end-at-clause-leads
returns-then-end-at-clause-leads g c =
    let width_of = g.W.Widths.width_of c.args.w.now in
    let text = c.args.text.now in
    let made : cell_of c.in-Some.cluster.now c.from-width.result c.args.attrs.now ≡ cell_of c.in-Some.cluster.now (width_of c.in-Some.cluster.now) c.args.attrs.now =
    ap (λ n. cell_of c.in-Some.cluster.now n c.args.attrs.now) (c.from-width.ensures ∙ c.width.ensures) in
    let cell = cell_of c.in-Some.cluster.now c.from-width.result c.args.attrs.now in
    let count = c.cluster_columns-count.ensures c.args.attrs.now in
    (refl, stops_wide width_of c.args.attrs.now _ c.args.at c.args.end text c.in-Some.cluster.now c.in-Some.rest.now cell (joined_clusters text c.utf8.text) (omega arith) c.in-Some.ensures.clusters c.in-Some.ensures.alone made)

pub returns-clause-leads : goal.returns-clause-leads
returns-clause-leads g c =
    let width_of = g.W.Widths.width_of c.args.w.now in
    let text = c.args.text.now in
    let cell = cell_of c.in-Some.cluster.now c.from-width.result c.args.attrs.now in
    let row = row_of_cells c.args.cells.now.items in
    let next = row_of_cells c.write_cluster.new.cells.items in
    let made : cell ≡ cell_of c.in-Some.cluster.now (width_of c.in-Some.cluster.now) c.args.attrs.now =
    ap (λ n. cell_of c.in-Some.cluster.now n c.args.attrs.now) (c.from-width.ensures ∙ c.width.ensures) in
    let count = c.cluster_columns-count.ensures c.args.attrs.now in
    let n = length-row c.args.cells.now.items in
    let v = c.args.cells.now.ok.0 in
    let some : 0 < length (cell_columns cell) = elim (length-cell_columns cell) [ inl e ↦ omega arith | inr e ↦ omega arith ] in (
      omega arith,
      subst (λ k. Leads width_of c.args.end c.args.attrs.now row c.args.at text next (c.args.at + k) c.in-Some.rest.now) (sym count)
          (leads_first width_of c.args.attrs.now row next c.args.at c.args.end text c.in-Some.cluster.now c.in-Some.rest.now cell c.requires.order (omega arith) (omega arith) c.in-Some.ensures.clusters c.in-Some.ensures.alone made
          c.in_ok-write_cluster.ensures.row (rest_first text c.in-Some.cluster.now c.in-Some.rest.now (joined_clusters text c.utf8.text) c.in-Some.ensures.whole c.in-Some.ensures.clusters)),
    )
