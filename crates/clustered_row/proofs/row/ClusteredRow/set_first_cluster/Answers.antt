use Rattle.std.proofs.Common.{rules, refl, true, [], ◌≡◌, ◌∙◌, ◌≤◌, ◌+◌, ap, subst, length, arith}
use Rattle.std.proofs.lemmas.List.{nil_from_length}
use Rattle.text_clusters.proofs.PlainLemmas.{graphemes-nil}
use Rattle.text_clusters.proofs.TextLemmas.{joined_clusters}
use Rattle.unicode_segmentation.specs.Grapheme.{graphemes}
use Rattle.cell_base.specs.CellContent.{cell_of}
use Rattle.cell_edits.specs.TextRuns.{Leads}
use Rattle.cell_edits.proofs.RunLemmas.{leads_first, stops_full, stops_empty, stops_wide, rest_first}
use Rattle.clustered_row.proofs.SetLemmas.{count_cell}
use Rattle.clustered_row.proofs.row.ClusteredRow.set_first_cluster.Goals as goal

pub returns-then-at-end-clause-leads : goal.returns-then-at-end-clause-leads
returns-then-at-end-clause-leads g c =
    (refl, stops_full (g.W.Widths.width_of c.args.w.now) c.args.attrs.now _ c.args.at c.args.end c.args.text.now (joined_clusters c.args.text.now c.utf8.text) (omega arith))

pub returns-then-is_empty-clause-leads : goal.returns-then-is_empty-clause-leads
returns-then-is_empty-clause-leads g c =
    let none : length c.args.text.now ≡ 0 = search rules in
    let empty : c.args.text.now ≡ [] = nil_from_length c.args.text.now none in
    (refl, stops_empty (g.W.Widths.width_of c.args.w.now) c.args.attrs.now _ c.args.at c.args.end c.args.text.now (joined_clusters c.args.text.now c.utf8.text) (ap (graphemes true) empty ∙ graphemes-nil))

pub returns-in_default-clause-leads : goal.returns-in_default-clause-leads
returns-in_default-clause-leads g c =
    let empty : c.args.text.now ≡ [] = c.in_default.ensures.none.0 refl in
    (refl, stops_empty (g.W.Widths.width_of c.args.w.now) c.args.attrs.now _ c.args.at c.args.end c.args.text.now (joined_clusters c.args.text.now c.utf8.text) (ap (graphemes true) empty ∙ graphemes-nil))

pub returns-then-end-at-clause-leads : goal.returns-then-end-at-clause-leads
returns-then-end-at-clause-leads g c =
    let width_of = g.W.Widths.width_of c.args.w.now in
    let text = c.args.text.now in
    let made : cell_of c.in-Some.cluster.now c.from-width.result c.args.attrs.now ≡ cell_of c.in-Some.cluster.now (width_of c.in-Some.cluster.now) c.args.attrs.now =
    ap (λ n. cell_of c.in-Some.cluster.now n c.args.attrs.now) (c.from-width.ensures ∙ c.width.ensures) in
    let cell = cell_of c.in-Some.cluster.now c.from-width.result c.args.attrs.now in
    let count = count_cell c.in-Some.cluster.now c.from-width.result c.columns_for-count.result c.args.attrs.now (c.columns_for-count.ensures.value c.args.attrs.now) c.columns_for-count.ensures.some c.columns_for-count.ensures.most in
    (refl, stops_wide width_of c.args.attrs.now _ c.args.at c.args.end text c.in-Some.cluster.now c.in-Some.rest.now cell (joined_clusters text c.utf8.text) (omega arith) c.in-Some.ensures.clusters c.in-Some.ensures.alone made)

pub set_cell-requires-clause-within : goal.set_cell-requires-clause-within
set_cell-requires-clause-within g c =
    let count = count_cell c.in-Some.cluster.now c.from-width.result c.columns_for-count.result c.args.attrs.now (c.columns_for-count.ensures.value c.args.attrs.now) c.columns_for-count.ensures.some c.columns_for-count.ensures.most in
    let order = c.requires.order in
    let within = c.requires.within in
    omega (arith, count, order, within, c.if-end-at.false)

pub returns-clause-leads : goal.returns-clause-leads
returns-clause-leads g c =
    let width_of = g.W.Widths.width_of c.args.w.now in
    let text = c.args.text.now in
    let cell = cell_of c.in-Some.cluster.now c.from-width.result c.args.attrs.now in
    let row = c.args.self.now in
    let next = c.set_cell.new.self in
    let made : cell ≡ cell_of c.in-Some.cluster.now (width_of c.in-Some.cluster.now) c.args.attrs.now =
    ap (λ n. cell_of c.in-Some.cluster.now n c.args.attrs.now) (c.from-width.ensures ∙ c.width.ensures) in
    let count = count_cell c.in-Some.cluster.now c.from-width.result c.columns_for-count.result c.args.attrs.now (c.columns_for-count.ensures.value c.args.attrs.now) c.columns_for-count.ensures.some c.columns_for-count.ensures.most in
    let some : 1 ≤ c.columns_for-count.result = c.columns_for-count.ensures.some in (
      omega arith,
      subst (λ k. Leads width_of c.args.end c.args.attrs.now row c.args.at text next (c.args.at + k) c.in-Some.rest.now) count
          (leads_first width_of c.args.attrs.now row next c.args.at c.args.end text c.in-Some.cluster.now c.in-Some.rest.now cell c.requires.order c.requires.within (omega arith) c.in-Some.ensures.clusters c.in-Some.ensures.alone made
          c.in_ok-set_cell.ensures.done (rest_first text c.in-Some.cluster.now c.in-Some.rest.now (joined_clusters text c.utf8.text) c.in-Some.ensures.whole c.in-Some.ensures.clusters)),
    )
