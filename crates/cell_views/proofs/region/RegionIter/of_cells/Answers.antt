use Rattle.std.proofs.Common.{◌≡◌, ◌<◌, ◌∙◌, ◌∷◌, true, ap, sym, take, arith}
use Rattle.std.proofs.lemmas.Bool.{false≢true, ltb-true, ltb-false}
use Rattle.std.specs.Prelude.{nat_lt}
use Rattle.cell_base.specs.CellContent.{CellContent}
use Rattle.cell_base.specs.Row.{space}
use Rattle.cell_edits.specs.CellList.{ends_split}
use Rattle.cell_edits.specs.VisibleCells.{visible_at}
use Rattle.cell_edits.proofs.CellLemmas.{by_test}
use Rattle.cell_views.proofs.RegionLemmas.{region_clean, region_none, region_split}
use Rattle.cell_views.proofs.region.RegionIter.of_cells.Goals as goal
use Rattle.cell_views.proofs.region.RegionIter.of_cells.Goals.{else-start-end-via-then-start-end+else-is_split}
use Rattle.cell_views.proofs.region.RegionIter.of_cells.Goals.{else-start-end-via-else-start-end}

pub returns-then-is_split : goal.returns-then-is_split
returns-then-is_split c =
    let cells = c.args.cells.now in
    let start = c.args.start in
    let was_split : ends_split (take start cells) ≡ true = sym c.is_split.ensures ∙ c.if-is_split.true in
    let some : 0 < start = by_test (nat_lt 0 start)
    (λ t. ltb-true 0 start t)
    (λ t.
    let no_more = ltb-false 0 start t in
    let zero : start ≡ 0 = omega arith in
    absurd (false≢true (sym (ap (λ n. ends_split (take n cells)) zero) ∙ was_split))) in
    let attributes = c.attrs.ensures ∙ ap (λ (x : CellContent). x.attributes) c.index-cells-start.is in
    (λ i. visible_at start space 1 (attributes i) ∷ c.from_column.ensures i)
    ∙ region_split cells start c.args.end c.index-cells-start.result some (omega arith) c.requires.within was_split

pub returns : goal.returns
returns c =
    let cells = c.args.cells.now in
    c.from_column-2.ensures
    ∙ elim c.else-start-end.branch [
      | else-start-end-via-then-start-end+else-is_split w ↦
          region_clean cells c.args.start c.args.end (sym w.is_split.ensures ∙ w.if-is_split.false)
      | else-start-end-via-else-start-end w ↦ region_none cells c.args.start c.args.end (omega arith)
    ]
