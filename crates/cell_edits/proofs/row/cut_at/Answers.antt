use Rattle.std.proofs.Common.{◌≡◌, ◌∙◌, ◌-◌, ap, sym, take, zero, true, arith}
use Rattle.cell_edits.specs.CellList.{ends_split}
use Rattle.cell_edits.proofs.CellLemmas.{before_clean, after_clean}
use Rattle.cell_edits.proofs.CutLemmas.{cut_before, cut_after, cut_is_whole, cut_earlier}
use Rattle.cell_edits.proofs.row.cut_at.Goals as goal
use Rattle.cell_edits.proofs.row.cut_at.Goals.{else-at-gt0-via-then-at-gt0+else-is_split, else-at-gt0-via-else-at-gt0}

pub returns-in_ok-split_cell-clause-whole : goal.returns-in_ok-split_cell-clause-whole
returns-in_ok-split_cell-clause-whole c =
    let cells = c.args.cells.now.items in
    let was_split : ends_split (take c.args.at cells) ≡ true = ap (λ xs. ends_split (take c.args.at xs)) (sym c.deref.ensures.value) ∙ sym c.is_split.ensures ∙ c.if-is_split.true in
    cut_is_whole cells c.split_cell.new.cells.items (c.args.at - 1) c.args.at (omega arith) was_split (omega arith) c.in_ok-split_cell.ensures.before

pub returns-in_ok-split_cell-clause-before : goal.returns-in_ok-split_cell-clause-before
returns-in_ok-split_cell-clause-before c =
    let cells = c.args.cells.now.items in
    let was_split : ends_split (take c.args.at cells) ≡ true = ap (λ xs. ends_split (take c.args.at xs)) (sym c.deref.ensures.value) ∙ sym c.is_split.ensures ∙ c.if-is_split.true in
    cut_before cells c.split_cell.new.cells.items (c.args.at - 1) c.args.at (omega arith) was_split (omega arith) c.in_ok-split_cell.ensures.before

pub returns-in_ok-split_cell-clause-after : goal.returns-in_ok-split_cell-clause-after
returns-in_ok-split_cell-clause-after c =
    let cells = c.args.cells.now.items in
    let was_split : ends_split (take c.args.at cells) ≡ true = ap (λ xs. ends_split (take c.args.at xs)) (sym c.deref.ensures.value) ∙ sym c.is_split.ensures ∙ c.if-is_split.true in
    cut_after cells c.split_cell.new.cells.items (c.args.at - 1) c.args.at (omega arith) was_split (omega arith) (omega arith)
    (λ l. c.in_ok-split_cell.ensures.after (omega arith))

pub returns-in_ok-split_cell-clause-earlier : goal.returns-in_ok-split_cell-clause-earlier
returns-in_ok-split_cell-clause-earlier c = cut_earlier c.args.cells.now.items c.split_cell.new.cells.items (c.args.at - 1) _ (omega arith) c.in_ok-split_cell.ensures.before

pub returns-else-at-gt0-clause-before : goal.returns-else-at-gt0-clause-before
returns-else-at-gt0-clause-before c =
    let cells = c.args.cells.now.items in
    elim c.else-at-gt0.branch [
      | else-at-gt0-via-then-at-gt0+else-is_split w ↦ before_clean cells c.args.at (ap (λ xs. ends_split (take c.args.at xs)) (sym w.deref.ensures.value) ∙ sym w.is_split.ensures ∙ w.if-is_split.false)
      | else-at-gt0-via-else-at-gt0 w ↦ let none : c.args.at ≡ zero = omega arith in before_clean cells c.args.at (ap (λ n. ends_split (take n cells)) none)
    ]

pub returns-else-at-gt0-clause-after : goal.returns-else-at-gt0-clause-after
returns-else-at-gt0-clause-after c =
    let cells = c.args.cells.now.items in
    elim c.else-at-gt0.branch [
      | else-at-gt0-via-then-at-gt0+else-is_split w ↦ after_clean cells c.args.at (ap (λ xs. ends_split (take c.args.at xs)) (sym w.deref.ensures.value) ∙ sym w.is_split.ensures ∙ w.if-is_split.false)
      | else-at-gt0-via-else-at-gt0 w ↦ let none : c.args.at ≡ zero = omega arith in after_clean cells c.args.at (ap (λ n. ends_split (take n cells)) none)
    ]
