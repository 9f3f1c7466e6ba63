use Rattle.std.proofs.Common.{◌≡◌, ◌∙◌, ◌+◌, ◌∷◌, ◌++◌, [], ap, take, drop, inl, inr, arith}
use Rattle.std.specs.Global.{Vec}
use Rattle.cell_base.specs.declared.cell.Cell.{Cell}
use Rattle.cell_base.specs.Attributes.{plain}
use Rattle.cell_base.specs.CellContent.{CellContent, blank_cell}
use Rattle.cell_edits.specs.CellList.{blank_for}
use Rattle.cell_edits.proofs.CellLemmas.{get_or-default}
use Rattle.cell_edits.proofs.CutLemmas.{split_before, split_after}
use Rattle.cell_edits.proofs.row.split_cell.Goals as goal
use Rattle.cell_edits.proofs.row.split_cell.Goals.{then-at-len+in_ok-try_clone-2, else-at-len}

pub returns-clause-before : goal.returns-clause-before
returns-clause-before c =
    let cells = c.args.cells.now.items in
    let same = get_or-default cells c.args.at c.index.result.now (blank_cell plain) (omega arith) in
    let left : c.blank_with_attrs-left.result ≡ blank_for cells c.args.at =
    c.blank_with_attrs-left.ensures ∙ ap blank_cell (c.in_ok-try_clone.ensures.copy ∙ c.attrs.ensures ∙ ap (λ (x : CellContent). x.attributes) (c.index.ensures ∙ same)) in
    elim c.if-at-len.branch [
      | then-at-len+in_ok-try_clone-2 w ↦
          ap (take (c.args.at + 1)) c.put-2.ensures
          ∙ split_before cells c.if-at-len.cells.items c.args.at c.blank_with_attrs-left.result w.blank_with_attrs-right.result (omega arith) (inl (ap (λ (v : Vec Cell). v.items) w.cells-is ∙ w.put.ensures))
          ∙ ap (λ (x : CellContent). take c.args.at cells ++ x ∷ []) left
      | else-at-len w ↦
          ap (take (c.args.at + 1)) c.put-2.ensures
          ∙ split_before cells c.if-at-len.cells.items c.args.at c.blank_with_attrs-left.result c.blank_with_attrs-left.result (omega arith) (inr (ap (λ (v : Vec Cell). v.items) w.cells-is))
          ∙ ap (λ (x : CellContent). take c.args.at cells ++ x ∷ []) left
    ]

pub returns-clause-after : goal.returns-clause-after
returns-clause-after c inside =
    let cells = c.args.cells.now.items in
    elim c.if-at-len.branch [
      | then-at-len+in_ok-try_clone-2 w ↦
          let same = get_or-default cells c.args.at w.index-then-at-len.result.now (blank_cell plain) (omega arith) in
          ap (drop (c.args.at + 1)) c.put-2.ensures
          ∙ split_after cells c.if-at-len.cells.items c.args.at c.blank_with_attrs-left.result w.blank_with_attrs-right.result (omega arith) (ap (λ (v : Vec Cell). v.items) w.cells-is ∙ w.put.ensures)
          ∙ ap (λ (x : CellContent). x ∷ drop (c.args.at + 2) cells)
          (w.blank_with_attrs-right.ensures ∙ ap blank_cell (w.in_ok-try_clone-2.ensures.copy ∙ w.attrs-then-at-len.ensures ∙ ap (λ (x : CellContent). x.attributes) (w.index-then-at-len.ensures ∙ same)))
      | else-at-len w ↦ absurd (omega arith)
    ]
