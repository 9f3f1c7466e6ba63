use Rattle.std.proofs.Common.{◌∙◌, ◌++◌, ◌∷◌, [], List, ap, sym, append_assoc, arith}
use Rattle.cell_base.specs.CellContent.{CellContent, row_of_cells}
use Rattle.cell_base.specs.Row.{Row}
use Rattle.cell_edits.specs.CellList.{ends_split}
use Rattle.cell_edits.proofs.CellLemmas.{wide_is, narrow_is, row_wide, split_wide, row_joined, split_joined}
use Rattle.cell_edits.proofs.CutLemmas.{row_narrow_any, columns_wide, columns_narrow}
use Rattle.cell_edits.proofs.row.push_cell.Goals as goal

pub returns-in_ok-push-2-clause-whole : goal.returns-in_ok-push-2-clause-whole
returns-in_ok-push-2-clause-whole c =
    let cells = c.args.cells.now.items in
    let b = c.blank.result in
    ap ends_split (c.in_ok-push-2.ensures.items ∙ ap (λ (l : List CellContent). l ++ b ∷ []) c.in_ok-push.ensures.items ∙ append_assoc cells (c.args.cell ∷ []) (b ∷ []))
    ∙ split_joined cells (c.args.cell ∷ b ∷ []) c.requires ∙ split_wide c.args.cell b [] (wide_is c.args.cell.width (omega arith))

pub returns-in_ok-push-2-clause-row : goal.returns-in_ok-push-2-clause-row
returns-in_ok-push-2-clause-row c =
    let cells = c.args.cells.now.items in
    let b = c.blank.result in
    let wide = wide_is c.args.cell.width (omega arith) in
    ap row_of_cells (c.in_ok-push-2.ensures.items ∙ ap (λ (l : List CellContent). l ++ b ∷ []) c.in_ok-push.ensures.items ∙ append_assoc cells (c.args.cell ∷ []) (b ∷ []))
    ∙ row_joined cells (c.args.cell ∷ b ∷ []) c.requires ∙ ap (λ (r : Row). row_of_cells cells ++ r) (row_wide c.args.cell b [] wide ∙ sym (columns_wide c.args.cell wide))

pub returns-else-is_wide-clause-whole : goal.returns-else-is_wide-clause-whole
returns-else-is_wide-clause-whole c =
    ap ends_split c.in_ok-push.ensures.items ∙ split_joined c.args.cells.now.items (c.args.cell ∷ []) c.requires ∙ narrow_is c.args.cell.width (omega arith)

pub returns-else-is_wide-clause-row : goal.returns-else-is_wide-clause-row
returns-else-is_wide-clause-row c =
    let cells = c.args.cells.now.items in
    let narrow = narrow_is c.args.cell.width (omega arith) in
    ap row_of_cells c.in_ok-push.ensures.items ∙ row_joined cells (c.args.cell ∷ []) c.requires
    ∙ ap (λ (r : Row). row_of_cells cells ++ r) (row_narrow_any c.args.cell [] narrow ∙ sym (columns_narrow c.args.cell narrow))
