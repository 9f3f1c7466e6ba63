use Rattle.std.proofs.Common.{◌≡◌, ◌-◌, ◌∙◌, List, length, ap, subst, arith}
use Rattle.std.specs.Prelude.{min, OnOk}
use Rattle.cell_base.specs.Row.{Row}
use Rattle.cell_edits.specs.VisibleCells.{VisibleCell}
use Rattle.screen_difference.specs.Drawing.{with_all}
use Rattle.screen_difference.specs.FreshCells.{placed}
use Rattle.screen_difference.specs.ShownCells.{columns_fresh}
use Rattle.screen_difference.proofs.rows.write_row.Goals as goal

pub returns-in-Some : goal.returns-in-Some
returns-in-Some c =
    let old : Row = c.args.old.now.columns in
    let new : Row = c.args.new.now.columns in
    let is : c.min-count.result ≡ min (min c.args.width (length old - c.args.x)) (length new - c.args.other_x) = let h = c.len.ensures.value in let g = c.len-2.ensures.value in let a = c.min.ensures in let b = c.saturating_sub.ensures in let d = c.saturating_sub-2.ensures in let e = c.min-count.ensures in omega arith in
    subst (λ (cells : List VisibleCell). OnOk c.write_columns.result (c.write_columns.new.writer ≡ with_all c.args.writer.now (placed c.args.row cells)))
    (c.in-Some.ensures.fresh ∙ ap (λ n. columns_fresh c.args.x c.args.other_x n old new) is) c.write_columns.ensures

pub returns : goal.returns
returns c =
    let old : Row = c.args.old.now.columns in
    let new : Row = c.args.new.now.columns in
    let is : c.min-count.result ≡ min (min c.args.width (length old - c.args.x)) (length new - c.args.other_x) = let h = c.len.ensures.value in let g = c.len-2.ensures.value in let a = c.min.ensures in let b = c.saturating_sub.ensures in let d = c.saturating_sub-2.ensures in let e = c.min-count.ensures in omega arith in
    subst (λ (cells : List VisibleCell). OnOk c.write_columns-2.result (c.write_columns-2.new.writer ≡ with_all c.args.writer.now (placed c.args.row cells)))
    (ap (λ n. columns_fresh c.args.x c.args.other_x n old new) is) c.write_columns-2.ensures
