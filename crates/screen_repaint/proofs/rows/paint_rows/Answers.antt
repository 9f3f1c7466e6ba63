use Rattle.std.proofs.Common.{rules, ◌≡◌, ◌-◌, ◌≤◌, Bool, true, List, ◌∷◌, length, ap, subst, sym, ◌∙◌, arith}
use Rattle.std.specs.Option.{option_map}
use Rattle.cell_base.specs.CellContent.{CellContent}
use Rattle.screen_change.specs.CellRuns.{background_at_end}
use Rattle.screen_change.specs.Written.{Written}
use Rattle.cell_line.specs.LineContent.{LineContent}
use Rattle.screen_repaint.specs.Ends.{End, end_of}
use Rattle.screen_repaint.specs.PaintedRows.{IsTail, LeadsOn, rest_of, moves, rows_of, with_changes}
use Rattle.screen_repaint.specs.Repaint.{are_some, go_with_blanks, row_cells, row_painted, rows_painted}
use Rattle.screen_repaint.proofs.EndLemmas.{ends}
use Rattle.screen_repaint.proofs.PaintLemmas.{background_now, painted_step, skipped_step, fewer_left, tail_left}
use Rattle.screen_repaint.proofs.rows.paint_rows.Goals.{then-is_painted+in_ok-write_moves+in_ok-write_row, else-is_painted}
use Rattle.screen_repaint.proofs.rows.paint_rows.Goals as goal

pub loop-line-preserved : goal.loop-line-preserved
loop-line-preserved c =
    let line : LineContent = c.in-Some.line.now in
    let below : List LineContent = c.in-Some.below.now in
    let cells : List CellContent = row_cells line.columns in
    let was : c.loop-line.left.now ≡ line ∷ below = search rules in
    let whole : Written = with_changes (rows_painted c.args.writer.now.pen (rows_of c.args.lines.now)) c.args.writer.now in
    let some : Bool = are_some (rows_painted c.args.writer.now.pen (rows_of c.args.lines.now)) in
    let leads : LeadsOn whole some c.loop-line.writer c.loop-line.painted (c.loop-line.at - length (line ∷ below)) (rows_of (line ∷ below)) =
    subst (λ (rows : List LineContent). LeadsOn whole some c.loop-line.writer c.loop-line.painted (c.loop-line.at - length rows) (rows_of rows)) was c.loop-line.invariant.0 in
    let long : length (line ∷ below) ≤ c.loop-line.at = subst (λ (rows : List LineContent). length rows ≤ c.loop-line.at) was c.loop-line.invariant.1 in
    let tail = subst (λ (rows : List LineContent). IsTail c.blank_tail-tail.result.0 (option_map (λ a. a.now) c.blank_tail-tail.result.1) (rows_of rows)) was c.loop-line.invariant.2 in
    let blanks : option_map (λ a. a.now) c.blanks.result ≡ (end_of cells).blanks = c.blanks.ensures ∙ ap (λ (x : End). x.blanks) c.row_end-end.ensures in
    let too : c.go_with-below_too.result ≡ go_with_blanks (background_at_end cells) (rows_of below) =
    c.go_with-below_too.ensures tail.1 (λ a e. (ends cells).plain a (sym blanks ∙ e))
    ∙ ap (λ o. go_with_blanks o (rows_of below)) (background_now c.blanks.result (end_of cells).blanks blanks ∙ sym (ends cells).background) in
    let rest : c.rest_of-left.result.now ≡ rest_of c.go_with-below_too.result below = c.rest_of-left.ensures in
    let fewer = fewer_left whole c.loop-line.writer some c.loop-line.painted line below c.rest_of-left.result.now c.loop-line.at c.go_with-below_too.result leads too rest in
    let painted : c.is_painted.result ≡ are_some (row_painted c.loop-line.writer.pen cells (go_with_blanks (background_at_end cells) (rows_of below))) =
    c.is_painted.ensures c.loop-line.writer.pen cells (rows_of below) c.row_end-end.ensures in
    let left_tail = tail_left whole c.loop-line.writer some c.loop-line.painted line below c.rest_of-left.result.now c.loop-line.at c.go_with-below_too.result leads too rest c.blank_tail-tail.result.0 (option_map (λ a. a.now) c.blank_tail-tail.result.1) tail.1 in
    elim c.if-is_painted.branch [
      | then-is_painted+in_ok-write_moves+in_ok-write_row w ↦
          let left_len : c.loop-line.left.now ≡ line ∷ below = was in
          let moved : w.write_moves.new.writer ≡ with_changes (moves (c.loop-line.at - length (line ∷ below))) c.loop-line.writer =
          w.in_ok-write_moves.ensures ∙ ap (λ (rows : List LineContent). with_changes (moves (c.loop-line.at - length rows)) c.loop-line.writer) was in
          let step : LeadsOn whole some w.write_row.new.writer true (length (line ∷ below) - length c.rest_of-left.result.now) (rows_of c.rest_of-left.result.now) =
          painted_step whole c.loop-line.writer some c.loop-line.painted line below c.rest_of-left.result.now c.loop-line.at c.go_with-below_too.result leads too rest w.write_moves.new.writer w.write_row.new.writer moved w.in_ok-write_row.ensures (sym painted ∙ w.if-is_painted.true) in
          let at : c.if-is_painted.at ≡ length (line ∷ below) = w.at-is ∙ ap length was in
          let whole_step : LeadsOn whole some c.if-is_painted.writer c.if-is_painted.painted (c.if-is_painted.at - length c.rest_of-left.result.now) (rows_of c.rest_of-left.result.now) =
          subst (λ n. LeadsOn whole some c.if-is_painted.writer c.if-is_painted.painted (n - length c.rest_of-left.result.now) (rows_of c.rest_of-left.result.now)) (sym at)
          (subst (λ b. LeadsOn whole some c.if-is_painted.writer b (length (line ∷ below) - length c.rest_of-left.result.now) (rows_of c.rest_of-left.result.now)) (sym w.painted-is)
          (subst (λ v. LeadsOn whole some v true (length (line ∷ below) - length c.rest_of-left.result.now) (rows_of c.rest_of-left.result.now)) (sym w.writer-is) step)) in
          (whole_step, omega (arith, fewer, at), left_tail)
      | else-is_painted w ↦
          let step : LeadsOn whole some c.loop-line.writer c.loop-line.painted (c.loop-line.at - length c.rest_of-left.result.now) (rows_of c.rest_of-left.result.now) =
          skipped_step whole c.loop-line.writer some c.loop-line.painted line below c.rest_of-left.result.now c.loop-line.at c.go_with-below_too.result leads too rest long (sym painted ∙ w.if-is_painted.false) in
          let whole_step : LeadsOn whole some c.if-is_painted.writer c.if-is_painted.painted (c.if-is_painted.at - length c.rest_of-left.result.now) (rows_of c.rest_of-left.result.now) =
          subst (λ n. LeadsOn whole some c.if-is_painted.writer c.if-is_painted.painted (n - length c.rest_of-left.result.now) (rows_of c.rest_of-left.result.now)) (sym w.at-is)
          (subst (λ b. LeadsOn whole some c.if-is_painted.writer b (c.loop-line.at - length c.rest_of-left.result.now) (rows_of c.rest_of-left.result.now)) (sym w.painted-is)
          (subst (λ v. LeadsOn whole some v c.loop-line.painted (c.loop-line.at - length c.rest_of-left.result.now) (rows_of c.rest_of-left.result.now)) (sym w.writer-is) step)) in
          (whole_step, omega (arith, fewer, long, w.at-is), left_tail)
    ]
