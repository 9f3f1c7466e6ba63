use Rattle.std.proofs.Common.{◌≡◌, false, ◌<◌, ◌-◌, ◌++◌, List, length, take, map, replicate, sym, ap, ◌∙◌, arith}
use Rattle.std.specs.Prelude.{◌==◌}
use Rattle.std.proofs.lemmas.Bool.Decides.{nat_tests}
use Rattle.cell_base.specs.Row.{plain_row}
use Rattle.cell_line.specs.LineCalls.{resize}
use Rattle.cell_line.specs.LineContent.{LineContent}
use Rattle.screen_difference.specs.FreshCells.{rows_of}
use Rattle.terminal_steps.proofs.LineLemmas.{lines_resized}
use Rattle.terminal_steps.proofs.profile.resize_lines.Goals as goal

pub returns : goal.returns
returns c = λ whole.
    let lines : List LineContent = c.args.lines.now.items in
    let empty : (length lines == 0) ≡ false = ap (λ n. n == 0) (sym c.args.lines.now.ok.0) ∙ sym c.if-is_empty.ensures in
    let some : 0 < length lines = grind (arith, nat_tests) in
    let is : c.in_ok-resized.resized.items ≡ map (λ line. resize line c.args.width 0) (take c.args.height lines) =
    c.in_ok-resized.ensures ∙ ap (map (λ (line : LineContent). resize line c.args.width 0)) (c.deref.ensures.value ∙ c.truncate.ensures.items) in
    c.in_ok-add_lines.ensures
    ∙ (λ i. rows_of (is i) ++ replicate (c.args.height - length (is i)) (plain_row c.args.width))
    ∙ lines_resized c.args.width c.args.height lines some whole
