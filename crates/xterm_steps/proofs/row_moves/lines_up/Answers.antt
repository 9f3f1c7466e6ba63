use Rattle.std.proofs.Common.{◌≡◌, ◌++◌, [], map, length, ap, ◌∙◌, take, drop, replicate, ◌+◌, ◌-◌, List, arith}
use Rattle.std.specs.Prelude.{min}
use Rattle.std.proofs.lemmas.List.{take_rest}
use Rattle.cell_line.specs.LineContent.{LineContent}
use Rattle.xterm_steps.proofs.MoveLemmas.{up_less, up_parts}
use Rattle.xterm_steps.proofs.row_moves.lines_up.Goals as goal

pub returns : goal.returns
returns c =
    let lines : List LineContent = c.args.lines.now in
    let gone = min c.args.count c.args.size in
    let is : c.min-gone.result ≡ gone = c.min-gone.ensures in
    let at = c.args.first + c.args.size in
    let rest : List LineContent = take (length lines - at) (drop at lines) in
    let none : map (λ line. line.now) c.new-news.result.items ≡ [] = ap (map (λ line. line.now)) c.new-news.ensures.items in
    c.in_ok-push_lines-3.ensures
    ∙ ap (λ (before : List LineContent). before ++ rest)
    (c.in_ok-push_copies.ensures ∙ ap (λ (before : List LineContent). before ++ replicate c.min-gone.result c.args.blank.now)
    (c.in_ok-push_lines-2.ensures ∙ ap (λ (before : List LineContent). before ++ take (at - (c.args.first + c.min-gone.result)) (drop (c.args.first + c.min-gone.result) lines))
    (c.in_ok-push_lines.ensures ∙ ap (λ (before : List LineContent). before ++ take c.args.first lines) none)))
    ∙ (λ i. take c.args.first lines ++ take (at - (c.args.first + is i)) (drop (c.args.first + is i) lines) ++ replicate (is i) c.args.blank.now ++ take_rest lines at i)
    ∙ up_parts c.args.blank.now gone c.args.first c.args.size lines c.requires (omega arith)
    ∙ up_less c.args.blank.now c.args.count c.args.first c.args.size lines c.requires
