use Rattle.std.proofs.Common.{◌≡◌, ◌-◌, ◌<◌, ◌++◌, ◌∷◌, [], List, drop, length, set, ◌∙◌, ap, arith, sym, subst, length-set}
use Rattle.cell_line.specs.LineCalls.{with_width_clustered}
use Rattle.cell_line.specs.LineContent.{LineContent}
use Rattle.screen_grid.proofs.LineLemmas.{scrolled_lines, after_first}
use Rattle.screen_grid.proofs.rows.scroll.Goals as goal

pub returns : goal.returns
returns c =
    let now = c.args.rows.now in
    let freed = set now 0 c.reset.new.line in
    let last : c.len-last.result - 1 ≡ length c.turn.new.self - 1 = let m = c.len-last.ensures in omega arith in
    let some : 0 < length freed = subst (λ n. 0 < n) (sym (length-set now 0 c.reset.new.line)) c.requires in
    scrolled_lines freed c.turn.new.self c.reset-2.new.line _ some last c.turn.ensures.len c.turn.ensures.prefix
    ∙ ap (λ (line : LineContent). drop 1 freed ++ line ∷ []) c.reset-2.ensures
    ∙ ap (λ (lines : List LineContent). lines ++ with_width_clustered c.args.width 0 ∷ []) (after_first now c.reset.new.line)
