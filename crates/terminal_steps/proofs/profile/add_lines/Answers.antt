use Rattle.std.proofs.Common.{◌≡◌, ◌≤◌, ◌+◌, ◌-◌, ◌++◌, ◌∷◌, [], List, length, replicate, ap, ◌∙◌, append_assoc, arith}
use Rattle.std.proofs.lemmas.List.{map-append}
use Rattle.cell_base.specs.Row.{Row, plain_row}
use Rattle.cell_line.specs.LineContent.{LineContent}
use Rattle.screen_difference.specs.FreshCells.{rows_of}
use Rattle.terminal_steps.proofs.LineLemmas.{blanks_more}
use Rattle.terminal_steps.proofs.profile.add_lines.Goals as goal

pub loop-preserved : goal.loop-preserved
loop-preserved c =
    let init : List Row = rows_of c.args.lines.now.items in
    let count = length c.args.lines.now.items in
    let blank : Row = plain_row c.args.width in
    let first = c.len-counter.ensures in
    let past = c.loop.auto.counter in
    let next : c.loop.counter - count + 1 ≡ c.loop.counter + 1 - count = omega (arith, first, past) in
    ap rows_of c.in_ok-push.ensures.items
    ∙ map-append (λ (line : LineContent). line.columns) c.loop.lines.items (c.with_width_clustered.result ∷ [])
    ∙ (λ i. c.loop.invariant i ++ ap (λ (line : LineContent). line.columns) c.with_width_clustered.ensures i ∷ [])
    ∙ append_assoc init (replicate (c.loop.counter - count) blank) (blank ∷ [])
    ∙ ap (λ (rows : List Row). init ++ rows) (blanks_more (c.loop.counter - count) blank ∙ ap (λ n. replicate n blank) next)

pub returns : goal.returns
returns c =
    let first = c.len-counter.ensures in
    let within = c.requires in
    let begins : c.len-counter.result ≤ c.args.count = omega (arith, first, within) in
    let ends = c.loop.auto.counter-end begins in
    let over = c.loop-test.false in
    let same : c.loop.counter - length c.args.lines.now.items ≡ c.args.count - length c.args.lines.now.items = omega (arith, ends, over) in
    c.loop.invariant ∙ ap (λ n. rows_of c.args.lines.now.items ++ replicate n (plain_row c.args.width)) same
