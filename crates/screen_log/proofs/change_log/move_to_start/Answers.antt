use Rattle.std.proofs.Common.{◌≡◌, ◌++◌, ◌-◌, length, take, drop, ap, subst, sym, ◌∙◌, arith, length-append, length-drop}
use Rattle.std.specs.List.{All}
use Rattle.std.proofs.lemmas.List.{take-append-le, take_all}
use Rattle.screen_log.specs.LogView.{OwnsNothing}
use Rattle.screen_log.proofs.DroppedLemmas.{moved_own_nothing}
use Rattle.screen_log.proofs.change_log.move_to_start.Goals as goal

pub returns-clause-prefix : goal.returns-clause-prefix
returns-clause-prefix c =
    let prefix = c.split_at_mut-prefix.result.0.now in
    let after = c.split_at_mut-prefix.result.1.now in
    let new = c.swap_changes.new.prefix in
    let count = length after in
    let short = c.requires.short in
    let within = c.requires.within in
    let prefix_len = c.split_at_mut-prefix.ensures.front_len in
    let left = ap length c.split_at_mut-prefix.ensures.back ∙ length-drop c.args.start c.args.changes.now in
    let many : length c.args.changes.now - c.args.start ≡ count = omega arith in
    let len : length new ≡ count = ap length c.swap_changes.ensures.prefix in
    let joined = length-append new (drop count prefix) in
    ap (λ n. take n ((new ++ drop count prefix) ++ c.swap_changes.new.after)) many
    ∙ take-append-le count (new ++ drop count prefix) c.swap_changes.new.after (omega arith)
    ∙ take-append-le count new (drop count prefix) (omega arith)
    ∙ take_all count new (omega arith)
    ∙ c.swap_changes.ensures.prefix
    ∙ c.split_at_mut-prefix.ensures.back

pub returns-clause-dropped : goal.returns-clause-dropped
returns-clause-dropped c =
    let prefix = c.split_at_mut-prefix.result.0.now in
    let after = c.split_at_mut-prefix.result.1.now in
    let new = c.swap_changes.new.prefix in
    let count = length after in
    let within = c.requires.within in
    let left = ap length c.split_at_mut-prefix.ensures.back ∙ length-drop c.args.start c.args.changes.now in
    let many : length c.args.changes.now - c.args.start ≡ count = omega arith in
    subst (λ n. All OwnsNothing (drop n ((new ++ drop count prefix) ++ c.swap_changes.new.after))) (sym many)
    (moved_own_nothing prefix new c.swap_changes.new.after count (ap length c.swap_changes.ensures.prefix) (subst (All OwnsNothing) (sym c.split_at_mut-prefix.ensures.front) c.requires.dropped) c.swap_changes.ensures.after)
