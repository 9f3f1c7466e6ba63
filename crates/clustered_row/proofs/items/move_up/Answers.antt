use Rattle.std.proofs.Common.{◌≡◌, ◌∙◌, ap, drop, arith, rules, is_ok, true}
use Rattle.std.proofs.lemmas.Bool.{cond-true}
use Rattle.clustered_row.proofs.ItemLemmas.{inserted_after}
use Rattle.clustered_row.proofs.items.move_up.Goals as goal

pub returns-then-to-from-eq1-clause-after : goal.returns-then-to-from-eq1-clause-after
returns-then-to-from-eq1-clause-after g c =
    let ok : is_ok c.insert-inserted.result ≡ true = search rules in
    ap (drop c.args.to) (c.insert-inserted.ensures.items ∙ cond-true (is_ok c.insert-inserted.result) _ _ ok)
    ∙ inserted_after c.args.items.now.items c.args.filler c.args.from c.args.to (omega (arith, c.args.items.now.ok.0)) (omega arith)
