use Rattle.std.proofs.Common.{◌∙◌, ap, drop, arith}
use Rattle.clustered_row.proofs.ItemLemmas.{removed_after}
use Rattle.clustered_row.proofs.items.move_down.Goals as goal

pub returns-then-from-to-eq1-clause-after : goal.returns-then-from-to-eq1-clause-after
returns-then-from-to-eq1-clause-after g c =
    ap (drop c.args.to) c.remove-removed.ensures.items
    ∙ removed_after c.args.items.now.items c.args.to c.args.from (omega (arith, c.args.items.now.ok.0)) (omega arith)
