use Rattle.std.proofs.Common.{◌∙◌, sym, take, ap}
use Rattle.std.proofs.lemmas.List.{take-take}
use Rattle.clustered_row.proofs.items.move_rest.Goals as goal

pub returns-then-from-to-2-clause-before : goal.returns-then-from-to-2-clause-before
returns-then-from-to-2-clause-before g c k h l =
    sym (take-take k c.args.from c.move_up.new.items.items h) ∙ ap (take k) c.move_up.ensures.before ∙ take-take k c.args.from c.args.items.now.items h

pub returns-clause-before : goal.returns-clause-before
returns-clause-before g c k h l =
    sym (take-take k c.args.to c.move_down.new.items.items l) ∙ ap (take k) c.move_down.ensures.before ∙ take-take k c.args.to c.args.items.now.items l
