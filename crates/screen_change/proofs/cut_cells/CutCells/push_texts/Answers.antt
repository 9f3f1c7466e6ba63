use Rattle.std.proofs.Common.{◌∙◌, ap, sym, map, rules}
use Rattle.std.proofs.lemmas.List.{map-append}
use Rattle.screen_change.specs.CutView.{cells_of}
use Rattle.screen_change.specs.ValueOf.{value_of}
use Rattle.screen_change.proofs.StepLemmas.{nothing_written, one_written, each_written}
use Rattle.screen_change.proofs.cut_cells.CutCells.push_texts.Goals as goal

pub returns-then-is_empty-clause-changes : goal.returns-then-is_empty-clause-changes
returns-then-is_empty-clause-changes c = nothing_written (map value_of c.args.changes.now.items) (cells_of c.args.self.now) (search rules)

pub returns-then-stay_independent-clause-changes : goal.returns-then-stay_independent-clause-changes
returns-then-stay_independent-clause-changes c =
    one_written (map value_of c.args.changes.now.items) (map value_of c.push.new.self.items) _ (cells_of c.args.self.now) (search rules) (sym c.if-stay_independent.ensures) c.take_text.ensures.text
    (ap (map value_of) c.in_ok-push.ensures.items ∙ map-append value_of c.args.changes.now.items _)

pub returns-clause-changes : goal.returns-clause-changes
returns-clause-changes c = each_written (map value_of c.args.changes.now.items) _ (cells_of c.args.self.now) (sym c.if-stay_independent.ensures) c.in_ok-push_each.ensures
