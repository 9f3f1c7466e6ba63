use Rattle.std.proofs.Common.{◌∙◌, ap, sym}
use Rattle.text_clusters.specs.Independent.{begins_independent}
use Rattle.text_clusters.proofs.IndependentLemmas.{independent_run_boundary, independent_run_whole, independent_run_less}
use Rattle.text_clusters.proofs.prefix.independent_len.Goals as goal

pub split_at-requires : goal.split_at-requires
split_at-requires c = independent_run_boundary c.args.text.now c.args.most c.printable_run-run.result c.printable_run-run.ensures c.utf8.text

pub returns-then-begins_independent : goal.returns-then-begins_independent
returns-then-begins_independent c =
    independent_run_whole c.args.text.now c.args.most c.printable_run-run.result c.printable_run-run.ensures
    (ap begins_independent (sym c.split_at.ensures.back) ∙ sym c.begins_independent.ensures ∙ c.if-begins_independent.true)

pub returns-else-begins_independent : goal.returns-else-begins_independent
returns-else-begins_independent c =
    c.saturating_sub.ensures ∙ independent_run_less c.args.text.now c.args.most c.printable_run-run.result c.printable_run-run.ensures
    (ap begins_independent (sym c.split_at.ensures.back) ∙ sym c.begins_independent.ensures ∙ c.if-begins_independent.false)
