use Rattle.std.proofs.Common.{◌∙◌, sym}
use Rattle.text_clusters.proofs.PlainLemmas.{prefix_less, prefix_all}
use Rattle.text_clusters.proofs.prefix.plain_len.Goals as goal

pub returns-then-is_other_at : goal.returns-then-is_other_at
returns-then-is_other_at c = c.saturating_sub.ensures ∙ prefix_less c.args.text.now c.args.most c.printable_run-run.result c.printable_run-run.ensures (sym c.is_other_at.ensures ∙ c.if-is_other_at.true)

pub returns-else-is_other_at : goal.returns-else-is_other_at
returns-else-is_other_at c = prefix_all c.args.text.now c.args.most c.printable_run-run.result c.printable_run-run.ensures (sym c.is_other_at.ensures ∙ c.if-is_other_at.false)
