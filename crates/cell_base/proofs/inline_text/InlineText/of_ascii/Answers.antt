use Rattle.std.proofs.Common.{arith}
use Rattle.std.proofs.lemmas.Grind.{merely}
use Rattle.cell_base.proofs.PlainClusters.{ascii_text}
use Rattle.cell_base.proofs.inline_text.InlineText.of_ascii.Goals as goal

pub invariant_of-result : goal.invariant_of-result
invariant_of-result c = record { fits = omega arith; text = merely (ascii_text c.args.byte c.requires) }
