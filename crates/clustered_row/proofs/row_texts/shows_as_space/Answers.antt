use Rattle.std.proofs.Common.{◌∙◌, ap}
use Rattle.std.specs.Prelude.{◌==◌}
use Rattle.cell_base.specs.Attributes.{plain}
use Rattle.clustered_row.proofs.SetLemmas.{two_or_space}
use Rattle.clustered_row.proofs.row_texts.shows_as_space.Goals as goal

pub returns : goal.returns
returns c = ap (λ n. n == 1) (c.columns_for.ensures.value plain) ∙ two_or_space c.args.text.now
