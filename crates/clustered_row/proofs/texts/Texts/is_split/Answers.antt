use Rattle.clustered_row.specs.TextsShown.{faces}
use Rattle.clustered_row.proofs.AskedLemmas.{lent_starts}
use Rattle.clustered_row.proofs.texts.Texts.is_split.Goals as goal

pub returns : goal.returns
returns c = lent_starts (faces c.args.self.now) c.args.at c.cell_at.result c.is_none.result c.requires c.cell_at.ensures c.is_none.ensures
