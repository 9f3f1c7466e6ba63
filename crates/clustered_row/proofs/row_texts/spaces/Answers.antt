use Rattle.std.proofs.Common.{◌∙◌}
use Rattle.std.proofs.lemmas.List.{take-replicate}
use Rattle.clustered_row.proofs.SetLemmas.{spaces_cut}
use Rattle.clustered_row.proofs.row_texts.spaces.Goals as goal

pub split_at-requires : goal.split_at-requires
split_at-requires c = spaces_cut c.args.count c.requires

pub returns : goal.returns
returns c = c.split_at.ensures.front ∙ take-replicate c.args.count 64 32 c.requires
