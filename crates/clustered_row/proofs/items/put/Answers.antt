use Rattle.std.proofs.Common.{arith}
use Rattle.clustered_row.proofs.ItemLemmas.{put_one}
use Rattle.clustered_row.proofs.items.put.Goals as goal

pub returns-in-len1-clause-items : goal.returns-in-len1-clause-items
returns-in-len1-clause-items g c =
    put_one c.args.items.now.items c.args.with.now c.args.at c.item-item.result (omega (arith, c.args.items.now.ok.0)) (omega arith) (omega arith) c.item-item.is
