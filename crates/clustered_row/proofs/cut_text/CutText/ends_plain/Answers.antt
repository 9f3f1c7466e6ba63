use Rattle.std.proofs.Common.{arith, ◌∙◌}
use Rattle.clustered_row.proofs.StepLemmas.{ends_plain_at}
use Rattle.clustered_row.proofs.cut_text.CutText.ends_plain.Goals as goal

pub returns : goal.returns
returns c =
    let s = c.args.self.now.sizes in
    c.is_plain.ensures ∙ ends_plain_at s.items c.len-len.result c.index.result.now (omega (arith, s.ok.0)) (omega arith) c.index.ensures
