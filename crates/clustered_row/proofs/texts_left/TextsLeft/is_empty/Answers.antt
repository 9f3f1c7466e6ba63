use Rattle.clustered_row.proofs.PlainLemmas.{empty_if_no_byte}
use Rattle.clustered_row.proofs.texts_left.TextsLeft.is_empty.Goals as goal

pub returns : goal.returns
returns c =
    let left = c.args.self.now in
    empty_if_no_byte c.is_empty.result left.text.now left.sizes.now c.is_empty.ensures left.bytes
