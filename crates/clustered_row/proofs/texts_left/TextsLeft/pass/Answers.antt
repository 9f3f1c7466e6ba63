use Rattle.clustered_row.proofs.LeftLemmas.{first_utf8, byte_utf8}
use Rattle.clustered_row.proofs.texts_left.TextsLeft.pass.Goals as goal

pub from_utf8_unchecked-requires : goal.from_utf8_unchecked-requires
from_utf8_unchecked-requires c =
    let left = c.args.self.now in
    first_utf8 left.text.now left.sizes.now c.in-Some.size.now c.in-Some.sizes.now c.in-Some.ensures.cases.0 left.parts

pub from_utf8_unchecked-requires-2 : goal.from_utf8_unchecked-requires-2
from_utf8_unchecked-requires-2 c =
    let left = c.args.self.now in
    byte_utf8 left.text.now left.sizes.now c.in_default.ensures.cases left.parts
