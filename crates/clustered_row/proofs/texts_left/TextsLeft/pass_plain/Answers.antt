use Rattle.std.proofs.Common.{[], refl}
use Rattle.clustered_row.proofs.PlainLemmas.{plain_passed}
use Rattle.clustered_row.proofs.SizeLemmas.{IsUtf8-cut}
use Rattle.clustered_row.proofs.texts_left.TextsLeft.pass_plain.Goals as goal

pub invariant_of-self : goal.invariant_of-self
invariant_of-self c =
    let count = c.plain_len-count in
    let p = plain_passed c.args.self.now count.result c.min.result _ refl c.min.ensures count.ensures.within count.ensures.plain in
    record { bytes = p.bytes; parts = p.parts }

pub from_utf8_unchecked-requires : goal.from_utf8_unchecked-requires
from_utf8_unchecked-requires c =
    let count = c.plain_len-count in
    let p = plain_passed c.args.self.now count.result c.min.result _ refl c.min.ensures count.ensures.within count.ensures.plain in
    IsUtf8-cut _ [] p.printable

pub returns-clause-left : goal.returns-clause-left
returns-clause-left c =
    let count = c.plain_len-count in
    let text = c.from_utf8_unchecked in
    (plain_passed c.args.self.now count.result c.min.result text.result.now text.ensures c.min.ensures count.ensures.within count.ensures.plain).faces

pub returns-clause-printable : goal.returns-clause-printable
returns-clause-printable c =
    let count = c.plain_len-count in
    let text = c.from_utf8_unchecked in
    (plain_passed c.args.self.now count.result c.min.result text.result.now text.ensures c.min.ensures count.ensures.within count.ensures.plain).printable
