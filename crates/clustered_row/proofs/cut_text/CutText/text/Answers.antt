use Rattle.std.proofs.Common.{sym, subst, IsUtf8}
use Rattle.clustered_row.proofs.SizeLemmas.{IsUtf8-cut}
use Rattle.clustered_row.proofs.cut_text.CutText.text.Goals as goal

pub from_utf8_unchecked-requires : goal.from_utf8_unchecked-requires
from_utf8_unchecked-requires c =
    let t = c.args.self.now in
    subst IsUtf8 (sym c.deref.ensures.value) (IsUtf8-cut t.text.items t.sizes.items t.parts)
