use Rattle.escape_framing.proofs.LenLemmas.{text_is_utf8}
use Rattle.escape_stream.proofs.pieces.text_of.Goals as goal

pub from_utf8_unchecked-requires : goal.from_utf8_unchecked-requires
from_utf8_unchecked-requires c = text_is_utf8 c.args.bytes.now c.requires
