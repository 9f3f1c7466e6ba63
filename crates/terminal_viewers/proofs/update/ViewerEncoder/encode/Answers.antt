use Rattle.terminal_viewers.proofs.EncodedLemmas.{one_spelled}
use Rattle.terminal_viewers.proofs.update.ViewerEncoder.encode.Goals as goal

pub encode_all-requires : goal.encode_all-requires
encode_all-requires c = one_spelled c.args.self.now.width c.args.self.now.height c.args.change.now c.from_ref.result.now c.from_ref.ensures.value c.requires
