use Rattle.std.proofs.Common.{sym, ◌∙◌}
use Rattle.escape_framing.proofs.StateLemmas.{cut_left}
use Rattle.escape_framing.proofs.framer.Framer.in_header.Goals as goal
use Rattle.escape_framing.proofs.WaitingLemmas.{header_cut}

pub returns-then-is_cut-clause-steps : goal.returns-then-is_cut-clause-steps
returns-then-is_cut-clause-steps c = header_cut _ c.args.byte (sym c.is_cut.ensures ∙ c.if-is_cut.true) ∙ cut_left c.args.self.now c.cut_off.new.self c.cut_off.result c.args.byte c.cut_off.ensures.new c.cut_off.ensures.cut
