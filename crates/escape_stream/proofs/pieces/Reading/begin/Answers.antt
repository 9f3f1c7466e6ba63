use Rattle.std.proofs.Common.{ap, sym, ◌∙◌}
use Rattle.escape_stream.specs.ParserShown.{lending_in}
use Rattle.escape_stream.specs.Sequences.{event_actions}
use Rattle.escape_stream.proofs.AdvanceLemmas.{begins_sequence}
use Rattle.escape_stream.proofs.pieces.Reading.begin.Goals as goal

pub returns-in-ControlSequence : goal.returns-in-ControlSequence
returns-in-ControlSequence c =
    let l = lending_in c.args.self.now.parser.now in
    begins_sequence c.args.self.now c.next_of_sequence.new.self c.args.event c.start.result c.next_of_sequence.result c.next_of_sequence.ensures (c.start.ensures l ∙ ap (event_actions l) (sym c.in-ControlSequence.is))
