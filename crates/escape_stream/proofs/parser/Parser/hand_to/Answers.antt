use Rattle.std.proofs.Common.{length, subst, List, ◌∙◌}
use Rattle.std.proofs.lemmas.Result.{IfErr-weaker, on_ok_weaker}
use Rattle.std.specs.List.{FoldsTo}
use Rattle.escape_stream.specs.Items.{items_of}
use Rattle.escape_stream.specs.Performing.{HaltsAt}
use Rattle.escape_stream.specs.Pieces.{Piece}
use Rattle.escape_stream.proofs.StepLemmas.{takes_some, walks_up_to}
use Rattle.escape_stream.proofs.parser.Parser.hand_to.Goals as goal

pub returns-clause-halted : goal.returns-clause-halted
returns-clause-halted g c = IfErr-weaker c.hand_open-result.result _ _ (λ halted h stream e. subst (λ (ps : List Piece). HaltsAt g.P.Perform.does g.P.Perform.refuses c.args.performer.now (items_of ps) halted c.hand_open-result.new.performer) (c.reading-pieces.ensures.pieces stream e).1 (h (length stream))) c.hand_open-result.ensures.halted

pub returns-clause-early : goal.returns-clause-early
returns-clause-early g c = λ e stream at.
    let r = c.reading-pieces.ensures in
    let b = r.begins in
    walks_up_to g.P.Perform.does c.reading-pieces.result c.args.performer.now c.hand_open-result.new.performer stream c.args.bytes.now (b.same ∙ at) b.start b.bytes_are (r.pieces stream at).1 (c.hand_open-result.ensures.early e)

pub returns-clause-memory : goal.returns-clause-memory
returns-clause-memory g c = λ e stream at.
    let early = returns-clause-early g c e stream at in
    takes_some stream c.args.bytes.now early.done early.left early.whole early.takes

pub returns-clause-done : goal.returns-clause-done
returns-clause-done g c = on_ok_weaker c.hand_open-result.result (λ h stream at. subst (λ (ps : List Piece). FoldsTo g.P.Perform.does c.args.performer.now (items_of ps) c.hand_open-result.new.performer) (c.reading-pieces.ensures.pieces stream at).1 (h (length stream))) c.hand_open-result.ensures.done
