use Rattle.std.proofs.Common.{rules, ◌≡◌, Some, None, subst, sym}
use Rattle.std.specs.Prelude.{ℕ}
use Rattle.csi_codec.specs.Cursors.{cursor_reading}
use Rattle.csi_codec.specs.Edits.{edit_reading}
use Rattle.csi_codec.specs.Texts.{tokens_of}
use Rattle.csi_codec.specs.declared.sequences.CSI.TheVariants as sequence
use Rattle.escape_stream.specs.Walking.{with_list, StepsTo}
use Rattle.escape_stream.specs.declared.action.Action.TheVariants as variant
use Rattle.escape_stream.specs.declared.pieces.Piece.TheVariants as code
use Rattle.escape_stream.proofs.SequenceLemmas.{list_ready, cursor_given, edit_given}
use Rattle.escape_stream.proofs.StepLemmas.{steps_given}
use Rattle.escape_stream.proofs.pieces.Reading.hand_list.Goals as goal

pub returns-then-control-eq109-clause-steps : goal.returns-then-control-eq109-clause-steps
returns-then-control-eq109-clause-steps g c =
    subst (λ (x : ℕ). StepsTo g.P.Perform.does g.P.Perform.refuses (with_list c.args.self.now c.args.start c.args.list.now x) c.args.performer.now c.hand_settings.result c.hand_settings.new.self c.hand_settings.new.performer) (sym c.if-control-eq109.true) c.hand_settings.ensures.steps

pub returns-in-Some-clause-steps : goal.returns-in-Some-clause-steps
returns-in-Some-clause-steps g c =
    let it = c.args.self.now in
    let found : cursor_reading c.args.control (tokens_of c.args.list.now) ≡ Some c.in-Some.value = search rules in
    let given = cursor_given it c.args.start c.args.list.now c.args.control c.in-Some.value c.requires.going.ready c.requires.begins c.requires.over c.requires.list c.if-control-eq109.false (c.is_single.ensures c.if-is_single.true) found in
    steps_given g.P.Perform.does g.P.Perform.refuses (with_list it c.args.start c.args.list.now c.args.control) it c.args.performer.now c.perform.new.performer (code.Action (variant.CSI (sequence.Cursor c.in-Some.value))) c.perform.result (list_ready it c.args.start c.args.list.now c.args.control c.requires.going.ready) given c.perform.ensures.performs

pub returns-in-Some-edit_reading-clause-steps : goal.returns-in-Some-edit_reading-clause-steps
returns-in-Some-edit_reading-clause-steps g c =
    let it = c.args.self.now in
    let none : cursor_reading c.args.control (tokens_of c.args.list.now) ≡ None = search rules in
    let found : edit_reading c.args.control (tokens_of c.args.list.now) ≡ Some c.in-Some-edit_reading.value = search rules in
    let given = edit_given it c.args.start c.args.list.now c.args.control c.in-Some-edit_reading.value c.requires.going.ready c.requires.begins c.requires.over c.requires.list c.if-control-eq109.false (c.is_single.ensures c.if-is_single.true) none found in
    steps_given g.P.Perform.does g.P.Perform.refuses (with_list it c.args.start c.args.list.now c.args.control) it c.args.performer.now c.perform-in-Some-edit_reading.new.performer (code.Action (variant.CSI (sequence.Edit c.in-Some-edit_reading.value))) c.perform-in-Some-edit_reading.result (list_ready it c.args.start c.args.list.now c.args.control c.requires.going.ready) given c.perform-in-Some-edit_reading.ensures.performs
