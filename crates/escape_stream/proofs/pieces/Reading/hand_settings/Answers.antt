use Rattle.std.proofs.Common.{rules, ◌≡◌, length, refl}
use Rattle.csi_codec.specs.declared.sequences.CSI.TheVariants as sequence
use Rattle.escape_stream.specs.Walking.{with_list}
use Rattle.escape_stream.specs.declared.action.Action.TheVariants as variant
use Rattle.escape_stream.specs.declared.pieces.Piece.TheVariants as code
use Rattle.escape_stream.proofs.AdvanceLemmas.{fewer_left, stays}
use Rattle.escape_stream.proofs.SequenceLemmas.{list_ready, settings_listed, setting_given, none_left, some_left}
use Rattle.escape_stream.proofs.StepLemmas.{reaches_here, reaches_next, steps_join, steps_last, walks_refused}
use Rattle.escape_stream.proofs.pieces.Reading.hand_settings.Goals as goal

pub loop-value-init : goal.loop-value-init
loop-value-init g c =
    let start = with_list c.args.self.now c.args.start c.args.list.now 109 in
    record {
      going = c.requires.going;
      over = c.requires.over;
      idle = c.requires.idle;
      same = refl;
      stage = refl;
      list = settings_listed c.args.list.now c.requires.list;
      ready = c.requires.ready;
      reached = reaches_here g.P.Perform.does start c.args.performer.now (list_ready c.args.self.now c.args.start c.args.list.now 109 c.requires.going.ready);
    }

pub returns-in_default-clause-steps : goal.returns-in_default-clause-steps
returns-in_default-clause-steps g c =
    steps_join g.P.Perform.does g.P.Perform.refuses (with_list c.args.self.now c.args.start c.args.list.now 109) (with_list c.loop-value.self c.args.start c.loop-value.left.now 109) c.hand_rest.new.self c.args.performer.now c.loop-value.performer c.hand_rest.new.performer c.hand_rest.result
    c.loop-value.invariant.reached c.hand_rest.ensures.steps

pub returns-in-Err-clause-steps : goal.returns-in-Err-clause-steps
returns-in-Err-clause-steps g c =
    let it = c.loop-value.self in
    let i = c.loop-value.invariant in
    let x = code.Action (variant.CSI (sequence.Sgr c.in-Some.value)) in
    let given = setting_given it c.args.start c.loop-value.left.now c.in-Some.rest.now c.in-Some.value i.going.ready c.requires.begins i.list c.in-Some.ensures.reads c.keep_settings.new.self c.keep_settings.ensures in
    walks_refused g.P.Perform.does g.P.Perform.refuses (with_list c.args.self.now c.args.start c.args.list.now 109) (with_list it c.args.start c.loop-value.left.now 109) c.keep_settings.new.self c.args.performer.now c.loop-value.performer c.perform.new.performer x c.in-Err.halted i.reached given c.in-Err.ensures.performs

pub returns-then-is_empty-clause-steps : goal.returns-then-is_empty-clause-steps
returns-then-is_empty-clause-steps g c =
    let it = c.loop-value.self in
    let i = c.loop-value.invariant in
    let x = code.Action (variant.CSI (sequence.Sgr c.in-Some.value)) in
    let n : length c.in-Some.rest.now ≡ 0 = search rules in
    let given = setting_given it c.args.start c.loop-value.left.now c.in-Some.rest.now c.in-Some.value i.going.ready c.requires.begins i.list c.in-Some.ensures.reads it (none_left it c.in-Some.rest.now i.over n) in
    steps_last g.P.Perform.does g.P.Perform.refuses (with_list c.args.self.now c.args.start c.args.list.now 109) (with_list it c.args.start c.loop-value.left.now 109) it it c.args.performer.now c.loop-value.performer c.perform.new.performer x c.in_default-perform.field-0 i.reached given
    (stays it i.going.ready) c.in_default-perform.ensures.performs

pub loop-value-smaller : goal.loop-value-smaller
loop-value-smaller g c =
    let it = c.loop-value.self in
    let i = c.loop-value.invariant in
    let n : ¬ (length c.in-Some.rest.now ≡ 0) = search rules in
    let x = code.Action (variant.CSI (sequence.Sgr c.in-Some.value)) in
    let next = with_list it c.args.start c.in-Some.rest.now 109 in
    fewer_left (with_list it c.args.start c.loop-value.left.now 109) next x
    (setting_given it c.args.start c.loop-value.left.now c.in-Some.rest.now c.in-Some.value i.going.ready c.requires.begins i.list c.in-Some.ensures.reads next (some_left it c.args.start c.in-Some.rest.now c.requires.begins c.in-Some.ensures.rest n))

pub loop-value-preserved : goal.loop-value-preserved
loop-value-preserved g c =
    let it = c.loop-value.self in
    let i = c.loop-value.invariant in
    let n : ¬ (length c.in-Some.rest.now ≡ 0) = search rules in
    let x = code.Action (variant.CSI (sequence.Sgr c.in-Some.value)) in
    let next = with_list it c.args.start c.in-Some.rest.now 109 in
    let given = setting_given it c.args.start c.loop-value.left.now c.in-Some.rest.now c.in-Some.value i.going.ready c.requires.begins i.list c.in-Some.ensures.reads next (some_left it c.args.start c.in-Some.rest.now c.requires.begins c.in-Some.ensures.rest n) in
    record {
      going = i.going;
      over = i.over;
      idle = i.idle;
      same = i.same;
      stage = i.stage;
      list = c.in-Some.ensures.rest;
      ready = c.in_default-perform.ensures.ready;
      reached = reaches_next g.P.Perform.does g.P.Perform.refuses (with_list c.args.self.now c.args.start c.args.list.now 109) (with_list it c.args.start c.loop-value.left.now 109) next c.args.performer.now c.loop-value.performer c.perform.new.performer x c.in_default-perform.field-0 i.reached given c.in_default-perform.ensures.performs;
    }
