use Rattle.std.proofs.Common.{refl, sym, ap, subst, ◌∙◌}
use Rattle.std.specs.Prelude.{Option, Some}
use Rattle.escape_framing.specs.declared.event.Event.{Event}
use Rattle.escape_framing.specs.declared.event.Read.TheVariants as read
use Rattle.escape_stream.specs.declared.action.Action.{Action}
use Rattle.escape_stream.specs.ParserShown.{Parsing, lending_in}
use Rattle.csi_codec.specs.Tokens.{Parameters}
use Rattle.escape_stream.specs.Sequences.{Gives, actions_left, event_actions}
use Rattle.escape_stream.proofs.AdvanceLemmas.{has_read, gives_text, gives_event, goes_event, asks_body, on_refusal}
use Rattle.escape_stream.proofs.pieces.Reading.read_event.Goals as goal

pub returns-in-Text-clause-finds : goal.returns-in-Text-clause-finds
returns-in-Text-clause-finds c =
    gives_text c.args.self.now _ c.in-Text.len (lending_in c.read.new.self) c.text_at.result
    (has_read c.args.self.now _ c.rest-bytes.result.now c.in_ok-len.field-0 (read.Text c.in-Text.len) (lending_in c.read.new.self) c.requires.going.ready c.requires.over c.rest-bytes.ensures c.in-Text.is c.in_ok-len.ensures.reads refl refl refl refl)
    c.requires.over c.text_at.ensures

pub returns-in-Some-2-clause-finds : goal.returns-in-Some-2-clause-finds
returns-in-Some-2-clause-finds c =
    let b = c.in_ok-action-in-Bytes.ensures in
    let l = lending_in c.read.new.self in
    let e = c.in-Some.event in
    let q = c.begin.new.self.sequence in
    gives_event c.args.self.now c.begin.new.self c.in-Bytes.count l e
    (has_read c.args.self.now c.begin.new.self c.rest-bytes.result.now c.in_ok-len.field-0 (read.Bytes (Some e) c.in-Bytes.count) l c.requires.going.ready c.requires.over c.rest-bytes.ensures
    (c.in-Bytes.is ∙ ap (λ (x : Option Event). read.Bytes x c.in-Bytes.count) c.in-Some.is) c.in_ok-len.ensures.reads
    (ap (λ (p : Parsing). p.held) b.parser) (ap (λ (p : Parsing). p.parameters) b.parser) b.bytes b.count)
    c.in-Some-2.action
    (subst (λ (x : Parameters). Gives (event_actions l e) (Some c.in-Some-2.action) (actions_left x q)) (sym (ap (λ (p : Parsing). p.parameters) b.parser))
    (subst (λ (x : Option Action). Gives (event_actions l e) x (actions_left c.read.new.self.parameters q)) c.in-Some-2.is b.gives))

pub returns-in-None-clause-finds : goal.returns-in-None-clause-finds
returns-in-None-clause-finds c =
    let b = c.in_ok-action-in-Bytes.ensures in
    let l = lending_in c.read.new.self in
    let e = c.in-Some.event in
    let q = c.begin.new.self.sequence in
    goes_event c.args.self.now c.begin.new.self c.in-Bytes.count l e
    (has_read c.args.self.now c.begin.new.self c.rest-bytes.result.now c.in_ok-len.field-0 (read.Bytes (Some e) c.in-Bytes.count) l c.requires.going.ready c.requires.over c.rest-bytes.ensures
    (c.in-Bytes.is ∙ ap (λ (x : Option Event). read.Bytes x c.in-Bytes.count) c.in-Some.is) c.in_ok-len.ensures.reads
    (ap (λ (p : Parsing). p.held) b.parser) (ap (λ (p : Parsing). p.parameters) b.parser) b.bytes b.count)
    (subst (λ (x : Option Action). Gives (event_actions l e) x (actions_left c.read.new.self.parameters q)) c.in-None.is b.gives)
    (b.over c.in-None.is)

pub returns-in_err-len-clause-memory : goal.returns-in_err-len-clause-memory
returns-in_err-len-clause-memory c = on_refusal c.from_residual.result c.args.self.now (asks_body c.args.self.now c.requires.going.ready c.requires.over c.in_err-len.ensures.memory)
