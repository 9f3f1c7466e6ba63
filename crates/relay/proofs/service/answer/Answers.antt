use Rattle.std.proofs.Common.{Err, ap, subst, sym, ◌∙◌}
use Rattle.std.proofs.lemmas.Result.{err_from_is_err_and}
use Rattle.terminal.proofs.AppendLemmas.{keeps_same}
use Rattle.relay.specs.Live.{RunsLive}
use Rattle.relay.specs.Output.{asked_of}
use Rattle.relay.proofs.AnswerLemmas.{if_err, if_ok, memory_first, nothing_written, sending_past, sending_refused, sent, sent_some, showing_past, showing_refused, shown, shown_some}
use Rattle.relay.proofs.LiveLemmas.{live_first, runs_live}
use Rattle.relay.proofs.service.answer.Goals as goal

pub returns-in_err-terminal-clause-err : goal.returns-in_err-terminal-clause-err
returns-in_err-terminal-clause-err g c = λ other.
    let p = err_from_is_err_and c.from_residual.result c.from_residual.ensures.1 in
    rw p.1 (nothing_written (asked_of c.args.options) (g.R.Read.remaining c.args.reader.now.inner) (g.T.Write.contents c.args.writer.now.inner))

pub returns-in_err-terminal-clause-memory : goal.returns-in_err-terminal-clause-memory
returns-in_err-terminal-clause-memory g c = λ other e. memory_first (asked_of c.args.options) (g.R.Read.remaining c.args.reader.now.inner)

pub returns-then-is_show-clause-ok : goal.returns-then-is_show-clause-ok
returns-then-is_show-clause-ok g c = λ other. if_ok c.show_on.result _ _ (shown (asked_of c.args.options) c.in_ok-terminal.terminal
    (record { stands = c.in_ok-terminal.ensures.stands; log = c.in_ok-terminal.ensures.log }) c.if-is_show.true
    (g.R.Read.remaining c.args.reader.now.inner) (g.T.Write.contents c.args.writer.now.inner) (g.T.Write.contents c.show_on.new.writer.inner)) c.show_on.ensures.ok

pub returns-then-is_show-clause-err : goal.returns-then-is_show-clause-err
returns-then-is_show-clause-err g c = λ other. if_err c.show_on.result _ _ (shown_some (asked_of c.args.options) c.in_ok-terminal.terminal
    (record { stands = c.in_ok-terminal.ensures.stands; log = c.in_ok-terminal.ensures.log }) c.if-is_show.true
    (g.R.Read.remaining c.args.reader.now.inner) (g.T.Write.contents c.args.writer.now.inner) (g.T.Write.contents c.show_on.new.writer.inner)) c.show_on.ensures.err

pub returns-then-is_show-clause-number : goal.returns-then-is_show-clause-number
returns-then-is_show-clause-number g c = λ other e. showing_past (asked_of c.args.options) c.in_ok-terminal.terminal
    (record { stands = c.in_ok-terminal.ensures.stands; log = c.in_ok-terminal.ensures.log }) c.if-is_show.true
    (g.R.Read.remaining c.args.reader.now.inner) (c.show_on.ensures.number e)

pub returns-then-is_show-clause-memory : goal.returns-then-is_show-clause-memory
returns-then-is_show-clause-memory g c = λ other e. showing_refused (asked_of c.args.options) c.in_ok-terminal.terminal
    (record { stands = c.in_ok-terminal.ensures.stands; log = c.in_ok-terminal.ensures.log }) c.if-is_show.true
    (g.R.Read.remaining c.args.reader.now.inner) (g.R.Read.remaining c.show_on.new.reader.inner) (c.show_on.ensures.memory e)

pub returns-clause-ok : goal.returns-clause-ok
returns-clause-ok g c = λ other. if_ok c.run_on.result _ _ (sent (asked_of c.args.options) c.in_ok-terminal.terminal
    (record { stands = c.in_ok-terminal.ensures.stands; log = c.in_ok-terminal.ensures.log }) c.if-is_show.false
    (g.R.Read.remaining c.args.reader.now.inner) (g.T.Write.contents c.args.writer.now.inner) (g.T.Write.contents c.run_on.new.writer.inner)) c.run_on.ensures.ok

pub returns-clause-err : goal.returns-clause-err
returns-clause-err g c = λ other. if_err c.run_on.result _ _ (sent_some (asked_of c.args.options) c.in_ok-terminal.terminal
    (record { stands = c.in_ok-terminal.ensures.stands; log = c.in_ok-terminal.ensures.log }) c.if-is_show.false
    (g.R.Read.remaining c.args.reader.now.inner) (g.R.Read.remaining c.run_on.new.reader.inner) (g.T.Write.contents c.args.writer.now.inner) (g.T.Write.contents c.run_on.new.writer.inner)) c.run_on.ensures.err

pub returns-clause-number : goal.returns-clause-number
returns-clause-number g c = λ other e. sending_past (asked_of c.args.options) c.in_ok-terminal.terminal
    (record { stands = c.in_ok-terminal.ensures.stands; log = c.in_ok-terminal.ensures.log }) c.if-is_show.false
    (g.R.Read.remaining c.args.reader.now.inner) (c.run_on.ensures.number e)

pub returns-clause-memory : goal.returns-clause-memory
returns-clause-memory g c = λ other e. sending_refused (asked_of c.args.options) c.in_ok-terminal.terminal
    (record { stands = c.in_ok-terminal.ensures.stands; log = c.in_ok-terminal.ensures.log }) c.if-is_show.false
    (g.R.Read.remaining c.args.reader.now.inner) (g.R.Read.remaining c.run_on.new.reader.inner) (c.run_on.ensures.memory e)

pub returns-in_err-terminal-clause-live : goal.returns-in_err-terminal-clause-live
returns-in_err-terminal-clause-live g c = λ is.
    let p = err_from_is_err_and c.from_residual.result c.from_residual.ensures.1 in
    let reader = c.args.reader.now in
    let writer = c.args.writer.now in
    subst (λ r. RunsLive (asked_of c.args.options) (λ r. g.R.Read.remaining r) (λ t. g.T.Write.contents t) r reader reader writer writer) (sym (p.1 ∙ ap (λ e. Err e) p.2))
    (live_first (asked_of c.args.options) (λ r. g.R.Read.remaining r) (λ t. g.T.Write.contents t) reader writer writer c.requires.reader.unread (keeps_same (g.T.Write.contents writer.inner)) c.requires.writer)

pub returns-then-is_live-clause-live : goal.returns-then-is_live-clause-live
returns-then-is_live-clause-live g c = λ is.
    let sent = c.run_live_on.ensures in
    runs_live (asked_of c.args.options) c.in_ok-terminal.terminal c.run_live_on.new.terminal (record { stands = c.in_ok-terminal.ensures.stands; log = c.in_ok-terminal.ensures.log })
    (λ r. g.R.Read.remaining r) (λ t. g.T.Write.contents t) c.args.reader.now c.run_live_on.new.reader c.args.writer.now c.run_live_on.new.writer c.run_live_on.result
    sent.ok sent.end sent.err sent.each sent.unsent sent.refused sent.number sent.memory sent.failed sent.write
