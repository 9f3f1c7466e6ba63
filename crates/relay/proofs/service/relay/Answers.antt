use Rattle.std.proofs.Common.{Err, map, sym, ◌∙◌}
use Rattle.terminal.specs.declared.error.RunError.TheVariants.{Write}
use Rattle.terminal.specs.declared.error.RunError.TheVariants as run
use Rattle.terminal.proofs.AppendLemmas.{keeps_same}
use Rattle.terminal_steps.specs.declared.error.TerminalError.TheVariants as terminal
use Rattle.relay.specs.CommandLine.{asked_in}
use Rattle.relay.specs.Output.{asked_of, written_in}
use Rattle.relay.proofs.LiveLemmas.{ends_well, ends_with_fault, live_first}
use Rattle.relay.proofs.OutputLemmas.{fault_may_end, mistake_in, none_of, not_live, of_memory, read_reported, reported_as, reports_first}
use Rattle.relay.proofs.service.relay.Goals as goal

pub returns-in-Err-clause-mistaken : goal.returns-in-Err-clause-mistaken
returns-in-Err-clause-mistaken g c = mistake_in _ c.in-Err.bad _ c.in-Err.ensures.faults c.explain_words.ensures.memory c.explain_words.ensures.shown

pub returns-in-Err-clause-part : goal.returns-in-Err-clause-part
returns-in-Err-clause-part g c = λ runs other bad.
    none_of (g.T.Write.contents c.args.writer.now.inner) (g.T.Write.contents c.explain_words.new.writer.inner) (written_in (map (λ s. g.S.AsStr.text s) c.args.words.now)) (g.R.Read.remaining c.args.reader.now.inner)
    (c.explain_words.ensures.nothing (of_memory _ c.in-Err.bad c.in-Err.ensures.faults runs))

pub returns-in-Err-clause-fault : goal.returns-in-Err-clause-fault
returns-in-Err-clause-fault g c = λ runs other bad.
    reports_first (map (λ s. g.S.AsStr.text s) c.args.words.now) _ _ (g.R.Read.remaining c.args.reader.now.inner)
    (c.explain_words.ensures.written (of_memory _ c.in-Err.bad c.in-Err.ensures.faults runs))

pub returns-in-Err-clause-live : goal.returns-in-Err-clause-live
returns-in-Err-clause-live g c = λ live.
    let none = of_memory _ c.in-Err.bad c.in-Err.ensures.faults live.0 in
    record {
      result = Err (run.Terminal terminal.Memory);
      runs = live_first (asked_in (map (λ s. g.S.AsStr.text s) c.args.words.now)) (λ r. g.R.Read.remaining r) (λ t. g.T.Write.contents t) c.args.reader.now c.args.writer.now
          c.explain_words.new.writer c.requires.reader.unread (c.explain_words.ensures.nothing none) (c.explain_words.ensures.unused none);
      tells = (c.explain_words.ensures.memory none, c.explain_words.ensures.written none);
    }

pub returns-in-Ok-answer-clause-live : goal.returns-in-Ok-answer-clause-live
returns-in-Ok-answer-clause-live g c = λ live.
    ends_well (asked_in (map (λ s. g.S.AsStr.text s) c.args.words.now)) (asked_of c.in-Ok.options) c.in-Ok.ensures.asked (λ r. g.R.Read.remaining r) (λ t. g.T.Write.contents t)
    c.args.reader.now c.answer.new.reader c.args.writer.now c.answer.new.writer (g.F.Write.contents c.args.faults.now.inner) (g.F.Write.contents c.args.faults.now.inner)
    tt (c.in-Ok-answer.ensures.live (sym c.in-Ok.ensures.live ∙ live.1)) (keeps_same (g.F.Write.contents c.args.faults.now.inner))

pub returns-in-Err-answer-clause-live : goal.returns-in-Err-answer-clause-live
returns-in-Err-answer-clause-live g c = λ live.
    let is_live = sym c.in-Ok.ensures.live ∙ live.1 in
    ends_with_fault (asked_in (map (λ s. g.S.AsStr.text s) c.args.words.now)) (asked_of c.in-Ok.options) c.in-Ok.ensures.asked (λ r. g.R.Read.remaining r) (λ t. g.T.Write.contents t)
    c.args.reader.now c.answer.new.reader c.args.writer.now c.answer.new.writer (g.F.Write.contents c.args.faults.now.inner) (g.F.Write.contents c.report_end.new.faults.inner)
    c.in-Err-answer.error c.in-Ok.options.is_live c.report_end.result is_live (c.in-Err-answer.ensures.live is_live)
    c.report_end.ensures.quiet c.report_end.ensures.left c.report_end.ensures.status c.report_end.ensures.written

pub returns-in-Err-answer-clause-read : goal.returns-in-Err-answer-clause-read
returns-in-Err-answer-clause-read g c = λ failed.
    read_reported (λ f. g.F.Write.contents f) c.args.faults.now c.report_end.new.faults c.in-Err-answer.error c.in-Ok.options.is_live c.report_end.result _
    (c.in-Err-answer.ensures.read.1 failed) c.report_end.ensures.status c.report_end.ensures.reported

pub returns-in-Err-answer-clause-write : goal.returns-in-Err-answer-clause-write
returns-in-Err-answer-clause-write g c = λ other failed.
    reported_as (λ f. g.F.Write.contents f) c.args.faults.now c.report_end.new.faults c.in-Err-answer.error Write c.in-Ok.options.is_live c.report_end.result _
    (c.in-Err-answer.ensures.write.1 failed) (λ e. not_live _ c.in-Ok.options.is_live other c.in-Ok.ensures.faults c.in-Ok.ensures.live)
    c.report_end.ensures.status c.report_end.ensures.reported

pub returns-in-Err-answer-clause-fault : goal.returns-in-Err-answer-clause-fault
returns-in-Err-answer-clause-fault g c = λ runs other bad.
    fault_may_end (map (λ s. g.S.AsStr.text s) c.args.words.now) (asked_of c.in-Ok.options) (g.R.Read.remaining c.args.reader.now.inner) (g.R.Read.remaining c.answer.new.reader.inner)
    (g.F.Write.contents c.args.faults.now.inner) (g.F.Write.contents c.report_end.new.faults.inner) c.in-Err-answer.error c.in-Ok.options.is_live c.in-Ok.ensures.asked c.in-Ok.ensures.live other
    c.in-Err-answer.ensures.number c.in-Err-answer.ensures.memory c.in-Err-answer.ensures.failed c.report_end.ensures.written
