use Rattle.std.proofs.Common.{◌≡◌, refl, ◌∙◌}
use Rattle.std.proofs.lemmas.Result.{err_from_is_err_and}
use Rattle.terminal_steps.specs.declared.error.TerminalError.TheVariants.{Memory}
use Rattle.terminal.proofs.AnswerLemmas.{written_is, some_is}
use Rattle.terminal.proofs.updates.write_update.Goals as goal

pub returns-in_err-write_and_flush-clause-err : goal.returns-in_err-write_and_flush-clause-err
returns-in_err-write_and_flush-clause-err g c =
    let p = err_from_is_err_and c.from_residual-in_err-write_and_flush.result c.from_residual-in_err-write_and_flush.ensures.1 in
    rw p.1 (λ s at. some_is (λ w. g.W.Widths.width_of w) c.args.terminal.now.surface.grid.widths c.args.terminal.now c.update.new.self s c.args.number c.deref.result.now _ _ refl at
    c.in_ok-next.ensures.settled (c.deref.ensures.value ∙ c.in_ok-next.ensures.bytes) c.in_err-write_and_flush.ensures.err)

pub returns-clause-ok : goal.returns-clause-ok
returns-clause-ok g c = λ s at. written_is (λ w. g.W.Widths.width_of w) c.args.terminal.now.surface.grid.widths c.args.terminal.now c.update.new.self c.forget.new.terminal s c.args.number c.in_ok-next.next c.deref.result.now _ _ refl at
    c.in_ok-next.ensures.settled (c.deref.ensures.value ∙ c.in_ok-next.ensures.bytes) c.in_ok-next.ensures.answer c.in_ok-write_and_flush.ensures.ok c.forget.ensures.lighter

pub returns-in_err-next-clause-memory : goal.returns-in_err-next-clause-memory
returns-in_err-next-clause-memory g c =
    let p = err_from_is_err_and c.from_residual.result c.from_residual.ensures.1 in
    rw (p.1, p.2) (λ e.
    let refused : c.in_err-next.field-0.0 ≡ Memory = cc in
    c.in_err-next.ensures.numbered (λ n. absurd cc) c.requires.sound)
