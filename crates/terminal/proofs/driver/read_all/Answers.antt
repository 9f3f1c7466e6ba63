use Rattle.std.proofs.Common.{Result, Err, ◌≡◌}
use Rattle.std.proofs.lemmas.Result.{err_from_is_err_and}
use Rattle.terminal_steps.specs.declared.error.TerminalError.{TerminalError}
use Rattle.terminal_steps.specs.declared.error.TerminalError.TheVariants.{Memory, Number}
use Rattle.terminal.specs.declared.error.RunError.{RunError}
use Rattle.terminal.specs.declared.error.RunError.TheVariants.{Terminal}
use Rattle.terminal.proofs.ReadAllLemmas.{fits_look, number_at_look, number_of_look, reads_input}
use Rattle.terminal.proofs.driver.read_all.Goals as goal

pub returns-clause-ok : goal.returns-clause-ok
returns-clause-ok g c = reads_input (λ w. g.W.Widths.width_of w) (g.R.Read.remaining c.args.reader.now.inner) c.args.terminal.now c.feed_all.new.terminal c.settle.new.self c.forget.new.terminal c.current_number-number.result
    c.in_ok-feed_all.ensures.ok c.in_ok-settle.ensures.done c.current_number-number.ensures c.forget.ensures.lighter

pub returns-in_err-feed_all-clause-number : goal.returns-in_err-feed_all-clause-number
returns-in_err-feed_all-clause-number g c =
    let p = err_from_is_err_and c.from_residual.result c.from_residual.ensures.1 in
    rw (p.1, p.2) (λ e.
    let refused : ◌≡◌ {A = Result (Unit {0}) RunError} (Err c.in_err-feed_all.field-0.0) (Err (Terminal Number)) = cc in
    number_at_look (λ w. g.W.Widths.width_of w) (g.R.Read.remaining c.args.reader.now.inner) c.args.terminal.now (c.in_err-feed_all.ensures.number refused))

pub returns-in_err-settle-clause-number : goal.returns-in_err-settle-clause-number
returns-in_err-settle-clause-number g c =
    let p = err_from_is_err_and c.from_residual-in_err-settle.result c.from_residual-in_err-settle.ensures.1 in
    rw (p.1, p.2) (λ e.
    let refused : ◌≡◌ {A = Result (Unit {0}) TerminalError} (Err c.in_err-settle.field-0.0) (Err Number) = cc in
    number_of_look (λ w. g.W.Widths.width_of w) (g.R.Read.remaining c.args.reader.now.inner) c.args.terminal.now c.feed_all.new.terminal c.in_ok-feed_all.ensures.ok (c.in_err-settle.ensures.number refused))

pub returns-in_err-settle-clause-memory : goal.returns-in_err-settle-clause-memory
returns-in_err-settle-clause-memory g c =
    let p = err_from_is_err_and c.from_residual-in_err-settle.result c.from_residual-in_err-settle.ensures.1 in
    rw (p.1, p.2) (λ e.
    let refused : c.in_err-settle.field-0.0 ≡ Memory = cc in
    fits_look (λ w. g.W.Widths.width_of w) (g.R.Read.remaining c.args.reader.now.inner) (g.R.Read.remaining c.feed_all.new.reader.inner) c.args.terminal.now c.feed_all.new.terminal c.settle.new.self.is_failed c.in_ok-feed_all.ensures.ok c.in_ok-feed_all.ensures.none_left
    (c.in_err-settle.ensures.numbered (λ n. absurd cc) c.in_ok-feed_all.ensures.sound))

pub returns-clause-rows : goal.returns-clause-rows
returns-clause-rows g c = fits_look (λ w. g.W.Widths.width_of w) (g.R.Read.remaining c.args.reader.now.inner) (g.R.Read.remaining c.feed_all.new.reader.inner) c.args.terminal.now c.feed_all.new.terminal c.settle.new.self.is_failed c.in_ok-feed_all.ensures.ok c.in_ok-feed_all.ensures.none_left
    (c.in_ok-settle.ensures.numbered (λ n. absurd cc) c.in_ok-feed_all.ensures.sound)
