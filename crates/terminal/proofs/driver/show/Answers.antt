use Rattle.std.proofs.Common.{Result, Ok, Err, OnOk, OnErr, refl}
use Rattle.std.proofs.lemmas.Result.{err_from_is_err_and}
use Rattle.terminal.specs.Refusals.{one_look}
use Rattle.terminal.proofs.ReadAllLemmas.{new_number, new_rows, new_some_rows, nothing_read, nothing_shown, refused_new}
use Rattle.terminal.proofs.driver.show.Goals as goal

if_ok : {T E : Type 0} (r : Result T E) (P Q : Type 0) → (P → Q) → OnOk r P → OnOk r Q
if_ok (Ok x) P Q f p = f p
if_ok (Err e) P Q f p = tt

if_err : {T E : Type 0} (r : Result T E) (P Q : Type 0) → (P → Q) → OnErr r P → OnErr r Q
if_err (Ok x) P Q f p = tt
if_err (Err e) P Q f p = f p

pub returns-in_err-terminal-clause-err : goal.returns-in_err-terminal-clause-err
returns-in_err-terminal-clause-err g c =
    let p = err_from_is_err_and c.from_residual.result c.from_residual.ensures.1 in
    rw p.1 (nothing_shown (g.W.Widths.width_of c.args.widths) c.args.width c.args.height (g.R.Read.remaining c.args.reader.now.inner) (g.T.Write.contents c.args.writer.now.inner))

pub returns-in_err-terminal-clause-memory : goal.returns-in_err-terminal-clause-memory
returns-in_err-terminal-clause-memory g c = λ e.
    nothing_read (g.W.Widths.width_of c.args.widths) c.args.width c.args.height one_look (g.R.Read.remaining c.args.reader.now.inner) refl

pub returns-clause-ok : goal.returns-clause-ok
returns-clause-ok g c = if_ok c.show_on.result _ _ (new_rows (λ w. g.W.Widths.width_of w) c.args.widths c.args.width c.args.height c.in_ok-terminal.terminal
    (record { stands = c.in_ok-terminal.ensures.stands; log = c.in_ok-terminal.ensures.log }) c.in_ok-terminal.ensures.widths
    (g.R.Read.remaining c.args.reader.now.inner) (g.T.Write.contents c.args.writer.now.inner) (g.T.Write.contents c.show_on.new.writer.inner)) c.show_on.ensures.ok

pub returns-clause-err : goal.returns-clause-err
returns-clause-err g c = if_err c.show_on.result _ _ (new_some_rows (λ w. g.W.Widths.width_of w) c.args.widths c.args.width c.args.height c.in_ok-terminal.terminal
    (record { stands = c.in_ok-terminal.ensures.stands; log = c.in_ok-terminal.ensures.log }) c.in_ok-terminal.ensures.widths
    (g.R.Read.remaining c.args.reader.now.inner) (g.T.Write.contents c.args.writer.now.inner) (g.T.Write.contents c.show_on.new.writer.inner)) c.show_on.ensures.err

pub returns-clause-number : goal.returns-clause-number
returns-clause-number g c = λ e. new_number (λ w. g.W.Widths.width_of w) c.args.widths c.args.width c.args.height c.in_ok-terminal.terminal
    (record { stands = c.in_ok-terminal.ensures.stands; log = c.in_ok-terminal.ensures.log }) c.in_ok-terminal.ensures.widths
    (g.R.Read.remaining c.args.reader.now.inner) (c.show_on.ensures.number e)

pub returns-clause-memory : goal.returns-clause-memory
returns-clause-memory g c = λ e. refused_new (λ w. g.W.Widths.width_of w) c.args.widths c.args.width c.args.height c.in_ok-terminal.terminal
    (record { stands = c.in_ok-terminal.ensures.stands; log = c.in_ok-terminal.ensures.log }) c.in_ok-terminal.ensures.widths
    one_look (g.R.Read.remaining c.args.reader.now.inner) (g.R.Read.remaining c.show_on.new.reader.inner) (c.show_on.ensures.memory e)
