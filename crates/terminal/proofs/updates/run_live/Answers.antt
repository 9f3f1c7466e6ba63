use Rattle.std.proofs.Common.{◌≡◌, Result, Ok, Err, OnOk, OnErr}
use Rattle.std.proofs.lemmas.Result.{err_from_is_err_and}
use Rattle.terminal_viewers.specs.Updates.{new_standing}
use Rattle.terminal.proofs.LiveLemmas.{new_each, new_number, new_part_of_last, new_prefix, none_sent}
use Rattle.terminal.proofs.updates.run_live.Goals as goal

if_ok : {T E : Type 0} (r : Result T E) (P Q : Type 0) → (P → Q) → OnOk r P → OnOk r Q
if_ok (Ok x) P Q f p = f p
if_ok (Err e) P Q f p = tt

if_err : {T E : Type 0} (r : Result T E) (P Q : Type 0) → (P → Q) → OnErr r P → OnErr r Q
if_err (Ok x) P Q f p = tt
if_err (Err e) P Q f p = f p

pub returns-in_err-terminal-clause-err : goal.returns-in_err-terminal-clause-err
returns-in_err-terminal-clause-err g c =
    let p = err_from_is_err_and c.from_residual.result c.from_residual.ensures.1 in
    rw p.1 (none_sent (g.W.Widths.width_of c.args.widths) (λ s. s ≡ new_standing c.args.width c.args.height) (λ r. g.R.Read.remaining r) (λ t. g.T.Write.contents t) c.args.reader.now c.args.writer.now c.requires.reader.unread)

pub returns-clause-ok : goal.returns-clause-ok
returns-clause-ok g c = if_ok c.run_live_on.result _ _ (λ s. new_each (λ w. g.W.Widths.width_of w) (λ r. g.R.Read.remaining r) (λ t. g.T.Write.contents t) c.args.widths c.in_ok-terminal.terminal c.args.width c.args.height
    (record { stands = c.in_ok-terminal.ensures.stands; log = c.in_ok-terminal.ensures.log }) c.in_ok-terminal.ensures.widths c.args.reader.now c.run_live_on.new.reader c.args.writer.now c.run_live_on.new.writer 1 s.sends) c.run_live_on.ensures.ok

pub returns-clause-err : goal.returns-clause-err
returns-clause-err g c = if_err c.run_live_on.result _ _ (new_prefix (λ w. g.W.Widths.width_of w) (λ r. g.R.Read.remaining r) (λ t. g.T.Write.contents t) c.args.widths c.in_ok-terminal.terminal c.args.width c.args.height
    (record { stands = c.in_ok-terminal.ensures.stands; log = c.in_ok-terminal.ensures.log }) c.in_ok-terminal.ensures.widths c.args.reader.now c.run_live_on.new.reader c.args.writer.now c.run_live_on.new.writer) c.run_live_on.ensures.err

pub returns-clause-each : goal.returns-clause-each
returns-clause-each g c = λ e. new_each (λ w. g.W.Widths.width_of w) (λ r. g.R.Read.remaining r) (λ t. g.T.Write.contents t) c.args.widths c.in_ok-terminal.terminal c.args.width c.args.height
    (record { stands = c.in_ok-terminal.ensures.stands; log = c.in_ok-terminal.ensures.log }) c.in_ok-terminal.ensures.widths c.args.reader.now c.run_live_on.new.reader c.args.writer.now c.run_live_on.new.writer 1 (c.run_live_on.ensures.each e)

pub returns-clause-unsent : goal.returns-clause-unsent
returns-clause-unsent g c = λ e. new_part_of_last (λ w. g.W.Widths.width_of w) (λ r. g.R.Read.remaining r) (λ t. g.T.Write.contents t) c.args.widths c.in_ok-terminal.terminal c.args.width c.args.height
    (record { stands = c.in_ok-terminal.ensures.stands; log = c.in_ok-terminal.ensures.log }) c.in_ok-terminal.ensures.widths c.args.reader.now c.run_live_on.new.reader c.args.writer.now c.run_live_on.new.writer (c.run_live_on.ensures.unsent e)

pub returns-clause-number : goal.returns-clause-number
returns-clause-number g c = λ e. new_number (λ w. g.W.Widths.width_of w) (λ r. g.R.Read.remaining r) (λ t. g.T.Write.contents t) c.args.widths c.in_ok-terminal.terminal c.args.width c.args.height
    (record { stands = c.in_ok-terminal.ensures.stands; log = c.in_ok-terminal.ensures.log }) c.in_ok-terminal.ensures.widths c.args.reader.now c.run_live_on.new.reader c.args.writer.now c.run_live_on.new.writer (c.run_live_on.ensures.number e)
