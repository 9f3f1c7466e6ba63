use Rattle.std.proofs.Common.{rules, ◌≡◌, Result, Ok, Err, OnOk, OnErr, ◌∙◌}
use Rattle.std.proofs.lemmas.Result.{err_from_is_err_and}
use Rattle.std.specs.String.{string_bytes}
use Rattle.terminal.proofs.ReadAllLemmas.{no_rows, rows_shown_after, some_rows_after}
use Rattle.terminal.proofs.driver.show_on.Goals as goal

if_ok : {T E : Type 0} (r : Result T E) (P Q : Type 0) → (P → Q) → OnOk r P → OnOk r Q
if_ok (Ok x) P Q f p = f p
if_ok (Err e) P Q f p = tt

if_err : {T E : Type 0} (r : Result T E) (P Q : Type 0) → (P → Q) → OnErr r P → OnErr r Q
if_err (Ok x) P Q f p = tt
if_err (Err e) P Q f p = f p

pub returns-in_err-read_all-clause-err : goal.returns-in_err-read_all-clause-err
returns-in_err-read_all-clause-err g c =
    let p = err_from_is_err_and c.from_residual.result c.from_residual.ensures.1 in
    rw p.1 (no_rows (λ w. g.W.Widths.width_of w) (g.R.Read.remaining c.args.reader.now.inner) (g.T.Write.contents c.args.writer.now.inner) c.args.terminal.now)

pub returns-in_err-rows-clause-err : goal.returns-in_err-rows-clause-err
returns-in_err-rows-clause-err g c =
    let p = err_from_is_err_and c.from_residual-in_err-rows.result c.from_residual-in_err-rows.ensures.1 in
    rw p.1 (no_rows (λ w. g.W.Widths.width_of w) (g.R.Read.remaining c.args.reader.now.inner) (g.T.Write.contents c.args.writer.now.inner) c.args.terminal.now)

pub returns-clause-ok : goal.returns-clause-ok
returns-clause-ok g c =
    let same : c.as_bytes.result.now ≡ string_bytes c.in_ok-rows.rows = search rules in
    if_ok c.write_and_flush.result _ _ (rows_shown_after (λ w. g.W.Widths.width_of w) (g.R.Read.remaining c.args.reader.now.inner) (g.T.Write.contents c.args.writer.now.inner) (g.T.Write.contents c.write_and_flush.new.writer.inner)
    c.args.terminal.now c.read_all.new.terminal c.as_bytes.result.now c.in_ok-read_all.ensures.ok (same ∙ c.in_ok-rows.ensures)) c.write_and_flush.ensures.ok

pub returns-clause-err : goal.returns-clause-err
returns-clause-err g c =
    let same : c.as_bytes.result.now ≡ string_bytes c.in_ok-rows.rows = search rules in
    if_err c.write_and_flush.result _ _ (some_rows_after (λ w. g.W.Widths.width_of w) (g.R.Read.remaining c.args.reader.now.inner) (g.T.Write.contents c.args.writer.now.inner) (g.T.Write.contents c.write_and_flush.new.writer.inner)
    c.args.terminal.now c.read_all.new.terminal c.as_bytes.result.now c.in_ok-read_all.ensures.ok (same ∙ c.in_ok-rows.ensures)) c.write_and_flush.ensures.err
