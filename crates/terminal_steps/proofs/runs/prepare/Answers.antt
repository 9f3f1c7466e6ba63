use Rattle.std.proofs.Common.{◌≡◌, sym, ap, subst, ◌∙◌, arith}
use Rattle.std.specs.Prelude.{⊤, Result, Err}
use Rattle.std.proofs.lemmas.Result.{err_from_is_err_and}
use Rattle.cell_surface.specs.declared.error.SurfaceError.{SurfaceError}
use Rattle.terminal_table.specs.Modes.{Modes}
use Rattle.terminal_table.specs.Runs.{Running, asked, prepared, text_put, wrap_request}
use Rattle.terminal_steps.specs.ProfileView.{modes_in}
use Rattle.terminal_steps.specs.RunView.{GoesOn}
use Rattle.terminal_steps.proofs.RunLemmas.{ended, insert_goes, ready_on, stops, wrap_goes}
use Rattle.terminal_steps.proofs.WholeRunLemmas.{prepared_grows, wrap_grows}
use Rattle.terminal_steps.proofs.runs.prepare.Goals as goal

pub returns-in_err-end : goal.returns-in_err-end
returns-in_err-end g c = λ before running on.
    let modes : Modes = modes_in c.args.modes.now in
    let of = g.W.Widths.width_of before.grid.widths in
    let first : Running = text_put of running in
    let p = err_from_is_err_and c.from_residual.result c.from_residual.ensures.1 in
    let result : c.from_residual.result ≡ Err c.in_err-end.field-0.0 = p.1 ∙ ap Err p.2 in
    subst (λ (r : Result ⊤ SurfaceError). GoesOn (λ w. g.W.Widths.width_of w) before r c.end.new.surface c.end.new.self (prepared modes c.args.columns first)) (sym result)
    (stops (λ w. g.W.Widths.width_of w) before c.end.new.surface c.end.new.surface c.in_err-end.field-0.0 first (prepared modes c.args.columns first) c.end.new.self
    (ended (λ w. g.W.Widths.width_of w) before c.args.surface.now c.end.new.surface c.args.run.now running (Err c.in_err-end.field-0.0) on c.in_err-end.ensures.added)
    (prepared_grows of modes c.args.columns first))

pub returns-in_err-wrap : goal.returns-in_err-wrap
returns-in_err-wrap g c = λ before running on.
    let modes : Modes = modes_in c.args.modes.now in
    let of = g.W.Widths.width_of before.grid.widths in
    let first : Running = text_put of running in
    let wrapped : Running = asked (wrap_request modes c.args.columns first.led) first in
    let put = ended (λ w. g.W.Widths.width_of w) before c.args.surface.now c.end.new.surface c.args.run.now running _ on c.in_ok-end.ensures.added in
    let p = err_from_is_err_and c.from_residual-in_err-wrap.result c.from_residual-in_err-wrap.ensures.1 in
    let result : c.from_residual-in_err-wrap.result ≡ Err c.in_err-wrap.field-0.0 = p.1 ∙ ap Err p.2 in
    subst (λ (r : Result ⊤ SurfaceError). GoesOn (λ w. g.W.Widths.width_of w) before r c.wrap.new.surface c.end.new.self (prepared modes c.args.columns first)) (sym result)
    (stops (λ w. g.W.Widths.width_of w) before c.wrap.new.surface c.wrap.new.surface c.in_err-wrap.field-0.0 wrapped (prepared modes c.args.columns first) c.end.new.self
    (wrap_goes (λ w. g.W.Widths.width_of w) modes c.args.columns before c.end.new.surface c.wrap.new.surface (Err c.in_err-wrap.field-0.0) first put.goes c.in_err-wrap.ensures)
    (wrap_grows of modes c.args.columns first))

pub returns-in_err-insert : goal.returns-in_err-insert
returns-in_err-insert g c = λ before running on.
    let modes : Modes = modes_in c.args.modes.now in
    let of = g.W.Widths.width_of before.grid.widths in
    let first : Running = text_put of running in
    let wrapped : Running = asked (wrap_request modes c.args.columns first.led) first in
    let put = ended (λ w. g.W.Widths.width_of w) before c.args.surface.now c.end.new.surface c.args.run.now running _ on c.in_ok-end.ensures.added in
    let wrap = wrap_goes (λ w. g.W.Widths.width_of w) modes c.args.columns before c.end.new.surface c.wrap.new.surface _ first put.goes c.in_ok-wrap.ensures in
    let p = err_from_is_err_and c.from_residual-in_err-insert.result c.from_residual-in_err-insert.ensures.1 in
    let result : c.from_residual-in_err-insert.result ≡ Err c.in_err-insert.field-0.0 = p.1 ∙ ap Err p.2 in
    subst (λ (r : Result ⊤ SurfaceError). GoesOn (λ w. g.W.Widths.width_of w) before r c.insert.new.surface c.end.new.self (prepared modes c.args.columns first)) (sym result)
    (stops (λ w. g.W.Widths.width_of w) before c.insert.new.surface c.insert.new.surface c.in_err-insert.field-0.0 (prepared modes c.args.columns first) (prepared modes c.args.columns first) c.end.new.self
    (insert_goes (λ w. g.W.Widths.width_of w) modes c.args.columns before c.wrap.new.surface c.insert.new.surface (Err c.in_err-insert.field-0.0) wrapped wrap.goes c.in_err-insert.ensures)
    (omega arith))

pub returns : goal.returns
returns g c = λ before running on.
    let modes : Modes = modes_in c.args.modes.now in
    let of = g.W.Widths.width_of before.grid.widths in
    let first : Running = text_put of running in
    let wrapped : Running = asked (wrap_request modes c.args.columns first.led) first in
    let put = ended (λ w. g.W.Widths.width_of w) before c.args.surface.now c.end.new.surface c.args.run.now running _ on c.in_ok-end.ensures.added in
    let wrap = wrap_goes (λ w. g.W.Widths.width_of w) modes c.args.columns before c.end.new.surface c.wrap.new.surface _ first put.goes c.in_ok-wrap.ensures in
    let inserted = insert_goes (λ w. g.W.Widths.width_of w) modes c.args.columns before c.wrap.new.surface c.insert.new.surface _ wrapped wrap.goes c.in_ok-insert.ensures in
    record {
      goes = ready_on (λ w. g.W.Widths.width_of w) before c.insert.new.surface _ modes c.args.columns first inserted.goes c.in_ok-end.ensures.empty c.cursor_position-column.ensures.column c.cursor_position-column.ensures.row;
      failed = λ f. cc;
      numbers = λ f. cc;
    }
