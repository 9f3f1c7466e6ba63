use Rattle.std.proofs.Common.{◌≡◌, ◌+◌, ◌∙◌, true, false, sym, ap, subst}
use Rattle.std.specs.Prelude.{⊤, nat_le, Result, Ok, Err}
use Rattle.std.proofs.lemmas.Result.{err_from_is_err_and}
use Rattle.cell_surface.specs.declared.error.SurfaceError.{SurfaceError}
use Rattle.terminal_table.specs.Modes.{Modes}
use Rattle.terminal_table.specs.Runs.{Running, columns_for, fits, prepared, put_next, text_put, with_cluster}
use Rattle.terminal_steps.specs.ProfileView.{modes_in}
use Rattle.terminal_steps.specs.RunView.{GoesOn}
use Rattle.terminal_steps.proofs.RunLemmas.{all_well, memory_stops, pushed_on, still_on, stops_on}
use Rattle.terminal_steps.proofs.WholeRunLemmas.{next_fits, next_over, next_plain, next_ready}
use Rattle.terminal_steps.proofs.runs.put_next.Goals as goal

pub returns-then-is_put_plainly : goal.returns-then-is_put_plainly
returns-then-is_put_plainly g c = λ before running f t on.
    let modes : Modes = modes_in c.args.modes.now in
    let of = g.W.Widths.width_of before.grid.widths in
    let k = c.columns_for-columns.result in
    let still = still_on (λ w. g.W.Widths.width_of w) modes before c.args.surface.now c.args.run.now running c.args.frame.now f on in
    let takes : k ≡ columns_for of running.screen c.args.cluster.now = c.columns_for-columns.ensures.value running.screen (sym still.width) ∙ (λ i. columns_for (g.W.Widths.width_of ((c.widths.ensures ∙ on.added.widths) i)) running.screen c.args.cluster.now) in
    let plain = c.if-is_put_plainly.ensures modes running.screen still (sym on.at.column) (sym on.at.row) in
    let at = c.in_ok-push.ensures.place of running.screen on.going.lawful still.width still.height takes on.at in
    subst (λ (r : Running). GoesOn (λ w. g.W.Widths.width_of w) before (Ok tt) c.args.surface.now c.push.new.self r) (sym (next_plain of modes running c.args.cluster.now k takes plain))
    (all_well (λ w. g.W.Widths.width_of w) before c.args.surface.now c.push.new.self (with_cluster of running c.args.cluster.now) (pushed_on (λ w. g.W.Widths.width_of w) before c.args.surface.now c.args.run.now c.push.new.self running c.args.cluster.now on t c.in_ok-push.ensures.text at))

pub returns-in_err-prepare : goal.returns-in_err-prepare
returns-in_err-prepare g c = λ before running f t on.
    let modes : Modes = modes_in c.args.modes.now in
    let of = g.W.Widths.width_of before.grid.widths in
    let k = c.columns_for-columns.result in
    let still = still_on (λ w. g.W.Widths.width_of w) modes before c.args.surface.now c.args.run.now running c.args.frame.now f on in
    let takes : k ≡ columns_for of running.screen c.args.cluster.now = c.columns_for-columns.ensures.value running.screen (sym still.width) ∙ (λ i. columns_for (g.W.Widths.width_of ((c.widths.ensures ∙ on.added.widths) i)) running.screen c.args.cluster.now) in
    let asks = c.if-is_put_plainly.ensures modes running.screen still (sym on.at.column) (sym on.at.row) in
    let p = err_from_is_err_and c.from_residual-in_err-prepare.result c.from_residual-in_err-prepare.ensures.1 in
    let result : c.from_residual-in_err-prepare.result ≡ Err c.in_err-prepare.field-0.0 = p.1 ∙ ap Err p.2 in
    subst (λ (r : Result ⊤ SurfaceError). GoesOn (λ w. g.W.Widths.width_of w) before r c.prepare.new.surface c.prepare.new.run (put_next modes of running c.args.cluster.now)) (sym result)
    (stops_on (λ w. g.W.Widths.width_of w) before c.prepare.new.surface c.prepare.new.surface c.in_err-prepare.field-0.0 (prepared modes k (text_put of running)) (put_next modes of running c.args.cluster.now) c.prepare.new.run c.prepare.new.run
    (c.in_err-prepare.ensures before running on) (next_ready of modes running c.args.cluster.now k takes asks))

pub returns-in_err-push-2 : goal.returns-in_err-push-2
returns-in_err-push-2 g c = λ before running f t on.
    let of = g.W.Widths.width_of before.grid.widths in
    let p = err_from_is_err_and c.from_residual-in_err-push-2.result c.from_residual-in_err-push-2.ensures.1 in
    memory_stops (λ w. g.W.Widths.width_of w) before c.prepare.new.surface c.push-then-fits.new.self (put_next (modes_in c.args.modes.now) of running c.args.cluster.now) c.from_residual-in_err-push-2.result (p.1 ∙ ap Err p.2)

pub returns-in_ok-push-2 : goal.returns-in_ok-push-2
returns-in_ok-push-2 g c = λ before running f t on.
    let modes : Modes = modes_in c.args.modes.now in
    let of = g.W.Widths.width_of before.grid.widths in
    let k = c.columns_for-columns.result in
    let still = still_on (λ w. g.W.Widths.width_of w) modes before c.args.surface.now c.args.run.now running c.args.frame.now f on in
    let takes : k ≡ columns_for of running.screen c.args.cluster.now = c.columns_for-columns.ensures.value running.screen (sym still.width) ∙ (λ i. columns_for (g.W.Widths.width_of ((c.widths.ensures ∙ on.added.widths) i)) running.screen c.args.cluster.now) in
    let asks = c.if-is_put_plainly.ensures modes running.screen still (sym on.at.column) (sym on.at.row) in
    let ready : Running = prepared modes k (text_put of running) in
    let there = (c.in_ok-prepare.ensures before running on).goes in
    let same = still_on (λ w. g.W.Widths.width_of w) modes before c.prepare.new.surface c.prepare.new.run ready c.args.frame.now f there in
    let fit : true ≡ fits k ready.led = c.if-fits.ensures ∙ (λ i. nat_le (there.at.column i + k) (same.width i)) in
    let takes_there : k ≡ columns_for of ready.screen c.args.cluster.now = c.columns_for-columns.ensures.value ready.screen (sym same.width) ∙ (λ i. columns_for (g.W.Widths.width_of ((c.widths.ensures ∙ on.added.widths) i)) ready.screen c.args.cluster.now) in
    let at = c.in_ok-push-2.ensures.place of ready.screen there.going.lawful same.width same.height takes_there there.at in
    subst (λ (r : Running). GoesOn (λ w. g.W.Widths.width_of w) before (Ok tt) c.prepare.new.surface c.push-then-fits.new.self r) (sym (next_fits of modes running c.args.cluster.now k takes asks fit))
    (all_well (λ w. g.W.Widths.width_of w) before c.prepare.new.surface c.push-then-fits.new.self (with_cluster of ready c.args.cluster.now) (pushed_on (λ w. g.W.Widths.width_of w) before c.prepare.new.surface c.prepare.new.run c.push-then-fits.new.self ready c.args.cluster.now there t c.in_ok-push-2.ensures.text at))

pub returns-else-fits : goal.returns-else-fits
returns-else-fits g c = λ before running f t on.
    let modes : Modes = modes_in c.args.modes.now in
    let of = g.W.Widths.width_of before.grid.widths in
    let k = c.columns_for-columns.result in
    let still = still_on (λ w. g.W.Widths.width_of w) modes before c.args.surface.now c.args.run.now running c.args.frame.now f on in
    let takes : k ≡ columns_for of running.screen c.args.cluster.now = c.columns_for-columns.ensures.value running.screen (sym still.width) ∙ (λ i. columns_for (g.W.Widths.width_of ((c.widths.ensures ∙ on.added.widths) i)) running.screen c.args.cluster.now) in
    let asks = c.if-is_put_plainly.ensures modes running.screen still (sym on.at.column) (sym on.at.row) in
    let ready : Running = prepared modes k (text_put of running) in
    let there = (c.in_ok-prepare.ensures before running on).goes in
    let same = still_on (λ w. g.W.Widths.width_of w) modes before c.prepare.new.surface c.prepare.new.run ready c.args.frame.now f there in
    let over : false ≡ fits k ready.led = c.if-fits.ensures ∙ (λ i. nat_le (there.at.column i + k) (same.width i)) in
    subst (λ (r : Running). GoesOn (λ w. g.W.Widths.width_of w) before (Ok tt) c.prepare.new.surface c.prepare.new.run r) (sym (next_over of modes running c.args.cluster.now k takes asks over))
    (all_well (λ w. g.W.Widths.width_of w) before c.prepare.new.surface c.prepare.new.run ready there)
