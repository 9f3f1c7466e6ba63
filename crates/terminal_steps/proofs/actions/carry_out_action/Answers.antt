use Rattle.std.proofs.Common.{◌≡◌, refl}
use Rattle.std.specs.Prelude.{⊤, Some, None, Result, Ok, Err, IfOk}
use Rattle.cell_surface.specs.Surface.{shown_by}
use Rattle.cell_surface.specs.declared.error.SurfaceError.{SurfaceError}
use Rattle.escape_stream.specs.StreamActionView.{value_of}
use Rattle.terminal_table.specs.Requests.{own_request}
use Rattle.terminal_table.specs.State.{State}
use Rattle.terminal_steps.specs.ProfileView.{modes_in}
use Rattle.terminal_steps.specs.TerminalStates.{state_of}
use Rattle.terminal_steps.proofs.RequestLemmas.{table_carries}
use Rattle.terminal_steps.proofs.actions.carry_out_action.Goals as goal

if_ok : {X : Type 0} (result : Result ⊤ SurfaceError) → X → IfOk result (λ _. X)
if_ok (Ok done) x = x
if_ok (Err refusal) x = tt

pub returns-in-None : goal.returns-in-None
returns-in-None g c = λ can last.
    let state : State = state_of c.args.surface.now c.args.saved.now c.args.replies.now.items (Some (modes_in c.args.modes.now)) in
    let none : None ≡ own_request (Some (modes_in c.args.modes.now)) (shown_by c.args.surface.now).screen (value_of c.args.action) = c.in-None.ensures in
    let done = c.apply_table.ensures in
    table_carries state (value_of c.args.action) (λ w. g.W.Widths.width_of w) c.args.surface.now c.apply_table.new.surface c.apply_table.result c.apply_table.new.saved c.apply_table.new.replies.items state.modes (λ m. m) none (if_ok c.apply_table.result refl)
    (done.added state.modes) (done.saved state.modes) (done.replies state.modes) done.failed (done.numbers state.modes) (done.memory state.modes) done.fits
