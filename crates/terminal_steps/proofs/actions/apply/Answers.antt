use Rattle.std.proofs.Common.{◌≡◌, [], refl, sym, ap, subst}
use Rattle.std.specs.Prelude.{⊤, None, Option, option_map, Result, Ok, Err, IfOk}
use Rattle.cell_surface.specs.Surface.{shown_by}
use Rattle.escape_stream.specs.StreamActionView.{value_of}
use Rattle.cell_surface.specs.declared.error.SurfaceError.{SurfaceError}
use Rattle.terminal_table.specs.Modes.{Modes, with_last}
use Rattle.terminal_table.specs.Requests.{own_request}
use Rattle.terminal_table.specs.State.{State}
use Rattle.terminal_steps.specs.ProfileView.{kept_modes}
use Rattle.terminal_steps.specs.TerminalStates.{state_of}
use Rattle.terminal_steps.proofs.RequestLemmas.{table_carries}
use Rattle.terminal_steps.specs.declared.profile.Modes as code
use Rattle.terminal_steps.proofs.actions.apply.Goals as goal

if_ok : {X : Type 0} (result : Result ⊤ SurfaceError) → X → IfOk result (λ _. X)
if_ok (Ok done) x = x
if_ok (Err refusal) x = tt

pub returns-in-None-clause-done : goal.returns-in-None-clause-done
returns-in-None-clause-done g c = λ stays can last.
    let modes : Option Modes = kept_modes c.args.modes.now in
    let state : State = state_of c.args.surface.now c.args.saved.now c.args.replies.now.items modes in
    let none : None ≡ own_request modes (shown_by c.args.surface.now).screen (value_of c.args.action) =
    ap (λ (kept : Option code.Modes). own_request (kept_modes kept) (shown_by c.args.surface.now).screen (value_of c.args.action)) (sym c.in-None.is) in
    let done = c.apply_table.ensures in
    table_carries state (value_of c.args.action) (λ w. g.W.Widths.width_of w) c.args.surface.now c.apply_table.new.surface c.apply_table.result c.apply_table.new.saved c.apply_table.new.replies.items modes (option_map (with_last [])) none (if_ok c.apply_table.result (subst (λ (kept : Option code.Modes). kept_modes kept ≡ option_map (with_last []) (kept_modes kept)) (sym c.in-None.is) refl))
    (done.added modes) (done.saved modes) (done.replies modes) done.failed (done.numbers modes) (done.memory modes) done.fits
