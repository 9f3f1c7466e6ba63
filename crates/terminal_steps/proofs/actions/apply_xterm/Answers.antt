use Rattle.std.proofs.Common.{[], List, ap}
use Rattle.std.specs.Prelude.{ℕ, Some, option_map}
use Rattle.escape_stream.specs.StreamActionView.{value_of}
use Rattle.terminal_table.specs.Modes.{with_last}
use Rattle.terminal_table.specs.Requests.{request_done, request_of}
use Rattle.terminal_table.specs.State.{State}
use Rattle.terminal_steps.specs.ProfileView.{modes_in}
use Rattle.terminal_steps.specs.TerminalStates.{state_of}
use Rattle.terminal_steps.proofs.RequestLemmas.{then_kept}
use Rattle.terminal_steps.proofs.actions.apply_xterm.Goals as goal

pub returns : goal.returns
returns g c = λ can last.
    let state : State = state_of c.args.surface.now c.args.saved.now c.args.replies.now.items (Some (modes_in c.args.modes.now)) in
    let request = request_of state.modes state.screen (value_of c.args.action) in
    let done = c.carry_out_action-result.new in
    then_kept (λ w. g.W.Widths.width_of w) state request (request_done (g.W.Widths.width_of c.args.surface.now.grid.widths) request state).modes (Some (modes_in done.modes)) (option_map (with_last [])) c.args.surface.now done.surface c.carry_out_action-result.result done.saved done.replies.items _
    (c.carry_out_action-result.ensures can last) (ap (λ (text : List ℕ). Some (with_last text (modes_in done.modes))) c.forget_last.ensures)
