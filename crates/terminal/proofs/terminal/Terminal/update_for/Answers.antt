use Rattle.std.proofs.Common.{◌≡◌, IfOk, subst}
use Rattle.cell_surface.specs.Surface.{Surface, shown_by}
use Rattle.terminal.specs.Terminal.{Terminal, state_in}
use Rattle.terminal_viewers.specs.Update.{update_of}
use Rattle.terminal.proofs.terminal.Terminal.update_for.Goals as goal

pub returns : goal.returns
returns g c =
    subst (λ (t : Terminal g.row.W.Denot). IfOk c.update.result (λ bytes. bytes.items ≡ update_of (state_in t).screen t.surface.log c.args.number)) c.self.view_is
    (subst (λ (s : Surface g.row.W.Denot). IfOk c.update.result (λ bytes. bytes.items ≡ update_of (shown_by s).screen s.log c.args.number)) c.surface.ensures c.update.ensures)
