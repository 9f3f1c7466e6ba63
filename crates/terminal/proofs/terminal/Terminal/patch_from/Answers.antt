use Rattle.std.proofs.Common.{◌≡◌, IfOk, subst}
use Rattle.cell_surface.specs.Surface.{Surface, shown_by}
use Rattle.terminal.specs.Terminal.{Terminal, state_in}
use Rattle.terminal_viewers.specs.Patch.{patch_of}
use Rattle.terminal.proofs.terminal.Terminal.patch_from.Goals as goal

pub returns : goal.returns
returns g c =
    subst (λ (t : Terminal g.row.W.Denot). IfOk c.patch.result (λ bytes. bytes.items ≡ patch_of (state_in t).screen (state_in c.args.self.now).screen)) c.shown.view_is
    (subst (λ (s : Surface g.row.W.Denot). IfOk c.patch.result (λ bytes. bytes.items ≡ patch_of (shown_by s).screen (state_in c.args.self.now).screen)) c.surface-2.ensures
    (subst (λ (t : Terminal g.row.W.Denot). IfOk c.patch.result (λ bytes. bytes.items ≡ patch_of (shown_by c.surface-2.result.now).screen (state_in t).screen)) c.self.view_is
    (subst (λ (s : Surface g.row.W.Denot). IfOk c.patch.result (λ bytes. bytes.items ≡ patch_of (shown_by c.surface-2.result.now).screen (shown_by s).screen)) c.surface.ensures c.patch.ensures)))
