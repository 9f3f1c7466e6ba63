use Rattle.std.proofs.Common.{◌≡◌, IfOk, subst}
use Rattle.std.specs.String.{string_bytes}
use Rattle.cell_base.specs.Screen.{screen_text}
use Rattle.cell_surface.specs.Surface.{Surface, shown_by}
use Rattle.terminal.proofs.driver.rows_of.Goals as goal

pub returns : goal.returns
returns g c = subst (λ (s : Surface g.row.W.Denot). IfOk c.screen_chars_to_string.result (λ text. string_bytes text ≡ screen_text (shown_by s).screen)) c.surface.ensures c.screen_chars_to_string.ensures
