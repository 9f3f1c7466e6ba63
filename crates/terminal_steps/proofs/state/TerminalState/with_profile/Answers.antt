use Rattle.std.proofs.Common.{rules, ◌≡◌, ◌<◌, ◌^◌, [], refl, sym, subst, arith}
use Rattle.std.specs.Prelude.{None}
use Rattle.std.specs.String.{string_bytes}
use Rattle.screen_effects.specs.Display.{Display, IsDisplay}
use Rattle.screen_effects.proofs.StrokeLaws.{new_display_is}
use Rattle.screen_log.specs.Log.{Log}
use Rattle.terminal_table.specs.State.{IsState}
use Rattle.terminal_table.specs.RunText.{IsPrinted}
use Rattle.terminal_table.proofs.StateLemmas.{new_is}
use Rattle.terminal_table.specs.Modes.{AreNew}
use Rattle.terminal_steps.specs.ProfileView.{kept_modes}
use Rattle.terminal_steps.proofs.ProfileLemmas.{profile_is_new}
use Rattle.terminal_steps.proofs.state.TerminalState.with_profile.Goals as goal

pub returns-clause-ready : goal.returns-clause-ready
returns-clause-ready g c =
    let s = c.in_ok-surface.surface in
    let size = c.requires.size in
    let f = g.W.Widths.width_of s.grid.widths in
    let new = new_is f (kept_modes c.modes_of.result) c.args.width c.args.height (subst AreNew (sym c.modes_of.ensures) (profile_is_new c.args.profile)) (g.met.W.Widths.space_is_one s.grid.widths) size.columns.0 size.rows.0 in
    let nothing : string_bytes c.new-3.result ≡ [] = search rules in
    record {
      stays = c.in_ok-surface.ensures.stays;
      shown = subst IsDisplay (sym c.in_ok-surface.ensures.shown) (new_display_is c.args.width c.args.height size.columns.0 size.rows.0);
      lawful = subst (λ (d : Display). IsState f (record { screen = d.screen; saved = None; replies = c.new-2.result.items; modes = kept_modes c.modes_of.result })) (sym c.in_ok-surface.ensures.shown)
          (record { lawful = new.lawful; whole = new.whole; narrow = new.narrow; sound = new.sound; other = new.other; last = new.last });
      fits = subst (λ (l : Log). l.number < 2 ^ 64) (sym c.in_ok-surface.ensures.log) (omega arith);
      plain = subst IsPrinted (sym nothing) refl;
    }
