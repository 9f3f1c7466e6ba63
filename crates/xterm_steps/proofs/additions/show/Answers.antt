use Rattle.std.proofs.Common.{◌≡◌, ◌<◌, ◌^◌, ◌∙◌, List, length, map, subst, sym, ap, arith}
use Rattle.std.specs.Prelude.{⊤, Ok, Err, Result}
use Rattle.std.proofs.lemmas.List.{length-map}
use Rattle.std.proofs.lemmas.Result.{err_from_is_err_and}
use Rattle.cell_surface.specs.declared.error.SurfaceError.{SurfaceError}
use Rattle.cell_surface.specs.Surface.{number_of, shown_by}
use Rattle.screen_change.specs.ChangeValue.{ChangeValue}
use Rattle.screen_change.specs.ValueOf.{value_of}
use Rattle.screen_effects.specs.Display.{Display}
use Rattle.screen_effects.specs.Effect.{replay}
use Rattle.terminal_table.specs.Led.{led}
use Rattle.xterm_steps.specs.Becomes.{ShowsBy}
use Rattle.xterm_steps.proofs.ShowLemmas.{shows_err, shows_ok}
use Rattle.xterm_steps.proofs.additions.show.Goals as goal

pub returns : goal.returns
returns g c = λ screen is follows title.
    let before = c.args.surface.now in
    let width_of = g.W.Widths.width_of before.grid.widths in
    let there : replay width_of (shown_by before) (map value_of c.args.changes.items) ≡ record (shown_by before) { screen = screen } =
    ap (replay width_of (shown_by before)) is
    ∙ c.logged_differences_lead_to_the_screen.ensures.led width_of (shown_by before) screen (g.met.W.Widths.space_is_one before.grid.widths) (c.surfaces_stay_lawful.ensures.lawful c.requires.stays) follows title in
    subst (λ (changes : List ChangeValue). ShowsBy (λ w. g.W.Widths.width_of w) before changes screen (Ok tt) c.add_changes.new.self) is
    (shows_ok (λ w. g.W.Widths.width_of w) before c.add_changes.new.self (map value_of c.args.changes.items) screen (length c.args.changes.items) (sym (length-map c.args.changes.items value_of)) c.requires.stays
    c.in_ok-add_changes.ensures.added (λ h. let refused = c.in_ok-add_changes.ensures.numbers.1 (c.requires.stays, h) in cc) (ap (λ (d : Display). d.screen) there))

pub returns-in_err-add_changes : goal.returns-in_err-add_changes
returns-in_err-add_changes g c = λ screen is follows title.
    let before = c.args.surface.now in
    let refusal = c.in_err-add_changes.field-0.0 in
    let number = c.current_seqno-number.ensures in
    let small : number_of before < 2 ^ 64 = omega (arith, number) in
    let p = err_from_is_err_and c.from_residual.result c.from_residual.ensures.1 in
    let result : c.from_residual.result ≡ Err refusal = p.1 ∙ ap Err p.2 in
    subst (λ (r : Result ⊤ SurfaceError). ShowsBy (λ w. g.W.Widths.width_of w) before (led (shown_by before).screen screen) screen r c.add_changes.new.self) (sym result)
    (subst (λ (changes : List ChangeValue). ShowsBy (λ w. g.W.Widths.width_of w) before changes screen (Err refusal) c.add_changes.new.self) is
    (shows_err (λ w. g.W.Widths.width_of w) before c.add_changes.new.self (map value_of c.args.changes.items) screen (length c.args.changes.items) refusal (sym (length-map c.args.changes.items value_of)) c.requires.stays small
    (λ e. c.in_err-add_changes.ensures.failed.0 (ap Err e)) (λ e. (c.in_err-add_changes.ensures.numbers.0 (ap Err e)).1) (λ e. c.in_err-add_changes.ensures.unchanged (ap Err e)) (λ e. c.in_err-add_changes.ensures.memory (ap Err e))))
