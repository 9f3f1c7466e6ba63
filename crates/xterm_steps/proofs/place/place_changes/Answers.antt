use Rattle.std.proofs.Common.{◌≡◌, List, [], ◌∷◌, ◌++◌, map, sym, ap, ◌∙◌}
use Rattle.cell_base.specs.declared.attributes.Position.TheVariants.{Absolute}
use Rattle.cell_base.specs.Screen.{Screen}
use Rattle.cell_surface.specs.Surface.{shown_by}
use Rattle.screen_change.specs.ChangeValue.{ChangeValue, AllAttributes, CursorPosition}
use Rattle.screen_change.specs.ValueOf.{value_of}
use Rattle.xterm_steps.proofs.MoveLemmas.{place_led}
use Rattle.xterm_steps.proofs.place.place_changes.Goals as goal

pub returns : goal.returns
returns g c =
    let s : Screen = (shown_by c.args.surface.now).screen in
    let none : map value_of c.new-changes.result.items ≡ [] = ap (map value_of) c.new-changes.ensures.items in
    c.in_ok-push_cursor.ensures
    ∙ (λ i. none i ++ CursorPosition (Absolute c.args.column) (Absolute c.args.row) ∷ AllAttributes (c.pen.ensures i) ∷ [])
    ∙ sym (place_led s c.args.column c.args.row c.requires.column)
