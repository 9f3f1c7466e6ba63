use Rattle.std.proofs.Common.{◌≡◌, ◌+◌, ◌*◌, ◌≤◌, ◌/◌, ◌∙◌, ℕ, List, length, refl, sym, ap, arith}
use Rattle.std.specs.List.{concat}
use Rattle.std.proofs.lemmas.Bool.{leb-true}
use Rattle.cell_base.specs.Cluster.{clusters}
use Rattle.cell_base.specs.Screen.{Screen}
use Rattle.cell_surface.specs.Surface.{shown_by}
use Rattle.terminal_steps.proofs.WholeRunLemmas.{clusters_join, clusters_some, plain_run, plainly_everywhere, plainly_in_row, some_of}
use Rattle.terminal_steps.proofs.fast.whole_runs.is_put_as_one.Goals as goal

pub returns-then-frame-3 : goal.returns-then-frame-3
returns-then-frame-3 g c = λ yes modes f can.
    let of = g.W.Widths.width_of c.args.surface.now.grid.widths in
    let s : Screen = (shown_by c.args.surface.now).screen in
    plain_run of modes s c.args.text.now can.printed.utf8 (some_of c.args.text.now c.requires)
    (plainly_everywhere of modes s (sym f.insert ∙ c.if-frame.false) (sym f.autowrap ∙ c.if-frame-2.true) (sym f.scrolls ∙ c.if-frame-3.true) (clusters c.args.text.now) s can.state.lawful (record { wide = refl; tall = refl; pen = refl }))

pub returns : goal.returns
returns g c = λ yes modes f can.
    let of = g.W.Widths.width_of c.args.surface.now.grid.widths in
    let s : Screen = (shown_by c.args.surface.now).screen in
    let text : List ℕ = c.args.text.now in
    let most = leb-true (length text) (c.saturating_sub.result / 2) yes in
    let left = c.saturating_sub.ensures in
    let column = c.cursor_position-column.ensures.column in
    let inside = can.state.lawful.column_in in
    let whole = ap length (clusters_join text can.printed.utf8) in
    let width = f.width in
    let room : s.column + 2 * length (concat (clusters text)) ≤ s.width = omega (arith, most, left, column, inside, whole, width) in
    plain_run of modes s text can.printed.utf8 (some_of text c.requires) (plainly_in_row of modes (clusters text) s (sym f.insert ∙ c.if-frame.false) (clusters_some text can.printed.utf8) room)
