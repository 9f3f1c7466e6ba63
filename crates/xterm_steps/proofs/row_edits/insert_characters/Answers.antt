use Rattle.std.proofs.Common.{◌≡◌, subst, sym, ◌∙◌, arith}
use Rattle.cell_base.specs.Row.{Row}
use Rattle.cell_base.specs.Screen.{Screen}
use Rattle.cell_edits.specs.RowEdits.{cut, inserted}
use Rattle.cell_surface.specs.Surface.{shown_by}
use Rattle.screen_effects.specs.Effect.{cursor_row}
use Rattle.xterm_table.specs.Follows.{Follows}
use Rattle.xterm_table.specs.RowEdits.{blanks, with_row}
use Rattle.xterm_steps.specs.Becomes.{Becomes}
use Rattle.xterm_steps.proofs.AddLemmas.{follows_itself}
use Rattle.xterm_steps.proofs.row_edits.insert_characters.Goals as goal

pub inserted_line-requires-clause-within : goal.inserted_line-requires-clause-within
inserted_line-requires-clause-within g c =
    let a = c.active_column-column.ensures in
    let b = c.columns_within-inserted.ensures in
    omega (arith, a, b)

pub replace_row-requires-clause-follows : goal.replace_row-requires-clause-follows
replace_row-requires-clause-follows g c =
    let s : Screen = (shown_by c.args.surface.now).screen in
    let width_of = g.W.Widths.width_of c.args.surface.now.grid.widths in
    let stays = sym c.is_failed.ensures ∙ c.if-is_failed.false in
    let a = c.active_column-column.ensures in
    let b = c.columns_within-inserted.ensures in
    let row : c.in_ok-line.line.columns ≡ _ = c.in_ok-line.ensures ∙ (λ i. cut s.width (inserted (a i) (blanks (b i) s) (cursor_row s))) in
    let itself : Follows width_of s s = follows_itself width_of (shown_by c.args.surface.now) (c.surfaces_stay_lawful.ensures.lawful stays) (c.surfaces_stay_lawful.ensures.cells stays) in
    subst (λ (r : Row). Follows width_of s (with_row r s)) (sym row)
    (c.column_moves_follow.ensures.inserted width_of s s c.args.count (g.met.W.Widths.space_is_one c.args.surface.now.grid.widths) itself)

pub returns : goal.returns
returns g c =
    let s : Screen = (shown_by c.args.surface.now).screen in
    let a = c.active_column-column.ensures in
    let b = c.columns_within-inserted.ensures in
    let row : c.in_ok-line.line.columns ≡ _ = c.in_ok-line.ensures ∙ (λ i. cut s.width (inserted (a i) (blanks (b i) s) (cursor_row s))) in
    subst (λ (r : Row). Becomes (λ w. g.W.Widths.width_of w) c.args.surface.now (with_row r s) c.replace_row.result c.replace_row.new.surface) row c.replace_row.ensures
