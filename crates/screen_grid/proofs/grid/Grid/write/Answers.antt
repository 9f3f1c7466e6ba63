use Rattle.std.proofs.Common.{◌≡◌, ◌≤◌, ◌+◌, set, ap, sym, subst, ◌∙◌, arith}
use Rattle.std.specs.Prelude.{nat_le, max}
use Rattle.cell_base.specs.Attributes.{Attributes}
use Rattle.cell_base.specs.Row.{columns_of}
use Rattle.cell_line.specs.LineCalls.{set_cell_grapheme as grapheme_set}
use Rattle.screen_grid.specs.Grid.{Grid, IsDrawn, grid_with, line_at}
use Rattle.screen_grid.specs.GridView.{grid_of}
use Rattle.screen_grid.proofs.LineLemmas.{line_width, row_in}
use Rattle.screen_grid.proofs.PutLemmas.{count_columns, line_set}
use Rattle.screen_grid.proofs.grid.Grid.write.Goals as goal

pub set_cell-requires-clause-fits : goal.set_cell-requires-clause-fits
set_cell-requires-clause-fits g c =
    let old = grid_of {W = g.row.W.Denot} c.self.inside in
    let h : IsDrawn old = subst IsDrawn (sym c.self.view_is) c.requires.drawn in
    let f = subst (λ (x : Grid g.row.W.Denot). x.column + c.args.width ≤ x.width) (sym c.self.view_is) c.requires.fits in
    let wide = line_width old old.row h (row_in old h) in
    omega arith

pub returns : goal.returns
returns g c =
    let old = grid_of {W = g.row.W.Denot} c.self.inside in
    let text = c.args.text.now in
    let width = c.args.width in
    let same : max 1 width ≡ width = let r = c.requires.width in omega arith in
    let wide : nat_le 2 (max 1 width) ≡ nat_le 2 width = ap (nat_le 2) same in
    let count = count_columns text width old.pen c.requires.width.0 c.requires.width.1 in
    subst (λ (x : Grid g.row.W.Denot). IsDrawn x → x.column + width ≤ x.width → record old { lines = c.set_cell.new.rows; column = old.column + width } ≡ grid_with x (columns_of text (nat_le 2 width) x.pen) width) c.self.view_is
    (λ h f. let line = line_set old text width (nat_le 2 width) h c.requires.stands wide (omega arith) in
    let lines = c.in_ok-set_cell.ensures.lines ∙ ap (λ (a : Attributes). set old.lines old.row (grapheme_set (line_at old.lines old.row) old.column text width a 0)) c.in_ok-pen.ensures.copy ∙ ap (set old.lines old.row) line in
    λ i. record old { lines = lines i; column = old.column + width })
    c.requires.drawn c.requires.fits
