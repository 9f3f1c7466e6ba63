use Rattle.std.proofs.Common.{◌≡◌, set, ap, sym, subst, ◌∙◌, length, drop, arith}
use Rattle.cell_base.specs.Cluster.{clusters}
use Rattle.cell_line.specs.LineCalls.{set_text as text_set, set_text_end, set_clusters}
use Rattle.screen_grid.specs.Grid.{Grid, IsDrawn, LeadsOn, line_at}
use Rattle.screen_grid.specs.GridView.{grid_of}
use Rattle.screen_grid.proofs.LineLemmas.{line_width, row_in}
use Rattle.screen_grid.proofs.RunLemmas.{grid_on, fitting_here, leads_on}
use Rattle.screen_grid.proofs.grid.Grid.put_in_row.Goals as goal

pub set_text-requires-clause-within : goal.set_text-requires-clause-within
set_text-requires-clause-within g c =
    let old = grid_of {W = g.row.W.Denot} c.self.inside in
    let h : IsDrawn old = subst IsDrawn (sym c.self.view_is) c.requires.drawn in
    let wide = line_width old old.row h (row_in old h) in
    let column = h.lawful.lawful.column_in in
    omega arith

pub returns : goal.returns
returns g c =
    let old = grid_of {W = g.row.W.Denot} c.self.inside in
    let h : IsDrawn old = subst IsDrawn (sym c.self.view_is) c.requires.drawn in
    let wide : length (line_at old.lines old.row).columns ≡ old.width = line_width old old.row h (row_in old h) in
    let width_of = g.W.Widths.width_of old.widths in
    let gs = clusters c.args.text.now in
    let left : clusters c.in_ok-column.left.now ≡ drop (length (fitting_here width_of old gs)) gs =
    c.in_ok-column.ensures.rest ∙ ap (λ w. drop (set_clusters old.column w c.args.text.now old.pen width_of) gs) wide in
    let lines = c.in_ok-column.ensures.lines ∙ ap (λ w. set old.lines old.row (text_set (line_at old.lines old.row) old.column w c.args.text.now old.pen width_of)) wide in
    let column = c.in_ok-column.ensures.after ∙ ap (λ w. set_text_end old.column w c.args.text.now old.pen width_of) wide in
    let new = record old { lines = c.set_text.new.rows; column = c.in_ok-column.column } in
    let same : new ≡ grid_on width_of old (fitting_here width_of old gs) = λ i. record old { lines = lines i; column = column i } in
    subst (λ (x : Grid g.row.W.Denot). LeadsOn (g.W.Widths.width_of x.widths) x new gs (clusters c.in_ok-column.left.now)) c.self.view_is
    (subst (λ (x : Grid g.row.W.Denot). LeadsOn width_of old x gs (clusters c.in_ok-column.left.now)) (sym same) (leads_on width_of old gs (clusters c.in_ok-column.left.now) h c.requires.stands left))
