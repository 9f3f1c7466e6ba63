use Rattle.std.proofs.Common.{◌<◌, ◌≤◌, ◌+◌, ap, sym, subst, ◌∙◌, arith}
use Rattle.std.specs.Prelude.{nat_le}
use Rattle.cell_base.specs.Attributes.{Attributes}
use Rattle.cell_base.specs.Row.{columns_of}
use Rattle.screen_grid.specs.Grid.{Grid, Shows, grid_with, display_of}
use Rattle.screen_grid.proofs.PutLemmas.{count_columns, put_here, put_next, same_pen}
use Rattle.screen_effects.specs.Strokes.{CarriageReturn, Cluster, stroke_done}
use Rattle.screen_grid.proofs.grid.Grid.put_text.Goals as goal

pub returns-then-width-self : goal.returns-then-width-self
returns-then-width-self g c cluster k =
    let old = c.args.self.now in
    let width_of = g.W.Widths.width_of old.widths in
    let columns = columns_of c.args.text.now (nat_le 2 c.args.width) old.pen in
    let x = ap (λ (z : Grid g.row.W.Denot). z.column) c.self.view_is in
    let w = ap (λ (z : Grid g.row.W.Denot). z.width) c.self.view_is in
    let fits : old.column + c.args.width ≤ old.width = let t = c.if-width-self.true in let r = c.requires.drawn.lawful.lawful.column_in in omega arith in
    subst (λ (z : Grid g.row.W.Denot). Shows old z (stroke_done width_of (display_of old) (Cluster cluster))) (sym c.in_ok-write.ensures)
    (put_here width_of old cluster columns c.args.width c.requires.drawn k (count_columns c.args.text.now c.args.width old.pen c.requires.width.0 c.requires.width.1) fits)

pub returns : goal.returns
returns g c cluster k =
    let old = c.args.self.now in
    let fed = c.line_feed.new.self in
    let home = c.carriage_return.new.self in
    let width_of = g.W.Widths.width_of old.widths in
    let columns = columns_of c.args.text.now (nat_le 2 c.args.width) old.pen in
    let x = ap (λ (z : Grid g.row.W.Denot). z.column) c.self.view_is in
    let w = ap (λ (z : Grid g.row.W.Denot). z.width) c.self.view_is in
    let wide : old.width < old.column + c.args.width = let t = c.if-width-self.false in omega arith in
    let f = c.line_feed.ensures in
    let r = subst (λ (z : g.row.W.Denot). Shows fed home (stroke_done (g.W.Widths.width_of z) (display_of fed) CarriageReturn)) f.widths c.carriage_return.ensures in
    let pen = same_pen width_of old fed home f r in
    subst (λ (z : Grid g.row.W.Denot). Shows old z (stroke_done width_of (display_of old) (Cluster cluster))) (sym (c.in_ok-write-2.ensures ∙ ap (λ (a : Attributes). grid_with home (columns_of c.args.text.now (nat_le 2 c.args.width) a) c.args.width) pen))
    (put_next width_of old fed home cluster columns c.args.width c.requires.drawn k (count_columns c.args.text.now c.args.width old.pen c.requires.width.0 c.requires.width.1) wide c.requires.fits f r)
