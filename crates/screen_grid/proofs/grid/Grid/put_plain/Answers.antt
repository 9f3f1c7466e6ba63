use Rattle.std.proofs.Common.{◌≡◌, ℕ, ◌≤◌, ◌+◌, true, [], ◌∷◌, length, subst, sym, arith}
use Rattle.text_clusters.specs.Plain.{is_printable}
use Rattle.text_clusters.proofs.TextLemmas.{joined_clusters}
use Rattle.screen_grid.specs.Grid.{Grid, IsDrawn, Shows, display_of}
use Rattle.screen_grid.specs.GridView.{grid_of}
use Rattle.screen_grid.proofs.LineLemmas.{line_width, row_in}
use Rattle.screen_grid.proofs.RunLemmas.{plain_on}
use Rattle.screen_effects.specs.Strokes.{text_done}
use Rattle.screen_grid.proofs.grid.Grid.put_plain.Goals as goal

pub set_plain-requires-clause-within : goal.set_plain-requires-clause-within
set_plain-requires-clause-within g c =
    let old = grid_of {W = g.row.W.Denot} c.self.inside in
    let h : IsDrawn old = subst IsDrawn (sym c.self.view_is) c.requires.drawn in
    let wide = line_width old old.row h (row_in old h) in
    let fits = subst (λ (x : Grid g.row.W.Denot). x.column + length c.args.text.now ≤ x.width) (sym c.self.view_is) c.requires.fits in
    omega arith

pub returns : goal.returns
returns g c =
    let old = grid_of {W = g.row.W.Denot} c.self.inside in
    let text = c.args.text.now in
    let h : IsDrawn old = subst IsDrawn (sym c.self.view_is) c.requires.drawn in
    let fits = subst (λ (x : Grid g.row.W.Denot). x.column + length text ≤ x.width) (sym c.self.view_is) c.requires.fits in
    let narrow = subst (λ (x : Grid g.row.W.Denot). (byte : ℕ) → is_printable byte ≡ true → g.W.Widths.width_of x.widths (byte ∷ []) ≡ 1) (sym c.self.view_is) c.requires.narrow in
    let new = record old { lines = c.set_plain.new.rows; column = old.column + length text } in
    subst (λ (x : Grid g.row.W.Denot). Shows x new (text_done (g.W.Widths.width_of x.widths) (display_of x) text)) c.self.view_is
    (plain_on (g.W.Widths.width_of old.widths) old new text h c.requires.printable narrow fits (joined_clusters text c.utf8.text)
    (λ i. record old { lines = c.in_ok-set_plain.ensures.lines i; column = old.column + length text }))
