use Rattle.std.proofs.Common.{◌≡◌, length, replicate, sym, ap, ◌∙◌, arith}
use Rattle.std.proofs.lemmas.List.{length-map}
use Rattle.cell_base.specs.Row.{Row}
use Rattle.cell_base.specs.Screen.{Screen}
use Rattle.cell_line.specs.LineContent.{LineContent}
use Rattle.cell_surface.specs.Surface.{shown_by}
use Rattle.terminal_table.proofs.ListLemmas.{map_same}
use Rattle.xterm_table.specs.RowEdits.{blanks}
use Rattle.terminal_steps.proofs.screens.blank_lines.Goals as goal

pub returns : goal.returns
returns g c =
    let s : Screen = (shown_by c.args.surface.now).screen in
    let blank : Row = blanks s.width s in
    let tall = c.dimensions-height.ensures.height in
    let count = length-map c.args.surface.now.grid.lines (λ (line : LineContent). line.columns) in
    let over = c.loop-test.false in
    let ends = c.loop.auto.counter-end in
    let same : c.loop.counter ≡ length s.rows = omega (arith, tall, count, over, ends) in
    c.loop.invariant ∙ ap (λ n. replicate n blank) same ∙ sym (map_same blank s.rows)
