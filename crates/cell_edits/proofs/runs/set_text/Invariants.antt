use denote.Shadow.{shadow}
use denote.Text.{Utf8}
use Rattle.std.proofs.Common.{◌≡◌, ◌-◌, vec_len}
use Rattle.cell_base.specs.CellContent.{row_of_cells}
use Rattle.cell_edits.specs.TextRuns.{Leads}
use Rattle.cell_edits.proofs.runs.set_text.Given as goal

-- setting the rest of the text from the current column on gives the row with the whole text set
abbrev pub invariant-loop-at : goal.invariant-loop-at
invariant-loop-at g l = record {
  len : vec_len l.cells ≡ vec_len l.initial.cells;
  leads : Leads (g.W.Widths.width_of l.w) l.end l.attrs (row_of_cells l.initial.cells.items) l.start l.text (row_of_cells l.cells.items) l.at l.left;
  text : shadow (Utf8 l.left);
}

abbrev pub decreases-loop-at : goal.decreases-loop-at
decreases-loop-at g l = l.end - l.at
