use denote.Shadow.{shadow}
use denote.Text.{Utf8}
use Rattle.std.proofs.Common.{◌≡◌, ◌-◌, length}
use Rattle.cell_edits.specs.TextRuns.{Leads}
use Rattle.clustered_row.proofs.row.ClusteredRow.set_text.Given as goal

-- setting the rest of the text from the current column on gives the row with the whole text set
abbrev pub invariant-loop-at : goal.invariant-loop-at
invariant-loop-at g l = record {
  len : length l.self ≡ length l.initial.self;
  leads : Leads (g.W.Widths.width_of l.w) l.end l.attrs l.initial.self l.start l.text l.self l.at l.left;
  text : shadow (Utf8 l.left);
}

abbrev pub decreases-loop-at : goal.decreases-loop-at
decreases-loop-at g l = l.end - l.at
