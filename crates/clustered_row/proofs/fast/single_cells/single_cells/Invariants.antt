use denote.Shadow.{shadow}
use denote.Text.{Utf8}
use Rattle.std.proofs.Common.{◌≡◌, ◌-◌, drop}
use Rattle.clustered_row.specs.SingleText.{BeginsSingle}
use Rattle.clustered_row.specs.Walk.{IsWalked}
use Rattle.clustered_row.proofs.fast.single_cells.single_cells.Given as goal

-- the cells so far were walked
abbrev pub invariant-loop-next : goal.invariant-loop-next
invariant-loop-next g l = record {
  walked : IsWalked (g.W.Widths.width_of l.w) l.room l.text l.sizes.items l.columns l.left;
  text : shadow (Utf8 l.left);
  after : shadow (Utf8 l.rest);
  rest : l.rest ≡ drop l.first.0 l.left;
  first : BeginsSingle (g.W.Widths.width_of l.w) l.left l.first.0 l.first.1;
}

abbrev pub decreases-loop-next : goal.decreases-loop-next
decreases-loop-next g l = l.room - l.columns
