-- What stays as it is while a run is put.
use Rattle.std.proofs.Common.{◌≡◌, sym, ◌∙◌}
use Rattle.std.specs.Prelude.{◌-◌, ◌==◌, ◌&&◌}
use Rattle.cell_base.specs.Screen.{Screen, height}
use Rattle.terminal_table.specs.Modes.{Modes, Region, region_on, region_within}
use Rattle.terminal_table.specs.RunTurns.{IsAlike}
use Rattle.terminal_table.specs.Feeds.{is_default, scrolls_plainly}
use Rattle.terminal_steps.specs.RunView.{IsFrame}
use Rattle.terminal_steps.specs.declared.runs.Frame.{Frame}

region_still : (modes : Modes) (s t : Screen) → height t ≡ height s → region_on modes s ≡ region_on modes t
region_still modes s t tall = λ i. region_within (sym tall i) modes.region

scrolls_still : (r q : Region) (s t : Screen) → r ≡ q → IsAlike s t → scrolls_plainly r s ≡ scrolls_plainly q t
scrolls_still r q s t e a = λ i. (e i).top == 0 && (e i).bottom == sym a.tall i - 1 && is_default (sym a.pen i).background

pub scrolls_on : (modes : Modes) (s t : Screen) → IsAlike s t → scrolls_plainly (region_on modes s) s ≡ scrolls_plainly (region_on modes t) t
scrolls_on modes s t a = scrolls_still (region_on modes s) (region_on modes t) s t (region_still modes s t a.tall) a

-- the region and whether it scrolls plainly depend on the size and the pen alone
pub frame_still : (modes : Modes) (s t : Screen) (frame : Frame) → IsAlike s t → IsFrame modes s frame → IsFrame modes t frame
frame_still modes s t frame a f = record {
  insert = f.insert;
  autowrap = f.autowrap;
  region = f.region ∙ region_still modes s t a.tall;
  scrolls = f.scrolls ∙ scrolls_on modes s t a;
  width = f.width ∙ sym a.wide;
  height = f.height ∙ sym a.tall;
}
