use Rattle.std.proofs.Common.{◌∙◌, sym, ap}
use Rattle.std.specs.Bool.{one_answer}
use Rattle.cell_base.specs.Attributes.{plain}
use Rattle.cell_base.specs.CellContent.{blank_cell}
use Rattle.cell_base.specs.SameCell.{same_cell_decides}
use Rattle.cell_views.specs.CellRefView.{shown_by}
use Rattle.cell_views.proofs.zones.is_plain_blank.Goals as goal

pub returns : goal.returns
returns c =
    let other = ap blank_cell c.blank-attrs.ensures in
    one_answer _ _ ((λ e. c.same_contents.ensures.0 e ∙ other), (λ e. c.same_contents.ensures.1 (e ∙ sym other))) (same_cell_decides (shown_by c.args.cell.now).cell (blank_cell plain))
