use Rattle.std.proofs.Common.{◌∙◌, ◌++◌, [], ◌∷◌, length, refl, sym, ap}
use Rattle.std.specs.Global.{Vec}
use Rattle.cell_base.specs.Attributes.{plain}
use Rattle.cell_base.specs.Row.{Row, blank}
use Rattle.cell_base.specs.CellContent.{CellContent, blank_cell, row_of_cells}
use Rattle.cell_line.proofs.BetweenLemmas.{split_last, between_within, between_before, between_after}
use Rattle.cell_line.proofs.wrap.read_between.Goals as goal
use Rattle.cell_line.proofs.wrap.read_between.Goals.{then-start-last+then-last-end+in_ok-push_blank_for, else-start-last, else-start-last-via-then-start-last+else-last-end, else-start-last-via-else-start-last}

pub copy_between-requires-2 : goal.copy_between-requires-2
copy_between-requires-2 c =
    let cells = c.args.cells.now in
    (split_last cells (length cells) _ (blank_cell plain) refl refl (sym c.is_split.ensures ∙ c.if-not-is_split.false)).1

pub returns : goal.returns
returns c =
    let cells = c.args.cells.now in
    let h = sym c.is_split.ensures ∙ c.if-not-is_split.false in
    elim c.if-start-last.branch [
      | then-start-last+then-last-end+in_ok-push_blank_for w ↦
          ap (λ (v : Vec CellContent). row_of_cells v.items) w.kept-is ∙ w.in_ok-push_blank_for.ensures ∙ ap (λ (r : Row). r ++ blank w.index-cells-last.result.attributes ∷ []) c.in_ok-kept.ensures.row
          ∙ sym (between_within cells c.args.start c.args.«end» w.index-cells-last.result h w.if-start-last.true w.if-last-end.true w.index-cells-last.is)
      | else-start-last w ↦
          ap (λ (v : Vec CellContent). row_of_cells v.items) w.kept-is ∙ c.in_ok-kept.ensures.row ∙ sym (elim w.else-start-last.branch [
            | else-start-last-via-then-start-last+else-last-end w' ↦ between_before cells c.args.start c.args.«end» h w'.if-last-end.false
            | else-start-last-via-else-start-last w' ↦ between_after cells c.args.start c.args.«end» h w'.if-start-last.false
          ])
    ]
