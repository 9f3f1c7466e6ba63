use Rattle.std.proofs.Common.{ℕ, Bool, List, ◌∙◌, ◌++◌, sym, ap}
use Rattle.std.specs.Prelude.{filter, nat_le, nat_lt, ◌&&◌}
use Rattle.std.proofs.lemmas.List.{append-nil}
use Rattle.cell_base.specs.CellContent.{row_of_cells}
use Rattle.cell_edits.specs.VisibleCells.{VisibleCell, row_of_visible}
use Rattle.cell_views.proofs.ReadLemmas.{row_picked}
use Rattle.cell_line.proofs.wrap.copy_between.Goals as goal

pub returns : goal.returns
returns c =
    let p : ℕ → Bool = λ column. nat_le c.args.start column && nat_lt column c.args.«end» in
    record {
      whole = c.loop-column.invariant.whole;
      row = sym (append-nil (row_of_cells c.loop-column.kept.items))
          ∙ ap (λ (vs : List VisibleCell). row_of_cells c.loop-column.kept.items ++ row_of_visible (filter (λ v. p v.column) vs)) (sym c.in-None.ensures.steps.0)
          ∙ c.loop-column.invariant.row ∙ row_picked p c.args.cells.now c.requires;
    }
