use Rattle.std.proofs.Common.{◌∙◌, ap, sym, length, replicate, List}
use Rattle.std.specs.List.{list_all}
use Rattle.cell_base.specs.Row.{set_columns}
use Rattle.clustered_row.specs.declared.cell_size.CellSize.{CellSize}
use Rattle.clustered_row.specs.Faces.{row_of}
use Rattle.clustered_row.specs.Sizes.{is_plain}
use Rattle.clustered_row.proofs.ColumnLemmas.{plain_are}
use Rattle.clustered_row.proofs.columns.Columns.set_over_cells.Goals as goal

pub set-requires-clause-sizes : goal.set-requires-clause-sizes
set-requires-clause-sizes c =
    let plain = plain_are c.args.text.now c.deref.result.now c.requires.printable (ap (λ (s : List CellSize). list_all is_plain s) c.deref.ensures.value ∙ c.in_ok-fill_plain.ensures.plain) (ap length c.deref.ensures.value ∙ c.in_ok-fill_plain.ensures.count) in
    record { parts = plain.parts; bytes = plain.bytes }

pub set-requires-clause-count : goal.set-requires-clause-count
set-requires-clause-count c =
    sym (plain_are c.args.text.now c.deref.result.now c.requires.printable (ap (λ (s : List CellSize). list_all is_plain s) c.deref.ensures.value ∙ c.in_ok-fill_plain.ensures.plain) (ap length c.deref.ensures.value ∙ c.in_ok-fill_plain.ensures.count)).columns

pub returns-clause-done : goal.returns-clause-done
returns-clause-done c =
    let plain = plain_are c.args.text.now c.deref.result.now c.requires.printable (ap (λ (s : List CellSize). list_all is_plain s) c.deref.ensures.value ∙ c.in_ok-fill_plain.ensures.plain) (ap length c.deref.ensures.value ∙ c.in_ok-fill_plain.ensures.count) in
    c.in_ok-set.ensures.done ∙ (λ i. set_columns c.args.self.now c.args.at (row_of (plain.shown i) (replicate (length c.args.text.now) c.args.attrs.now)))
