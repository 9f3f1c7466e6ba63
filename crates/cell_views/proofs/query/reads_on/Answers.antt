use Rattle.std.proofs.Common.{◌∙◌, ap, arith}
use Rattle.cell_base.specs.Attributes.{Attributes}
use Rattle.cell_base.specs.CellContent.{CellContent}
use Rattle.cell_edits.proofs.EndLemmas.{wrapped_last}
use Rattle.cell_views.proofs.query.reads_on.Goals as goal

pub returns-then-not-is_empty : goal.returns-then-not-is_empty
returns-then-not-is_empty c =
    let cell = c.index-cells-last_read.result in
    c.wrapped.ensures ∙ ap (λ (a : Attributes). a.wrapped) c.attrs.ensures ∙ ap (λ (x : CellContent). x.attributes.wrapped) c.index-cells-last_read.is
    ∙ wrapped_last c.args.cells.now c.last_read.result cell (omega arith) c.last_read.ensures.at
