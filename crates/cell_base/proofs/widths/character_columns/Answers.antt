use Rattle.std.proofs.Common.{◌∙◌, ap, sym, unwrap_or}
use Rattle.std.specs.Prelude.{min}
use Rattle.cell_base.proofs.SingleWidths.{single_width}
use Rattle.cell_base.proofs.widths.character_columns.Goals as goal

pub returns : goal.returns
returns c =
    c.min.ensures ∙ ap (λ n. min n 2) (c.unwrap_or.ensures ∙ ap (λ o. unwrap_or o 0) c.width.ensures.value ∙ sym (single_width c.args.character c.requires))
