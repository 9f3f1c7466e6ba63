use Rattle.std.proofs.Common.{◌∙◌, ap, sym}
use Rattle.std.specs.String.{string_bytes}
use Rattle.screen_change.proofs.CutLemmas.{concat-cut}
use Rattle.screen_change.proofs.cut_cells.CutCells.take_text.Goals as goal

pub returns-clause-text : goal.returns-clause-text
returns-clause-text c = let t = c.args.self.now in ap string_bytes c.replace.ensures.value ∙ sym (concat-cut t.lens.items (string_bytes t.text))
