use Rattle.std.proofs.Common.{◌∙◌, sym, ap}
use Rattle.std.specs.Cmp.Lexicographic.{bytes_decides}
use Rattle.cell_base.specs.RenditionBytes.{rendition_bytes}
use Rattle.cell_base.specs.RenditionView.{attributes_without_link}
use Rattle.cell_base.proofs.RenditionLaws.{bytes_determine}
use Rattle.cell_base.proofs.rendition.Rendition.is_same.Goals as goal

pub returns : goal.returns
returns c =
    let a = attributes_without_link c.args.self.now in
    let b = attributes_without_link c.args.other.now in (
      λ t. bytes_determine a b (sym c.bytes.ensures ∙ (bytes_decides _ _).0 (sym c.eq.ensures ∙ t) ∙ c.bytes-2.ensures),
      λ e. c.eq.ensures ∙ (bytes_decides _ _).1 (c.bytes.ensures ∙ ap rendition_bytes e ∙ sym c.bytes-2.ensures),
    )
