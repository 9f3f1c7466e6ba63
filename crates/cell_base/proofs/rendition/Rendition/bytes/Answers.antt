use Rattle.std.proofs.Common.{◌∷◌}
use Rattle.cell_base.specs.RenditionBytes.{padding}
use Rattle.cell_base.proofs.RenditionLaws.{color_stored, padding_each}
use Rattle.cell_base.proofs.rendition.Rendition.bytes.Goals as goal

pub returns : goal.returns
returns c =
    let rendition = c.args.self.now in
    let padded = padding_each rendition.padding rendition.padded in
    let underline = color_stored rendition.underline_color _ _ padding c.kind_byte-3.ensures padded in
    let background = color_stored rendition.background _ _ _ c.kind_byte-2.ensures underline in
    let foreground = color_stored rendition.foreground _ _ _ c.kind_byte.ensures background in
    λ i. c.intensity_byte.ensures i ∷ c.underline_byte.ensures i ∷ c.blink_byte.ensures i
    ∷ c.flag_byte.ensures i ∷ c.flag_byte-2.ensures i ∷ c.flag_byte-3.ensures i
    ∷ c.flag_byte-4.ensures i ∷ c.flag_byte-5.ensures i ∷ c.flag_byte-6.ensures i
    ∷ c.semantic_byte.ensures i ∷ c.align_byte.ensures i ∷ foreground i
