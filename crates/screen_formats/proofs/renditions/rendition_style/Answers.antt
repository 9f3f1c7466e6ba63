use Rattle.std.proofs.Common.{◌++◌, ◌∙◌, ap, codes}
use Rattle.screen_formats.specs.Renditions.{intensity_rendition, lines_declared, text_if, underline_rendition}
use Rattle.screen_formats.proofs.renditions.rendition_style.Goals as goal

pub returns : goal.returns
returns c =
    let weight = c.intensity_rendition.ensures.style ∙ ap (λ intensity. (intensity_rendition intensity).style) c.intensity.ensures in
    let slant = c.text_if-slant.ensures ∙ ap (λ is_italic. text_if is_italic (codes "font-style:italic;")) c.italic.ensures in
    let lines = c.in_ok-lines.ensures ∙ ap lines_declared (c.deref.ensures ∙ c.in_ok-lines_style.ensures) in
    let underline = c.underline_rendition.ensures.style ∙ ap (λ underline. (underline_rendition underline).style) c.underline.ensures in
    c.in_ok-text.ensures.ok ∙ (λ i. weight i ++ (slant i ++ (lines i ++ (underline i ++ c.in_ok-color.ensures i))))
