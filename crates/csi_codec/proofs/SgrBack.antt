-- Each value of SGR that can be written reads back from its encoding.
use Rattle.std.proofs.Common.{◌≡◌, ℕ, ◌≤◌, pos, Bool, List, [], ◌∷◌, Some, None, refl, sym, ap, ◌∙◌}
use Rattle.std.proofs.lemmas.Bool.{le-leb}
use Rattle.cell_base.specs.declared.color.ColorSpec.TheVariants as color
use Rattle.cell_base.specs.declared.attributes.Underline.{Underline}
use Rattle.csi_codec.specs.declared.parameters.CsiParam.{CsiParam}
use Rattle.csi_codec.specs.declared.parameters.CsiParam.TheVariants.{P}
use Rattle.csi_codec.specs.declared.rendition.Sgr.{Sgr}
use Rattle.csi_codec.specs.declared.rendition.Sgr.TheVariants as value
use Rattle.csi_codec.specs.Parameters.{number_tokens}
use Rattle.csi_codec.specs.Rendition.{colour, taking, colour_form, plain_code, single_code, underline_numbered, underline_or_single, numbered_shape, sgr_shape, sgr_group, number, palette_tokens, opaque_tokens, alpha_tokens, sgr_spelling}
use Rattle.csi_codec.specs.Actions.{sgr, csi_reading, groups}
use Rattle.csi_codec.specs.Laws.{ReadsBack}
use Rattle.csi_codec.specs.Writable.{IsWritableSgr}
use Rattle.csi_codec.proofs.ShapeLemmas.{Target, foreground, set_to, numbered_shape-by}
use Rattle.csi_codec.proofs.SgrForms.{EachWritten, number_of, sgr_tokens-each}

single_shape : (n : ℕ) (v : Sgr) → plain_code (pos n) ≡ Some v → numbered_shape (pos n) [] ≡ Some (v, 1)
unfolding colour_form single_code
single_shape n v e =
    numbered_shape-by (λ found. found ≡ Some (v, 1)) (pos n) []
    (λ p. let none : None ≡ Some v = sym (ap plain_code p) ∙ e in cc) (λ p. let none : None ≡ Some v = sym (ap plain_code p) ∙ e in cc) (λ p. let none : None ≡ Some v = sym (ap plain_code p) ∙ e in cc)
    (λ p. ap (taking 1) (sym (ap plain_code p) ∙ e)) (λ p q r s. ap (taking 1) e)

line_shape : (n : ℕ) (u : Underline) → underline_numbered (pos n) ≡ Some u → numbered_shape (pos 4) (P 58 ∷ number n ∷ []) ≡ Some (value.Underline u, 3)
unfolding numbered_shape
line_shape n u e = ap underline_or_single e

module _ (truncated : Bool) where
  abbrev Back : List CsiParam → Sgr → Type 0
  Back ts v = csi_reading ts truncated 109 ≡ sgr v ∷ []

  single_back : (n : ℕ) (v : Sgr) → n ≤ 255 → single_code n ≡ Some v → Back (number_tokens n) v
  unfolding csi_reading groups sgr_group sgr_shape
  single_back n v h e = rw (single_shape n v (rw (le-leb n 255 h) e)) refl

  line_back : (n : ℕ) (u : Underline) → underline_numbered (pos n) ≡ Some u → Back (number 4 ∷ P 58 ∷ number n ∷ []) (value.Underline u)
  unfolding csi_reading groups sgr_group sgr_shape
  line_back n u e = rw (line_shape n u e) refl

  palette_back : (t : Target) (n : ℕ) → n ≤ 255 → Back (palette_tokens (number_of t) n) (set_to t (color.PaletteIndex n))
  unfolding csi_reading groups sgr_group sgr_shape numbered_shape colour_form
  palette_back foreground n h = rw (le-leb n 255 h) refl
  palette_back _ n h = rw (le-leb n 255 h) refl

  opaque_back : (t : Target) (r g b : ℕ) → r ≤ 255 → g ≤ 255 → b ≤ 255 → Back (opaque_tokens (number_of t) r g b) (set_to t (colour r g b 255))
  unfolding csi_reading groups sgr_group sgr_shape numbered_shape colour_form
  opaque_back foreground r g b h k l = rw (le-leb r 255 h, le-leb g 255 k, le-leb b 255 l) refl
  opaque_back _ r g b h k l = rw (le-leb r 255 h, le-leb g 255 k, le-leb b 255 l) refl

  alpha_back : (t : Target) (r g b a : ℕ) → r ≤ 255 → g ≤ 255 → b ≤ 255 → a ≤ 255 → Back (alpha_tokens (number_of t) r g b a) (set_to t (colour r g b a))
  unfolding csi_reading groups sgr_group sgr_shape numbered_shape colour_form
  alpha_back foreground r g b a h k l m = rw (le-leb r 255 h, le-leb g 255 k, le-leb b 255 l, le-leb a 255 m) refl
  alpha_back _ r g b a h k l m = rw (le-leb r 255 h, le-leb g 255 k, le-leb b 255 l, le-leb a 255 m) refl

  pub sgr_back : (v : Sgr) → IsWritableSgr v → ReadsBack truncated (sgr v)
  unfolding sgr_spelling
  sgr_back v h =
      let each : EachWritten Back = record { single = single_back; line = λ n u s e. line_back n u e; palette = palette_back; opaque = opaque_back; alpha = alpha_back } in
      sgr_tokens-each each v h
