-- The encodings of SGR values, walked once: a property of each form holds of every value that can be written.
use Rattle.std.proofs.Common.{◌≡◌, ℕ, zero, suc, ◌+◌, ◌-◌, ◌<◌, ◌≤◌, pos, eqb, ltb, true, false, List, [], ◌∷◌, Some, arith, refl, sym, ◌∙◌, subst, inl, inr}
use Rattle.std.proofs.lemmas.Bool.{cond_both, eqb-true, leb-true, false≢true}
use Rattle.std.proofs.lemmas.Bool.Decides.{leb_tells}
use Rattle.cell_base.specs.declared.color.ColorSpec.{ColorSpec}
use Rattle.cell_base.specs.declared.color.ColorSpec.TheVariants as color
use Rattle.cell_base.specs.declared.color.SrgbaTuple.{SrgbaTuple}
use Rattle.cell_base.specs.declared.attributes.Intensity.TheVariants as intensity
use Rattle.cell_base.specs.declared.attributes.Underline.{Underline}
use Rattle.cell_base.specs.declared.attributes.Underline.TheVariants as underline
use Rattle.cell_base.specs.declared.attributes.Blink.TheVariants as blink
use Rattle.cell_base.specs.declared.attributes.VerticalAlign.TheVariants as align
use Rattle.csi_codec.specs.declared.parameters.CsiParam.{CsiParam}
use Rattle.csi_codec.specs.declared.parameters.CsiParam.TheVariants.{P}
use Rattle.csi_codec.specs.declared.rendition.Sgr.{Sgr}
use Rattle.csi_codec.specs.declared.rendition.Sgr.TheVariants as value
use Rattle.csi_codec.specs.declared.rendition.Font.TheVariants as font
use Rattle.csi_codec.specs.Parameters.{number_tokens}
use Rattle.csi_codec.specs.Rendition.{colour, single_code, underline_numbered, number, palette_tokens, opaque_tokens, alpha_tokens, colour_tokens, short_colour_tokens, underline_colour_tokens, underline_tokens, sgr_tokens}
use Rattle.csi_codec.specs.Writable.{IsColour, IsWritableSgr}
use Rattle.csi_codec.proofs.ShapeLemmas.{Target, foreground, background, underline_colour, set_to}

-- the number before a colour
abbrev pub number_of : Target → ℕ
number_of foreground = 38
number_of background = 48
number_of underline_colour = 58

-- Q holds of the tokens of each form and their value: a number by itself, an underline of a kind, and a colour by
-- its index, without an alpha, and with one
pub record EachWritten (Q : List CsiParam → Sgr → Type 0) : Type 0 where
  pub single : (n : ℕ) (v : Sgr) → n ≤ 255 → single_code n ≡ Some v → Q (number_tokens n) v
  pub line : (k : ℕ) (u : Underline) → k < 10 → underline_numbered (pos k) ≡ Some u → Q (number 4 ∷ P 58 ∷ number k ∷ []) (value.Underline u)
  pub palette : (t : Target) (n : ℕ) → n ≤ 255 → Q (palette_tokens (number_of t) n) (set_to t (color.PaletteIndex n))
  pub opaque : (t : Target) (r g b : ℕ) → r ≤ 255 → g ≤ 255 → b ≤ 255 → Q (opaque_tokens (number_of t) r g b) (set_to t (colour r g b 255))
  pub alpha : (t : Target) (r g b a : ℕ) → r ≤ 255 → g ≤ 255 → b ≤ 255 → a ≤ 255 → Q (alpha_tokens (number_of t) r g b a) (set_to t (colour r g b a))

-- R holds of each number below a bound
abbrev AllBelow : ℕ → (ℕ → Type 0) → Type 0
AllBelow zero R = Unit {0}
AllBelow (suc k) R = R 0 × AllBelow k (λ n. R (suc n))

below : (k : ℕ) (R : ℕ → Type 0) → AllBelow k R → (n : ℕ) → n < k → R n
below zero R all n h = absurd (omega arith)
below (suc k) R all zero h = all.0
below (suc k) R all (suc n) h = below k (λ m. R (suc m)) all.1 n (omega arith)

not_below : (n k : ℕ) → ltb n k ≡ false → k ≤ n
not_below n k p = elim (leb_tells (suc n) k) [ inl t ↦ absurd (false≢true (sym p ∙ t.0)) | inr t ↦ omega (arith, t.1) ]

-- the first sixteen colours of the palette have numbers of their own: 0 to 7 after one number, 8 to 15 after another
record HasShort (t : Target) (low bright : ℕ) : Type 0 where
  first : (n : ℕ) → n < 8 → single_code (low + n) ≡ Some (set_to t (color.PaletteIndex n))
  second : (n : ℕ) → n < 8 → single_code (bright + (8 + n)) ≡ Some (set_to t (color.PaletteIndex (8 + n)))
  bound : low + bright ≤ 200

short_foreground : HasShort foreground 30 82
unfolding single_code
short_foreground = record {
  first = below 8 (λ n. single_code (30 + n) ≡ Some (value.Foreground (color.PaletteIndex n))) (refl, (refl, (refl, (refl, (refl, (refl, (refl, (refl, tt))))))));
  second = below 8 (λ n. single_code (82 + (8 + n)) ≡ Some (value.Foreground (color.PaletteIndex (8 + n)))) (refl, (refl, (refl, (refl, (refl, (refl, (refl, (refl, tt))))))));
  bound = omega arith;
}

short_background : HasShort background 40 92
unfolding single_code
short_background = record {
  first = below 8 (λ n. single_code (40 + n) ≡ Some (value.Background (color.PaletteIndex n))) (refl, (refl, (refl, (refl, (refl, (refl, (refl, (refl, tt))))))));
  second = below 8 (λ n. single_code (92 + (8 + n)) ≡ Some (value.Background (color.PaletteIndex (8 + n)))) (refl, (refl, (refl, (refl, (refl, (refl, (refl, (refl, tt))))))));
  bound = omega arith;
}

font_number : (k : ℕ) → 1 ≤ k → k ≤ 9 → single_code (10 + k) ≡ Some (value.Font (font.Alternate k))
unfolding single_code
font_number zero h l = absurd (omega arith)
font_number (suc k) h l =
    below 9 (λ n. single_code (10 + suc n) ≡ Some (value.Font (font.Alternate (suc n)))) (refl, (refl, (refl, (refl, (refl, (refl, (refl, (refl, (refl, tt))))))))) k (omega arith)

module _ {Q : List CsiParam → Sgr → Type 0} (each : EachWritten Q) where
  exact : (t : Target) (c : SrgbaTuple) → IsColour (color.TrueColor c) → Q (colour_tokens (number_of t) c) (set_to t (color.TrueColor c))
  exact t c h =
      cond_both (eqb c.3 255) _ _ (λ ts. Q ts (set_to t (color.TrueColor c)))
      (λ e. subst (λ (a : ℕ). Q (opaque_tokens (number_of t) c.0 c.1 c.2) (set_to t (colour c.0 c.1 c.2 a))) (sym (eqb-true c.3 255 e)) (each.opaque t c.0 c.1 c.2 h.0 h.1 h.2))
      (λ e. each.alpha t c.0 c.1 c.2 c.3 h.0 h.1 h.2 h.3)

  short : (t : Target) (off low bright : ℕ) (c : ColorSpec) → HasShort t low bright → off ≤ 255 → single_code off ≡ Some (set_to t color.Default) → IsColour c
      → Q (short_colour_tokens (number_of t) off low bright c) (set_to t c)
  short t off low bright color.Default s o e h = each.single off (set_to t color.Default) o e
  short t off low bright (color.TrueColor c) s o e h = exact t c h
  short t off low bright (color.PaletteIndex n) s o e h =
      cond_both (ltb n 8) _ _ (λ ts. Q ts (set_to t (color.PaletteIndex n)))
      (λ p. let small : n < 8 = leb-true (suc n) 8 p in each.single (low + n) (set_to t (color.PaletteIndex n)) (omega (arith, s.bound)) (s.first n small)) (λ p.
      cond_both (ltb n 16) _ _ (λ ts. Q ts (set_to t (color.PaletteIndex n)))
      (λ q.
      let above : 8 ≤ n = not_below n 8 p in
      let small : n < 16 = leb-true (suc n) 16 q in
      let whole : 8 + (n - 8) ≡ n = omega arith in
      each.single (bright + n) (set_to t (color.PaletteIndex n)) (omega (arith, s.bound))
      (subst (λ (k : ℕ). single_code (bright + k) ≡ Some (set_to t (color.PaletteIndex k))) whole (s.second (n - 8) (omega arith)))) (λ q. each.palette t n h))

  of_line : (c : ColorSpec) → IsColour c → Q (underline_colour_tokens c) (value.UnderlineColor c)
  unfolding single_code
  of_line color.Default h = each.single 59 (value.UnderlineColor color.Default) (omega arith) refl
  of_line (color.PaletteIndex n) h = each.palette underline_colour n h
  of_line (color.TrueColor c) h = exact underline_colour c h

  underlined : (u : Underline) → Q (underline_tokens u) (value.Underline u)
  unfolding single_code
  underlined underline.Curly = each.line 3 underline.Curly (omega arith) refl
  underlined underline.Dotted = each.line 4 underline.Dotted (omega arith) refl
  underlined underline.Dashed = each.line 5 underline.Dashed (omega arith) refl
  underlined _ = each.single _ _ (omega arith) refl

  pub sgr_tokens-each : (v : Sgr) → IsWritableSgr v → Q (sgr_tokens v) v
  unfolding single_code
  sgr_tokens-each (value.Underline u) h = underlined u
  sgr_tokens-each (value.Font (font.Alternate k)) h = each.single (10 + k) (value.Font (font.Alternate k)) (omega (arith, h.1)) (font_number k h.0 h.1)
  sgr_tokens-each (value.Foreground c) h = short foreground 39 30 82 c short_foreground (omega arith) refl h
  sgr_tokens-each (value.Background c) h = short background 49 40 92 c short_background (omega arith) refl h
  sgr_tokens-each (value.UnderlineColor c) h = of_line c h
  sgr_tokens-each (value.Intensity intensity.Bold) h = each.single _ _ (omega arith) refl
  sgr_tokens-each (value.Blink blink.Slow) h = each.single _ _ (omega arith) refl
  sgr_tokens-each (value.Italic true) h = each.single _ _ (omega arith) refl
  sgr_tokens-each (value.Inverse true) h = each.single _ _ (omega arith) refl
  sgr_tokens-each (value.Invisible true) h = each.single _ _ (omega arith) refl
  sgr_tokens-each (value.StrikeThrough true) h = each.single _ _ (omega arith) refl
  sgr_tokens-each (value.Overline true) h = each.single _ _ (omega arith) refl
  sgr_tokens-each (value.VerticalAlign align.SuperScript) h = each.single _ _ (omega arith) refl
  sgr_tokens-each _ h = each.single _ _ (omega arith) refl
