-- Attributes less the link are equal where their bytes are.
use Rattle.std.proofs.Common.{◌≡◌, ℕ, zero, suc, ◌+◌, Bool, true, false, List, [], ◌∷◌, get_or, refl, sym, ap, ◌∙◌}
use Rattle.std.specs.Prelude.{None}
use Rattle.cell_base.specs.Attributes.{Attributes}
use Rattle.cell_base.specs.ColorBytes.{kind_byte, color_with, kind_of, channels_of, index_of}
use Rattle.cell_base.specs.RenditionBytes.{color_bytes, intensity_byte, underline_byte, blink_byte, semantic_byte, align_byte, flag_byte, rendition_bytes, padding}
use Rattle.cell_base.specs.declared.attributes.Intensity.{Intensity}
use Rattle.cell_base.specs.declared.attributes.Intensity.TheVariants.{Normal, Bold, Half}
use Rattle.cell_base.specs.declared.attributes.Underline.{Underline}
use Rattle.cell_base.specs.declared.attributes.Underline.TheVariants.{None as no_underline, Single, Double, Curly, Dotted, Dashed}
use Rattle.cell_base.specs.declared.attributes.Blink.{Blink}
use Rattle.cell_base.specs.declared.attributes.Blink.TheVariants.{None as no_blink, Slow, Rapid}
use Rattle.cell_base.specs.declared.attributes.SemanticType.{SemanticType}
use Rattle.cell_base.specs.declared.attributes.SemanticType.TheVariants.{Output, Input, Prompt}
use Rattle.cell_base.specs.declared.attributes.VerticalAlign.{VerticalAlign}
use Rattle.cell_base.specs.declared.attributes.VerticalAlign.TheVariants.{BaseLine, SuperScript, SubScript}
use Rattle.cell_base.specs.declared.color.SrgbaTuple.{SrgbaTuple}
use Rattle.cell_base.specs.declared.color.ColorAttribute.{ColorAttribute}
use Rattle.cell_base.specs.declared.color.ColorAttribute.TheVariants.{Default, PaletteIndex, TrueColorWithDefaultFallback, TrueColorWithPaletteFallback}
use Rattle.cell_base.specs.RenditionView.{color_of}
use Rattle.cell_base.specs.declared.stored_color.StoredColor.{StoredColor}
use Rattle.cell_base.specs.declared.stored_color.ColorKind.{ColorKind}
use Rattle.cell_base.specs.declared.stored_color.ColorKind.TheVariants.{Unset, Indexed, Direct, DirectOrIndexed}

-- the value that a byte encodes
intensity_at : ℕ → Intensity
intensity_at zero = Normal
intensity_at (suc zero) = Bold
intensity_at (suc (suc n)) = Half

underline_at : ℕ → Underline
underline_at zero = no_underline
underline_at (suc zero) = Single
underline_at (suc (suc zero)) = Double
underline_at (suc (suc (suc zero))) = Curly
underline_at (suc (suc (suc (suc zero)))) = Dotted
underline_at (suc (suc (suc (suc (suc n))))) = Dashed

blink_at : ℕ → Blink
blink_at zero = no_blink
blink_at (suc zero) = Slow
blink_at (suc (suc n)) = Rapid

semantic_at : ℕ → SemanticType
semantic_at zero = Output
semantic_at (suc zero) = Input
semantic_at (suc (suc n)) = Prompt

align_at : ℕ → VerticalAlign
align_at zero = BaseLine
align_at (suc zero) = SuperScript
align_at (suc (suc n)) = SubScript

flag_at : ℕ → Bool
flag_at zero = false
flag_at (suc n) = true

kind_at : ℕ → ColorKind
kind_at zero = Unset
kind_at (suc zero) = Indexed
kind_at (suc (suc zero)) = Direct
kind_at (suc (suc (suc n))) = DirectOrIndexed

abbrev byte_at : List ℕ → ℕ → ℕ
byte_at bytes k = get_or bytes k 0

-- the colour whose bytes begin at a position, and its channels
channels_at : List ℕ → ℕ → SrgbaTuple
channels_at bytes k = record {
  0 = byte_at bytes (1 + k);
  1 = byte_at bytes (2 + k);
  2 = byte_at bytes (3 + k);
  3 = byte_at bytes (4 + k);
}

color_at : List ℕ → ℕ → ColorAttribute
color_at bytes k = color_with (kind_at (byte_at bytes k)) (channels_at bytes k) (byte_at bytes (5 + k))

rendition_at : List ℕ → Attributes
rendition_at bytes = record {
  intensity = intensity_at (byte_at bytes 0);
  underline = underline_at (byte_at bytes 1);
  blink = blink_at (byte_at bytes 2);
  italic = flag_at (byte_at bytes 3);
  reverse = flag_at (byte_at bytes 4);
  strikethrough = flag_at (byte_at bytes 5);
  invisible = flag_at (byte_at bytes 6);
  wrapped = flag_at (byte_at bytes 7);
  overline = flag_at (byte_at bytes 8);
  semantic_type = semantic_at (byte_at bytes 9);
  vertical_align = align_at (byte_at bytes 10);
  foreground = color_at bytes 11;
  background = color_at bytes 17;
  underline_color = color_at bytes 23;
  hyperlink = None;
}

-- each value by its byte
intensity_again : (x : Intensity) → intensity_at (intensity_byte x) ≡ x
unfolding intensity_at
intensity_again Normal = refl
intensity_again Bold = refl
intensity_again Half = refl

underline_again : (x : Underline) → underline_at (underline_byte x) ≡ x
unfolding underline_at
underline_again no_underline = refl
underline_again Single = refl
underline_again Double = refl
underline_again Curly = refl
underline_again Dotted = refl
underline_again Dashed = refl

blink_again : (x : Blink) → blink_at (blink_byte x) ≡ x
unfolding blink_at
blink_again no_blink = refl
blink_again Slow = refl
blink_again Rapid = refl

semantic_again : (x : SemanticType) → semantic_at (semantic_byte x) ≡ x
unfolding semantic_at
semantic_again Output = refl
semantic_again Input = refl
semantic_again Prompt = refl

align_again : (x : VerticalAlign) → align_at (align_byte x) ≡ x
unfolding align_at
align_again BaseLine = refl
align_again SuperScript = refl
align_again SubScript = refl

flag_again : (x : Bool) → flag_at (flag_byte x) ≡ x
unfolding flag_at
flag_again true = refl
flag_again false = refl

color_again : (x : ColorAttribute) → color_with (kind_at (kind_byte (kind_of x))) (channels_of x) (index_of x) ≡ x
unfolding kind_at
color_again Default = refl
color_again (PaletteIndex index) = refl
color_again (TrueColorWithDefaultFallback channels) = refl
color_again (TrueColorWithPaletteFallback channels index) = refl

rendition_again : (a : Attributes) → rendition_at (rendition_bytes a) ≡ record a { hyperlink = None }
unfolding rendition_at color_at channels_at
rendition_again a = λ i. record {
  intensity = intensity_again a.intensity i;
  underline = underline_again a.underline i;
  blink = blink_again a.blink i;
  italic = flag_again a.italic i;
  reverse = flag_again a.reverse i;
  strikethrough = flag_again a.strikethrough i;
  invisible = flag_again a.invisible i;
  wrapped = flag_again a.wrapped i;
  overline = flag_again a.overline i;
  semantic_type = semantic_again a.semantic_type i;
  vertical_align = align_again a.vertical_align i;
  foreground = color_again a.foreground i;
  background = color_again a.background i;
  underline_color = color_again a.underline_color i;
  hyperlink = None;
}

abbrev pub without_link : Attributes → Attributes
without_link a = record a { hyperlink = None }

pub bytes_determine : (a b : Attributes) → rendition_bytes a ≡ rendition_bytes b → without_link a ≡ without_link b
bytes_determine a b e = sym (rendition_again a) ∙ ap rendition_at e ∙ rendition_again b

kind_known : (kind : ColorKind) (channels : SrgbaTuple) (index : ℕ) → kind_of (color_with kind channels index) ≡ kind
kind_known Unset channels index = refl
kind_known Indexed channels index = refl
kind_known Direct channels index = refl
kind_known DirectOrIndexed channels index = refl

-- a stored colour after a byte, and bytes after it
abbrev stored_bytes : ℕ → StoredColor → List ℕ → List ℕ
stored_bytes kind stored rest =
    let channels = stored.channels in
    kind ∷ channels.0 ∷ channels.1 ∷ channels.2 ∷ channels.3 ∷ stored.index ∷ rest

pub color_stored : (stored : StoredColor) (kind : ℕ) (rest more : List ℕ) → kind ≡ kind_byte stored.kind → rest ≡ more
    → stored_bytes kind stored rest ≡ color_bytes (color_of stored) more
color_stored stored kind rest more k e =
    let kinds = k ∙ ap kind_byte (sym (kind_known stored.kind stored.channels stored.index)) in
    let channels = sym stored.channels_count in
    let index = sym stored.index_counts in
    λ i. kinds i ∷ (channels i).0 ∷ (channels i).1 ∷ (channels i).2 ∷ (channels i).3 ∷ index i ∷ e i

pub padding_each : (bytes : List ℕ) → bytes ≡ padding → byte_at bytes 0 ∷ byte_at bytes 1 ∷ byte_at bytes 2 ∷ [] ≡ padding
padding_each bytes e = λ i. byte_at (e i) 0 ∷ byte_at (e i) 1 ∷ byte_at (e i) 2 ∷ []
