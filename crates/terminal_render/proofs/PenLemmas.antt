-- The encoding of attributes, and the pen after it.
use Rattle.std.proofs.Common.{◌≡◌, ℕ, Bool, true, false, List, [], ◌∷◌, ◌++◌, fold, refl, sym, ap, ◌∙◌}
use Rattle.std.specs.Prelude.{◌||◌, not, Option, None, Some}
use Rattle.std.specs.List.{flat_map}
use Rattle.std.proofs.lemmas.Bool.{or_parts}
use Rattle.cell_base.specs.declared.attributes.Intensity.{Intensity}
use Rattle.cell_base.specs.declared.attributes.Intensity.TheVariants as intensity
use Rattle.cell_base.specs.declared.attributes.Underline.{Underline}
use Rattle.cell_base.specs.declared.attributes.Underline.TheVariants as underline
use Rattle.cell_base.specs.declared.attributes.Blink.{Blink}
use Rattle.cell_base.specs.declared.attributes.Blink.TheVariants as blink
use Rattle.cell_base.specs.declared.attributes.SemanticType.{SemanticType}
use Rattle.cell_base.specs.declared.attributes.SemanticType.TheVariants as type
use Rattle.cell_base.specs.declared.attributes.VerticalAlign.{VerticalAlign}
use Rattle.cell_base.specs.declared.attributes.VerticalAlign.TheVariants as align
use Rattle.cell_base.specs.declared.color.ColorAttribute.TheVariants as attribute
use Rattle.cell_base.specs.declared.color.ColorSpec.{ColorSpec}
use Rattle.cell_base.specs.declared.color.ColorSpec.TheVariants as spec
use Rattle.cell_base.specs.Attributes.{Attributes, plain}
use Rattle.cell_base.specs.Color.{attribute_of}
use Rattle.cell_base.specs.Link.{Link}
use Rattle.cell_base.specs.Screen.{Screen}
use Rattle.csi_codec.specs.declared.rendition.Sgr.{Sgr}
use Rattle.csi_codec.specs.declared.rendition.Sgr.TheVariants as sgr
use Rattle.screen_effects.specs.Effect.{with_pen}
use Rattle.terminal_table.specs.Modes.{SavedCursor}
use Rattle.terminal_table.specs.Functions.{function_of}
use Rattle.terminal_table.specs.Steps.{with_rendition, with_link}
use Rattle.terminal_render.specs.Effects.{actions_done}
use Rattle.terminal_render.specs.Pen.{rendition, link_action, unless_normal, unless_none, unless_steady, unless_off, unless_base_line, unless_default, settings, set, pen_actions, is_output, lacks_encoding}
use Rattle.terminal_render.specs.Links.{is_carried}
use Rattle.terminal_render.proofs.DoneLemmas.{on, done_append}

-- ---- the pen alone

-- the pen after a setting, if there is one
abbrev set_pen : Attributes → Option Sgr → Attributes
set_pen pen None = pen
set_pen pen (Some value) = with_rendition value pen

set_intensity : (p : Attributes) (v : Intensity) → set_pen (record p { intensity = intensity.Normal }) (unless_normal v) ≡ record p { intensity = v }
set_intensity p intensity.Normal = refl
set_intensity p intensity.Bold = refl
set_intensity p intensity.Half = refl

set_underline : (p : Attributes) (v : Underline) → set_pen (record p { underline = underline.None }) (unless_none v) ≡ record p { underline = v }
set_underline p underline.None = refl
set_underline p underline.Single = refl
set_underline p underline.Double = refl
set_underline p underline.Curly = refl
set_underline p underline.Dotted = refl
set_underline p underline.Dashed = refl

set_blink : (p : Attributes) (v : Blink) → set_pen (record p { blink = blink.None }) (unless_steady v) ≡ record p { blink = v }
set_blink p blink.None = refl
set_blink p blink.Slow = refl
set_blink p blink.Rapid = refl

set_italic : (p : Attributes) (v : Bool) → set_pen (record p { italic = false }) (unless_off sgr.Italic v) ≡ record p { italic = v }
set_italic p true = refl
set_italic p false = refl

set_reverse : (p : Attributes) (v : Bool) → set_pen (record p { reverse = false }) (unless_off sgr.Inverse v) ≡ record p { reverse = v }
set_reverse p true = refl
set_reverse p false = refl

set_strikethrough : (p : Attributes) (v : Bool) → set_pen (record p { strikethrough = false }) (unless_off sgr.StrikeThrough v) ≡ record p { strikethrough = v }
set_strikethrough p true = refl
set_strikethrough p false = refl

set_invisible : (p : Attributes) (v : Bool) → set_pen (record p { invisible = false }) (unless_off sgr.Invisible v) ≡ record p { invisible = v }
set_invisible p true = refl
set_invisible p false = refl

set_overline : (p : Attributes) (v : Bool) → set_pen (record p { overline = false }) (unless_off sgr.Overline v) ≡ record p { overline = v }
set_overline p true = refl
set_overline p false = refl

set_align : (p : Attributes) (v : VerticalAlign) → set_pen (record p { vertical_align = align.BaseLine }) (unless_base_line v) ≡ record p { vertical_align = v }
set_align p align.BaseLine = refl
set_align p align.SuperScript = refl
set_align p align.SubScript = refl

set_foreground : (p : Attributes) (c : ColorSpec) → set_pen (record p { foreground = attribute.Default }) (unless_default sgr.Foreground c) ≡ record p { foreground = attribute_of c }
set_foreground p spec.Default = refl
set_foreground p (spec.PaletteIndex n) = refl
set_foreground p (spec.TrueColor c) = refl

pub set_background : (p : Attributes) (c : ColorSpec) → set_pen (record p { background = attribute.Default }) (unless_default sgr.Background c) ≡ record p { background = attribute_of c }
set_background p spec.Default = refl
set_background p (spec.PaletteIndex n) = refl
set_background p (spec.TrueColor c) = refl

set_line_color : (p : Attributes) (c : ColorSpec) → set_pen (record p { underline_color = attribute.Default }) (unless_default sgr.UnderlineColor c) ≡ record p { underline_color = attribute_of c }
set_line_color p spec.Default = refl
set_line_color p (spec.PaletteIndex n) = refl
set_line_color p (spec.TrueColor c) = refl

-- the attributes with colours, on a plain pen with a link
abbrev settled_pen : Option Link → Attributes → ColorSpec → ColorSpec → ColorSpec → Attributes
settled_pen link a foreground background underline =
    record a { wrapped = false; semantic_type = type.Output; foreground = attribute_of foreground; background = attribute_of background; underline_color = attribute_of underline; hyperlink = link }

-- all settings in turn, after a reset
all_set : (link : Option Link) (a : Attributes) (foreground background underline : ColorSpec) → fold set_pen (record plain { hyperlink = link }) (settings a foreground background underline) ≡ settled_pen link a foreground background underline
all_set link a foreground background underline =
    let p0 : Attributes = record plain { hyperlink = link } in
    let p1 : Attributes = record p0 { intensity = a.intensity } in
    let p2 : Attributes = record p1 { underline = a.underline } in
    let p3 : Attributes = record p2 { blink = a.blink } in
    let p4 : Attributes = record p3 { italic = a.italic } in
    let p5 : Attributes = record p4 { reverse = a.reverse } in
    let p6 : Attributes = record p5 { strikethrough = a.strikethrough } in
    let p7 : Attributes = record p6 { invisible = a.invisible } in
    let p8 : Attributes = record p7 { overline = a.overline } in
    let p9 : Attributes = record p8 { vertical_align = a.vertical_align } in
    let p10 : Attributes = record p9 { foreground = attribute_of foreground } in
    let p11 : Attributes = record p10 { background = attribute_of background } in
    let v12 : Option Sgr = unless_default sgr.UnderlineColor underline in
    let r11 : List (Option Sgr) = v12 ∷ [] in
    let r10 : List (Option Sgr) = unless_default sgr.Background background ∷ r11 in
    let r9 : List (Option Sgr) = unless_default sgr.Foreground foreground ∷ r10 in
    let r8 : List (Option Sgr) = unless_base_line a.vertical_align ∷ r9 in
    let r7 : List (Option Sgr) = unless_off sgr.Overline a.overline ∷ r8 in
    let r6 : List (Option Sgr) = unless_off sgr.Invisible a.invisible ∷ r7 in
    let r5 : List (Option Sgr) = unless_off sgr.StrikeThrough a.strikethrough ∷ r6 in
    let r4 : List (Option Sgr) = unless_off sgr.Inverse a.reverse ∷ r5 in
    let r3 : List (Option Sgr) = unless_off sgr.Italic a.italic ∷ r4 in
    let r2 : List (Option Sgr) = unless_steady a.blink ∷ r3 in
    let r1 : List (Option Sgr) = unless_none a.underline ∷ r2 in
    ap (λ p. fold set_pen p r1) (set_intensity p0 a.intensity)
    ∙ ap (λ p. fold set_pen p r2) (set_underline p1 a.underline)
    ∙ ap (λ p. fold set_pen p r3) (set_blink p2 a.blink)
    ∙ ap (λ p. fold set_pen p r4) (set_italic p3 a.italic)
    ∙ ap (λ p. fold set_pen p r5) (set_reverse p4 a.reverse)
    ∙ ap (λ p. fold set_pen p r6) (set_strikethrough p5 a.strikethrough)
    ∙ ap (λ p. fold set_pen p r7) (set_invisible p6 a.invisible)
    ∙ ap (λ p. fold set_pen p r8) (set_overline p7 a.overline)
    ∙ ap (λ p. fold set_pen p r9) (set_align p8 a.vertical_align)
    ∙ ap (λ p. fold set_pen p r10) (set_foreground p9 foreground)
    ∙ ap (λ p. fold set_pen p r11) (set_background p10 background)
    ∙ set_line_color p11 underline

output_type : (t : SemanticType) → not (is_output t) ≡ false → type.Output ≡ t
output_type type.Output e = refl
output_type type.Input e = cc
output_type type.Prompt e = cc

-- so, with the link, the attributes are the pen
pen_is : (a : Attributes) (foreground background underline : ColorSpec) → lacks_encoding a ≡ false → attribute_of foreground ≡ a.foreground → attribute_of background ≡ a.background → attribute_of underline ≡ a.underline_color
    → settled_pen a.hyperlink a foreground background underline ≡ a
pen_is a foreground background underline e f b l =
    let both = or_parts (a.wrapped || not (is_output a.semantic_type)) (not (is_carried a.hyperlink)) e in
    let kept = or_parts a.wrapped (not (is_output a.semantic_type)) both.0 in
    let w : a.wrapped ≡ false = kept.0 in
    let t : type.Output ≡ a.semantic_type = output_type a.semantic_type kept.1 in
    λ i. record a { wrapped = sym w i; semantic_type = t i; foreground = f i; background = b i; underline_color = l i }

-- ---- the actions

module _ (f : List ℕ → ℕ) (saved : Option SavedCursor) (replies : List ℕ) (stream : List ℕ) where
  -- an SGR
  pub rendition_does : (value : Sgr) (s : Screen) → actions_done f (on f saved replies stream s) (rendition value ∷ []) ≡ on f saved replies stream (with_pen (with_rendition value s.pen) s)
  unfolding function_of
  rendition_does (sgr.Font value) s = refl
  rendition_does sgr.Reset s = refl
  rendition_does (sgr.Intensity value) s = refl
  rendition_does (sgr.Underline value) s = refl
  rendition_does (sgr.UnderlineColor value) s = refl
  rendition_does (sgr.Blink value) s = refl
  rendition_does (sgr.Italic value) s = refl
  rendition_does (sgr.Inverse value) s = refl
  rendition_does (sgr.Invisible value) s = refl
  rendition_does (sgr.StrikeThrough value) s = refl
  rendition_does (sgr.Foreground value) s = refl
  rendition_does (sgr.Background value) s = refl
  rendition_does (sgr.Overline value) s = refl
  rendition_does (sgr.VerticalAlign value) s = refl

  -- OSC 8
  pub link_does : (link : Option Link) (s : Screen) → actions_done f (on f saved replies stream s) (link_action link ∷ []) ≡ on f saved replies stream (with_pen (with_link link s.pen) s)
  unfolding function_of
  link_does link s = refl

  set_does : (value : Option Sgr) (s : Screen) → actions_done f (on f saved replies stream s) (set value) ≡ on f saved replies stream (with_pen (set_pen s.pen value) s)
  set_does None s = refl
  set_does (Some value) s = rendition_does value s

  -- settings in turn
  pub settings_do : (values : List (Option Sgr)) (s : Screen) → actions_done f (on f saved replies stream s) (flat_map set values) ≡ on f saved replies stream (with_pen (fold set_pen s.pen values) s)
  settings_do [] s = refl
  settings_do (value ∷ values) s =
      done_append f saved replies stream (set value) (flat_map set values) (on f saved replies stream s)
      ∙ ap (λ view. actions_done f view (flat_map set values)) (set_does value s)
      ∙ settings_do values (with_pen (set_pen s.pen value) s)

  -- all attributes
  pub pen_does : (a : Attributes) (foreground background underline : ColorSpec) (s : Screen) → lacks_encoding a ≡ false → attribute_of foreground ≡ a.foreground → attribute_of background ≡ a.background → attribute_of underline ≡ a.underline_color
      → actions_done f (on f saved replies stream s) (pen_actions (settings a foreground background underline) a.hyperlink) ≡ on f saved replies stream (with_pen a s)
  pen_does a foreground background underline s e k b l =
      done_append f saved replies stream (rendition sgr.Reset ∷ []) (flat_map set (settings a foreground background underline) ++ link_action a.hyperlink ∷ []) (on f saved replies stream s)
      ∙ ap (λ view. actions_done f view (flat_map set (settings a foreground background underline) ++ link_action a.hyperlink ∷ [])) (rendition_does sgr.Reset s)
      ∙ done_append f saved replies stream (flat_map set (settings a foreground background underline)) (link_action a.hyperlink ∷ []) (on f saved replies stream (with_pen (with_rendition sgr.Reset s.pen) s))
      ∙ ap (λ view. actions_done f view (link_action a.hyperlink ∷ [])) (settings_do (settings a foreground background underline) (with_pen (with_rendition sgr.Reset s.pen) s))
      ∙ ap (λ (p : Attributes). actions_done f (on f saved replies stream (with_pen p s)) (link_action a.hyperlink ∷ [])) (all_set s.pen.hyperlink a foreground background underline)
      ∙ link_does a.hyperlink (with_pen (settled_pen s.pen.hyperlink a foreground background underline) s)
      ∙ ap (λ (p : Attributes). on f saved replies stream (with_pen p s)) (pen_is a foreground background underline e k b l)
