-- The encoding of a change has the effect of the change.
use Rattle.std.proofs.Common.{◌≡◌, ℕ, ◌^◌, ◌<◌, Bool, true, false, List, [], ◌∷◌, refl, sym, ap, subst, ◌∙◌}
use Rattle.std.specs.Prelude.{All, Option, None, Some, IfSome, option_map, option_and_then}
use Rattle.text_clusters.specs.Controls.{holds_c1}
use Rattle.cell_base.specs.declared.attributes.CursorVisibility.{CursorVisibility as Visibility}
use Rattle.cell_base.specs.declared.attributes.CursorVisibility.TheVariants.{Hidden, Visible}
use Rattle.cell_base.specs.declared.color.ColorAttribute.{ColorAttribute}
use Rattle.cell_base.specs.declared.color.ColorAttribute.TheVariants as attribute
use Rattle.cell_base.specs.declared.color.ColorSpec.{ColorSpec}
use Rattle.cell_base.specs.declared.color.ColorSpec.TheVariants as spec
use Rattle.cell_base.specs.Attributes.{Attributes}
use Rattle.cell_base.specs.AttributeValue as one
use Rattle.cell_base.specs.AttributeValue.{AttributeValue}
use Rattle.cell_base.specs.Color.{attribute_of}
use Rattle.cell_base.specs.Link.{Link}
use Rattle.cell_base.specs.Screen.{Screen, IsScreen, height}
use Rattle.screen_change.specs.ChangeValue.{ChangeValue, Attribute, AllAttributes, Text, ClearScreen, ClearToEndOfLine, ClearToEndOfScreen, CursorPosition, CursorColor, CursorShape, CursorVisibility, LineAttribute, ScrollRegionUp, ScrollRegionDown, Title}
use Rattle.cell_base.specs.WholeRow.{IsWhole}
use Rattle.escape_stream.specs.StreamAction.{StreamAction}
use Rattle.screen_effects.specs.Display.{Display}
use Rattle.screen_effects.specs.Effect.{effect, with_pen}
use Rattle.terminal_table.specs.Modes.{SavedCursor}
use Rattle.terminal_table.specs.Functions.{function_of}
use Rattle.terminal_render.specs.Effects.{actions_done, with_change, RenderingsHaveTheEffect}
use Rattle.terminal_render.specs.Links.{is_carried, is_plain_text}
use Rattle.terminal_render.specs.Pen.{colour_setting, attribute_action, lacks_encoding, pen_actions, settings, pen_rendering}
use Rattle.terminal_render.specs.Rendering.{rendering}
use Rattle.terminal_render.specs.Texts.{text_rendering, title_rendering}
use Rattle.terminal_render.proofs.DoneLemmas.{on, text_does}
use Rattle.terminal_render.proofs.PenLemmas.{pen_does}
use Rattle.terminal_render.proofs.CoordinateLemmas.{coordinate_does}
use Rattle.terminal_render.proofs.ScrollLemmas.{up_does, down_does}
use Rattle.terminal_render.proofs.ClearLemmas.{line_does, screen_does, below_does}

module _ (f : List ℕ → ℕ) (saved : Option SavedCursor) (replies : List ℕ) (stream : List ℕ) (d : Display) where
  -- the actions of a rendering, if there is one, lead from the display's screen to the screen `after`
  abbrev Makes : Option (List StreamAction) → Screen → Type 0
  Makes found after = IfSome found (λ actions. actions_done f (on f saved replies stream d.screen) actions ≡ on f saved replies stream after)

  text_makes : (text : List ℕ) → Makes (text_rendering text) (effect f d (Text text)).screen
  unfolding text_rendering
  text_makes text = by_test (holds_c1 text) refl
    where
      by_test : (b : Bool) → holds_c1 text ≡ b → Makes (text_rendering text) (effect f d (Text text)).screen
      by_test true e = rw e tt
      by_test false e = rw e (text_does f saved replies stream text d)

  title_makes : (text : List ℕ) → Makes (title_rendering text) (effect f d (Title text)).screen
  unfolding title_rendering function_of
  title_makes text = by_test (is_plain_text text) refl
    where
      by_test : (b : Bool) → is_plain_text text ≡ b → Makes (title_rendering text) (effect f d (Title text)).screen
      by_test true e = rw e refl
      by_test false e = rw e tt

  abbrev attribute_rendering : AttributeValue → Option (List StreamAction)
  attribute_rendering change = option_map (λ action. action ∷ []) (attribute_action change)

  link_makes : (link : Option Link) → Makes (attribute_rendering (one.Hyperlink link)) (effect f d (Attribute (one.Hyperlink link))).screen
  unfolding attribute_action function_of
  link_makes link = by_test (is_carried link) refl
    where
      by_test : (b : Bool) → is_carried link ≡ b → Makes (attribute_rendering (one.Hyperlink link)) (effect f d (Attribute (one.Hyperlink link))).screen
      by_test true e = rw e refl
      by_test false e = rw e tt

  foreground_makes : (color : ColorAttribute) → Makes (attribute_rendering (one.Foreground color)) (effect f d (Attribute (one.Foreground color))).screen
  unfolding attribute_action function_of
  foreground_makes (attribute.TrueColorWithPaletteFallback color index) = tt
  foreground_makes (attribute.TrueColorWithDefaultFallback color) = refl
  foreground_makes (attribute.PaletteIndex index) = refl
  foreground_makes attribute.Default = refl

  background_makes : (color : ColorAttribute) → Makes (attribute_rendering (one.Background color)) (effect f d (Attribute (one.Background color))).screen
  unfolding attribute_action function_of
  background_makes (attribute.TrueColorWithPaletteFallback color index) = tt
  background_makes (attribute.TrueColorWithDefaultFallback color) = refl
  background_makes (attribute.PaletteIndex index) = refl
  background_makes attribute.Default = refl

  attribute_makes : (change : AttributeValue) → Makes (attribute_rendering change) (effect f d (Attribute change)).screen
  unfolding attribute_action function_of
  attribute_makes (one.Intensity value) = refl
  attribute_makes (one.Underline value) = refl
  attribute_makes (one.Italic value) = refl
  attribute_makes (one.Blink value) = refl
  attribute_makes (one.Reverse value) = refl
  attribute_makes (one.StrikeThrough value) = refl
  attribute_makes (one.Invisible value) = refl
  attribute_makes (one.Foreground color) = foreground_makes color
  attribute_makes (one.Background color) = background_makes color
  attribute_makes (one.Hyperlink link) = link_makes link

  -- a colour that has an encoding is the colour that its setting sets
  setting_back : (color : ColorAttribute) (c : ColorSpec) → colour_setting color ≡ Some c → attribute_of c ≡ color
  setting_back (attribute.TrueColorWithPaletteFallback color index) c e = cc
  setting_back (attribute.TrueColorWithDefaultFallback color) c e = let k : spec.TrueColor color ≡ c = cc in sym (ap attribute_of k)
  setting_back (attribute.PaletteIndex index) c e = let k : spec.PaletteIndex index ≡ c = cc in sym (ap attribute_of k)
  setting_back attribute.Default c e = let k : spec.Default ≡ c = cc in sym (ap attribute_of k)

  pen_makes : (a : Attributes) → Makes (pen_rendering a) (effect f d (AllAttributes a)).screen
  unfolding pen_rendering
  pen_makes a = by_test (lacks_encoding a) refl
    where
      by_underline : lacks_encoding a ≡ false → (foreground background : ColorSpec) → colour_setting a.foreground ≡ Some foreground → colour_setting a.background ≡ Some background → (found : Option ColorSpec) → colour_setting a.underline_color ≡ found
          → Makes (option_map (λ values. pen_actions values a.hyperlink) (option_map (λ underline. settings a foreground background underline) found)) (with_pen a d.screen)
      by_underline e foreground background k b None l = tt
      by_underline e foreground background k b (Some underline) l = pen_does f saved replies stream a foreground background underline d.screen e (setting_back a.foreground foreground k) (setting_back a.background background b) (setting_back a.underline_color underline l)

      by_background : lacks_encoding a ≡ false → (foreground : ColorSpec) → colour_setting a.foreground ≡ Some foreground → (found : Option ColorSpec) → colour_setting a.background ≡ found
          → Makes (option_map (λ values. pen_actions values a.hyperlink) (option_and_then (λ background. option_map (λ underline. settings a foreground background underline) (colour_setting a.underline_color)) found)) (with_pen a d.screen)
      by_background e foreground k None b = tt
      by_background e foreground k (Some background) b = by_underline e foreground background k b (colour_setting a.underline_color) refl

      by_foreground : lacks_encoding a ≡ false → (found : Option ColorSpec) → colour_setting a.foreground ≡ found
          → Makes (option_map (λ values. pen_actions values a.hyperlink) (option_and_then (λ foreground. option_and_then (λ background. option_map (λ underline. settings a foreground background underline) (colour_setting a.underline_color)) (colour_setting a.background)) found)) (with_pen a d.screen)
      by_foreground e None k = tt
      by_foreground e (Some foreground) k = by_background e foreground k (colour_setting a.background) refl

      by_test : (b : Bool) → lacks_encoding a ≡ b → Makes (pen_rendering a) (effect f d (AllAttributes a)).screen
      by_test true e = rw e tt
      by_test false e = rw e (by_foreground e (colour_setting a.foreground) refl)

  visibility_makes : (v : Visibility) → Makes (rendering (CursorVisibility v) d.screen.width (height d.screen)) (effect f d (CursorVisibility v)).screen
  unfolding function_of
  visibility_makes Visible = refl
  visibility_makes Hidden = refl

  makes : (change : ChangeValue) → IsScreen d.screen → All IsWhole d.screen.rows → d.screen.width < 2 ^ 32 → height d.screen < 2 ^ 32 → Makes (rendering change d.screen.width (height d.screen)) (effect f d change).screen
  makes (Text text) h w a b = text_makes text
  makes (Title text) h w a b = title_makes text
  makes (Attribute change) h w a b = attribute_makes change
  makes (AllAttributes pen) h w a b = pen_makes pen
  makes (ClearScreen color) h w a b = screen_does f saved replies stream d.screen color
  makes (ClearToEndOfLine color) h w a b = line_does f saved replies stream d.screen color
  makes (ClearToEndOfScreen color) h w a b = below_does f saved replies stream d.screen color h w
  makes (CursorPosition x y) h w a b = coordinate_does f saved replies stream d.screen h a b x y
  makes (CursorVisibility v) h w a b = visibility_makes v
  makes (ScrollRegionUp first size count) h w a b = up_does f saved replies stream d.screen size count first
  makes (ScrollRegionDown first size count) h w a b = down_does f saved replies stream d.screen size count first
  makes (CursorColor color) h w a b = tt
  makes (CursorShape shape) h w a b = tt
  makes (LineAttribute size) h w a b = tt

-- ---- on a view

of_some : {A : Type 0} (P : A → Type 0) (found : Option A) (x : A) → found ≡ Some x → IfSome found P → P x
of_some P found x e h = subst (λ o. IfSome o P) e h

pub have_the_effect : RenderingsHaveTheEffect
have_the_effect f view d change actions ready same stands =
    let s : Screen = view.state.screen in
    let h : IsScreen d.screen = subst IsScreen (sym same) ready.lawful in
    let w : All IsWhole d.screen.rows = subst (λ (x : Screen). All IsWhole x.rows) (sym same) ready.whole in
    let a : d.screen.width < 2 ^ 32 = subst (λ (x : Screen). x.width < 2 ^ 32) (sym same) ready.width in
    let b : height d.screen < 2 ^ 32 = subst (λ (x : Screen). height x < 2 ^ 32) (sym same) ready.height in
    let found : rendering change d.screen.width (height d.screen) ≡ Some actions = ap (λ (x : Screen). rendering change x.width (height x)) same ∙ stands in
    let made = of_some (λ xs. actions_done f (on f view.state.saved view.state.replies view.stream d.screen) xs ≡ on f view.state.saved view.state.replies view.stream (effect f d change).screen) (rendering change d.screen.width (height d.screen)) actions found
    (makes f view.state.saved view.state.replies view.stream d change h w a b) in
    let here : view ≡ on f view.state.saved view.state.replies view.stream d.screen = λ i. record view { state = record view.state { screen = sym same i; modes = ready.plain i }; held = ready.run i } in
    let there : on f view.state.saved view.state.replies view.stream (effect f d change).screen ≡ with_change f view d change = λ i. record (with_change f view d change) { state = record (with_change f view d change).state { modes = sym ready.plain i }; held = sym ready.run i } in
    ap (λ v. actions_done f v actions) here ∙ made ∙ there
