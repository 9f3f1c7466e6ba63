-- Pens that have an encoding.
use Rattle.std.proofs.Common.{◌≡◌, ◌≢◌, Bool, true, false, refl, sym, ap, subst}
use Rattle.std.specs.Prelude.{◌↔◌, ◌||◌, not, Option, Some, None, option_map, option_and_then, if◌then◌else◌}
use Rattle.std.proofs.lemmas.Bool.{or_parts}
use Rattle.cell_base.specs.declared.attributes.SemanticType.{SemanticType}
use Rattle.cell_base.specs.declared.attributes.SemanticType.TheVariants as type
use Rattle.cell_base.specs.declared.color.ColorAttribute.{ColorAttribute}
use Rattle.cell_base.specs.declared.color.ColorAttribute.TheVariants as attribute
use Rattle.cell_base.specs.declared.color.ColorSpec.{ColorSpec}
use Rattle.cell_base.specs.Attributes.{Attributes}
use Rattle.screen_change.proofs.TextLemmas.{by_test}
use Rattle.terminal_render.specs.Carried.{IsColor, HaveColors}
use Rattle.terminal_render.specs.Links.{is_carried}
use Rattle.terminal_render.specs.Pen.{colour_setting, settings, pen_actions, is_output, lacks_encoding, pen_settings, pen_rendering}
use Rattle.terminal_render.specs.Spelling.{IsSpelledColor, IsSpelledPen}

-- ---- options

pub some_is : {A : Type 0} (x : A) → Some x ≢ None
some_is x e = cc

pub equal_some : {A : Type 0} (o : Option A) (x : A) → o ≡ Some x → o ≢ None
equal_some o x e k = cc

pub map_some : {A B : Type 0} (f : A → B) (o : Option A) → o ≢ None → option_map f o ≢ None
map_some f None h = absurd (h refl)
map_some f (Some x) h = some_is (f x)

pub then_some : {A B : Type 0} (f : A → Option B) (o : Option A) → o ≢ None → ((x : A) → f x ≢ None) → option_and_then f o ≢ None
then_some f None h k = absurd (h refl)
then_some f (Some x) h k = k x

-- ---- colours and pens

pub setting_some : (color : ColorAttribute) → IsSpelledColor color → colour_setting color ≢ None
setting_some (attribute.TrueColorWithPaletteFallback color index) h = absurd h
setting_some (attribute.TrueColorWithDefaultFallback color) h = some_is _
setting_some (attribute.PaletteIndex index) h = some_is _
setting_some attribute.Default h = some_is _

setting_spelled : (color : ColorAttribute) → IsColor color → colour_setting color ≢ None → IsSpelledColor color
setting_spelled (attribute.TrueColorWithPaletteFallback color index) k h = absurd (h refl)
setting_spelled (attribute.TrueColorWithDefaultFallback color) k h = k
setting_spelled (attribute.PaletteIndex index) k h = k
setting_spelled attribute.Default k h = tt

pub encoded_color : (color : ColorAttribute) → IsSpelledColor color → IsColor color
encoded_color (attribute.TrueColorWithPaletteFallback color index) h = absurd h
encoded_color (attribute.TrueColorWithDefaultFallback color) h = h
encoded_color (attribute.PaletteIndex index) h = h
encoded_color attribute.Default h = tt

settings_some : (a : Attributes) → IsSpelledPen a → pen_settings a ≢ None
settings_some a p =
    then_some _ (colour_setting a.foreground) (setting_some a.foreground p.foreground)
    (λ foreground. then_some _ (colour_setting a.background) (setting_some a.background p.background)
    (λ background. map_some (λ underline. settings a foreground background underline) (colour_setting a.underline_color) (setting_some a.underline_color p.underline)))

pub pen_some : (a : Attributes) → IsSpelledPen a → pen_rendering a ≢ None
unfolding pen_rendering
pen_some a p =
    let has_encoding : lacks_encoding a ≡ false = λ i. p.unwrapped i || not (is_output (p.output i)) || not (p.link i) in
    subst (λ b. (if b then None else option_map (λ values. pen_actions values a.hyperlink) (pen_settings a)) ≢ None) (sym has_encoding) (map_some (λ values. pen_actions values a.hyperlink) (pen_settings a) (settings_some a p))

-- each of three options has a value if the value made of all three exists
record AreSome (f g h : Option ColorSpec) : Type 0 where
  first : f ≢ None
  second : g ≢ None
  third : h ≢ None

three_some : {B : Type 0} (make : ColorSpec → ColorSpec → ColorSpec → B) (f g h : Option ColorSpec) → option_and_then (λ x. option_and_then (λ y. option_map (λ z. make x y z) h) g) f ≢ None → AreSome f g h
three_some make None g h k = absurd (k refl)
three_some make (Some x) None h k = absurd (k refl)
three_some make (Some x) (Some y) None k = absurd (k refl)
three_some make (Some x) (Some y) (Some z) k = record { first = some_is x; second = some_is y; third = some_is z }

output_is : (t : SemanticType) → not (is_output t) ≡ false → t ≡ type.Output
output_is type.Output e = refl
output_is type.Input e = cc
output_is type.Prompt e = cc

carried_is : (b : Bool) → not b ≡ false → b ≡ true
carried_is true e = refl
carried_is false e = cc

mapped_some : {A B : Type 0} (f : A → B) (o : Option A) → option_map f o ≢ None → o ≢ None
mapped_some f None k = absurd (k refl)
mapped_some f (Some x) k = some_is x

pub some_pen : (a : Attributes) → HaveColors a → pen_rendering a ≢ None → IsSpelledPen a
unfolding pen_rendering
some_pen a k h =
    by_test (lacks_encoding a)
    (λ e. absurd (h (ap (λ b. if b then None else option_map (λ values. pen_actions values a.hyperlink) (pen_settings a)) e)))
    (λ e.
    let found = subst (λ b. (if b then None else option_map (λ values. pen_actions values a.hyperlink) (pen_settings a)) ≢ None) e h in
    let colors = three_some (settings a) (colour_setting a.foreground) (colour_setting a.background) (colour_setting a.underline_color) (mapped_some (λ values. pen_actions values a.hyperlink) (pen_settings a) found) in
    spelled_pen a e (setting_spelled a.foreground k.0 colors.first) (setting_spelled a.background k.1 colors.second) (setting_spelled a.underline_color k.2 colors.third))
  where
    spelled_pen : (a : Attributes) → lacks_encoding a ≡ false → IsSpelledColor a.foreground → IsSpelledColor a.background → IsSpelledColor a.underline_color → IsSpelledPen a
    spelled_pen a e foreground background underline =
        let both = or_parts (a.wrapped || not (is_output a.semantic_type)) (not (is_carried a.hyperlink)) e in
        let first = or_parts a.wrapped (not (is_output a.semantic_type)) both.0 in
        record { unwrapped = first.0; output = output_is a.semantic_type first.1; link = carried_is (is_carried a.hyperlink) both.1; foreground = foreground; background = background; underline = underline }

pub pens_are_rendered : (a : Attributes) → HaveColors a → (IsSpelledPen a ↔ (pen_rendering a ≢ None))
pens_are_rendered a k = (pen_some a, some_pen a k)
