-- Two changes are equal where their values are.
use Rattle.std.proofs.Common.{◌≡◌, ℕ, Bool, true, false, ◌&&◌, Global, String, Option, Some, None, Decides, refl, ap, ◌==◌, eq-eqb, eqb-true}
use Rattle.std.specs.Option.{option_eq, option_map}
use Rattle.std.specs.String.{string_bytes, string_eq}
use Rattle.std.specs.declared.rc.Rc.{Rc}
use Rattle.std.proofs.lemmas.Option.{same_Some}
use Rattle.std.proofs.lemmas.Bool.{false≢true, and_parts, and_from}
use Rattle.std.proofs.lemmas.Bool.Decides.{Decides-int_eq}
use Rattle.std.proofs.lemmas.Slice.Eq.{bytes_eq-Decides}
use denote.Enum.Declared.{Declared, tag_of}
use denote.Enum.Bare.{Bare, sameb, same_true}
use Rattle.cell_base.specs.declared.attribute_change.AttributeChange.{AttributeChange}
use Rattle.cell_base.specs.declared.attribute_change.AttributeChange.TheVariants as attribute
use Rattle.cell_base.specs.declared.attributes.Position.{Position}
use Rattle.cell_base.specs.declared.attributes.Position.TheVariants as position
use Rattle.cell_base.specs.declared.color.ColorAttribute.{ColorAttribute}
use Rattle.cell_base.specs.declared.color.ColorAttribute.TheVariants as color
use Rattle.cell_base.specs.declared.color.SrgbaTuple.{SrgbaTuple}
use Rattle.cell_base.specs.declared.hyperlink.Hyperlink.{Hyperlink}
use Rattle.cell_base.specs.contracts.attributes.Intensity as intensity
use Rattle.cell_base.specs.contracts.attributes.Underline as underline
use Rattle.cell_base.specs.contracts.attributes.Blink as blink
use Rattle.cell_base.specs.contracts.attributes.CursorShape as shape
use Rattle.cell_base.specs.contracts.attributes.CursorVisibility as visibility
use Rattle.cell_base.specs.contracts.attributes.LineAttribute as line
use Rattle.cell_base.specs.contracts.attributes.PositionPartialEq.TheImpl as position_impl
use Rattle.cell_base.specs.AttributeValue as value
use Rattle.cell_base.specs.AttributeValueOf.{attribute_value}
use Rattle.cell_base.specs.SameAttributes.{same_attributes_decides}
use Rattle.cell_base.specs.SameLink.{same_link, same_link_decides}
use Rattle.screen_change.specs.ChangeValue as to
use Rattle.screen_change.specs.ValueOf.{value_of}
use Rattle.screen_change.specs.declared.change.Change.{Change}
use Rattle.screen_change.specs.declared.change.Change.TheVariants as of
use Rattle.screen_change.specs.contracts.change.ChangePartialEq.TheImpl as derived

-- an enum of names alone
names_alone : (D : Declared) → Bare D.parts → (x y : D.D) → Decides (sameb D x y) (x ≡ y)
names_alone D h x y = (λ e. same_true D h x y e, λ e. eq-eqb (tag_of D x) (tag_of D y) (ap (tag_of D) e))

numbers : (m n : ℕ) → Decides (m == n) (m ≡ n)
numbers m n = (λ e. eqb-true m n e, λ e. eq-eqb m n e)

-- two parts are equal where both are
both : {P Q : Type 0} (a b : Bool) → Decides a P → Decides b Q → Decides (a && b) (P × Q)
both a b p q = (λ e. let h = and_parts a b e in (p.0 h.0, q.0 h.1), λ h. and_from a b (p.1 h.0) (q.1 h.1))

-- a value of one part
one : {X Y : Type 0} (make : X → Y) (x y : X) (b : Bool) → (make x ≡ make y → x ≡ y) → Decides b (x ≡ y) → Decides b (make x ≡ make y)
one make x y b same d = (λ e. ap make (d.0 e), λ e. d.1 (same e))

text_eq : (a b : String Global) → Decides (string_eq a b) (string_bytes a ≡ string_bytes b)
text_eq a b = bytes_eq-Decides (string_bytes a) (string_bytes b)

tuple_eq : (x y : SrgbaTuple) → Decides (derived.ghosts.eq (of.ClearScreen (color.TrueColorWithDefaultFallback x)) (of.ClearScreen (color.TrueColorWithDefaultFallback y))) (x ≡ y)
tuple_eq x y =
    let d = both (x.0 == y.0) ((x.1 == y.1) && ((x.2 == y.2) && (x.3 == y.3))) (numbers x.0 y.0)
    (both (x.1 == y.1) ((x.2 == y.2) && (x.3 == y.3)) (numbers x.1 y.1) (both (x.2 == y.2) (x.3 == y.3) (numbers x.2 y.2) (numbers x.3 y.3))) in (
      λ e. let h = d.0 e in λ i. record { 0 = h.0 i; 1 = h.1.0 i; 2 = h.1.1.0 i; 3 = h.1.1.1 i },
      λ e. d.1 (ap (λ c. c.0) e, (ap (λ c. c.1) e, (ap (λ c. c.2) e, ap (λ c. c.3) e))),
    )

color_eq : (x y : ColorAttribute) → Decides (derived.ghosts.eq (of.ClearScreen x) (of.ClearScreen y)) (x ≡ y)
color_eq color.Default color.Default = (λ e. refl, λ e. refl)
color_eq (color.PaletteIndex m) (color.PaletteIndex n) = one color.PaletteIndex m n _ (λ e. cc) (numbers m n)
color_eq (color.TrueColorWithDefaultFallback x) (color.TrueColorWithDefaultFallback y) = one color.TrueColorWithDefaultFallback x y _ (λ e. cc) (tuple_eq x y)
color_eq (color.TrueColorWithPaletteFallback x m) (color.TrueColorWithPaletteFallback y n) =
    let d = both _ (m == n) (tuple_eq x y) (numbers m n) in
    (λ e. let h = d.0 e in λ i. color.TrueColorWithPaletteFallback (h.0 i) (h.1 i), λ e. d.1 (cc, cc))
color_eq x y = (λ e. absurd (false≢true e), λ e. cc)

position_eq : (x y : Position) → Decides (position_impl.ghosts.eq x y) (x ≡ y)
position_eq (position.Relative m) (position.Relative n) = one position.Relative m n _ (λ e. cc) (Decides-int_eq m n)
position_eq (position.Absolute m) (position.Absolute n) = one position.Absolute m n _ (λ e. cc) (numbers m n)
position_eq (position.EndRelative m) (position.EndRelative n) = one position.EndRelative m n _ (λ e. cc) (numbers m n)
position_eq x y = (λ e. absurd (false≢true e), λ e. cc)

switch_eq : (x y : Bool) → Decides (derived.ghosts.eq (of.Attribute (attribute.Italic x)) (of.Attribute (attribute.Italic y))) (x ≡ y)
switch_eq true true = (λ e. refl, λ e. refl)
switch_eq false false = (λ e. refl, λ e. refl)
switch_eq x y = (λ e. absurd (false≢true e), λ e. cc)

links_eq : (a b : Option (Rc Hyperlink Global)) → Decides (option_eq (λ x y. same_link x.value y.value) a b) (option_map (λ r. r.value) a ≡ option_map (λ r. r.value) b)
links_eq None None = (λ e. refl, λ e. refl)
links_eq None (Some y) = (λ e. absurd (false≢true e), λ e. cc)
links_eq (Some x) None = (λ e. absurd (false≢true e), λ e. cc)
links_eq (Some x) (Some y) =
    let d = same_link_decides x.value y.value in
    (λ e. ap Some (d.0 e), λ e. d.1 (same_Some _ _ e))

attribute_eq : (x y : AttributeChange) → Decides (derived.ghosts.eq (of.Attribute x) (of.Attribute y)) (attribute_value x ≡ attribute_value y)
attribute_eq (attribute.Intensity x) (attribute.Intensity y) = one value.Intensity x y _ (λ e. cc) (names_alone intensity.the_type tt x y)
attribute_eq (attribute.Underline x) (attribute.Underline y) = one value.Underline x y _ (λ e. cc) (names_alone underline.the_type tt x y)
attribute_eq (attribute.Italic x) (attribute.Italic y) = one value.Italic x y _ (λ e. cc) (switch_eq x y)
attribute_eq (attribute.Blink x) (attribute.Blink y) = one value.Blink x y _ (λ e. cc) (names_alone blink.the_type tt x y)
attribute_eq (attribute.Reverse x) (attribute.Reverse y) = one value.Reverse x y _ (λ e. cc) (switch_eq x y)
attribute_eq (attribute.StrikeThrough x) (attribute.StrikeThrough y) = one value.StrikeThrough x y _ (λ e. cc) (switch_eq x y)
attribute_eq (attribute.Invisible x) (attribute.Invisible y) = one value.Invisible x y _ (λ e. cc) (switch_eq x y)
attribute_eq (attribute.Foreground x) (attribute.Foreground y) = one value.Foreground x y _ (λ e. cc) (color_eq x y)
attribute_eq (attribute.Background x) (attribute.Background y) = one value.Background x y _ (λ e. cc) (color_eq x y)
attribute_eq (attribute.Hyperlink a) (attribute.Hyperlink b) = let d = links_eq a b in (λ e. ap value.Hyperlink (d.0 e), λ e. d.1 cc)
attribute_eq x y = (λ e. absurd (false≢true e), λ e. cc)

three : (make : ℕ → ℕ → ℕ → to.ChangeValue) (a b c x y z : ℕ) → (make a b c ≡ make x y z → (a ≡ x) × ((b ≡ y) × (c ≡ z))) → Decides ((a == x) && ((b == y) && (c == z))) (make a b c ≡ make x y z)
three make a b c x y z same =
    let d = both (a == x) ((b == y) && (c == z)) (numbers a x) (both (b == y) (c == z) (numbers b y) (numbers c z)) in
    (λ e. let h = d.0 e in λ i. make (h.0 i) (h.1.0 i) (h.1.1 i), λ e. d.1 (same e))

pub change_eq : (a b : Change) → Decides (derived.ghosts.eq a b) (value_of a ≡ value_of b)
change_eq (of.Attribute x) (of.Attribute y) = one to.Attribute (attribute_value x) (attribute_value y) _ (λ e. cc) (attribute_eq x y)
change_eq (of.AllAttributes x) (of.AllAttributes y) = one to.AllAttributes x y _ (λ e. cc) (same_attributes_decides x y)
change_eq (of.Text x) (of.Text y) = one to.Text (string_bytes x) (string_bytes y) _ (λ e. cc) (text_eq x y)
change_eq (of.ClearScreen x) (of.ClearScreen y) = one to.ClearScreen x y _ (λ e. cc) (color_eq x y)
change_eq (of.ClearToEndOfLine x) (of.ClearToEndOfLine y) = one to.ClearToEndOfLine x y _ (λ e. cc) (color_eq x y)
change_eq (of.ClearToEndOfScreen x) (of.ClearToEndOfScreen y) = one to.ClearToEndOfScreen x y _ (λ e. cc) (color_eq x y)
change_eq (of.CursorPosition x v) (of.CursorPosition y w) =
    let d = both (position_impl.ghosts.eq x y) (position_impl.ghosts.eq v w) (position_eq x y) (position_eq v w) in
    (λ e. let h = d.0 e in λ i. to.CursorPosition (h.0 i) (h.1 i), λ e. d.1 (cc, cc))
change_eq (of.CursorColor x) (of.CursorColor y) = one to.CursorColor x y _ (λ e. cc) (color_eq x y)
change_eq (of.CursorShape x) (of.CursorShape y) = one to.CursorShape x y _ (λ e. cc) (names_alone shape.the_type tt x y)
change_eq (of.CursorVisibility x) (of.CursorVisibility y) = one to.CursorVisibility x y _ (λ e. cc) (names_alone visibility.the_type tt x y)
change_eq (of.LineAttribute x) (of.LineAttribute y) = one to.LineAttribute x y _ (λ e. cc) (names_alone line.the_type tt x y)
change_eq (of.ScrollRegionUp a b c) (of.ScrollRegionUp x y z) = three to.ScrollRegionUp a b c x y z (λ e. (cc, (cc, cc)))
change_eq (of.ScrollRegionDown a b c) (of.ScrollRegionDown x y z) = three to.ScrollRegionDown a b c x y z (λ e. (cc, (cc, cc)))
change_eq (of.Title x) (of.Title y) = one to.Title (string_bytes x) (string_bytes y) _ (λ e. cc) (text_eq x y)
change_eq a b = (λ e. absurd (false≢true e), λ e. cc)
