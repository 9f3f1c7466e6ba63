-- No rendering begins with a string terminator, so after other actions its bytes are the same as alone.
use Rattle.std.proofs.Common.{◌≡◌, ℕ, Bool, true, false, List, [], ◌∷◌, ◌++◌, map, refl, sym, ap, subst, ◌∙◌, append_assoc}
use Rattle.std.specs.Prelude.{◌==◌, ◌||◌, Option, None, Some, IfSome, option_map, if◌then◌else◌}
use Rattle.std.specs.List.{flat_map}
use Rattle.text_clusters.specs.Controls.{holds_c1}
use Rattle.cell_base.specs.declared.color.ColorAttribute.{ColorAttribute}
use Rattle.cell_base.specs.declared.color.ColorSpec.{ColorSpec}
use Rattle.cell_base.specs.Attributes.{Attributes}
use Rattle.cell_base.specs.AttributeValue as one
use Rattle.cell_base.specs.AttributeValue.{AttributeValue}
use Rattle.cell_base.specs.Link.{Link}
use Rattle.screen_change.specs.ChangeValue.{ChangeValue, Attribute, AllAttributes, Text, ClearScreen, ClearToEndOfLine, ClearToEndOfScreen, CursorPosition, CursorColor, CursorShape, CursorVisibility, LineAttribute, ScrollRegionUp, ScrollRegionDown, Title}
use Rattle.csi_codec.specs.declared.cursors.Cursor.{Cursor}
use Rattle.csi_codec.specs.declared.edits.Edit.{Edit}
use Rattle.csi_codec.specs.declared.edits.Edit.TheVariants as edit
use Rattle.csi_codec.specs.declared.rendition.Sgr.{Sgr}
use Rattle.escape_stream.specs.StreamAction.{StreamAction}
use Rattle.escape_stream.specs.StreamText.{action_text, begins_terminated, closes_string, stream_text, text_after, texts_after}
use Rattle.screen_effects.specs.Strokes.{TextPart, Control, Plain, text_parts}
use Rattle.terminal_render.specs.Links.{is_carried, is_plain_text}
use Rattle.terminal_render.specs.Pen.{rendition, attribute_action, pen_actions, lacks_encoding, pen_settings, pen_rendering, plain_pen, clear_rendering, colour_setting}
use Rattle.terminal_render.specs.Positions.{position_moves}
use Rattle.terminal_render.specs.Rendering.{moved, is_whole, scroll_rendering, rendering}
use Rattle.terminal_render.specs.Texts.{part_actions, text_rendering, title_rendering}

abbrev Opens : List StreamAction → Type 0
Opens actions = begins_terminated actions ≡ false

abbrev AllOpen : Option (List StreamAction) → Type 0
AllOpen found = IfSome found Opens

parts_open : (parts : List TextPart) → Opens (flat_map part_actions parts)
parts_open [] = refl
parts_open (Plain text ∷ parts) = refl
parts_open (Control byte ∷ parts) = by_test (byte == 13 || byte == 10) refl
  where
    by_test : (b : Bool) → (byte == 13 || byte == 10) ≡ b → Opens (part_actions (Control byte) ++ flat_map part_actions parts)
    by_test true e = rw e refl
    by_test false e = rw e refl

text_opens : (text : List ℕ) → AllOpen (text_rendering text)
unfolding text_rendering
text_opens text = by_test (holds_c1 text) refl
  where
    by_test : (b : Bool) → holds_c1 text ≡ b → AllOpen (text_rendering text)
    by_test true e = rw e tt
    by_test false e = rw e (parts_open (text_parts text))

title_opens : (text : List ℕ) → AllOpen (title_rendering text)
unfolding title_rendering
title_opens text = by_test (is_plain_text text) refl
  where
    by_test : (b : Bool) → is_plain_text text ≡ b → AllOpen (title_rendering text)
    by_test true e = rw e refl
    by_test false e = rw e tt

abbrev attribute_rendering : AttributeValue → Option (List StreamAction)
attribute_rendering change = option_map (λ action. action ∷ []) (attribute_action change)

link_opens : (link : Option Link) → AllOpen (attribute_rendering (one.Hyperlink link))
unfolding attribute_action
link_opens link = by_test (is_carried link) refl
  where
    by_test : (b : Bool) → is_carried link ≡ b → AllOpen (attribute_rendering (one.Hyperlink link))
    by_test true e = rw e refl
    by_test false e = rw e tt

setting_opens : (found : Option Sgr) → AllOpen (option_map (λ action. action ∷ []) (option_map rendition found))
setting_opens None = tt
setting_opens (Some value) = refl

attribute_opens : (change : AttributeValue) → AllOpen (attribute_rendering change)
unfolding attribute_action
attribute_opens (one.Intensity value) = refl
attribute_opens (one.Underline value) = refl
attribute_opens (one.Italic value) = refl
attribute_opens (one.Blink value) = refl
attribute_opens (one.Reverse value) = refl
attribute_opens (one.StrikeThrough value) = refl
attribute_opens (one.Invisible value) = refl
attribute_opens (one.Foreground color) = setting_opens (option_map _ (colour_setting color))
attribute_opens (one.Background color) = setting_opens (option_map _ (colour_setting color))
attribute_opens (one.Hyperlink link) = link_opens link

pen_opens : (a : Attributes) → AllOpen (pen_rendering a)
unfolding pen_rendering
pen_opens a = by_test (lacks_encoding a) refl
  where
    by_settings : (found : Option (List (Option Sgr))) → AllOpen (option_map (λ values. pen_actions values a.hyperlink) found)
    by_settings None = tt
    by_settings (Some values) = refl

    by_test : (b : Bool) → lacks_encoding a ≡ b → AllOpen (pen_rendering a)
    by_test true e = rw e tt
    by_test false e = rw e (by_settings (pen_settings a))

clear_opens : (color : ColorAttribute) (erasure : List StreamAction) → AllOpen (clear_rendering color erasure)
unfolding clear_rendering
clear_opens color erasure = by_color (colour_setting color)
  where
    by_color : (found : Option ColorSpec) → AllOpen (option_map (λ c. plain_pen c ++ erasure) found)
    by_color None = tt
    by_color (Some c) = refl

moves_open : (found : Option (List Cursor)) → AllOpen (option_map (map moved) found)
moves_open None = tt
moves_open (Some []) = refl
moves_open (Some (move ∷ moves)) = refl

scroll_opens : (scroll : ℕ → Edit) (height first size count : ℕ) → AllOpen (scroll_rendering scroll height first size count)
unfolding scroll_rendering
scroll_opens scroll height first size count = by_test (is_whole height first size) refl
  where
    by_count : is_whole height first size ≡ true → (b : Bool) → (count == 0) ≡ b → AllOpen (scroll_rendering scroll height first size count)
    by_count e true z = rw (e, z) refl
    by_count e false z = rw (e, z) refl

    by_test : (b : Bool) → is_whole height first size ≡ b → AllOpen (scroll_rendering scroll height first size count)
    by_test true e = by_count e (count == 0) refl
    by_test false e = rw e tt

pub rendering_opens : (change : ChangeValue) (width height : ℕ) → AllOpen (rendering change width height)
rendering_opens (Text text) width height = text_opens text
rendering_opens (Title text) width height = title_opens text
rendering_opens (Attribute change) width height = attribute_opens change
rendering_opens (AllAttributes pen) width height = pen_opens pen
rendering_opens (ClearScreen color) width height = clear_opens color _
rendering_opens (ClearToEndOfLine color) width height = clear_opens color _
rendering_opens (ClearToEndOfScreen color) width height = clear_opens color _
rendering_opens (CursorPosition x y) width height = moves_open (position_moves width height x y)
rendering_opens (CursorVisibility v) width height = refl
rendering_opens (ScrollRegionUp first size count) width height = scroll_opens edit.ScrollUp height first size count
rendering_opens (ScrollRegionDown first size count) width height = scroll_opens edit.ScrollDown height first size count
rendering_opens (CursorColor color) width height = tt
rendering_opens (CursorShape shape) width height = tt
rendering_opens (LineAttribute size) width height = tt

-- ---- renderings after other actions

pub one_opens : (found : Option (List StreamAction)) (actions : List StreamAction) → AllOpen found → found ≡ Some actions → Opens actions
one_opens found actions h e = subst (λ (o : Option (List StreamAction)). AllOpen o) e h

pub joined_open : (xs ys : List StreamAction) → Opens xs → Opens ys → Opens (xs ++ ys)
joined_open [] ys h k = k
joined_open (x ∷ xs) ys h k = h

first_text : (closed : Bool) (ys : List StreamAction) → Opens ys → texts_after closed ys ≡ stream_text ys
first_text false ys h = refl
first_text true [] h = refl
first_text true (y ∷ ys) h = ap (λ (b : Bool). (if b then [] else action_text y) ++ texts_after (closes_string y) ys) h

texts_join : (closed : Bool) (xs ys : List StreamAction) → Opens ys → texts_after closed (xs ++ ys) ≡ texts_after closed xs ++ stream_text ys
texts_join closed [] ys h = first_text closed ys h
texts_join closed (x ∷ xs) ys h =
    ap (λ rest. text_after closed x ++ rest) (texts_join (closes_string x) xs ys h) ∙ sym (append_assoc (text_after closed x) (texts_after (closes_string x) xs) (stream_text ys))

pub following_bytes : (xs ys : List StreamAction) → Opens ys → stream_text (xs ++ ys) ≡ stream_text xs ++ stream_text ys
following_bytes xs ys h = texts_join false xs ys h
