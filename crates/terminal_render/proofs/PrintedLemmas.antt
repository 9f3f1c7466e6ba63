-- The encoding of changes prints their texts.
use Rattle.std.proofs.Common.{◌≡◌, ℕ, Bool, true, false, List, [], ◌∷◌, ◌++◌, map, refl, sym, ap, subst, ◌∙◌}
use Rattle.std.specs.Prelude.{◌==◌, ◌||◌, flat_map, Option, Some, None, IfSome, option_map, if◌then◌else◌}
use Rattle.std.specs.Char.{is_ascii_control}
use Rattle.std.proofs.lemmas.Bool.{cond_both}
use Rattle.std.proofs.lemmas.Grind.{flat_map-append}
use Rattle.text_clusters.specs.Controls.{holds_c1}
use Rattle.cell_base.specs.AttributeValue as one
use Rattle.cell_base.specs.AttributeValue.{AttributeValue}
use Rattle.cell_base.specs.Row.{space}
use Rattle.cell_base.specs.declared.color.ColorAttribute.{ColorAttribute}
use Rattle.screen_change.specs.ChangeValue.{ChangeValue, Attribute, AllAttributes, Text, ClearScreen, ClearToEndOfLine, ClearToEndOfScreen, CursorPosition, CursorColor, CursorShape, CursorVisibility, LineAttribute, ScrollRegionUp, ScrollRegionDown, Title}
use Rattle.csi_codec.specs.declared.cursors.Cursor.{Cursor}
use Rattle.csi_codec.specs.declared.edits.Edit.{Edit}
use Rattle.csi_codec.specs.declared.edits.Edit.TheVariants as edit
use Rattle.csi_codec.specs.declared.rendition.Sgr.{Sgr}
use Rattle.csi_codec.specs.declared.rendition.Sgr.TheVariants as sgr
use Rattle.escape_stream.specs.StreamAction.{StreamAction, control, printed}
use Rattle.screen_effects.specs.Strokes.{TextPart, Control, Plain, with_byte, text_parts}
use Rattle.terminal_render.specs.Links.{is_carried, is_plain_text}
use Rattle.terminal_render.specs.Lists.{all_rendered}
use Rattle.terminal_render.specs.Pen.{colour_setting, rendition, link_action, attribute_setting, attribute_action, unless_default, set, pen_actions, lacks_encoding, pen_settings, pen_rendering, plain_pen, clear_rendering}
use Rattle.terminal_render.specs.Positions.{position_moves}
use Rattle.terminal_render.specs.Rendering.{moved, is_whole, scroll_rendering, rendering}
use Rattle.terminal_render.specs.Texts.{run_actions, part_actions, text_rendering, title_rendering}
use Rattle.terminal_render.proofs.ListLemmas.{parts}
use Rattle.terminal_render.specs.EncodedSizes.{byte_printed, run_in, runs_in, prints_in}

-- ---- texts

before_prints : (b : ℕ) (parts : List TextPart) → prints_in (flat_map part_actions (with_byte b parts)) ≡ b ∷ prints_in (flat_map part_actions parts)
before_prints b [] = refl
before_prints b (Plain text ∷ parts) = refl
before_prints b (Control byte ∷ parts) = refl

control_prints : (moves : Bool) (byte : ℕ) → prints_in (if moves then control byte ∷ [] else run_actions space) ≡ (if moves then [] else space)
control_prints true byte = refl
control_prints false byte = refl

text_prints : (text : List ℕ) → prints_in (flat_map part_actions (text_parts text)) ≡ flat_map byte_printed text
text_prints [] = refl
text_prints (b ∷ text) = by_test (is_ascii_control b) (text_prints text)
  where
    by_test : (t : Bool) → prints_in (flat_map part_actions (text_parts text)) ≡ flat_map byte_printed text
        → prints_in (flat_map part_actions (if t then Control b ∷ text_parts text else with_byte b (text_parts text))) ≡ (if t then (if b == 13 || b == 10 then [] else space) else b ∷ []) ++ flat_map byte_printed text
    by_test true h = flat_map-append printed (part_actions (Control b)) (flat_map part_actions (text_parts text)) ∙ (λ i. control_prints (b == 13 || b == 10) b i ++ h i)
    by_test false h = before_prints b (text_parts text) ∙ ap (λ (rest : List ℕ). b ∷ rest) h

-- ---- changes

-- the actions, if there are any, print the bytes `run`
abbrev Prints : List ℕ → Option (List StreamAction) → Type 0
Prints run found = IfSome found (λ actions. prints_in actions ≡ run)

mapped : {A : Type 0} (send : A → List StreamAction) → ((x : A) → prints_in (send x) ≡ []) → (found : Option A) → Prints [] (option_map send found)
mapped send h None = tt
mapped send h (Some x) = h x

moves_print : (moves : List Cursor) → prints_in (map moved moves) ≡ []
moves_print [] = refl
moves_print (move ∷ moves) = moves_print moves

set_print : (value : Option Sgr) (remaining : List StreamAction) → prints_in remaining ≡ [] → prints_in (set value ++ remaining) ≡ []
set_print None remaining h = h
set_print (Some value) remaining h = h

sets_print : (values : List (Option Sgr)) (remaining : List StreamAction) → prints_in remaining ≡ [] → prints_in (flat_map set values ++ remaining) ≡ []
sets_print [] remaining h = h
sets_print (None ∷ values) remaining h = sets_print values remaining h
sets_print (Some value ∷ values) remaining h = sets_print values remaining h

value_prints : (value : AttributeValue) → Prints [] (option_map (λ action. action ∷ []) (attribute_action value))
unfolding attribute_action
value_prints (one.Hyperlink link) = cond_both (is_carried link) (Some (link_action link)) None (λ found. Prints [] (option_map (λ action. action ∷ []) found)) (λ e. refl) (λ e. tt)
value_prints value = by_setting (attribute_setting value)
  where
    by_setting : (found : Option Sgr) → Prints [] (option_map (λ action. action ∷ []) (option_map rendition found))
    by_setting None = tt
    by_setting (Some setting) = refl

clear_prints : (color : ColorAttribute) (erasure : List StreamAction) → prints_in erasure ≡ [] → Prints [] (clear_rendering color erasure)
unfolding clear_rendering
clear_prints color erasure h = mapped (λ c. plain_pen c ++ erasure) (λ c. set_print (unless_default sgr.Background c) erasure h) (colour_setting color)

scroll_prints : (scroll : ℕ → Edit) (height first size count : ℕ) → Prints [] (scroll_rendering scroll height first size count)
unfolding scroll_rendering
scroll_prints scroll height first size count = cond_both (is_whole height first size) _ _ (Prints []) (λ e. cond_both (count == 0) _ _ (λ actions. prints_in actions ≡ []) (λ z. refl) (λ z. refl)) (λ e. tt)

change_prints : (change : ChangeValue) (width height : ℕ) → Prints (run_in change) (rendering change width height)
unfolding text_rendering title_rendering pen_rendering
change_prints (Text text) width height = cond_both (holds_c1 text) _ _ (Prints (run_in (Text text))) (λ e. tt) (λ e. text_prints text)
change_prints (Title text) width height = cond_both (is_plain_text text) _ _ (Prints []) (λ e. refl) (λ e. tt)
change_prints (Attribute value) width height = value_prints value
change_prints (AllAttributes a) width height = cond_both (lacks_encoding a) _ _ (Prints []) (λ e. tt) (λ e. mapped (λ values. pen_actions values a.hyperlink) (λ values. sets_print values (link_action a.hyperlink ∷ []) refl) (pen_settings a))
change_prints (ClearScreen color) width height = clear_prints color _ refl
change_prints (ClearToEndOfLine color) width height = clear_prints color _ refl
change_prints (ClearToEndOfScreen color) width height = clear_prints color _ refl
change_prints (CursorPosition x y) width height = mapped (map moved) moves_print (position_moves width height x y)
change_prints (CursorVisibility visibility) width height = refl
change_prints (ScrollRegionUp first size count) width height = scroll_prints edit.ScrollUp height first size count
change_prints (ScrollRegionDown first size count) width height = scroll_prints edit.ScrollDown height first size count
change_prints (CursorColor color) width height = tt
change_prints (CursorShape shape) width height = tt
change_prints (LineAttribute size) width height = tt

-- ---- changes in turn

pub lists_print : (width height : ℕ) (changes : List ChangeValue) (actions : List StreamAction) → all_rendered changes width height ≡ Some actions → prints_in actions ≡ runs_in changes
lists_print width height [] actions e = let none : [] ≡ actions = cc in ap prints_in (sym none)
lists_print width height (change ∷ changes) actions e =
    let p = parts (rendering change width height) (all_rendered changes width height) actions e in
    let first : prints_in p.first ≡ run_in change = subst (Prints (run_in change)) p.found_is (change_prints change width height) in
    let rest = lists_print width height changes p.remaining p.rest_is in
    ap prints_in p.are ∙ flat_map-append printed p.first p.remaining ∙ (λ i. first i ++ rest i)
