-- An upper bound on the bytes that encode a change.
use Rattle.std.proofs.Common.{◌≡◌, ℕ, ◌+◌, ◌*◌, ◌^◌, ◌<◌, ◌≤◌, Bool, true, false, List, [], ◌∷◌, ◌++◌, length, map, refl, sym, ap, subst, ◌∙◌, arith, length-append}
use Rattle.std.proofs.lemmas.Bool.Decides.{nat_tests}
use Rattle.std.specs.Prelude.{◌==◌, ◌&&◌, ◌||◌, min, Option, None, Some, IfSome, option_map, option_and_then}
use Rattle.std.specs.List.{flat_map}
use Rattle.std.specs.Char.{is_ascii_control}
use Rattle.text_clusters.specs.Controls.{holds_c1}
use Rattle.cell_base.specs.declared.attributes.CursorVisibility.{CursorVisibility as Visibility}
use Rattle.cell_base.specs.declared.attributes.CursorVisibility.TheVariants.{Hidden, Visible}
use Rattle.cell_base.specs.declared.attributes.Position.{Position}
use Rattle.cell_base.specs.declared.color.ColorAttribute.{ColorAttribute}
use Rattle.cell_base.specs.declared.color.ColorSpec.{ColorSpec}
use Rattle.cell_base.specs.Attributes.{Attributes}
use Rattle.cell_base.specs.AttributeValue as one
use Rattle.cell_base.specs.AttributeValue.{AttributeValue}
use Rattle.cell_base.specs.Link.{Link}
use Rattle.screen_change.specs.ChangeValue.{ChangeValue, Attribute, AllAttributes, Text, ClearScreen, ClearToEndOfLine, ClearToEndOfScreen, CursorPosition, CursorColor, CursorShape, CursorVisibility, LineAttribute, ScrollRegionUp, ScrollRegionDown, Title, is_text}
use Rattle.csi_codec.specs.Actions as codec
use Rattle.csi_codec.specs.Sizes.{ActionsAreShort}
use Rattle.csi_codec.specs.Writable as codec_writable
use Rattle.csi_codec.specs.Slots.{IsCoordinate}
use Rattle.csi_codec.specs.Writable.{IsColour}
use Rattle.csi_codec.specs.declared.cursors.Cursor.{Cursor}
use Rattle.csi_codec.specs.declared.cursors.Cursor.TheVariants as cursor
use Rattle.csi_codec.specs.declared.edits.Edit.{Edit}
use Rattle.csi_codec.specs.declared.edits.Edit.TheVariants as edit
use Rattle.csi_codec.specs.declared.edits.EraseInDisplay.TheVariants as display
use Rattle.csi_codec.specs.declared.edits.EraseInLine.TheVariants as line
use Rattle.csi_codec.specs.declared.rendition.Sgr.{Sgr}
use Rattle.csi_codec.specs.declared.rendition.Sgr.TheVariants as sgr
use Rattle.escape_osc.specs.Sizes.{EndOfLinkTakesSeven, LinksTakeSeven, TextsTakeSix}
use Rattle.escape_stream.specs.StreamAction.{StreamAction, csi}
use Rattle.escape_stream.specs.StreamText.{action_text, is_string_terminator, closes_string, text_after, texts_after, stream_text}
use Rattle.screen_effects.specs.Strokes.{TextPart, Control, Plain, with_byte, text_parts}
use Rattle.terminal_table.specs.RunText.{IsPrinted}
use Rattle.terminal_render.specs.Carried.{IsColor, HaveColors, HasColor, IsChange}
use Rattle.terminal_render.specs.Links.{is_carried, is_plain_text}
use Rattle.terminal_render.specs.Pen.{colour_setting, rendition, link_action, attribute_action, unless_default, settings, set, pen_actions, lacks_encoding, pen_rendering, plain_pen, clear_rendering}
use Rattle.terminal_render.specs.Positions.{Way, At, Back, On, way_of, is_past, move_by, moves, position_moves}
use Rattle.terminal_render.specs.Rendering.{edited, moved, is_whole, scroll_rendering, visibility_mode, rendering}
use Rattle.terminal_render.specs.Sizes.{link_size, carried_size, RenderingsAreShort, TextsAreShort, RunsAreShort}
use Rattle.terminal_render.specs.Texts.{part_actions, text_rendering, title_rendering}
use Rattle.terminal_render.proofs.CharacterLemmas.{parts_after}
use Rattle.terminal_render.proofs.ValueLemmas.{IsSet, AreSet, default_set, settings_set, color_is, AreMoves, way_is, moves_are}

-- ---- the texts of actions, one by one

abbrev total : List StreamAction → ℕ
total [] = 0
total (a ∷ remaining) = length (action_text a) + total remaining

pub after_short : (closed : Bool) (a : StreamAction) → length (text_after closed a) ≤ length (action_text a)
after_short closed a = by_test (closed && is_string_terminator a) refl
  where
    by_test : (b : Bool) → (closed && is_string_terminator a) ≡ b → length (text_after closed a) ≤ length (action_text a)
    by_test true e = rw e (omega arith)
    by_test false e = rw e (omega arith)

all_short : (closed : Bool) (actions : List StreamAction) → length (texts_after closed actions) ≤ total actions
all_short closed [] = omega arith
all_short closed (a ∷ remaining) = omega (arith, length-append (text_after closed a) (texts_after (closes_string a) remaining), after_short closed a, all_short (closes_string a) remaining)

total_append : (xs ys : List StreamAction) → total (xs ++ ys) ≡ total xs + total ys
total_append [] ys = omega arith
total_append (x ∷ xs) ys = omega (arith, total_append xs ys)

-- ---- texts

part_short : (b : ℕ) (parts : List TextPart) → total (flat_map part_actions (with_byte b parts)) ≤ total (flat_map part_actions parts) + 2
part_short b [] = omega arith
part_short b (Plain text ∷ parts) = omega arith
part_short b (Control byte ∷ parts) = omega arith

control_short : (byte : ℕ) → total (part_actions (Control byte)) ≤ 2
control_short byte = by_test (byte == 13 || byte == 10) refl
  where
    by_test : (b : Bool) → (byte == 13 || byte == 10) ≡ b → total (part_actions (Control byte)) ≤ 2
    by_test true e = rw e (omega arith)
    by_test false e = rw e (omega arith)

parts_short : (text : List ℕ) → total (flat_map part_actions (text_parts text)) ≤ 2 * length text
parts_short [] = omega arith
parts_short (b ∷ text) = by_test (is_ascii_control b) refl (parts_short text)
  where
    by_test : (t : Bool) → is_ascii_control b ≡ t → total (flat_map part_actions (text_parts text)) ≤ 2 * length text → total (flat_map part_actions (text_parts (b ∷ text))) ≤ 2 * length (b ∷ text)
    by_test true e h = rw e (omega (arith, total_append (part_actions (Control b)) (flat_map part_actions (text_parts text)), control_short b))
    by_test false e h = rw e (omega (arith, part_short b (text_parts text)))

append_nothing : (xs : List ℕ) → xs ++ [] ≡ xs
append_nothing [] = refl
append_nothing (x ∷ xs) = ap (λ ys. x ∷ ys) (append_nothing xs)

run_short : (text : List ℕ) → IsPrinted text → total (flat_map part_actions (text_parts text)) ≤ length text + 1
run_short [] h = omega arith
run_short (b ∷ text) h =
    let e : text_parts (b ∷ text) ≡ Plain (b ∷ text) ∷ [] = ap text_parts (sym (append_nothing (b ∷ text))) ∙ parts_after b text [] h in
    rw e (omega arith)

of_text : (text : List ℕ) (most : ℕ) → total (flat_map part_actions (text_parts text)) ≤ most → IfSome (text_rendering text) (λ actions. total actions ≤ most)
unfolding text_rendering
of_text text most h = by_test (holds_c1 text) refl
  where
    by_test : (b : Bool) → holds_c1 text ≡ b → IfSome (text_rendering text) (λ actions. total actions ≤ most)
    by_test true e = rw e tt
    by_test false e = rw e h

found_short : (most : ℕ) (found : Option (List StreamAction)) (actions : List StreamAction) → found ≡ Some actions → IfSome found (λ xs. total xs ≤ most) → length (stream_text actions) ≤ most
found_short most found actions e h =
    let k : total actions ≤ most = subst (λ (o : Option (List StreamAction)). IfSome o (λ xs. total xs ≤ most)) e h in
    omega (arith, all_short false actions)

pub texts_are_short : TextsAreShort
texts_are_short text width height actions e = found_short (2 * length text) (text_rendering text) actions e (of_text text (2 * length text) (parts_short text))

pub runs_are_short : RunsAreShort
runs_are_short text width height actions h e = found_short (length text + 1) (text_rendering text) actions e (of_text text (length text + 1) (run_short text h))

-- ---- other changes

module _ (short : ActionsAreShort) (titles : (text : List ℕ) → TextsTakeSix text) (links : LinksTakeSeven) (no_link : EndOfLinkTakesSeven) where
  abbrev Within : ℕ → Option (List StreamAction) → Type 0
  Within most found = IfSome found (λ actions. total actions ≤ most)

  one_short : (a : codec.Action) → codec_writable.IsWritable a → total (csi a ∷ []) ≤ 24
  one_short a w = omega (arith, short a w)

  link_short : (link : Option Link) → total (link_action link ∷ []) ≤ link_size link + 7
  link_short None = omega (arith, no_link)
  link_short (Some link) = omega (arith, links link)

  set_short : (value : Option Sgr) → IsSet value → total (set value) ≤ 24
  set_short None h = omega arith
  set_short (Some value) h = one_short (codec.sgr value) h

  sets_short : (values : List (Option Sgr)) → AreSet values → total (flat_map set values) ≤ 24 * length values
  sets_short [] h = omega arith
  sets_short (value ∷ values) h = omega (arith, total_append (set value) (flat_map set values), set_short value h.0, sets_short values h.1)

  pen_short : (a : Attributes) (foreground background underline : ColorSpec) → IsColour foreground → IsColour background → IsColour underline → total (pen_actions (settings a foreground background underline) a.hyperlink) ≤ link_size a.hyperlink + 320
  pen_short a foreground background underline f r l =
      let twelve : length (settings a foreground background underline) ≡ 12 = refl in
      omega (arith, one_short (codec.sgr sgr.Reset) tt, total_append (flat_map set (settings a foreground background underline)) (link_action a.hyperlink ∷ []), sets_short (settings a foreground background underline) (settings_set a foreground background underline f r l), link_short a.hyperlink, twelve)

  pen_is : (a : Attributes) → HaveColors a → Within (link_size a.hyperlink + 320) (pen_rendering a)
  unfolding pen_rendering
  pen_is a h = by_test (lacks_encoding a) refl
    where
      by_underline : (foreground background : ColorSpec) → IsColour foreground → IsColour background → (found : Option ColorSpec) → IfSome found IsColour
          → Within (link_size a.hyperlink + 320) (option_map (λ values. pen_actions values a.hyperlink) (option_map (λ underline. settings a foreground background underline) found))
      by_underline foreground background f r None l = tt
      by_underline foreground background f r (Some underline) l = pen_short a foreground background underline f r l

      by_background : (foreground : ColorSpec) → IsColour foreground → (found : Option ColorSpec) → IfSome found IsColour
          → Within (link_size a.hyperlink + 320) (option_map (λ values. pen_actions values a.hyperlink) (option_and_then (λ background. option_map (λ underline. settings a foreground background underline) (colour_setting a.underline_color)) found))
      by_background foreground f None r = tt
      by_background foreground f (Some background) r = by_underline foreground background f r (colour_setting a.underline_color) (color_is a.underline_color h.2)

      by_foreground : (found : Option ColorSpec) → IfSome found IsColour
          → Within (link_size a.hyperlink + 320) (option_map (λ values. pen_actions values a.hyperlink) (option_and_then (λ foreground. option_and_then (λ background. option_map (λ underline. settings a foreground background underline) (colour_setting a.underline_color)) (colour_setting a.background)) found))
      by_foreground None f = tt
      by_foreground (Some foreground) f = by_background foreground f (colour_setting a.background) (color_is a.background h.1)

      by_test : (b : Bool) → lacks_encoding a ≡ b → Within (link_size a.hyperlink + 320) (pen_rendering a)
      by_test true e = rw e tt
      by_test false e = rw e (by_foreground (colour_setting a.foreground) (color_is a.foreground h.0))

  title_is : (text : List ℕ) → Within (length text + 320) (title_rendering text)
  unfolding title_rendering
  title_is text = by_test (is_plain_text text) refl
    where
      by_test : (b : Bool) → is_plain_text text ≡ b → Within (length text + 320) (title_rendering text)
      by_test true e = let six = (titles text).title in rw e (omega arith)
      by_test false e = rw e tt

  abbrev attribute_rendering : AttributeValue → Option (List StreamAction)
  attribute_rendering change = option_map (λ action. action ∷ []) (attribute_action change)

  link_is : (link : Option Link) → Within (link_size link + 320) (attribute_rendering (one.Hyperlink link))
  unfolding attribute_action
  link_is link = by_test (is_carried link) refl
    where
      by_test : (b : Bool) → is_carried link ≡ b → Within (link_size link + 320) (attribute_rendering (one.Hyperlink link))
      by_test true e = rw e (omega (arith, link_short link))
      by_test false e = rw e tt

  wider : (value : Sgr) → codec_writable.IsWritableSgr value → total (rendition value ∷ []) ≤ 0 + 320
  wider value w = omega (arith, one_short (codec.sgr value) w)

  colored : (setting : ColorSpec → Sgr) (found : Option ColorSpec) → ((c : ColorSpec) → IsColour c → codec_writable.IsWritableSgr (setting c)) → IfSome found IsColour → Within (0 + 320) (option_map (λ action. action ∷ []) (option_map rendition (option_map setting found)))
  colored setting None w h = tt
  colored setting (Some c) w h = wider (setting c) (w c h)

  attribute_is : (change : AttributeValue) → HasColor change → Within (carried_size (Attribute change) + 320) (attribute_rendering change)
  unfolding attribute_action
  attribute_is (one.Intensity value) h = wider (sgr.Intensity value) tt
  attribute_is (one.Underline value) h = wider (sgr.Underline value) tt
  attribute_is (one.Italic value) h = wider (sgr.Italic value) tt
  attribute_is (one.Blink value) h = wider (sgr.Blink value) tt
  attribute_is (one.Reverse value) h = wider (sgr.Inverse value) tt
  attribute_is (one.StrikeThrough value) h = wider (sgr.StrikeThrough value) tt
  attribute_is (one.Invisible value) h = wider (sgr.Invisible value) tt
  attribute_is (one.Foreground color) h = colored sgr.Foreground (colour_setting color) (λ c k. k) (color_is color h)
  attribute_is (one.Background color) h = colored sgr.Background (colour_setting color) (λ c k. k) (color_is color h)
  attribute_is (one.Hyperlink link) h = link_is link

  clear_is : (color : ColorAttribute) (erasure : List StreamAction) → IsColor color → total erasure ≤ 48 → Within (0 + 320) (clear_rendering color erasure)
  unfolding clear_rendering
  clear_is color erasure h k = by_color (colour_setting color) (color_is color h)
    where
      by_color : (found : Option ColorSpec) → IfSome found IsColour → Within (0 + 320) (option_map (λ c. plain_pen c ++ erasure) found)
      by_color None h = tt
      by_color (Some c) h =
          omega (arith, one_short (codec.sgr sgr.Reset) tt, link_short None, total_append (set (unless_default sgr.Background c)) erasure, set_short (unless_default sgr.Background c) (default_set sgr.Background c (λ w. w) h))

  edit_short : (value : Edit) → codec_writable.IsWritableEdit value → total (edited value ∷ []) ≤ 24
  edit_short value w = one_short (codec.edit value) w

  moves_short : (cursors : List Cursor) → AreMoves cursors → total (map moved cursors) ≤ 24 * length cursors
  moves_short [] h = omega arith
  moves_short (move ∷ remaining) h = omega (arith, one_short (codec.cursor move) h.0, moves_short remaining h.1)

  move_bound : (move : ℕ → Cursor) (count : ℕ) → length (move_by move count) ≤ 1
  move_bound move count = by_test (count == 0) refl
    where
      by_test : (b : Bool) → (count == 0) ≡ b → length (move_by move count) ≤ 1
      by_test true e = rw e (omega arith)
      by_test false e = rw e (omega arith)

  moves_bound : (column row : Way) → IfSome (moves column row) (λ cursors. length cursors ≤ 2)
  unfolding moves
  moves_bound (At column) (At row) = omega arith
  moves_bound (At column) (Back rows) = omega (arith, length-append (move_by cursor.Up rows) (cursor.CharacterAbsolute column ∷ []), move_bound cursor.Up rows)
  moves_bound (At column) (On rows) = omega (arith, length-append (move_by cursor.Down rows) (cursor.CharacterAbsolute column ∷ []), move_bound cursor.Down rows)
  moves_bound (On columns) (At row) = omega (arith, length-append (move_by cursor.Right columns) (cursor.LinePositionAbsolute row ∷ []), move_bound cursor.Right columns)
  moves_bound (On columns) (Back rows) = omega (arith, length-append (move_by cursor.Right columns) (move_by cursor.Up rows), move_bound cursor.Right columns, move_bound cursor.Up rows)
  moves_bound (On columns) (On rows) = by_test (columns == 0 && rows == 0) refl
    where
      by_test : (b : Bool) → (columns == 0 && rows == 0) ≡ b → IfSome (moves (On columns) (On rows)) (λ cursors. length cursors ≤ 2)
      by_test true e = rw e tt
      by_test false e = rw e (omega (arith, length-append (move_by cursor.Right columns) (move_by cursor.Down rows), move_bound cursor.Right columns, move_bound cursor.Down rows))
  moves_bound (Back columns) row = tt

  found_moves : (found : Option (List Cursor)) → IfSome found AreMoves → IfSome found (λ cursors. length cursors ≤ 2) → Within (0 + 320) (option_map (map moved) found)
  found_moves None h k = tt
  found_moves (Some cursors) h k = omega (arith, moves_short cursors h)

  position_is : (width height : ℕ) (x y : Position) → 0 < width → width < 2 ^ 32 → 0 < height → height < 2 ^ 32 → Within (0 + 320) (option_map (map moved) (position_moves width height x y))
  unfolding position_moves
  position_is width height x y a b c d = by_test (is_past width x) refl
    where
      by_test : (t : Bool) → is_past width x ≡ t → Within (0 + 320) (option_map (map moved) (position_moves width height x y))
      by_test true e = rw e tt
      by_test false e = rw e (found_moves (moves (way_of width x) (way_of height y)) (moves_are (way_of width x) (way_of height y) (way_is width x a b) (way_is height y c d)) (moves_bound (way_of width x) (way_of height y)))

  scroll_is : (scroll : ℕ → Edit) (height first size count : ℕ) → ((n : ℕ) → IsCoordinate n → codec_writable.IsWritableEdit (scroll n)) → 0 < height → height < 2 ^ 32 → Within (0 + 320) (scroll_rendering scroll height first size count)
  unfolding scroll_rendering
  scroll_is scroll height first size count w h k = by_test (is_whole height first size) refl
    where
      by_count : is_whole height first size ≡ true → (b : Bool) → (count == 0) ≡ b → Within (0 + 320) (scroll_rendering scroll height first size count)
      by_count e true z = rw (e, z) (omega arith)
      by_count e false z = let some : 0 < count = grind (arith, nat_tests) in rw (e, z) (omega (arith, edit_short (scroll (min count height)) (w (min count height) (omega arith, omega arith))))

      by_test : (b : Bool) → is_whole height first size ≡ b → Within (0 + 320) (scroll_rendering scroll height first size count)
      by_test true e = by_count e (count == 0) refl
      by_test false e = rw e tt

  visibility_is : (v : Visibility) → total (csi (codec.mode (visibility_mode v)) ∷ []) ≤ 0 + 320
  visibility_is Visible = omega (arith, one_short (codec.mode (visibility_mode Visible)) tt)
  visibility_is Hidden = omega (arith, one_short (codec.mode (visibility_mode Hidden)) tt)

  all_within : (change : ChangeValue) (width height : ℕ) → IsChange change → 0 < width → width < 2 ^ 32 → 0 < height → height < 2 ^ 32 → is_text change ≡ false → Within (carried_size change + 320) (rendering change width height)
  all_within (Text text) width height h a b c d t = cc
  all_within (Title text) width height h a b c d t = title_is text
  all_within (Attribute change) width height h a b c d t = attribute_is change h
  all_within (AllAttributes pen) width height h a b c d t = pen_is pen h
  all_within (ClearScreen color) width height h a b c d t =
      clear_is color (edited (edit.EraseInDisplay display.EraseDisplay) ∷ moved (cursor.Position 1 1) ∷ []) h (omega (arith, edit_short (edit.EraseInDisplay display.EraseDisplay) tt, one_short (codec.cursor (cursor.Position 1 1)) ((omega arith, omega arith), (omega arith, omega arith))))
  all_within (ClearToEndOfLine color) width height h a b c d t = clear_is color (edited (edit.EraseInLine line.EraseToEndOfLine) ∷ []) h (omega (arith, edit_short (edit.EraseInLine line.EraseToEndOfLine) tt))
  all_within (ClearToEndOfScreen color) width height h a b c d t = clear_is color (edited (edit.EraseInDisplay display.EraseToEndOfDisplay) ∷ []) h (omega (arith, edit_short (edit.EraseInDisplay display.EraseToEndOfDisplay) tt))
  all_within (CursorPosition x y) width height h a b c d t = position_is width height x y a b c d
  all_within (CursorVisibility v) width height h a b c d t = visibility_is v
  all_within (ScrollRegionUp first size count) width height h a b c d t = scroll_is edit.ScrollUp height first size count (λ n w. w) c d
  all_within (ScrollRegionDown first size count) width height h a b c d t = scroll_is edit.ScrollDown height first size count (λ n w. w) c d
  all_within (CursorColor color) width height h a b c d t = tt
  all_within (CursorShape shape) width height h a b c d t = tt
  all_within (LineAttribute size) width height h a b c d t = tt

  pub renderings_are_short : RenderingsAreShort
  renderings_are_short change width height actions h size t stands = found_short (carried_size change + 320) (rendering change width height) actions stands (all_within change width height h size.columns.0 size.columns.1 size.rows.0 size.rows.1 t)
