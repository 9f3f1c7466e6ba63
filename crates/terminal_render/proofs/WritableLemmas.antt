-- The rendering of a change is a writable list of actions.
use Rattle.std.proofs.Common.{◌≡◌, ℕ, ◌^◌, ◌<◌, inl, Bool, true, false, List, [], ◌∷◌, ◌++◌, map, refl, subst, ◌∙◌, arith}
use Rattle.std.specs.Prelude.{⊤, ◌==◌, ◌||◌, not, min, Option, None, Some, IfSome, option_map, option_and_then}
use Rattle.std.specs.List.{flat_map, list_all, list_any}
use Rattle.std.specs.Str.{IsUtf8}
use Rattle.std.specs.Char.{is_ascii_control}
use Rattle.std.proofs.lemmas.Bool.{and_parts, or_parts, or_from, not-true}
use Rattle.std.proofs.lemmas.Bool.Decides.{nat_tests}
use Rattle.std.proofs.lemmas.List.Elements.{All-cons, All-nil}
use Rattle.std.proofs.lemmas.List.Folds.{list_any-append}
use Rattle.text_clusters.specs.Controls.{holds_c1}
use lib.Utf8.{encode}
use Rattle.cell_base.specs.declared.attributes.CursorVisibility.{CursorVisibility as Visibility}
use Rattle.cell_base.specs.declared.attributes.CursorVisibility.TheVariants.{Hidden, Visible}
use Rattle.cell_base.specs.declared.attributes.Position.{Position}
use Rattle.cell_base.specs.declared.color.ColorAttribute.{ColorAttribute}
use Rattle.cell_base.specs.declared.color.ColorSpec.{ColorSpec}
use Rattle.cell_base.specs.Attributes.{Attributes}
use Rattle.cell_base.specs.AttributeValue as one
use Rattle.cell_base.specs.AttributeValue.{AttributeValue}
use Rattle.cell_base.specs.Link.{Link, Param}
use Rattle.cell_base.specs.LinkText.{param_text, params_text, link_text, text_of_link, link_reading, texts_reading}
use Rattle.cell_base.specs.Row.{space}
use Rattle.screen_change.specs.ChangeValue.{ChangeValue, Attribute, AllAttributes, Text, ClearScreen, ClearToEndOfLine, ClearToEndOfScreen, CursorPosition, CursorColor, CursorShape, CursorVisibility, LineAttribute, ScrollRegionUp, ScrollRegionDown, Title}
use Rattle.csi_codec.specs.Actions as codec
use Rattle.csi_codec.specs.Actions.{spelling_of}
use Rattle.csi_codec.specs.Prefixes.{whole_prefix}
use Rattle.csi_codec.specs.Writable as codec_writable
use Rattle.csi_codec.specs.Slots.{IsCoordinate}
use Rattle.csi_codec.specs.Writable.{IsColour, IsWritableSgr, WritableActionsReadBack, WritableTextsAreSequences}
use Rattle.csi_codec.specs.declared.cursors.Cursor.{Cursor}
use Rattle.csi_codec.specs.declared.cursors.Cursor.TheVariants as cursor
use Rattle.csi_codec.specs.declared.edits.Edit.{Edit}
use Rattle.csi_codec.specs.declared.edits.Edit.TheVariants as edit
use Rattle.csi_codec.specs.declared.rendition.Sgr.{Sgr}
use Rattle.csi_codec.specs.declared.rendition.Sgr.TheVariants as sgr
use Rattle.escape_framing.specs.Segment.{IsPrintable}
use Rattle.escape_osc.proofs.C1Lemmas.{holds_c1-cons, holds_c1-joint}
use Rattle.escape_osc.specs.Command.{set_hyperlink, set_window_title}
use Rattle.escape_osc.specs.Writable as osc
use Rattle.escape_osc.specs.Writable.{LacksControls}
use Rattle.escape_stream.specs.StreamAction.{StreamAction, print, print_string, control, enter, data_byte, exit, command, csi, esc}
use Rattle.escape_stream.specs.StreamWritable.{IsReadBack, IsPrintableText, IsWritableAction, IsWritable}
use Rattle.screen_effects.specs.Strokes.{TextPart, Control, Plain, text_parts}
use Rattle.terminal_render.specs.Carried.{IsColor, HaveColors, HasColor, IsChange, RenderingsAreWritable}
use Rattle.terminal_render.specs.Links.{is_plain_text, is_plain_param, has_plain_texts, reads_back, is_carried}
use Rattle.terminal_render.specs.Pen.{colour_setting, rendition, link_action, attribute_action, unless_default, settings, set, pen_actions, is_output, lacks_encoding, pen_rendering, plain_pen, clear_rendering}
use Rattle.terminal_render.specs.Positions.{way_of, is_past, moves, position_moves}
use Rattle.terminal_render.specs.Rendering.{edited, moved, is_whole, scroll_rendering, visibility_mode, rendering}
use Rattle.terminal_render.specs.Texts.{run_actions, part_actions, text_rendering, title_rendering}
use Rattle.terminal_render.proofs.CharacterLemmas.{IsGood, AreGood, parts_good, printable_text}
use Rattle.terminal_render.proofs.LinkLemmas.{reads_back_is}
use Rattle.terminal_render.proofs.ValueLemmas.{IsSet, AreSet, default_set, settings_set, color_is, AreMoves, way_is, moves_are}

-- ---- lists without device control strings

-- each action is writable by itself
abbrev pub AreAlone : List StreamAction → Type 0
AreAlone [] = ⊤
AreAlone (a ∷ remaining) = IsWritableAction a × AreAlone remaining

pub writable_alone : (actions : List StreamAction) → AreAlone actions → IsWritable actions
writable_alone [] h = tt
writable_alone (print c ∷ remaining) h = (h.0, writable_alone remaining h.1)
writable_alone (print_string text ∷ remaining) h = (h.0, writable_alone remaining h.1)
writable_alone (control n ∷ remaining) h = (h.0, writable_alone remaining h.1)
writable_alone (enter header byte ∷ remaining) h = absurd h.0
writable_alone (data_byte byte ∷ remaining) h = absurd h.0
writable_alone (exit ∷ remaining) h = absurd h.0
writable_alone (command c ∷ remaining) h = (h.0, writable_alone remaining h.1)
writable_alone (csi a ∷ remaining) h = (h.0, writable_alone remaining h.1)
writable_alone (esc e ∷ remaining) h = (h.0, writable_alone remaining h.1)

alone_append : (xs ys : List StreamAction) → AreAlone xs → AreAlone ys → AreAlone (xs ++ ys)
alone_append [] ys h k = k
alone_append (x ∷ xs) ys h k = (h.0, alone_append xs ys h.1 k)

-- ---- texts

null_alone : IsWritableAction (control 0)
null_alone = inl (omega arith, λ e. omega arith)

run_alone : (text : List ℕ) → IsPrintableText text → AreAlone (run_actions text)
run_alone text h = (h, (null_alone, tt))

space_printable : IsPrintableText space
unfolding encode
space_printable = printable_text space (record { cs = 32 ∷ []; are = refl; spell = refl; some = λ e. cc; printable = All-cons IsPrintable 32 [] (inl (omega arith, omega arith)) (All-nil IsPrintable) })

control_alone : (byte : ℕ) → (byte == 13 || byte == 10) ≡ true → IsWritableAction (control byte)
control_alone byte e = inl (grind (arith, nat_tests), λ k. grind (arith, nat_tests))

part_alone : (part : TextPart) → IsGood part → AreAlone (part_actions part)
part_alone (Plain text) h = run_alone text (printable_text text h)
part_alone (Control byte) h = by_test (byte == 13 || byte == 10) refl
  where
    by_test : (b : Bool) → (byte == 13 || byte == 10) ≡ b → AreAlone (part_actions (Control byte))
    by_test true e = rw e (control_alone byte e, tt)
    by_test false e = rw e (run_alone space space_printable)

parts_alone : (parts : List TextPart) → AreGood parts → AreAlone (flat_map part_actions parts)
parts_alone [] h = tt
parts_alone (part ∷ parts) h = alone_append (part_actions part) (flat_map part_actions parts) (part_alone part h.0) (parts_alone parts h.1)

abbrev Alone : Option (List StreamAction) → Type 0
Alone found = IfSome found AreAlone

text_is : (text : List ℕ) → IsUtf8 text → Alone (text_rendering text)
unfolding text_rendering
text_is text u = by_test (holds_c1 text) refl
  where
    by_test : (b : Bool) → holds_c1 text ≡ b → Alone (text_rendering text)
    by_test true e = rw e tt
    by_test false e = rw e (parts_alone (text_parts text) (parts_good text u e))

plain_text : (text : List ℕ) → is_plain_text text ≡ true → LacksControls text
plain_text text e = let both = and_parts (not (list_any is_ascii_control text)) (not (holds_c1 text)) e in record { no_c0 = not-true (list_any is_ascii_control text) both.0; no_c1 = not-true (holds_c1 text) both.1 }

title_writable : (text : List ℕ) → IsUtf8 text → LacksControls text → osc.IsWritable (set_window_title text)
title_writable text u h = record {
  spelling = u;
  clean = record {
    no_c0 = h.no_c0;
    no_c1 = holds_c1-cons 50 (59 ∷ text) (omega arith) ∙ holds_c1-cons 59 text (omega arith) ∙ h.no_c1;
  };
}

title_is : (text : List ℕ) → IsUtf8 text → Alone (title_rendering text)
unfolding title_rendering
title_is text u = by_test (is_plain_text text) refl
  where
    by_test : (b : Bool) → is_plain_text text ≡ b → Alone (title_rendering text)
    by_test true e = rw e (title_writable text u (plain_text text e), tt)
    by_test false e = rw e tt

-- ---- links

-- two plain texts, with a byte below 80h between them that is no control, are a plain text
joint_plain : (xs : List ℕ) (c : ℕ) (ys : List ℕ) → c < 128 → is_ascii_control c ≡ false → LacksControls xs → LacksControls ys → LacksControls (xs ++ c ∷ ys)
joint_plain xs c ys l e h k = record {
  no_c0 = list_any-append is_ascii_control xs (c ∷ ys) ∙ or_from (list_any is_ascii_control xs) (list_any is_ascii_control (c ∷ ys)) h.no_c0 (or_from (is_ascii_control c) (list_any is_ascii_control ys) e k.no_c0);
  no_c1 = holds_c1-joint xs c ys l ∙ or_from (holds_c1 xs) (holds_c1 ys) h.no_c1 k.no_c1;
}

nothing_plain : LacksControls []
unfolding holds_c1
nothing_plain = record { no_c0 = refl; no_c1 = refl }

joined_plain : (p : Param) (ps : List Param) → list_all is_plain_param (p ∷ ps) ≡ true → LacksControls (params_text (p ∷ ps))
joined_plain p [] e = param_plain p (and_parts (is_plain_param p) true e).0
  where
    param_plain : (p : Param) → is_plain_param p ≡ true → LacksControls (param_text p)
    param_plain p e = let both = and_parts (is_plain_text p.0) (is_plain_text p.1) e in joint_plain p.0 61 p.1 (omega arith) refl (plain_text p.0 both.0) (plain_text p.1 both.1)
joined_plain p (q ∷ ps) e =
    let all = and_parts (is_plain_param p) (list_all is_plain_param (q ∷ ps)) e in
    let both = and_parts (is_plain_text p.0) (is_plain_text p.1) all.0 in
    joint_plain (param_text p) 58 (params_text (q ∷ ps)) (omega arith) refl (joint_plain p.0 61 p.1 (omega arith) refl (plain_text p.0 both.0) (plain_text p.1 both.1)) (joined_plain q ps all.1)

params_plain : (ps : List Param) → list_all is_plain_param ps ≡ true → LacksControls (params_text ps)
params_plain [] e = nothing_plain
params_plain (p ∷ ps) e = joined_plain p ps e

link_plain : (link : Link) → has_plain_texts link ≡ true → LacksControls (text_of_link (Some link))
unfolding link_text
link_plain link e =
    let both = and_parts (list_all is_plain_param link.params) (is_plain_text link.uri) e in
    let texts = joint_plain (params_text link.params) 59 link.uri (omega arith) refl (params_plain link.params both.0) (plain_text link.uri both.1) in
    record { no_c0 = texts.no_c0; no_c1 = holds_c1-cons 56 _ (omega arith) ∙ holds_c1-cons 59 _ (omega arith) ∙ texts.no_c1 }

pub link_writable : (link : Option Link) → is_carried link ≡ true → osc.IsWritable (set_hyperlink link)
unfolding is_carried link_reading texts_reading holds_c1
link_writable None e = record { spelling = refl; clean = record { no_c0 = refl; no_c1 = refl } }
link_writable (Some link) e =
    let both = and_parts (reads_back link) (has_plain_texts link) e in
    record { spelling = reads_back_is link both.0; clean = link_plain link both.1 }

no_link : is_carried None ≡ true
unfolding is_carried
no_link = refl

module _ (back : WritableActionsReadBack) (prefixes : WritableTextsAreSequences) where
  -- ---- control sequences

  sequence : (a : codec.Action) → codec_writable.IsWritable a → IsReadBack a
  sequence a w = record { prefix = whole_prefix (spelling_of a); stands = prefixes a w; whole = refl; action = back false a w }

  -- ---- attributes

  set_alone : (value : Option Sgr) → IsSet value → AreAlone (set value)
  set_alone None h = tt
  set_alone (Some value) h = (sequence (codec.sgr value) h, tt)

  sets_alone : (values : List (Option Sgr)) → AreSet values → AreAlone (flat_map set values)
  sets_alone [] h = tt
  sets_alone (value ∷ values) h = alone_append (set value) (flat_map set values) (set_alone value h.0) (sets_alone values h.1)

  link_alone : (link : Option Link) → is_carried link ≡ true → AreAlone (link_action link ∷ [])
  link_alone link e = (link_writable link e, tt)

  pen_alone : (a : Attributes) (foreground background underline : ColorSpec) → lacks_encoding a ≡ false → IsColour foreground → IsColour background → IsColour underline → AreAlone (pen_actions (settings a foreground background underline) a.hyperlink)
  pen_alone a foreground background underline e f r l =
      let carried : is_carried a.hyperlink ≡ true = is_on (is_carried a.hyperlink) (or_parts (a.wrapped || not (is_output a.semantic_type)) (not (is_carried a.hyperlink)) e).1 in
      (sequence (codec.sgr sgr.Reset) tt, alone_append (flat_map set (settings a foreground background underline)) (link_action a.hyperlink ∷ []) (sets_alone (settings a foreground background underline) (settings_set a foreground background underline f r l)) (link_alone a.hyperlink carried))
    where
      is_on : (b : Bool) → not b ≡ false → b ≡ true
      is_on true e = refl
      is_on false e = cc

  pen_is : (a : Attributes) → HaveColors a → Alone (pen_rendering a)
  unfolding pen_rendering
  pen_is a h = by_test (lacks_encoding a) refl
    where
      by_underline : lacks_encoding a ≡ false → (foreground background : ColorSpec) → IsColour foreground → IsColour background → (found : Option ColorSpec) → IfSome found IsColour
          → Alone (option_map (λ values. pen_actions values a.hyperlink) (option_map (λ underline. settings a foreground background underline) found))
      by_underline e foreground background f r None l = tt
      by_underline e foreground background f r (Some underline) l = pen_alone a foreground background underline e f r l

      by_background : lacks_encoding a ≡ false → (foreground : ColorSpec) → IsColour foreground → (found : Option ColorSpec) → IfSome found IsColour
          → Alone (option_map (λ values. pen_actions values a.hyperlink) (option_and_then (λ background. option_map (λ underline. settings a foreground background underline) (colour_setting a.underline_color)) found))
      by_background e foreground f None r = tt
      by_background e foreground f (Some background) r = by_underline e foreground background f r (colour_setting a.underline_color) (color_is a.underline_color h.2)

      by_foreground : lacks_encoding a ≡ false → (found : Option ColorSpec) → IfSome found IsColour
          → Alone (option_map (λ values. pen_actions values a.hyperlink) (option_and_then (λ foreground. option_and_then (λ background. option_map (λ underline. settings a foreground background underline) (colour_setting a.underline_color)) (colour_setting a.background)) found))
      by_foreground e None f = tt
      by_foreground e (Some foreground) f = by_background e foreground f (colour_setting a.background) (color_is a.background h.1)

      by_test : (b : Bool) → lacks_encoding a ≡ b → Alone (pen_rendering a)
      by_test true e = rw e tt
      by_test false e = rw e (by_foreground e (colour_setting a.foreground) (color_is a.foreground h.0))

  abbrev attribute_rendering : AttributeValue → Option (List StreamAction)
  attribute_rendering change = option_map (λ action. action ∷ []) (attribute_action change)

  link_is : (link : Option Link) → Alone (attribute_rendering (one.Hyperlink link))
  unfolding attribute_action
  link_is link = by_test (is_carried link) refl
    where
      by_test : (b : Bool) → is_carried link ≡ b → Alone (attribute_rendering (one.Hyperlink link))
      by_test true e = rw e (link_alone link e)
      by_test false e = rw e tt

  colored : (setting : ColorSpec → Sgr) (found : Option ColorSpec) → ((c : ColorSpec) → IsColour c → IsWritableSgr (setting c)) → IfSome found IsColour → Alone (option_map (λ action. action ∷ []) (option_map rendition (option_map setting found)))
  colored setting None w h = tt
  colored setting (Some c) w h = (sequence (codec.sgr (setting c)) (w c h), tt)

  attribute_is : (change : AttributeValue) → HasColor change → Alone (attribute_rendering change)
  unfolding attribute_action
  attribute_is (one.Intensity value) h = (sequence (codec.sgr (sgr.Intensity value)) tt, tt)
  attribute_is (one.Underline value) h = (sequence (codec.sgr (sgr.Underline value)) tt, tt)
  attribute_is (one.Italic value) h = (sequence (codec.sgr (sgr.Italic value)) tt, tt)
  attribute_is (one.Blink value) h = (sequence (codec.sgr (sgr.Blink value)) tt, tt)
  attribute_is (one.Reverse value) h = (sequence (codec.sgr (sgr.Inverse value)) tt, tt)
  attribute_is (one.StrikeThrough value) h = (sequence (codec.sgr (sgr.StrikeThrough value)) tt, tt)
  attribute_is (one.Invisible value) h = (sequence (codec.sgr (sgr.Invisible value)) tt, tt)
  attribute_is (one.Foreground color) h = colored sgr.Foreground (colour_setting color) (λ c k. k) (color_is color h)
  attribute_is (one.Background color) h = colored sgr.Background (colour_setting color) (λ c k. k) (color_is color h)
  attribute_is (one.Hyperlink link) h = link_is link

  -- ---- clears

  clear_is : (color : ColorAttribute) (erasure : List StreamAction) → IsColor color → AreAlone erasure → Alone (clear_rendering color erasure)
  unfolding clear_rendering
  clear_is color erasure h k = by_color (colour_setting color) (color_is color h)
    where
      by_color : (found : Option ColorSpec) → IfSome found IsColour → Alone (option_map (λ c. plain_pen c ++ erasure) found)
      by_color None h = tt
      by_color (Some c) h = (sequence (codec.sgr sgr.Reset) tt, (link_writable None no_link, alone_append (set (unless_default sgr.Background c)) erasure (set_alone (unless_default sgr.Background c) (default_set sgr.Background c (λ w. w) h)) k))

  edit_alone : (value : Edit) → codec_writable.IsWritableEdit value → AreAlone (edited value ∷ [])
  edit_alone value h = (sequence (codec.edit value) h, tt)

  -- ---- positions

  moves_alone : (cursors : List Cursor) → AreMoves cursors → AreAlone (map moved cursors)
  moves_alone [] h = tt
  moves_alone (move ∷ remaining) h = (sequence (codec.cursor move) h.0, moves_alone remaining h.1)

  found_moves : (found : Option (List Cursor)) → IfSome found AreMoves → Alone (option_map (map moved) found)
  found_moves None h = tt
  found_moves (Some cursors) h = moves_alone cursors h

  position_is : (width height : ℕ) (x y : Position) → 0 < width → width < 2 ^ 32 → 0 < height → height < 2 ^ 32 → Alone (option_map (map moved) (position_moves width height x y))
  unfolding position_moves
  position_is width height x y a b c d = by_test (is_past width x) refl
    where
      by_test : (t : Bool) → is_past width x ≡ t → Alone (option_map (map moved) (position_moves width height x y))
      by_test true e = rw e tt
      by_test false e = rw e (found_moves (moves (way_of width x) (way_of height y)) (moves_are (way_of width x) (way_of height y) (way_is width x a b) (way_is height y c d)))

  -- ---- scrolls

  scroll_is : (scroll : ℕ → Edit) (height first size count : ℕ) → ((n : ℕ) → IsCoordinate n → codec_writable.IsWritableEdit (scroll n)) → 0 < height → height < 2 ^ 32 → Alone (scroll_rendering scroll height first size count)
  unfolding scroll_rendering
  scroll_is scroll height first size count w h k = by_test (is_whole height first size) refl
    where
      by_count : is_whole height first size ≡ true → (b : Bool) → (count == 0) ≡ b → Alone (scroll_rendering scroll height first size count)
      by_count e true z = rw (e, z) tt
      by_count e false z = let some : 0 < count = grind (arith, nat_tests) in rw (e, z) (edit_alone (scroll (min count height)) (w (min count height) (omega arith, omega arith)))

      by_test : (b : Bool) → is_whole height first size ≡ b → Alone (scroll_rendering scroll height first size count)
      by_test true e = by_count e (count == 0) refl
      by_test false e = rw e tt

  -- ---- all changes

  visibility_is : (v : Visibility) → AreAlone (csi (codec.mode (visibility_mode v)) ∷ [])
  visibility_is Visible = (sequence (codec.mode (visibility_mode Visible)) tt, tt)
  visibility_is Hidden = (sequence (codec.mode (visibility_mode Hidden)) tt, tt)

  all_alone : (change : ChangeValue) (width height : ℕ) → IsChange change → 0 < width → width < 2 ^ 32 → 0 < height → height < 2 ^ 32 → Alone (rendering change width height)
  all_alone (Text text) width height h a b c d = text_is text h
  all_alone (Title text) width height h a b c d = title_is text h
  all_alone (Attribute change) width height h a b c d = attribute_is change h
  all_alone (AllAttributes pen) width height h a b c d = pen_is pen h
  all_alone (ClearScreen color) width height h a b c d =
      clear_is color _ h (sequence _ tt, (sequence (codec.cursor (cursor.Position 1 1)) ((omega arith, omega arith), (omega arith, omega arith)), tt))
  all_alone (ClearToEndOfLine color) width height h a b c d = clear_is color _ h (sequence _ tt, tt)
  all_alone (ClearToEndOfScreen color) width height h a b c d = clear_is color _ h (sequence _ tt, tt)
  all_alone (CursorPosition x y) width height h a b c d = position_is width height x y a b c d
  all_alone (CursorVisibility v) width height h a b c d = visibility_is v
  all_alone (ScrollRegionUp first size count) width height h a b c d = scroll_is edit.ScrollUp height first size count (λ n w. w) c d
  all_alone (ScrollRegionDown first size count) width height h a b c d = scroll_is edit.ScrollDown height first size count (λ n w. w) c d
  all_alone (CursorColor color) width height h a b c d = tt
  all_alone (CursorShape shape) width height h a b c d = tt
  all_alone (LineAttribute size) width height h a b c d = tt

  pub rendering_alone : (change : ChangeValue) (width height : ℕ) (actions : List StreamAction) → IsChange change → 0 < width → width < 2 ^ 32 → 0 < height → height < 2 ^ 32 → rendering change width height ≡ Some actions → AreAlone actions
  rendering_alone change width height actions h a b c d stands = subst (λ (found : Option (List StreamAction)). IfSome found AreAlone) stands (all_alone change width height h a b c d)

  pub are_writable : RenderingsAreWritable
  are_writable change width height actions h size stands = writable_alone actions (rendering_alone change width height actions h size.columns.0 size.columns.1 size.rows.0 size.rows.1 stands)
