-- Changes that have an encoding, and those of control functions.
use Rattle.std.proofs.Common.{◌≡◌, ◌≢◌, ℕ, ◌+◌, ◌-◌, ◌<◌, inl, inr, true, false, List, [], ◌∷◌, ◌++◌, map, refl, sym, ap, subst, arith}
use Rattle.std.specs.Prelude.{⊤, ◌==◌, min, nat_le, Option, Some, None, option_map, if◌then◌else◌}
use Rattle.std.specs.List.{AllByRecursion, flat_map}
use Rattle.std.proofs.lemmas.Bool.{cond_both}
use Rattle.std.proofs.lemmas.Bool.Decides.{nat_tests}
use Rattle.cell_base.specs.declared.attributes.Position.{Position}
use Rattle.cell_base.specs.declared.attributes.Position.TheVariants.{Absolute}
use Rattle.cell_base.specs.declared.color.ColorAttribute.{ColorAttribute}
use Rattle.cell_base.specs.declared.color.ColorSpec.{ColorSpec}
use Rattle.cell_base.specs.Attributes.{Attributes}
use Rattle.cell_base.specs.AttributeValue as one
use Rattle.cell_base.specs.AttributeValue.{AttributeValue}
use Rattle.cell_base.specs.Screen.{height, Screen}
use Rattle.screen_change.specs.ChangeValue.{ChangeValue, Attribute, AllAttributes, Text, ClearScreen, ClearToEndOfLine, ClearToEndOfScreen, CursorPosition, CursorColor, CursorShape, CursorVisibility, LineAttribute, ScrollRegionUp, ScrollRegionDown, Title}
use Rattle.csi_codec.specs.declared.edits.Edit.{Edit}
use Rattle.csi_codec.specs.declared.edits.Edit.TheVariants as edit
use Rattle.csi_codec.specs.declared.rendition.Sgr.TheVariants as sgr
use Rattle.escape_osc.specs.Command.{set_window_title}
use Rattle.escape_stream.specs.StreamAction.{StreamAction, command}
use Rattle.screen_effects.specs.Strokes.{text_parts}
use Rattle.terminal_render.specs.Carried.{HasColor, IsChange}
use Rattle.terminal_render.specs.Pen.{colour_setting, rendition, link_action, attribute_action, plain_pen, clear_rendering}
use Rattle.terminal_render.specs.Positions.{Way, At, Back, On, moves, way_of, position_moves}
use Rattle.terminal_render.specs.Rendering.{edited, moved, is_whole, scroll_rendering, rendering}
use Rattle.terminal_render.specs.Texts.{part_actions, text_rendering, title_rendering}
use Rattle.terminal_render.specs.Spelling.{IsSpelledColor, IsSpelledPen, IsSpelledText, IsSpelledTitle, IsSpelledValue, IsSpelledChange, HasEncoding, HaveEncodings, IsLinePart, IsSpelledScreen, IsSpelledSaved, IsSpelledFunction}
use Rattle.terminal_render.proofs.DisplayLemmas.{AreSpelledChanges, plain_spelled}
use Rattle.cell_base.specs.declared.color.ColorSpec.TheVariants as spec
use Rattle.cell_base.specs.Color.{attribute_of}
use Rattle.csi_codec.specs.Writable.{IsColour, IsWritableSgr}
use Rattle.csi_codec.specs.declared.rendition.Sgr.{Sgr}
use Rattle.terminal_table.specs.Modes.{SavedCursor}
use Rattle.terminal_table.specs.Functions as table
use Rattle.terminal_table.specs.Functions.{Move, ControlFunction}
use Rattle.terminal_table.specs.Steps.{cursor_to_restore}
use Rattle.terminal_table.specs.Changes.{position, move_change, rendition_changes, changes}
use Rattle.terminal_render.proofs.TextLemmas.{spelled_append, spelled_ascii}
use Rattle.terminal_render.proofs.SpelledPenLemmas.{some_is, equal_some, map_some, setting_some, encoded_color, pen_some}

-- ---- single changes

value_some : (value : AttributeValue) → IsSpelledValue value → attribute_action value ≢ None
unfolding attribute_action
value_some (one.Foreground color) h = map_some rendition (option_map sgr.Foreground (colour_setting color)) (map_some sgr.Foreground (colour_setting color) (setting_some color h))
value_some (one.Background color) h = map_some rendition (option_map sgr.Background (colour_setting color)) (map_some sgr.Background (colour_setting color) (setting_some color h))
value_some (one.Hyperlink link) h = equal_some _ (link_action link) (ap (λ b. if b then Some (link_action link) else None) h)
value_some _ h = some_is _

text_some : (text : List ℕ) → IsSpelledText text → text_rendering text ≢ None
unfolding text_rendering
text_some text p = equal_some _ (flat_map part_actions (text_parts text)) (ap (λ b. if b then None else Some (flat_map part_actions (text_parts text))) p.no_c1)

title_some : (text : List ℕ) → IsSpelledTitle text → title_rendering text ≢ None
unfolding title_rendering
title_some text p = equal_some _ (command (set_window_title text) ∷ []) (ap (λ b. if b then Some (command (set_window_title text) ∷ []) else None) p.plain)

clear_some : (color : ColorAttribute) (erasure : List StreamAction) → IsSpelledColor color → clear_rendering color erasure ≢ None
unfolding clear_rendering
clear_some color erasure h = map_some (λ c. plain_pen c ++ erasure) (colour_setting color) (setting_some color h)

scroll_some : (scroll : ℕ → Edit) (height first size count : ℕ) → is_whole height first size ≡ true → scroll_rendering scroll height first size count ≢ None
unfolding scroll_rendering
scroll_some scroll height first size count h =
    equal_some _ (if count == 0 then [] else edited (scroll (min count height)) ∷ [])
    (ap (λ b. if b then Some (if count == 0 then [] else edited (scroll (min count height)) ∷ []) else None) h)

-- the coordinates of a change can be encoded: moves reach its position, or its region is all rows; three kinds of changes have no encoding
abbrev pub IsPlaced : ℕ → ℕ → ChangeValue → Type 0
IsPlaced width height (CursorPosition x y) = position_moves width height x y ≢ None
IsPlaced width height (ScrollRegionUp first size count) = is_whole height first size ≡ true
IsPlaced width height (ScrollRegionDown first size count) = is_whole height first size ≡ true
IsPlaced width height (CursorColor color) = ⊥
IsPlaced width height (CursorShape shape) = ⊥
IsPlaced width height (LineAttribute size) = ⊥
IsPlaced width height _ = ⊤

abbrev pub ArePlaced : ℕ → ℕ → List ChangeValue → Type 0
ArePlaced width height = AllByRecursion (IsPlaced width height)

change_some : (width height : ℕ) (change : ChangeValue) → IsSpelledChange change → IsPlaced width height change → rendering change width height ≢ None
change_some width height (Attribute value) u g = map_some (λ action. action ∷ []) (attribute_action value) (value_some value u)
change_some width height (AllAttributes attributes) u g = pen_some attributes u
change_some width height (Text text) u g = text_some text u
change_some width height (ClearScreen color) u g = clear_some color _ u
change_some width height (ClearToEndOfLine color) u g = clear_some color _ u
change_some width height (ClearToEndOfScreen color) u g = clear_some color _ u
change_some width height (CursorPosition x y) u g = map_some (map moved) (position_moves width height x y) g
change_some width height (CursorColor color) u g = absurd g
change_some width height (CursorShape shape) u g = absurd g
change_some width height (CursorVisibility visibility) u g = some_is _
change_some width height (LineAttribute size) u g = absurd g
change_some width height (ScrollRegionUp first size count) u g = scroll_some edit.ScrollUp height first size count g
change_some width height (ScrollRegionDown first size count) u g = scroll_some edit.ScrollDown height first size count g
change_some width height (Title title) u g = title_some title u

value_color : (value : AttributeValue) → IsSpelledValue value → HasColor value
value_color (one.Foreground color) u = encoded_color color u
value_color (one.Background color) u = encoded_color color u
value_color _ u = tt

change_of_code : (change : ChangeValue) → IsSpelledChange change → IsChange change
change_of_code (Attribute value) u = value_color value u
change_of_code (AllAttributes a) u = (encoded_color a.foreground u.foreground, encoded_color a.background u.background, encoded_color a.underline_color u.underline)
change_of_code (Text text) u = u.utf8
change_of_code (ClearScreen color) u = encoded_color color u
change_of_code (ClearToEndOfLine color) u = encoded_color color u
change_of_code (ClearToEndOfScreen color) u = encoded_color color u
change_of_code (Title title) u = u.utf8
change_of_code _ u = tt

pub is_encoded : (width height : ℕ) (change : ChangeValue) → IsSpelledChange change → IsPlaced width height change → IsLinePart change → HasEncoding width height change
is_encoded width height change u g k = record { of_code = change_of_code change u; part = k; encoded = change_some width height change u g }

abbrev pub AreLineParts : List ChangeValue → Type 0
AreLineParts = AllByRecursion IsLinePart

pub have_encodings : (width height : ℕ) (cs : List ChangeValue) → AreSpelledChanges cs → ArePlaced width height cs → AreLineParts cs → HaveEncodings width height cs
have_encodings width height [] u g k = tt
have_encodings width height (change ∷ cs) u g k = (is_encoded width height change u.0 g.0 k.0, have_encodings width height cs u.1 g.1 k.1)

pub encodings_append : (width height : ℕ) (xs ys : List ChangeValue) → HaveEncodings width height xs → HaveEncodings width height ys → HaveEncodings width height (xs ++ ys)
encodings_append width height [] ys p q = q
encodings_append width height (x ∷ xs) ys p q = (p.0, encodings_append width height xs ys p.1 q)

-- ---- positions that moves reach

at_some : (coordinate : ℕ) (way : Way) → moves (At coordinate) way ≢ None
unfolding moves
at_some coordinate (At row) = some_is _
at_some coordinate (Back rows) = some_is _
at_some coordinate (On rows) = some_is _

pub coordinate_some : (width height column : ℕ) (y : Position) → column < width → position_moves width height (Absolute column) y ≢ None
unfolding position_moves
coordinate_some width height column y h =
    let within : nat_le width column ≡ false = grind (arith, nat_tests) in
    subst (λ b. (if b then None else moves (way_of width (Absolute column)) (way_of height y)) ≢ None) (sym within) (at_some (min column (width - 1) + 1) (way_of height y))

-- ---- control functions: the coordinates of their changes can be encoded

position_placed : (at : ℕ × ℕ) (s : Screen) → 0 < s.width → IsPlaced s.width (height s) (position at s)
position_placed at s h = coordinate_some s.width (height s) (min at.0 (s.width - 1)) (Absolute (min at.1 (height s - 1))) (omega arith)

all_rows : (n : ℕ) → is_whole n 0 n ≡ true
all_rows n = grind (arith, nat_tests)

rendition_placed : (width height : ℕ) (value : Sgr) (pen : Attributes) → ArePlaced width height (rendition_changes value pen)
rendition_placed width height (sgr.Font value) pen = tt
rendition_placed width height _ pen = (tt, tt)

reverse_placed : (s : Screen) → 0 < s.width → IsPlaced s.width (height s) (if s.row == 0 then ScrollRegionDown 0 (height s) 1 else move_change (table.Up 1) s)
reverse_placed s h = cond_both (s.row == 0) (ScrollRegionDown 0 (height s) 1) (move_change (table.Up 1) s) (IsPlaced s.width (height s)) (λ e. all_rows (height s)) (λ e. position_placed _ s h)

pub changes_placed : (function : ControlFunction) (saved : Option SavedCursor) (s : Screen) → 0 < s.width → ArePlaced s.width (height s) (changes function saved s)
changes_placed (table.Moves move) saved s h = (position_placed _ s h, tt)
changes_placed table.LineFeed saved s h = (tt, tt)
changes_placed table.CarriageReturn saved s h = (tt, tt)
changes_placed table.NextRow saved s h = (tt, tt)
changes_placed table.ReverseIndex saved s h = (reverse_placed s h, tt)
changes_placed table.EraseToEndOfDisplay saved s h = (tt, (tt, tt))
changes_placed table.EraseDisplay saved s h = (tt, (position_placed _ s h, (tt, tt)))
changes_placed table.EraseToEndOfLine saved s h = (tt, (tt, tt))
changes_placed table.EraseLine saved s h = (position_placed _ s h, (tt, (position_placed _ s h, (tt, tt))))
changes_placed (table.ScrollUp n) saved s h = (all_rows (height s), tt)
changes_placed (table.ScrollDown n) saved s h = (all_rows (height s), tt)
changes_placed (table.Rendition value) saved s h = rendition_placed s.width (height s) value s.pen
changes_placed (table.Hyperlink link) saved s h = (tt, tt)
changes_placed (table.Title text) saved s h = (tt, tt)
changes_placed (table.ShowCursor shown) saved s h = (tt, tt)
changes_placed table.SaveCursor saved s h = tt
changes_placed table.RestoreCursor saved s h = (position_placed _ s h, (tt, tt))
changes_placed table.FullReset saved s h = (tt, (tt, tt))
changes_placed table.ReportStatus saved s h = tt
changes_placed table.ReportPosition saved s h = tt

-- ---- control functions: the texts of their changes are the ends of lines

rendition_part : (value : Sgr) (pen : Attributes) → AreLineParts (rendition_changes value pen)
rendition_part (sgr.Font value) pen = tt
rendition_part _ pen = (tt, tt)

reverse_part : (s : Screen) → IsLinePart (if s.row == 0 then ScrollRegionDown 0 (height s) 1 else move_change (table.Up 1) s)
reverse_part s = cond_both (s.row == 0) (ScrollRegionDown 0 (height s) 1) (move_change (table.Up 1) s) IsLinePart (λ e. tt) (λ e. tt)

pub changes_are_parts : (function : ControlFunction) (saved : Option SavedCursor) (s : Screen) → AreLineParts (changes function saved s)
changes_are_parts (table.Moves move) saved s = (tt, tt)
changes_are_parts table.LineFeed saved s = (inr (inr (inl refl)), tt)
changes_are_parts table.CarriageReturn saved s = (inr (inl refl), tt)
changes_are_parts table.NextRow saved s = (inr (inr (inr refl)), tt)
changes_are_parts table.ReverseIndex saved s = (reverse_part s, tt)
changes_are_parts table.EraseToEndOfDisplay saved s = (tt, (tt, tt))
changes_are_parts table.EraseDisplay saved s = (tt, (tt, (tt, tt)))
changes_are_parts table.EraseToEndOfLine saved s = (tt, (tt, tt))
changes_are_parts table.EraseLine saved s = (tt, (tt, (tt, (tt, tt))))
changes_are_parts (table.ScrollUp n) saved s = (tt, tt)
changes_are_parts (table.ScrollDown n) saved s = (tt, tt)
changes_are_parts (table.Rendition value) saved s = rendition_part value s.pen
changes_are_parts (table.Hyperlink link) saved s = (tt, tt)
changes_are_parts (table.Title text) saved s = (tt, tt)
changes_are_parts (table.ShowCursor shown) saved s = (tt, tt)
changes_are_parts table.SaveCursor saved s = tt
changes_are_parts table.RestoreCursor saved s = (tt, (tt, tt))
changes_are_parts table.FullReset saved s = (tt, (tt, tt))
changes_are_parts table.ReportStatus saved s = tt
changes_are_parts table.ReportPosition saved s = tt

-- ---- control functions: their changes hold only values that have an encoding

attribute_spelled : (color : ColorSpec) → IsColour color → IsSpelledColor (attribute_of color)
attribute_spelled spec.Default h = tt
attribute_spelled (spec.PaletteIndex n) h = h
attribute_spelled (spec.TrueColor c) h = h

rendition_spelled : (value : Sgr) (pen : Attributes) → IsWritableSgr value → IsSpelledPen pen → AreSpelledChanges (rendition_changes value pen)
rendition_spelled (sgr.Foreground value) pen h p = (attribute_spelled value h, tt)
rendition_spelled (sgr.Background value) pen h p = (attribute_spelled value h, tt)
rendition_spelled (sgr.Font value) pen h p = tt
rendition_spelled sgr.Reset pen h p = (record { unwrapped = refl; output = refl; link = p.link; foreground = tt; background = tt; underline = tt }, tt)
rendition_spelled (sgr.UnderlineColor value) pen h p = (assumption (p, attribute_spelled value h), tt)
rendition_spelled (sgr.Overline value) pen h p = (assumption p, tt)
rendition_spelled (sgr.VerticalAlign value) pen h p = (assumption p, tt)
rendition_spelled _ pen h p = (tt, tt)

pub restored_spelled : (saved : Option SavedCursor) → IsSpelledSaved saved → IsSpelledPen (cursor_to_restore saved).pen
restored_spelled None g = plain_spelled
restored_spelled (Some cursor) g = g

pub changes_spelled : (function : ControlFunction) (saved : Option SavedCursor) (s : Screen) → IsSpelledFunction function → IsSpelledSaved saved → IsSpelledScreen s → AreSpelledChanges (changes function saved s)
changes_spelled (table.Moves move) saved s f g p = (tt, tt)
changes_spelled table.LineFeed saved s f g p = (spelled_ascii 10 (omega arith), tt)
changes_spelled table.CarriageReturn saved s f g p = (spelled_ascii 13 (omega arith), tt)
changes_spelled table.NextRow saved s f g p = (spelled_append (13 ∷ []) (10 ∷ []) (spelled_ascii 13 (omega arith)) (spelled_ascii 10 (omega arith)), tt)
changes_spelled table.ReverseIndex saved s f g p = (cond_both (s.row == 0) (ScrollRegionDown 0 (height s) 1) (move_change (table.Up 1) s) IsSpelledChange (λ e. tt) (λ e. tt), tt)
changes_spelled table.EraseToEndOfDisplay saved s f g p = (p.pen.background, (p.pen, tt))
changes_spelled table.EraseDisplay saved s f g p = (p.pen.background, (tt, (p.pen, tt)))
changes_spelled table.EraseToEndOfLine saved s f g p = (p.pen.background, (p.pen, tt))
changes_spelled table.EraseLine saved s f g p = (tt, (p.pen.background, (tt, (p.pen, tt))))
changes_spelled (table.ScrollUp n) saved s f g p = (tt, tt)
changes_spelled (table.ScrollDown n) saved s f g p = (tt, tt)
changes_spelled (table.Rendition value) saved s f g p = rendition_spelled value s.pen f p.pen
changes_spelled (table.Hyperlink link) saved s f g p = (f, tt)
changes_spelled (table.Title text) saved s f g p = (f, tt)
changes_spelled (table.ShowCursor shown) saved s f g p = (tt, tt)
changes_spelled table.SaveCursor saved s f g p = tt
changes_spelled table.RestoreCursor saved s f g p = (tt, (restored_spelled saved g, tt))
changes_spelled table.FullReset saved s f g p = (tt, (tt, tt))
changes_spelled table.ReportStatus saved s f g p = tt
changes_spelled table.ReportPosition saved s f g p = tt
