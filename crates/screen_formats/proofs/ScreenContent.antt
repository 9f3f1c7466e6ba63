-- The text that is read of a screen as HTML and as SVG.
use Rattle.std.proofs.Common.{◌≡◌, ℕ, ◌+◌, ◌-◌, Bool, true, false, List, [], ◌∷◌, ◌++◌, refl, ap, ◌∙◌}
use Rattle.std.specs.Prelude.{◌==◌, min, Some, codes, length, if◌then◌else◌}
use Rattle.std.specs.List.{flat_map, list_any}
use Rattle.std.specs.Char.{encode_utf8}
use Rattle.std.specs.Str.{chars}
use Rattle.std.proofs.lemmas.List.{append-nil}
use Rattle.std.proofs.lemmas.Grind.{flat_map-append}
use Rattle.cell_base.specs.Row.{Row}
use Rattle.cell_base.specs.Screen.{Screen}
use Rattle.cell_edits.specs.VisibleCells.{visible_cells}
use Rattle.screen_formats.specs.Colors.{default_background, default_foreground, has_background, hex_color, background_color}
use Rattle.screen_formats.specs.Content.{AreTagged, content, html_content, is_end, token_content, tokens_content, row_content, svg_content}
use Rattle.screen_formats.specs.Escape.{held_text}
use Rattle.screen_formats.specs.Html.{cursor_style, html_cursor, html_tokens, html_row, html_rows, html_run, html_text}
use Rattle.screen_formats.specs.Links.{link_uri}
use Rattle.screen_formats.specs.Tokens.{Token, Opening, Closing, Words, element}
use Rattle.screen_formats.specs.Runs.{Run, runs_of}
use Rattle.screen_formats.specs.Svg.{column_units, placed_text, rectangle, row_units, sized_opening, svg_cursor, svg_head, svg_letters, svg_opening, svg_background, svg_part, svg_tokens, svg_row, svg_rows, svg_text, svg_text_of, Text}
use Rattle.screen_formats.specs.declared.escape.Markup.{Markup}
use Rattle.screen_formats.specs.declared.escape.Markup.TheVariants.{Html, Xml}
use Rattle.screen_formats.proofs.ContentLemmas.{content_back}

-- ---- tokens and their content

-- the tokens are named, and hold this text
abbrev Holds : Markup → List Token → List ℕ → Type 0
Holds markup tokens text = AreTagged tokens × (tokens_content markup tokens ≡ text)

tagged_both : (xs ys : List Token) → AreTagged xs → AreTagged ys → AreTagged (xs ++ ys)
tagged_both [] ys p q = q
tagged_both (x ∷ xs) ys p q = (p.0, tagged_both xs ys p.1 q)

holds_both : (markup : Markup) (xs ys : List Token) (text rest : List ℕ) → Holds markup xs text → Holds markup ys rest → Holds markup (xs ++ ys) (text ++ rest)
holds_both markup xs ys text rest p q = (tagged_both xs ys p.0 q.0, flat_map-append (token_content markup) xs ys ∙ (λ i. p.1 i ++ q.1 i))

holds_each : {A : Type 0} (markup : Markup) (f : A → List Token) (text : A → List ℕ) → ((x : A) → Holds markup (f x) (text x)) → (xs : List A) → Holds markup (flat_map f xs) (flat_map text xs)
holds_each markup f text each [] = (tt, refl)
holds_each markup f text each (x ∷ xs) = holds_both markup (f x) (flat_map f xs) (text x) (flat_map text xs) (each x) (holds_each markup f text each xs)

holds_none : {A : Type 0} (markup : Markup) (f : A → List Token) → ((x : A) → Holds markup (f x) []) → (xs : List A) → Holds markup (flat_map f xs) []
holds_none markup f each [] = (tt, refl)
holds_none markup f each (x ∷ xs) = holds_both markup (f x) (flat_map f xs) [] [] (each x) (holds_none markup f each xs)

line_feed : (markup : Markup) → Holds markup (Words (10 ∷ []) ∷ []) (10 ∷ [])
unfolding chars encode_utf8
line_feed Html = ((tt, tt), refl)
line_feed Xml = ((tt, tt), refl)

closing : (markup : Markup) (name : List ℕ) → list_any is_end name ≡ false → Holds markup (Closing name ∷ Words (10 ∷ []) ∷ []) (10 ∷ [])
closing markup name named = ((named, (line_feed markup).0), (line_feed markup).1)

either : (markup : Markup) (b : Bool) (xs ys : List Token) (text : List ℕ) → Holds markup xs text → Holds markup ys text → Holds markup (if b then xs else ys) text
either markup true xs ys text p q = p
either markup false xs ys text p q = q

-- ---- HTML

name_of : (b : Bool) → list_any is_end (if b then codes "span" else codes "a") ≡ false
name_of true = refl
name_of false = refl

run_holds : (run : Run) → Holds Html (html_run run) (held_text Html run.text)
unfolding html_run
run_holds run =
    let named = name_of (length (link_uri run.attributes) == 0) in
    (((named, (refl, (refl, (refl, tt)))), (tt, (named, tt))), append-nil (held_text Html run.text))

html_row_holds : (row : Row) → Holds Html (html_row row) (row_content Html row ++ 10 ∷ [])
html_row_holds row =
    let runs = runs_of (visible_cells row) in
    holds_both Html (flat_map html_run runs) (Words (10 ∷ []) ∷ []) (row_content Html row) (10 ∷ []) (holds_each Html html_run (λ run. held_text Html run.text) run_holds runs) (line_feed Html)

box_holds : (style : List ℕ) → Holds Html (element (codes "span") ((codes "class", codes "cursor") ∷ (codes "style", style) ∷ []) []) []
unfolding chars
box_holds style = (((refl, (refl, (refl, tt))), (tt, (refl, tt))), refl)

html_cursor_holds : (screen : Screen) → Holds Html (html_cursor screen) []
unfolding html_cursor
html_cursor_holds screen = either Html screen.visible _ [] [] (box_holds (cursor_style (min screen.column (screen.width - 1)) screen.row)) (tt, refl)

html_holds : (screen : Screen) → Holds Html (html_tokens screen) (html_content screen)
html_holds screen =
    let closed = Closing (codes "pre") ∷ Words (10 ∷ []) ∷ [] in
    let rows = holds_each Html html_row (λ row. row_content Html row ++ 10 ∷ []) html_row_holds screen.rows in
    let back = holds_both Html (html_cursor screen) closed [] (10 ∷ []) (html_cursor_holds screen) (closing Html (codes "pre") refl) in
    let all = holds_both Html (html_rows screen.rows) (html_cursor screen ++ closed) (flat_map (λ row. row_content Html row ++ 10 ∷ []) screen.rows) (10 ∷ []) rows back in
    (((refl, (refl, (refl, tt))), all.0), all.1)

pub html_read : (screen : Screen) → content (html_text screen) ≡ Some (html_content screen)
html_read screen = content_back Html (html_tokens screen) (html_holds screen).0 ∙ ap Some (html_holds screen).1

-- ---- SVG

rectangle_holds : (x y width height fill opacity : Text) → Holds Xml (rectangle x y width height fill opacity) []
unfolding rectangle chars
rectangle_holds x y width height fill opacity = (((refl, (refl, (refl, (refl, (refl, (refl, (refl, tt))))))), (tt, (refl, tt))), refl)

letters_hold : (row : ℕ) (run : Run) → Holds Xml (svg_letters row run) (held_text Xml run.text)
unfolding placed_text
letters_hold row run = (((refl, (refl, (refl, (refl, (refl, (refl, (refl, tt))))))), (tt, (refl, tt))), append-nil (held_text Xml run.text))

in_link : (uri : Text) (tokens : List Token) (text : List ℕ) → Holds Xml tokens text → Holds Xml (Opening (codes "a") ((codes "href", uri) ∷ []) ∷ (tokens ++ Closing (codes "a") ∷ [])) text
in_link uri tokens text p =
    let all = holds_both Xml tokens (Closing (codes "a") ∷ []) text [] p ((refl, tt), refl) in
    (((refl, (refl, tt)), all.0), all.1 ∙ append-nil text)

text_holds : (row : ℕ) (run : Run) → Holds Xml (svg_text_of row run) (held_text Xml run.text)
unfolding svg_text_of
text_holds row run =
    let uri = link_uri run.attributes in
    either Xml (length uri == 0) (svg_letters row run) _ (held_text Xml run.text) (letters_hold row run) (in_link uri (svg_letters row run) (held_text Xml run.text) (letters_hold row run))

paper_holds : (row : ℕ) (run : Run) → Holds Xml (svg_background row run) []
unfolding svg_background
paper_holds row run =
    either Xml (has_background run.attributes) _ [] [] (rectangle_holds (column_units run.column) (row_units row) (column_units run.columns) (codes "18") (hex_color (background_color run.attributes)) []) (tt, refl)

svg_row_holds : (at : ℕ) (row : Row) → Holds Xml (svg_row at row) (row_content Xml row)
unfolding svg_row
svg_row_holds at row =
    let runs = runs_of (visible_cells row) in
    holds_both Xml (flat_map (svg_part false at) runs) (flat_map (svg_part true at) runs) [] (row_content Xml row) (holds_none Xml (svg_part false at) (paper_holds at) runs) (holds_each Xml (svg_part true at) (λ run. held_text Xml run.text) (text_holds at) runs)

svg_rows_hold : (at : ℕ) (rows : List Row) → Holds Xml (svg_rows at rows) (flat_map (row_content Xml) rows)
svg_rows_hold at [] = (tt, refl)
svg_rows_hold at (row ∷ rows) = holds_both Xml (svg_row at row) (svg_rows (at + 1) rows) (row_content Xml row) (flat_map (row_content Xml) rows) (svg_row_holds at row) (svg_rows_hold (at + 1) rows)

cursor_holds : (screen : Screen) → Holds Xml (svg_cursor screen) []
unfolding svg_cursor
cursor_holds screen = either Xml screen.visible _ [] [] (rectangle_holds (column_units (min screen.column (screen.width - 1))) (row_units screen.row) (codes "10") (codes "18") (hex_color default_foreground) (codes "0.5")) (tt, refl)

opening_holds : (width height : Text) → Holds Xml (svg_opening width height) []
unfolding svg_opening sized_opening
opening_holds width height = (((refl, (refl, (refl, (refl, (refl, (refl, (refl, tt))))))), tt), refl)

title_holds : (title : Text) → Holds Xml (Opening (codes "title") [] ∷ Words title ∷ Closing (codes "title") ∷ []) (held_text Xml title)
title_holds title = (((refl, tt), (tt, (refl, tt))), append-nil (held_text Xml title))

prefix_holds : (width height title : Text) → Holds Xml (svg_head width height title) (held_text Xml title)
prefix_holds width height title =
    let after = rectangle (codes "0") (codes "0") width height (hex_color default_background) [] in
    let titled = holds_both Xml (element (codes "title") [] title) after (held_text Xml title) [] (title_holds title) (rectangle_holds (codes "0") (codes "0") width height (hex_color default_background) []) in
    let all = holds_both Xml (svg_opening width height) (element (codes "title") [] title ++ after) [] (held_text Xml title ++ []) (opening_holds width height) titled in
    (all.0, all.1 ∙ append-nil (held_text Xml title))

svg_holds : (screen : Screen) → Holds Xml (svg_tokens screen) (svg_content screen)
svg_holds screen =
    let width = column_units screen.width in
    let height = row_units (length screen.rows) in
    let closed = Closing (codes "svg") ∷ Words (10 ∷ []) ∷ [] in
    let back = holds_both Xml (svg_cursor screen) closed [] (10 ∷ []) (cursor_holds screen) (closing Xml (codes "svg") refl) in
    let rows = holds_both Xml (svg_rows 0 screen.rows) (svg_cursor screen ++ closed) (flat_map (row_content Xml) screen.rows) (10 ∷ []) (svg_rows_hold 0 screen.rows) back in
    holds_both Xml (svg_head width height screen.title) (svg_rows 0 screen.rows ++ (svg_cursor screen ++ closed)) (held_text Xml screen.title) (flat_map (row_content Xml) screen.rows ++ 10 ∷ []) (prefix_holds width height screen.title) rows

pub svg_read : (screen : Screen) → content (svg_text screen) ≡ Some (svg_content screen)
svg_read screen = content_back Xml (svg_tokens screen) (svg_holds screen).0 ∙ ap Some (svg_holds screen).1
