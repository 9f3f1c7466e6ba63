-- A screen as HTML.
use Rattle.std.specs.Prelude.{Bool, ℕ, ◌-◌, ◌==◌, ◌||◌, not, List, [], ◌∷◌, ◌++◌, codes, decimal, length, min}
use Rattle.std.specs.Prelude.{if◌then◌else◌}
use Rattle.std.specs.List.{flat_map, list_all}
use Rattle.text_clusters.specs.Plain.{is_printable}
use Rattle.cell_base.specs.Attributes.{Attributes}
use Rattle.cell_base.specs.Row.{Row}
use Rattle.cell_base.specs.Screen.{Screen}
use Rattle.cell_edits.specs.VisibleCells.{visible_cells}
use Rattle.screen_formats.specs.Colors.{default_background, default_foreground, has_background, hex_color}
use Rattle.screen_formats.specs.Colors.{background_color, text_color}
use Rattle.screen_formats.specs.Links.{link_uri}
use Rattle.screen_formats.specs.Renditions.{color_style, rendition_style, rendition_words}
use Rattle.screen_formats.specs.Tokens.{Token, Opening, Closing, Words, element, tokens_text}
use Rattle.screen_formats.specs.Runs.{Run, runs_of}
use Rattle.screen_formats.specs.declared.escape.Markup.TheVariants.{Html}

abbrev pub background_style : Attributes → List ℕ
background_style a =
    if has_background a then color_style (codes "background-color") (hex_color (background_color a)) else []

-- whether cells are drawn in a box of their own, as high as the row: where a font may draw them wider or narrower than
-- their columns of digits (cells of two columns, and texts that aren't printable ASCII), and where they have a
-- background, which is to join that of the next row
abbrev pub is_boxed : Run → Bool
is_boxed run = run.width == 2 || (has_background run.attributes || not (list_all is_printable run.text))

-- a box has the width of its columns, in `ch`, the width of a digit, whatever the font
abbrev pub width_style : Bool → ℕ → List ℕ
width_style is_set columns =
    if is_set then codes "display:inline-block;width:" ++ decimal columns ++ codes "ch;" else []

abbrev pub text_style : Attributes → List ℕ
text_style a = color_style (codes "color") (hex_color (text_color a))

-- the style of cells of some columns, whose width is set or left to the font
unfoldable pub html_style : Attributes → Bool → ℕ → List ℕ
html_style a is_set columns = text_style a ++ (background_style a ++ (rendition_style a ++ width_style is_set columns))

-- the name of a run's element: `a` where it has a link
abbrev pub html_name : List ℕ → List ℕ
html_name uri = if length uri == 0 then codes "span" else codes "a"

abbrev pub html_element : List ℕ → List ℕ → List ℕ → List ℕ → List Token
html_element uri words style text =
    element (html_name uri) ((codes "href", uri) ∷ (codes "class", words) ∷ (codes "style", style) ∷ []) text

unfoldable pub html_run : Run → List Token
html_run run =
    html_element (link_uri run.attributes) (rendition_words run.attributes)
    (html_style run.attributes (is_boxed run) run.columns) run.text

-- the runs of a row, and a line feed
abbrev pub html_row : Row → List Token
html_row row = flat_map html_run (runs_of (visible_cells row)) ++ Words (10 ∷ []) ∷ []

abbrev pub html_rows : List Row → List Token
html_rows rows = flat_map html_row rows

-- rows are 1.25 times as high as the letters, and the cursor lies over them
unfoldable pub screen_style : List ℕ
screen_style =
    color_style (codes "color") (hex_color default_foreground)
    ++ (color_style (codes "background-color") (hex_color default_background)
    ++ codes "line-height:1.25;position:relative;")

-- a box over the cell of a column and a row, in the color of the text
unfoldable pub cursor_style : ℕ → ℕ → List ℕ
cursor_style column row =
    codes "position:absolute;left:" ++ (decimal column ++ (codes "ch;top:calc(1.25em*" ++ (decimal row
    ++ (codes ");width:1ch;height:1.25em;opacity:0.5;"
    ++ color_style (codes "background-color") (hex_color default_foreground)))))

-- the cursor, if it is shown; in the last column where a wrap is pending
unfoldable pub html_cursor : Screen → List Token
html_cursor screen =
    if screen.visible
    then element (codes "span") ((codes "class", codes "cursor")
    ∷ (codes "style", cursor_style (min screen.column (screen.width - 1)) screen.row) ∷ []) [] else []

abbrev pub html_tokens : Screen → List Token
html_tokens screen =
    Opening (codes "pre") ((codes "class", codes "screen") ∷ (codes "style", screen_style) ∷ [])
    ∷ (html_rows screen.rows ++ (html_cursor screen ++ Closing (codes "pre") ∷ Words (10 ∷ []) ∷ []))

abbrev pub html_text : Screen → List ℕ
html_text screen = tokens_text Html (html_tokens screen)
