-- A screen as SVG: a column is 10 units wide, and a row 18 units high, as high as the box of the letters.
-- Usual fonts are 0.6 times as wide as they are large, and 1.1 to 1.2 times as high.
use Rattle.std.specs.Prelude.{Bool, true, false, ℕ, ◌+◌, ◌-◌, ◌*◌, ◌==◌, min, List, [], ◌∷◌, ◌++◌, codes, decimal}
use Rattle.std.specs.Prelude.{length, if◌then◌else◌}
use Rattle.std.specs.List.{flat_map}
use Rattle.cell_base.specs.Attributes.{Attributes}
use Rattle.cell_base.specs.Row.{Row}
use Rattle.cell_base.specs.Screen.{Screen}
use Rattle.cell_edits.specs.VisibleCells.{visible_cells}
use Rattle.screen_formats.specs.Colors.{default_background, default_foreground, has_background, hex_color}
use Rattle.screen_formats.specs.Colors.{background_color, text_color}
use Rattle.screen_formats.specs.Links.{link_uri}
use Rattle.screen_formats.specs.Renditions.{color_style, rendition_style, rendition_words}
use Rattle.screen_formats.specs.Tokens.{Token, Opening, Closing, Words, element, tokens_text}
use Rattle.screen_formats.specs.Runs.{Run, runs_of}
use Rattle.screen_formats.specs.declared.escape.Markup.TheVariants.{Xml}

abbrev pub Text : Type 0
Text = List ℕ

-- numbers of columns and of rows, in units
abbrev pub column_units : ℕ → Text
column_units columns = decimal (10 * columns)

abbrev pub row_units : ℕ → Text
row_units rows = decimal (18 * rows)

-- the base line of the letters of a row
abbrev pub base_line : ℕ → Text
base_line row = decimal (18 * row + 14)

-- ---- elements

unfoldable pub rectangle : Text → Text → Text → Text → Text → Text → List Token
rectangle x y width height fill opacity =
    element (codes "rect")
    ((codes "x", x) ∷ (codes "y", y) ∷ (codes "width", width) ∷ (codes "height", height) ∷ (codes "fill", fill)
    ∷ (codes "fill-opacity", opacity) ∷ []) []

-- an element of a text that is as long as its columns and keeps all its spaces
unfoldable pub placed_text : Text → Text → Text → Text → Text → Text → List Token
placed_text x y len words style text =
    element (codes "text")
    ((codes "x", x) ∷ (codes "y", y) ∷ (codes "textLength", len) ∷ (codes "xml:space", codes "preserve")
    ∷ (codes "class", words) ∷ (codes "style", style) ∷ []) text

-- elements in a link, where the URI isn't empty
abbrev pub linked : Text → List Token → List Token
linked uri tokens =
    if length uri == 0 then tokens
    else Opening (codes "a") ((codes "href", uri) ∷ []) ∷ (tokens ++ Closing (codes "a") ∷ [])

-- ---- runs

-- the line under a link, unless the cells have lines of their own, whose declaration comes later
abbrev pub link_line : Text → Text
link_line uri = if length uri == 0 then [] else codes "text-decoration:underline;"

unfoldable pub svg_style : Attributes → Text
svg_style a =
    color_style (codes "fill") (hex_color (text_color a)) ++ (link_line (link_uri a) ++ rendition_style a)

-- the rectangle behind a run, if the run has a background
unfoldable pub svg_background : ℕ → Run → List Token
svg_background row run =
    if has_background run.attributes
    then rectangle (column_units run.column) (row_units row) (column_units run.columns) (codes "18")
    (hex_color (background_color run.attributes)) [] else []

abbrev pub svg_letters : ℕ → Run → List Token
svg_letters row run =
    placed_text (column_units run.column) (base_line row) (column_units run.columns) (rendition_words run.attributes)
    (svg_style run.attributes) run.text

unfoldable pub svg_text_of : ℕ → Run → List Token
svg_text_of row run = linked (link_uri run.attributes) (svg_letters row run)

-- ---- the screen

-- the text of a run, or its background
abbrev pub svg_part : Bool → ℕ → Run → List Token
svg_part true row run = svg_text_of row run
svg_part false row run = svg_background row run

-- the backgrounds of the runs come first, and then the texts, drawn over them
abbrev pub svg_runs : ℕ → List Run → List Token
svg_runs row runs = flat_map (svg_part false row) runs ++ flat_map (svg_part true row) runs

unfoldable pub svg_row : ℕ → Row → List Token
svg_row row columns = svg_runs row (runs_of (visible_cells columns))

-- rows, of which the first has the index `row`
abbrev pub svg_rows : ℕ → List Row → List Token
svg_rows row [] = []
svg_rows row (columns ∷ rows) = svg_row row columns ++ svg_rows (row + 1) rows

-- the cursor, if it is shown; in the last column where a wrap is pending
unfoldable pub svg_cursor : Screen → List Token
svg_cursor screen =
    if screen.visible
    then rectangle (column_units (min screen.column (screen.width - 1))) (row_units screen.row) (codes "10")
    (codes "18") (hex_color default_foreground) (codes "0.5") else []

unfoldable pub sized_opening : Text → Text → Text → List Token
sized_opening width height view_box =
    Opening (codes "svg") (
    (codes "xmlns", codes "http://www.w3.org/2000/svg")
    ∷ (codes "width", width)
    ∷ (codes "height", height)
    ∷ (codes "viewBox", view_box)
    ∷ (codes "font-family", codes "monospace")
    ∷ (codes "font-size", codes "16.7")
    ∷ []
    ) ∷ []

-- the tag of a picture whose view box is the whole picture
unfoldable pub svg_opening : Text → Text → List Token
svg_opening width height = sized_opening width height (codes "0 0 " ++ (width ++ 32 ∷ height))

-- the picture's size, the title, and the rectangle behind all rows
abbrev pub svg_head : Text → Text → Text → List Token
svg_head width height title =
    svg_opening width height
    ++ (element (codes "title") [] title
    ++ rectangle (codes "0") (codes "0") width height (hex_color default_background) [])

abbrev pub svg_tokens : Screen → List Token
svg_tokens screen =
    svg_head (column_units screen.width) (row_units (length screen.rows)) screen.title
    ++ (svg_rows 0 screen.rows
    ++ (svg_cursor screen
    ++ (Closing (codes "svg") ∷ Words (10 ∷ []) ∷ [])))

abbrev pub svg_text : Screen → List ℕ
svg_text screen = tokens_text Xml (svg_tokens screen)
