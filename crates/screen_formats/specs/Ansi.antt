-- A screen as rows with SGR (ECMA-48 8.3.117) and links (OSC 8), for a terminal.
use Rattle.std.specs.Prelude.{◌==◌, ◌&&◌, ◌+◌, ◌-◌, ℕ, List, [], ◌∷◌, ◌++◌, Option, Some, None, codes, decimal, filter}
use Rattle.std.specs.Prelude.{length, min, not, if◌then◌else◌}
use Rattle.std.specs.List.{flat_map, list_all}
use Rattle.text_clusters.specs.Plain.{is_printable}
use Rattle.cell_base.specs.Attributes.{Attributes}
use Rattle.cell_base.specs.Row.{Row}
use Rattle.cell_base.specs.Screen.{Screen}
use Rattle.cell_base.specs.declared.color.ColorAttribute.{ColorAttribute}
use Rattle.cell_base.specs.declared.color.ColorAttribute.TheVariants.{Default, PaletteIndex}
use Rattle.cell_base.specs.declared.color.ColorAttribute.TheVariants.{TrueColorWithDefaultFallback}
use Rattle.cell_base.specs.declared.color.ColorAttribute.TheVariants.{TrueColorWithPaletteFallback}
use Rattle.cell_edits.specs.VisibleCells.{visible_cells}
use Rattle.screen_formats.specs.Links.{link_uri}
use Rattle.screen_formats.specs.Renditions.{Text, align_rendition, blink_rendition, intensity_rendition, text_if}
use Rattle.screen_formats.specs.Renditions.{underline_rendition}
use Rattle.screen_formats.specs.Runs.{Run, is_in, runs_of}
use Rattle.screen_formats.specs.declared.runs.Part.{Part}
use Rattle.screen_formats.specs.declared.runs.Part.TheVariants.{After, At, Before}

-- ---- parameters of SGR, each after a `;`

unfoldable pub rendition_codes : Attributes → Text
rendition_codes a =
    (intensity_rendition a.intensity).code
    ++ (text_if a.italic (codes ";3")
    ++ ((underline_rendition a.underline).code
    ++ ((blink_rendition a.blink).code
    ++ (text_if a.reverse (codes ";7")
    ++ (text_if a.invisible (codes ";8")
    ++ (text_if a.strikethrough (codes ";9")
    ++ (text_if a.overline (codes ";53")
    ++ (align_rendition a.vertical_align).code)))))))

-- the parameter of a layer (38 foreground, 48 background) and its colour
unfoldable pub color_code : Text → ColorAttribute → Text
color_code layer Default = []
color_code layer (PaletteIndex n) = 59 ∷ (layer ++ (codes ";5;" ++ decimal n))
color_code layer (TrueColorWithDefaultFallback c) =
    59 ∷ (layer ++ (codes ";2;" ++ (decimal c.0 ++ 59 ∷ (decimal c.1 ++ 59 ∷ decimal c.2))))
color_code layer (TrueColorWithPaletteFallback c n) =
    59 ∷ (layer ++ (codes ";2;" ++ (decimal c.0 ++ 59 ∷ (decimal c.1 ++ 59 ∷ decimal c.2))))

-- the underline colour, 58, has its parts after `:`, so that a terminal which doesn't know 58 skips it as a whole
unfoldable pub underline_color_code : ColorAttribute → Text
underline_color_code Default = []
underline_color_code (PaletteIndex n) = codes ";58:5:" ++ decimal n
underline_color_code (TrueColorWithDefaultFallback c) =
    codes ";58:2::" ++ (decimal c.0 ++ 58 ∷ (decimal c.1 ++ 58 ∷ decimal c.2))
underline_color_code (TrueColorWithPaletteFallback c n) =
    codes ";58:2::" ++ (decimal c.0 ++ 58 ∷ (decimal c.1 ++ 58 ∷ decimal c.2))

unfoldable pub color_codes : Attributes → Text
color_codes a =
    color_code (codes "38") a.foreground
    ++ (color_code (codes "48") a.background ++ underline_color_code a.underline_color)

-- ---- runs and rows

-- the URI, if it holds only printable ASCII; else none
abbrev pub printable_uri : Text → Text
printable_uri uri = if list_all is_printable uri then uri else []

-- a text in a link (OSC 8), where the URI isn't empty
unfoldable pub linked_text : Text → Text → Text
linked_text uri text =
    if length uri == 0 then text else 27 ∷ (codes "]8;;" ++ (uri ++ 27 ∷ 92 ∷ (text ++ 27 ∷ codes "]8;;\u{1b}\\")))

-- SGR for attributes, and a text
unfoldable pub ansi_words : Attributes → Text → Text
ansi_words a text =
    27 ∷ (codes "[0" ++ (rendition_codes a ++ (color_codes a ++ 109 ∷ linked_text (printable_uri (link_uri a)) text)))

abbrev pub ansi_run : Run → Text
ansi_run run = ansi_words run.attributes run.text

-- the end of a row: SGR 0 and a line feed
abbrev pub row_end : Text
row_end = 27 ∷ 91 ∷ 48 ∷ 109 ∷ 10 ∷ []

unfoldable pub ansi_row : Row → Text
ansi_row row = flat_map ansi_run (runs_of (visible_cells row)) ++ row_end

-- ---- the cursor: in its cell the colors are exchanged, once more where reverse video exchanges them

abbrev pub reversed : Attributes → Attributes
reversed a = record a { reverse = not a.reverse }

abbrev pub ansi_under : Run → Text
ansi_under run = ansi_words (reversed run.attributes) run.text

-- the runs of the cells of a row that are before, at or after a column
abbrev pub part_of : Part → Row → List Run
part_of part row = runs_of (filter (is_in part) (visible_cells row))

-- a row with the cursor in a column
unfoldable pub ansi_cursor_row : ℕ → Row → Text
ansi_cursor_row column row =
    flat_map ansi_run (part_of (Before column) row)
    ++ (flat_map ansi_under (part_of (At column) row) ++ (flat_map ansi_run (part_of (After column) row) ++ row_end))

-- a row, where the cursor may be in a column
abbrev pub ansi_row_at : Option ℕ → Row → Text
ansi_row_at None row = ansi_row row
ansi_row_at (Some column) row = ansi_cursor_row column row

-- the column of the cursor, where it is shown in this row; the last one where a wrap is pending
abbrev pub cursor_in : Screen → ℕ → Option ℕ
cursor_in screen row =
    if screen.visible && screen.row == row then Some (min screen.column (screen.width - 1)) else None

-- rows, of which the first has the index `row`
abbrev pub ansi_rows : Screen → ℕ → List Row → Text
ansi_rows screen row [] = []
ansi_rows screen row (columns ∷ rows) = ansi_row_at (cursor_in screen row) columns ++ ansi_rows screen (row + 1) rows

abbrev pub ansi_text : Screen → Text
ansi_text screen = ansi_rows screen 0 screen.rows
