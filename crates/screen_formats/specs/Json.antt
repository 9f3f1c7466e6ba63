-- A screen as JSON.
use Rattle.std.specs.Prelude.{ℕ, Bool, List, [], codes, decimal, length, map}
use Rattle.cell_base.specs.Attributes.{Attributes}
use Rattle.cell_base.specs.Row.{Row}
use Rattle.cell_base.specs.Screen.{Screen}
use Rattle.cell_base.specs.declared.attributes.SemanticType.{SemanticType}
use Rattle.cell_base.specs.declared.attributes.SemanticType.TheVariants.{Output, Input, Prompt}
use Rattle.cell_base.specs.declared.color.ColorAttribute.{ColorAttribute}
use Rattle.cell_base.specs.declared.color.ColorAttribute.TheVariants.{Default, PaletteIndex}
use Rattle.cell_base.specs.declared.color.ColorAttribute.TheVariants.{TrueColorWithDefaultFallback}
use Rattle.cell_base.specs.declared.color.ColorAttribute.TheVariants.{TrueColorWithPaletteFallback}
use Rattle.cell_edits.specs.VisibleCells.{visible_cells}
use Rattle.serde_json.specs.Data.{Data, boolean, number, unsigned, string, array, object, member, no_members}
use Rattle.serde_json.specs.View.{items_of}
use Rattle.serde_json.specs.Written.{compact_text}
use Rattle.screen_formats.specs.Colors.{hex_color}
use Rattle.screen_formats.specs.Links.{link_uri}
use Rattle.screen_formats.specs.Renditions.{rendition_words}
use Rattle.screen_formats.specs.Runs.{Run, runs_of}

-- a colour: empty for the default colour, the index of a palette colour, and `#rrggbb` for any other
unfoldable pub color_text : ColorAttribute → List ℕ
color_text Default = []
color_text (PaletteIndex n) = decimal n
color_text (TrueColorWithDefaultFallback c) = hex_color (c.0, c.1, c.2)
color_text (TrueColorWithPaletteFallback c n) = hex_color (c.0, c.1, c.2)

abbrev pub semantic_word : SemanticType → List ℕ
semantic_word Output = codes "output"
semantic_word Input = codes "input"
semantic_word Prompt = codes "prompt"

unfoldable pub colors_data : Attributes → Data
colors_data a =
    object (member (codes "background") (string (color_text a.background))
    (member (codes "foreground") (string (color_text a.foreground))
    (member (codes "underline") (string (color_text a.underline_color))
    no_members)))

unfoldable pub attributes_data : Attributes → Data
attributes_data a =
    object (member (codes "colors") (colors_data a)
    (member (codes "link") (string (link_uri a))
    (member (codes "looks") (string (rendition_words a))
    (member (codes "semantic_type") (string (semantic_word a.semantic_type))
    (member (codes "wrapped") (boolean a.wrapped)
    no_members)))))

unfoldable pub run_data : Run → Data
run_data run =
    object (member (codes "attributes") (attributes_data run.attributes)
    (member (codes "column") (number (unsigned run.column))
    (member (codes "columns") (number (unsigned run.columns))
    (member (codes "text") (string run.text)
    (member (codes "width") (number (unsigned run.width))
    no_members)))))

unfoldable pub row_data : Row → Data
row_data row = array (items_of (map run_data (runs_of (visible_cells row))))

unfoldable pub rows_data : List Row → Data
rows_data rows = array (items_of (map row_data rows))

unfoldable pub cursor_data : ℕ → ℕ → Bool → Data
cursor_data column row visible =
    object (member (codes "column") (number (unsigned column))
    (member (codes "row") (number (unsigned row))
    (member (codes "visible") (boolean visible)
    no_members)))

unfoldable pub screen_object : Data → ℕ → Data → List ℕ → ℕ → Data
screen_object cursor height rows title width =
    object (member (codes "cursor") cursor
    (member (codes "height") (number (unsigned height))
    (member (codes "rows") rows
    (member (codes "title") (string title)
    (member (codes "width") (number (unsigned width))
    no_members)))))

abbrev pub screen_data : Screen → Data
screen_data screen =
    screen_object (cursor_data screen.column screen.row screen.visible) (length screen.rows) (rows_data screen.rows)
    screen.title screen.width

abbrev pub json_text : Screen → List ℕ
json_text screen = compact_text (screen_data screen)
