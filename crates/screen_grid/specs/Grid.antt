-- A display that is kept as lines.
use Rattle.std.specs.Prelude.{◌≡◌, ℕ, ◌+◌, ◌≤◌, Bool, true, fold, length, List, [], Option, map, All, slice_index_or}
use Rattle.std.specs.Prelude.{slice_set}
use Rattle.cell_base.specs.declared.attributes.CursorShape.{CursorShape}
use Rattle.cell_base.specs.Attributes.{Attributes}
use Rattle.cell_base.specs.Row.{Row, set_columns}
use Rattle.cell_line.specs.LineContent.{LineContent, IsClustered, line_of}
use Rattle.cell_base.specs.Screen.{cluster_columns}
use Rattle.screen_effects.specs.Display.{Display, IsDisplay}
use Rattle.screen_effects.specs.Strokes.{Cluster, stroke_done}
use Rattle.screen_effects.specs.Parts.{stand}

-- the width values, the columns of a row, a line for each row, the cursor's column, row, visibility and shape, the pen
-- and the title
pub record Grid (W : Type 0) : Type 0 where
  pub widths : W
  pub width : ℕ
  pub lines : List LineContent
  pub column : ℕ
  pub row : ℕ
  pub visible : Bool
  pub shape : Option CursorShape
  pub pen : Attributes
  pub title : List ℕ

-- the display that it shows
abbrev pub display_of : {W : Type 0} → Grid W → Display
display_of c = record {
  screen =
      record {
        width = c.width;
        rows = map (λ l. l.columns) c.lines;
        column = c.column;
        row = c.row;
        visible = c.visible;
        pen = c.pen;
        title = c.title;
      };
  sizes = map (λ l. l.bits) c.lines;
  shape = c.shape;
}

-- a row's line has no number, and is kept as one text and runs
abbrev pub IsRow : LineContent → Type 0
IsRow line = (line.number ≡ 0) × IsClustered line

-- the display is lawful, and so are the lines
pub record IsDrawn {W : Type 0} (grid : Grid W) : Type 0 where
  pub lawful : IsDisplay (display_of grid)
  pub rows : All IsRow grid.lines

-- the grid after a call that makes its display `display`
pub record Shows {W : Type 0} (before after : Grid W) (display : Display) : Type 0 where
  pub same : display_of after ≡ display
  pub widths : after.widths ≡ before.widths
  pub drawn : IsDrawn after

-- the line of a row, counted from 0
abbrev pub line_at : List LineContent → ℕ → LineContent
line_at lines row = slice_index_or lines row (line_of 0 [])

-- the cursor's line with these columns from the cursor on
abbrev pub line_with : {W : Type 0} → Grid W → Row → LineContent
line_with c columns =
    record (line_at c.lines c.row) { columns = set_columns (line_at c.lines c.row).columns c.column columns }

-- the grid with these columns from the cursor on, and with the cursor after them
abbrev pub grid_with : {W : Type 0} → Grid W → Row → ℕ → Grid W
grid_with c columns count =
    record c { lines = slice_set c.lines c.row (line_with c columns); column = c.column + count }

-- `after` is `before` after a cluster is put, for each cluster that has these columns
abbrev pub Puts : {W : Type 0} → (List ℕ → ℕ) → Grid W → Grid W → Row → Type 0
Puts width_of before after columns =
    (cluster : List ℕ) → cluster_columns width_of (display_of before).screen cluster ≡ columns
    → Shows before after (stroke_done width_of (display_of before) (Cluster cluster))

-- the clusters are put one after another
abbrev pub clusters_done : (List ℕ → ℕ) → Display → List (List ℕ) → Display
clusters_done width_of display clusters = fold (stroke_done width_of) display (map Cluster clusters)

-- some clusters were put: on the grid after them `left` gives the same display as `all` on the grid before
pub record LeadsOn {W : Type 0} (width_of : List ℕ → ℕ) (before after : Grid W) (all left : List (List ℕ)) : Type 0
  where
    pub same : clusters_done width_of (display_of after) left ≡ clusters_done width_of (display_of before) all
    pub widths : after.widths ≡ before.widths
    pub drawn : IsDrawn after
    pub stands : stand left ≡ true
    pub fewer : length left ≤ length all
