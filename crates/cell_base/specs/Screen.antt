-- Screens, and putting a cluster on one.
use Rattle.std.specs.Prelude.{◌≡◌, ℕ, ◌+◌, ◌<◌, ◌≤◌, Bool, true, ◌&&◌, nat_lt, nat_le, ◌==◌, List, [], ◌∷◌, ◌++◌}
use Rattle.std.specs.Prelude.{length, drop, replicate, fold, All, slice_index_or, slice_set, if◌then◌else◌}
use Rattle.std.specs.List.{flat_map}
use Rattle.cell_base.specs.Attributes.{Attributes, plain}
use Rattle.cell_base.specs.Cluster.{clusters}
use Rattle.cell_base.specs.Row.{Row, space, plain_row, columns_of, set_columns, row_text}

-- Rows of `width` columns, the cursor's column and row counted from 0, whether it is shown, the pen's attributes, and
-- the title, a text. At column `width` a wrap is pending.
pub record Screen : Type 0 where
  pub width : ℕ
  pub rows : List Row
  pub column : ℕ
  pub row : ℕ
  pub visible : Bool
  pub pen : Attributes
  pub title : List ℕ

-- the invariant of every screen
pub record IsScreen (screen : Screen) : Type 0 where
  pub wide_enough : 0 < screen.width
  pub even : All (λ row. length row ≡ screen.width) screen.rows
  pub column_in : screen.column ≤ screen.width
  pub row_in : screen.row < length screen.rows

abbrev pub height : Screen → ℕ
height screen = length screen.rows

-- plain blanks, with the cursor at home and no title
abbrev pub new_screen : ℕ → ℕ → Screen
new_screen width height =
    record {
      width = width;
      rows = replicate height (plain_row width);
      column = 0;
      row = 0;
      visible = true;
      pen = plain;
      title = [];
    }

-- drops the first row, and adds a plain one below
abbrev pub scrolled : Screen → Screen
scrolled screen = record screen { rows = drop 1 screen.rows ++ plain_row screen.width ∷ [] }

-- moves the cursor to the next row, and scrolls in the last one; the column is kept
abbrev pub line_feed : Screen → Screen
line_feed screen = if screen.row + 1 == height screen then scrolled screen else record screen { row = screen.row + 1 }

abbrev pub carriage_return : Screen → Screen
carriage_return screen = record screen { column = 0 }

-- `columns` replace those from the cursor on, and the cursor moves to the column after them
abbrev pub write_columns : Row → Screen → Screen
write_columns columns screen = record screen {
  rows =
      slice_set screen.rows screen.row (set_columns (slice_index_or screen.rows screen.row []) screen.column columns);
  column = screen.column + length columns;
}

-- the columns of a cluster: on a screen of one column a wide cluster is a space
abbrev pub cluster_columns : (List ℕ → ℕ) → Screen → List ℕ → Row
cluster_columns width_of screen cluster =
    let wide = nat_le 2 (width_of cluster) in
    let narrow_screen = screen.width == 1 in
    columns_of (if wide && narrow_screen then space else cluster) (wide && nat_lt 1 screen.width) screen.pen

-- Puts a cluster at the cursor. A cluster that doesn't fit in the row goes to the start of the next one.
abbrev pub put : (List ℕ → ℕ) → Screen → List ℕ → Screen
put width_of screen cluster =
    let columns = cluster_columns width_of screen cluster in
    write_columns columns
    (if nat_lt screen.width (screen.column + length columns) then carriage_return (line_feed screen) else screen)

-- puts each cluster of a run
abbrev pub put_run : (List ℕ → ℕ) → Screen → List ℕ → Screen
put_run width_of screen text = fold (put width_of) screen (clusters text)

-- the rows as a text, each with a line feed after it
abbrev pub screen_text : Screen → List ℕ
screen_text screen = flat_map (λ row. row_text row ++ 10 ∷ []) screen.rows
