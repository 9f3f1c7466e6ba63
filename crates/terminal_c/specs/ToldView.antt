-- What a row that is being told holds, and one that was told.
use Rattle.std.specs.Prelude.{◌≡◌, List}
use Rattle.std.specs.Option.{option_map}
use Rattle.cell_edits.specs.VisibleCells.{VisibleCell}
use Rattle.terminal_c.specs.Told.{Told, told}
use Rattle.terminal_c.specs.declared.told.Row.{Row}
use Rattle.terminal_c.specs.declared.told.Telling.TheInside.{Inside}

abbrev pub told_of : Inside → Told
told_of t = record {
  cells = t.row.cells.items;
  text = t.row.text.items;
  links = t.row.links.items;
  last = option_map (λ a. a.now) t.last;
  face = t.face;
}

-- all of these cells were told
pub record IsTold (cells : List VisibleCell) (row : Row) : Type 0 where
  pub cells_told : row.cells.items ≡ (told cells).cells
  pub text_told : row.text.items ≡ (told cells).text
  pub links_told : row.links.items ≡ (told cells).links
