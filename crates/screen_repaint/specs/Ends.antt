-- How rows end: the blanks of one background after the other cells.
use Rattle.std.specs.Prelude.{◌≡◌, ℕ, ◌+◌, ◌<◌, Bool, true, false, ◌&&◌, ◌==◌, List, [], ◌∷◌, length, fold, Option}
use Rattle.std.specs.Prelude.{Some, None, if◌then◌else◌}
use Rattle.std.specs.List.{list_all, suffix_len}
use Rattle.std.specs.Str.{bytes_eq}
use Rattle.cell_base.specs.Attributes.{Attributes}
use Rattle.cell_base.specs.CellContent.{CellContent}
use Rattle.cell_base.specs.Row.{space}
use Rattle.cell_base.specs.SameAttributes.{same_attributes}
use Rattle.screen_change.specs.CellRuns.{is_blank_of}
use Rattle.cell_edits.specs.VisibleCells.{VisibleCell, contents}

-- how many cells there are, how many of them come before the blanks of one background at the end, and the attributes
-- of these blanks
pub record End : Type 0 where
  pub cells : ℕ
  pub kept : ℕ
  pub blanks : Option Attributes

abbrev pub no_cells : End
no_cells = record { cells = 0; kept = 0; blanks = None }

-- whether there are blanks of these attributes at the end
abbrev pub ends_in : Option Attributes → Attributes → Bool
ends_in None attributes = false
ends_in (Some blanks) attributes = same_attributes blanks attributes

-- the end of a row with one cell more
abbrev pub with_cell : End → CellContent → End
with_cell end cell =
    if is_blank_of cell.attributes.background cell then
    (if ends_in end.blanks cell.attributes then record end { cells = end.cells + 1 }
    else record { cells = end.cells + 1; kept = end.cells; blanks = Some cell.attributes })
    else record { cells = end.cells + 1; kept = end.cells + 1; blanks = None }

-- adds `count` cells that are no blanks
abbrev pub with_filled : ℕ → End → End
with_filled count end =
    if count == 0 then end else record { cells = end.cells + count; kept = end.cells + count; blanks = None }

-- adds `count` blanks with these attributes
abbrev pub with_blanks : ℕ → Attributes → End → End
with_blanks count attributes end =
    if count == 0 then end else (if ends_in end.blanks attributes then record end { cells = end.cells + count }
    else record { cells = end.cells + count; kept = end.cells; blanks = Some attributes })

-- a character in a column of its own
abbrev pub plain_cell : ℕ → Attributes → CellContent
plain_cell byte attributes = record { text = byte ∷ []; width = 1; attributes = attributes }

-- how many blanks there are at the end of a text's cells, one for each byte, all with these attributes
abbrev pub blanks_at_end : List ℕ → Attributes → ℕ
blanks_at_end text attributes = suffix_len (λ byte. is_blank_of attributes.background (plain_cell byte attributes)) text

abbrev pub end_of : List CellContent → End
end_of cells = fold with_cell no_cells cells

-- whether all cells are spaces with these attributes
abbrev pub are_blanks_with : Attributes → List CellContent → Bool
are_blanks_with attributes cells =
    list_all (λ cell. bytes_eq cell.text space && same_attributes cell.attributes attributes) cells

-- some of the remaining cells are passed, if there are any: the new end with the rest is the old end with all of them
pub record PassesOn (old : End) (left : List VisibleCell) (new : End) (rest : List VisibleCell) (any : Bool) : Type 0
  where
    pub same : fold with_cell new (contents rest) ≡ fold with_cell old (contents left)
    pub count : new.cells + length rest ≡ old.cells + length left
    pub fewer : any ≡ true → length rest < length left
    pub none : any ≡ false → rest ≡ []

-- some of the cells that are left are passed, and whether they are spaces with these attributes
pub record PassesSpaces (attributes : Attributes) (left rest : List VisibleCell) (are : Bool) : Type 0 where
  pub same : (are && are_blanks_with attributes (contents rest)) ≡ are_blanks_with attributes (contents left)
  pub fewer : length rest < length left

-- how many elements there are after the last one that fails a test; `all` where each passes
abbrev pub passing_at_end : {A : Type 0} → (A → Bool) → ℕ → List A → ℕ
passing_at_end test all [] = all
passing_at_end test all (x ∷ xs) = passing_at_end test (if test x then all else length xs) xs
