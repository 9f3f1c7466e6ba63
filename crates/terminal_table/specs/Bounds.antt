-- How much a plain stream prints at least.
use Rattle.std.specs.Prelude.{ℕ, ◌*◌, ◌≤◌, Bool, true, false, IsTrue, All, List, length}
use Rattle.std.specs.List.{list_all}
use Rattle.cell_base.specs.Row.{Column, Narrow, LeftHalf, RightHalf}
use Rattle.cell_base.specs.Screen.{Screen}
use Rattle.screen_difference.specs.FreshCells.{screen_fresh}
use Rattle.terminal_table.specs.Prints.{IsPlain, prints, read}
use Rattle.terminal_table.specs.Meaning.{View, after}
use Rattle.terminal_table.specs.Turns.{IsView}

-- how many visible cells are on the screen after a stream that the screen before it didn't show: fresh cells
abbrev pub fresh_after : (List ℕ → ℕ) → View → List ℕ → ℕ
fresh_after width_of view bytes =
    length (screen_fresh view.state.screen (after width_of view (read bytes)).state.screen)

-- a plain stream prints at least a third as many texts as there are fresh cells: each text makes at most three fresh
-- cells, its own and a blank on each side
abbrev pub PlainStreamsPrintAThird : Type 0
PlainStreamsPrintAThird =
    (width_of : List ℕ → ℕ) (view : View) (bytes : List ℕ) → IsView width_of view → IsPlain width_of view bytes
    → fresh_after width_of view bytes ≤ 3 * length (prints width_of view bytes)

-- no column of the screen is half of a wide text
abbrev pub is_narrow : Column → Bool
is_narrow (Narrow text attributes) = true
is_narrow (LeftHalf text attributes) = false
is_narrow (RightHalf attributes) = false

abbrev pub IsNarrow : Screen → Type 0
IsNarrow screen = All (λ row. IsTrue (list_all is_narrow row)) screen.rows

-- a plain stream prints at least as many texts as there are fresh cells, if the screen before it has no wide text and
-- the stream prints none
abbrev pub NarrowStreamsPrintAsMany : Type 0
NarrowStreamsPrintAsMany =
    (width_of : List ℕ → ℕ) (view : View) (bytes : List ℕ) → IsView width_of view → IsPlain width_of view bytes
    → IsNarrow view.state.screen
    → All (λ p. width_of p.text ≤ 1) (prints width_of view bytes)
    → fresh_after width_of view bytes ≤ length (prints width_of view bytes)
