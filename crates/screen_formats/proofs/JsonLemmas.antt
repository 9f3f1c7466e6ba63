-- The JSON of a screen has no float, and reads back.
use Rattle.std.proofs.Common.{◌≡◌, ◌≤◌, ℕ, suc, ◌∷◌, [], false, List, map, refl, arith}
use Rattle.std.specs.Prelude.{◌||◌, max}
use Rattle.cell_base.specs.Attributes.{Attributes}
use Rattle.cell_base.specs.Row.{Row}
use Rattle.cell_base.specs.Screen.{Screen}
use Rattle.cell_edits.specs.VisibleCells.{visible_cells}
use Rattle.serde_json.specs.Data.{Data, depth, items_depth}
use Rattle.serde_json.specs.View.{items_of}
use Rattle.serde_json.specs.Read.{max_depth}
use Rattle.serde_json.specs.Written.{has_float, items_have_float}
use Rattle.screen_formats.specs.Json.{attributes_data, colors_data, cursor_data, row_data, rows_data, run_data, screen_data, screen_object}
use Rattle.screen_formats.specs.Runs.{Run, runs_of}

colors_plain : (a : Attributes) → has_float (colors_data a) ≡ false
unfolding colors_data
colors_plain a = refl

attributes_plain : (a : Attributes) → has_float (attributes_data a) ≡ false
unfolding attributes_data
attributes_plain a = λ i. colors_plain a i || (false || (false || (false || (false || false))))

run_plain : (run : Run) → has_float (run_data run) ≡ false
unfolding run_data
run_plain run = λ i. attributes_plain run.attributes i || (false || (false || (false || (false || false))))

items_plain : {A : Type 0} (f : A → Data) → ((x : A) → has_float (f x) ≡ false) → (xs : List A) → items_have_float (items_of (map f xs)) ≡ false
items_plain f plain [] = refl
items_plain f plain (x ∷ xs) = λ i. plain x i || items_plain f plain xs i

row_plain : (row : Row) → has_float (row_data row) ≡ false
unfolding row_data
row_plain row = items_plain run_data run_plain (runs_of (visible_cells row))

rows_plain : (rows : List Row) → has_float (rows_data rows) ≡ false
unfolding rows_data
rows_plain rows = items_plain row_data row_plain rows

pub screen_plain : (screen : Screen) → has_float (screen_data screen) ≡ false
unfolding screen_object cursor_data
screen_plain screen = λ i. (false || (false || (false || false))) || (false || (rows_plain screen.rows i || (false || (false || false))))

-- ---- its depth

colors_depth : (a : Attributes) → depth (colors_data a) ≡ 1
unfolding colors_data
colors_depth a = refl

attributes_depth : (a : Attributes) → depth (attributes_data a) ≡ 2
unfolding attributes_data
attributes_depth a = λ i. suc (max (colors_depth a i) 0)

run_depth : (run : Run) → depth (run_data run) ≡ 3
unfolding run_data
run_depth run = λ i. suc (max (attributes_depth run.attributes i) 0)

items_shallow : {A : Type 0} (f : A → Data) (most : ℕ) → ((x : A) → depth (f x) ≤ most) → (xs : List A) → items_depth (items_of (map f xs)) ≤ most
items_shallow f most each [] = omega arith
items_shallow f most each (x ∷ xs) = omega (arith, each x, items_shallow f most each xs)

row_shallow : (row : Row) → depth (row_data row) ≤ 4
unfolding row_data
row_shallow row = omega (arith, items_shallow run_data 3 (λ run. omega (arith, run_depth run)) (runs_of (visible_cells row)))

rows_shallow : (rows : List Row) → depth (rows_data rows) ≤ 5
unfolding rows_data
rows_shallow rows = omega (arith, items_shallow row_data 4 row_shallow rows)

pub screen_shallow : (screen : Screen) → depth (screen_data screen) ≤ max_depth
unfolding screen_object cursor_data
screen_shallow screen = omega (arith, rows_shallow screen.rows)
