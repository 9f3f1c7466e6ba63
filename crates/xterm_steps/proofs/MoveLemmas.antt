-- Rows that move: the lists that make them, and what is logged.
use Rattle.std.proofs.Common.{◌≡◌, ℕ, zero, suc, ◌+◌, ◌-◌, ◌<◌, ◌≤◌, false, List, [], ◌∷◌, ◌++◌, length, get_or, take, drop, map, replicate, refl, sym, ap, ◌∙◌, arith, append-nil, append_assoc}
use Rattle.std.specs.Prelude.{All, ◌==◌, min, nat_le, Option, Some, None, if◌then◌else◌}
use Rattle.std.specs.List.{drop-map, take-map}
use Rattle.std.proofs.lemmas.Bool.Decides.{nat_tests}
use Rattle.std.proofs.lemmas.List.{drop-drop, drop-take, drop_all, length-drop, length-map, length-take, map-append, take_all}
use Rattle.cell_base.specs.declared.attributes.Position.TheVariants.{Absolute}
use Rattle.cell_base.specs.Attributes.{Attributes}
use Rattle.cell_base.specs.Row.{Row}
use Rattle.cell_base.specs.Screen.{Screen, height}
use Rattle.cell_edits.specs.VisibleCells.{VisibleCell}
use Rattle.cell_edits.proofs.CutLemmas.{take_less}
use Rattle.screen_change.proofs.TextLemmas.{by_test}
use Rattle.screen_change.specs.ChangeValue.{ChangeValue, AllAttributes, CursorPosition}
use Rattle.screen_difference.specs.Difference.{difference}
use Rattle.screen_difference.specs.FreshCells.{lines_fresh, row_fresh, rows_fresh, screen_fresh}
use Rattle.screen_effects.specs.Effect.{cursor_row}
use Rattle.screen_effects.specs.Regions.{in_region, moved_down, moved_up}
use Rattle.terminal_table.specs.Led.{last_cell, led, position_and_pen, written_again}
use Rattle.xterm_steps.specs.Place.{cell_again, place_and_pen}
use Rattle.xterm_steps.proofs.AddLemmas.{same_sight}
use Rattle.xterm_steps.proofs.BlockLemmas.{block_led, same_rows}

-- ---- what is logged

again_is : (s : Screen) (cell : Option VisibleCell) → written_again s cell ≡ cell_again s.row s.pen cell
again_is s None = refl
again_is s (Some v) = refl

place_is : (s : Screen) → position_and_pen s ≡ place_and_pen s.width s.column s.row s.pen (cursor_row s)
place_is s = λ i. if s.column == s.width then again_is s (last_cell (cursor_row s)) i else CursorPosition (Absolute s.column) (Absolute s.row) ∷ AllAttributes s.pen ∷ []

-- the difference of all rows, the cursor's place, and a pen
pub screen_led : (s : Screen) (rows : List Row) (column row : ℕ) (pen : Attributes) → length rows ≡ height s → All (λ row. length row ≡ s.width) rows
    → led s (record s { rows = rows; column = column; row = row; pen = pen }) ≡ difference (lines_fresh s.rows 0 rows) ++ place_and_pen s.width column row pen (get_or rows row [])
screen_led s rows column row pen tall even =
    let new : Screen = record s { rows = rows; column = column; row = row; pen = pen } in
    let all : drop (length rows) s.rows ≡ [] = drop_all (length rows) s.rows (omega (arith, tall)) in
    let is : rows ≡ take 0 s.rows ++ (rows ++ drop (length rows) (drop 0 s.rows)) = sym (ap (λ (rest : List Row). rows ++ rest) all ∙ append-nil rows) in
    let moves : List ChangeValue = place_and_pen s.width column row pen (get_or rows row []) in
    (λ i. difference (block_led s new 0 rows (omega (arith, tall)) even is i) ++ place_is new i ++ same_sight s.visible i)
    ∙ append-nil (difference (lines_fresh s.rows 0 rows) ++ moves)

-- the cursor's row and the pen stay
pub rows_led : (s : Screen) (rows : List Row) (column : ℕ) → length rows ≡ height s → All (λ row. length row ≡ s.width) rows
    → led s (record s { rows = rows; column = column }) ≡ difference (lines_fresh s.rows 0 rows) ++ place_and_pen s.width column s.row s.pen (get_or rows s.row [])
rows_led s rows column tall even = screen_led s rows column s.row s.pen tall even

-- the rows stay
pub cursor_led : (s : Screen) (column row : ℕ) (pen : Attributes) → led s (record s { column = column; row = row; pen = pen }) ≡ place_and_pen s.width column row pen (get_or s.rows row [])
cursor_led s column row pen =
    let new : Screen = record s { column = column; row = row; pen = pen } in
    let none : screen_fresh s new ≡ [] = (λ i. rows_fresh (row_fresh 0 0 s.width) 0 (take_all (height s) s.rows (omega arith) i) s.rows) ∙ same_rows s.width 0 s.rows in
    let moves : List ChangeValue = place_and_pen s.width column row pen (get_or s.rows row []) in
    (λ i. difference (none i) ++ place_is new i ++ same_sight s.visible i)
    ∙ append-nil moves

-- no wrap is pending
pub place_led : (s : Screen) (column row : ℕ) → column < s.width → led s (record s { column = column; row = row }) ≡ CursorPosition (Absolute column) (Absolute row) ∷ AllAttributes s.pen ∷ []
place_led s column row h =
    let new : Screen = record s { column = column; row = row } in
    let before : (column == s.width) ≡ false = grind (arith, nat_tests) in
    let none : screen_fresh s new ≡ [] = (λ i. rows_fresh (row_fresh 0 0 s.width) 0 (take_all (height s) s.rows (omega arith) i) s.rows) ∙ same_rows s.width 0 s.rows in
    let moves : List ChangeValue = CursorPosition (Absolute column) (Absolute row) ∷ AllAttributes s.pen ∷ [] in
    (λ i. difference (none i) ++ (if before i then written_again new (last_cell (cursor_row new)) else moves) ++ same_sight s.visible i)
    ∙ append-nil moves

-- ---- lists in parts

pub up_parts : {X : Type 0} (new : X) (count first size : ℕ) (xs : List X) → first + size ≤ length xs → count ≤ size
    → take first xs ++ take (first + size - (first + count)) (drop (first + count) xs) ++ replicate count new ++ drop (first + size) xs ≡ in_region (moved_up new count) first size xs
up_parts new count first size xs h k =
    let part : List _ = take size (drop first xs) in
    let less : first + size - (first + count) ≡ size - count = omega arith in
    let whole : count + (size - count) ≡ size = omega arith in
    let moved : take (first + size - (first + count)) (drop (first + count) xs) ≡ drop count part =
    (λ i. take (less i) (sym (drop-drop count first xs) i)) ∙ sym (drop-take count (size - count) (drop first xs)) ∙ ap (λ n. drop count (take n (drop first xs))) whole in
    let a = length-take size (drop first xs) in
    let b = length-drop first xs in
    let come : count ≡ min count (length part) = omega arith in
    (λ i. take first xs ++ moved i ++ replicate (come i) new ++ drop (first + size) xs)
    ∙ ap (λ (rows : List _). rows ++ drop (first + size) xs) (append_assoc (take first xs) (drop count part) (replicate (min count (length part)) new))

pub down_parts : {X : Type 0} (new : X) (count first size : ℕ) (xs : List X) → first + size ≤ length xs → count ≤ size
    → take first xs ++ replicate count new ++ take (first + (size - count) - first) (drop first xs) ++ drop (first + size) xs ≡ in_region (moved_down new count) first size xs
down_parts new count first size xs h k =
    let part : List _ = take size (drop first xs) in
    let a = length-take size (drop first xs) in
    let b = length-drop first xs in
    let left : first + (size - count) - first ≡ length part - count = omega arith in
    let moved : take (first + (size - count) - first) (drop first xs) ≡ take (length part - count) part =
    ap (λ n. take n (drop first xs)) left ∙ sym (take_less (length part - count) size (drop first xs) (omega arith)) in
    let come : count ≡ min count (length part) = omega arith in
    (λ i. take first xs ++ replicate (come i) new ++ moved i ++ drop (first + size) xs)
    ∙ ap (λ (rows : List _). rows ++ drop (first + size) xs) (append_assoc (take first xs) (replicate (min count (length part)) new) (take (length part - count) part))

-- ---- more rows than there are

drop_less : {X : Type 0} (count size : ℕ) (xs : List X) → length xs ≤ size → drop (min count size) xs ≡ drop count xs
drop_less count size xs h =
    by_test (nat_le count size)
    (λ e. let same : min count size ≡ count = grind (arith, nat_tests) in ap (λ n. drop n xs) same)
    (λ e. let over : size < count = grind (arith, nat_tests) in drop_all (min count size) xs (omega arith) ∙ sym (drop_all count xs (omega arith)))

pub up_less : {X : Type 0} (new : X) (count first size : ℕ) (xs : List X) → first + size ≤ length xs → in_region (moved_up new (min count size)) first size xs ≡ in_region (moved_up new count) first size xs
up_less new count first size xs h =
    let part : List _ = take size (drop first xs) in
    let a = length-take size (drop first xs) in
    let b = length-drop first xs in
    let come : min (min count size) (length part) ≡ min count (length part) = omega arith in
    λ i. take first xs ++ (drop_less count size part (omega arith) i ++ replicate (come i) new) ++ drop (first + size) xs

pub down_less : {X : Type 0} (new : X) (count first size : ℕ) (xs : List X) → first + size ≤ length xs → in_region (moved_down new (min count size)) first size xs ≡ in_region (moved_down new count) first size xs
down_less new count first size xs h =
    let part : List _ = take size (drop first xs) in
    let a = length-take size (drop first xs) in
    let b = length-drop first xs in
    let come : min (min count size) (length part) ≡ min count (length part) = omega arith in
    let stay : length part - min count size ≡ length part - count = omega arith in
    λ i. take first xs ++ (replicate (come i) new ++ take (stay i) part) ++ drop (first + size) xs

-- ---- the columns of lines that move

map-same : {X Y : Type 0} (f : X → Y) (n : ℕ) (x : X) → map f (replicate n x) ≡ replicate n (f x)
map-same f zero x = refl
map-same f (suc n) x = ap (λ (ys : List _). f x ∷ ys) (map-same f n x)

map-up : {X Y : Type 0} (f : X → Y) (new : X) (count : ℕ) (xs : List X) → map f (moved_up new count xs) ≡ moved_up (f new) count (map f xs)
map-up f new count xs =
    map-append f (drop count xs) (replicate (min count (length xs)) new)
    ∙ (λ i. sym (drop-map f count xs) i ++ (map-same f (min count (length xs)) new ∙ ap (λ n. replicate (min count n) (f new)) (sym (length-map xs f))) i)

map-down : {X Y : Type 0} (f : X → Y) (new : X) (count : ℕ) (xs : List X) → map f (moved_down new count xs) ≡ moved_down (f new) count (map f xs)
map-down f new count xs =
    map-append f (replicate (min count (length xs)) new) (take (length xs - count) xs)
    ∙ (λ i. (map-same f (min count (length xs)) new ∙ ap (λ n. replicate (min count n) (f new)) (sym (length-map xs f))) i
    ++ (sym (take-map f (length xs - count) xs) ∙ ap (λ n. take (n - count) (map f xs)) (sym (length-map xs f))) i)

pub map-region : {X Y : Type 0} (f : X → Y) (change : List X → List X) (changed : List Y → List Y) → ((xs : List X) → map f (change xs) ≡ changed (map f xs)) → (first size : ℕ) (xs : List X)
    → map f (in_region change first size xs) ≡ in_region changed first size (map f xs)
map-region f change changed same first size xs =
    let part : List _ = take size (drop first xs) in
    let here : map f part ≡ take size (drop first (map f xs)) = sym (take-map f size (drop first xs)) ∙ ap (take size) (sym (drop-map f first xs)) in
    map-append f (take first xs ++ change part) (drop (first + size) xs)
    ∙ (λ i. (map-append f (take first xs) (change part) ∙ (λ j. sym (take-map f first xs) j ++ (same part ∙ ap changed here) j)) i ++ sym (drop-map f (first + size) xs) i)

pub map-region_up : {X Y : Type 0} (f : X → Y) (new : X) (count first size : ℕ) (xs : List X) → map f (in_region (moved_up new count) first size xs) ≡ in_region (moved_up (f new) count) first size (map f xs)
map-region_up f new count = map-region f (moved_up new count) (moved_up (f new) count) (map-up f new count)

pub map-region_down : {X Y : Type 0} (f : X → Y) (new : X) (count first size : ℕ) (xs : List X) → map f (in_region (moved_down new count) first size xs) ≡ in_region (moved_down (f new) count) first size (map f xs)
map-region_down f new count = map-region f (moved_down new count) (moved_down (f new) count) (map-down f new count)

-- an element, read through two functions
pub read_twice : {X Y Z : Type 0} (xs : List X) (f : X → Y) (g : Y → Z) (i : ℕ) (d : X) (e : Z) → i < length (map g (map f xs)) → g (f (get_or xs i d)) ≡ get_or (map g (map f xs)) i e
read_twice [] f g i d e h = absurd (omega (arith, h))
read_twice (x ∷ xs) f g zero d e h = refl
read_twice (x ∷ xs) f g (suc i) d e h = read_twice xs f g i d e (omega (arith, h))
