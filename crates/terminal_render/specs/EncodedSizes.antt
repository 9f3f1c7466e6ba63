-- How many bytes encode changes at most, and which texts these bytes print.
use Rattle.std.specs.Prelude.{ℕ, ◌+◌, ◌*◌, ◌≤◌, not, ◌==◌, ◌||◌, IfSome, List, [], ◌∷◌, length, flat_map, sum_by}
use Rattle.std.specs.Prelude.{if◌then◌else◌}
use Rattle.std.specs.List.{AllByRecursion, list_all}
use Rattle.std.specs.Char.{is_ascii_control}
use Rattle.cell_base.specs.Row.{space}
use Rattle.screen_change.specs.ChangeValue.{ChangeValue, Text}
use Rattle.escape_stream.specs.StreamAction.{StreamAction, printed}
use Rattle.escape_stream.specs.StreamText.{stream_text}
use Rattle.terminal_render.specs.Rendering.{rendering}
use Rattle.terminal_render.specs.Sizes.{carried_size}

-- the most bytes that encode a change: for a text twice its length in bytes, or its length and one where it holds no C0
-- control and no DEL; for any other change 320 besides its title, or its link's parameters and URI
abbrev pub encoded_size : ChangeValue → ℕ
encoded_size (Text text) = if list_all (λ b. not (is_ascii_control b)) text then length text + 1 else 2 * length text
encoded_size change = carried_size change + 320

abbrev pub all_encoded_size : List ChangeValue → ℕ
all_encoded_size changes = sum_by encoded_size changes

-- the number of bytes of a change's text, its title, or its link's parameters and URI
abbrev pub own_size : ChangeValue → ℕ
own_size (Text text) = length text
own_size change = carried_size change

-- at most 320 bytes besides `own_size` encode a change for a terminal of a width and a height
abbrev pub IsShort : ℕ → ℕ → ChangeValue → Type 0
IsShort width height change =
    IfSome (rendering change width height) (λ actions. length (stream_text actions) ≤ own_size change + 320)

abbrev pub AreShort : ℕ → ℕ → List ChangeValue → Type 0
AreShort width height = AllByRecursion (IsShort width height)

-- what a byte of a text prints: itself; a C0 control or DEL prints a space, except CR and LF, which print nothing
abbrev pub byte_printed : ℕ → List ℕ
byte_printed byte =
    if is_ascii_control byte then (if byte == 13 || byte == 10 then [] else space)
    else byte ∷ []

-- what a change prints: its text, and any other change nothing
abbrev pub run_in : ChangeValue → List ℕ
run_in (Text text) = flat_map byte_printed text
run_in _ = []

abbrev pub runs_in : List ChangeValue → List ℕ
runs_in changes = flat_map run_in changes

-- what actions print, joined
abbrev pub prints_in : List StreamAction → List ℕ
prints_in actions = flat_map printed actions
