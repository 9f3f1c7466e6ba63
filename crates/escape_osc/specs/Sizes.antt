-- How many bytes the text of a command has besides the text or the link that it carries.
use Rattle.std.specs.Prelude.{◌≡◌, ℕ, ◌+◌, ◌-◌, ◌*◌, ◌/◌, ◌^◌, ◌≤◌, List, length, Some, None}
use Rattle.cell_base.specs.Link.{Link}
use Rattle.cell_base.specs.LinkText.{params_text}
use Rattle.escape_osc.specs.Command.{set_icon_name_and_window_title, set_icon_name, set_window_title}
use Rattle.escape_osc.specs.Command.{current_working_directory, set_hyperlink, set_selection, query_selection}
use Rattle.escape_osc.specs.Command.{clear_selection}
use Rattle.escape_osc.specs.Text.{text_of}

-- ESC ], a code of one digit, `;`, the text, ESC \
pub record TextsTakeSix (text : List ℕ) : Type 0 where
  pub icon_name_and_title : length (text_of (set_icon_name_and_window_title text)) ≡ length text + 6
  pub icon_name : length (text_of (set_icon_name text)) ≡ length text + 6
  pub title : length (text_of (set_window_title text)) ≡ length text + 6
  pub directory : length (text_of (current_working_directory text)) ≡ length text + 6

-- ESC ], `8;`, the parameters, `;`, the URI, ESC \
abbrev pub LinksTakeSeven : Type 0
LinksTakeSeven =
    (link : Link)
    → length (text_of (set_hyperlink (Some link))) ≡ length (params_text link.params) + length link.uri + 7

abbrev pub EndOfLinkTakesSeven : Type 0
EndOfLinkTakesSeven = length (text_of (set_hyperlink None)) ≡ 7

-- how many symbols of base64 a text of `count` bytes takes: four for each three bytes, also for one or two at the end
abbrev pub base64_length : ℕ → ℕ
base64_length count = (count + 2) / 3 * 4

-- ESC ], `52;`, at most thirteen letters, `;?` or nothing or `;` and base64, ESC \
pub record SelectionsAreShort (bits : ℕ) (text : List ℕ) : Type 0 where
  pub query : length (text_of (query_selection bits)) ≤ 22
  pub clear : length (text_of (clear_selection bits)) ≤ 20
  pub set : length (text_of (set_selection bits text)) ≤ base64_length (length text) + 21

-- every selection
abbrev pub all_selections : ℕ
all_selections = 2 ^ 14 - 2

-- with all thirteen letters the bounds are reached
pub record AllSelectionsTakeMost (text : List ℕ) : Type 0 where
  pub query : length (text_of (query_selection all_selections)) ≡ 22
  pub clear : length (text_of (clear_selection all_selections)) ≡ 20
  pub set : length (text_of (set_selection all_selections text)) ≡ base64_length (length text) + 21
