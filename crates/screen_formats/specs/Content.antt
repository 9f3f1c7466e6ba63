-- The text content of HTML or XML: its tags are skipped.
use Rattle.std.specs.Prelude.{◌≡◌, ◌==◌, ⊤, ℕ, Bool, true, false, List, [], ◌∷◌, ◌++◌, Option, if◌then◌else◌}
use Rattle.std.specs.List.{flat_map, list_any}
use Rattle.cell_base.specs.Row.{Row}
use Rattle.cell_base.specs.Screen.{Screen}
use Rattle.cell_edits.specs.VisibleCells.{visible_cells}
use Rattle.screen_formats.specs.Escape.{held_text, unescaped}
use Rattle.screen_formats.specs.Tokens.{Attribute, Token, Opening, Closing, Words}
use Rattle.screen_formats.specs.Runs.{runs_of}
use Rattle.screen_formats.specs.declared.escape.Markup.{Markup}
use Rattle.screen_formats.specs.declared.escape.Markup.TheVariants.{Html, Xml}

-- the text without the bytes from a `<` to the next `>`
abbrev pub untagged : Bool → List ℕ → List ℕ
untagged in_tag [] = []
untagged true (b ∷ text) = if b == 62 then untagged false text else untagged true text
untagged false (b ∷ text) = if b == 60 then untagged true text else b ∷ untagged false text

abbrev pub content : List ℕ → Option (List ℕ)
content text = unescaped (untagged false text)

-- the text content of tokens
abbrev pub token_content : Markup → Token → List ℕ
token_content markup (Opening name attributes) = []
token_content markup (Closing name) = []
token_content markup (Words text) = held_text markup text

abbrev pub tokens_content : Markup → List Token → List ℕ
tokens_content markup tokens = flat_map (token_content markup) tokens

-- ---- names that end no tag

abbrev pub is_end : ℕ → Bool
is_end b = b == 62

abbrev pub AreNamed : List Attribute → Type 0
AreNamed [] = ⊤
AreNamed (a ∷ attributes) = (list_any is_end a.0 ≡ false) × AreNamed attributes

abbrev pub IsNamed : Token → Type 0
IsNamed (Opening name attributes) = (list_any is_end name ≡ false) × AreNamed attributes
IsNamed (Closing name) = list_any is_end name ≡ false
IsNamed (Words text) = ⊤

abbrev pub AreTagged : List Token → Type 0
AreTagged [] = ⊤
AreTagged (token ∷ tokens) = IsNamed token × AreTagged tokens

-- ---- screens

-- the texts of the visible cells of a row, as the markup can hold them
abbrev pub row_content : Markup → Row → List ℕ
row_content markup row = flat_map (λ run. held_text markup run.text) (runs_of (visible_cells row))

-- the text content of a screen as HTML: its rows, each with a line feed, and a line feed after the screen
abbrev pub html_content : Screen → List ℕ
html_content screen = flat_map (λ row. row_content Html row ++ 10 ∷ []) screen.rows ++ 10 ∷ []

-- the text content of a screen as SVG: its title and its rows, and a line feed after the screen
abbrev pub svg_content : Screen → List ℕ
svg_content screen = held_text Xml screen.title ++ (flat_map (row_content Xml) screen.rows ++ 10 ∷ [])
