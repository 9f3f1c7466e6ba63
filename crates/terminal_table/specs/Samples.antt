-- The rows, the cursor, the replies and the log of a terminal, for worked examples.
use Rattle.std.specs.Prelude.{ℕ, List, [], ◌∷◌, ◌++◌, map, slice_index_or}
use Rattle.cell_base.specs.Cluster.{program_width}
use Rattle.cell_base.specs.declared.attributes.Position.TheVariants.{Absolute}
use Rattle.cell_base.specs.Attributes.{plain}
use Rattle.cell_base.specs.Row.{Column, blank, row_text}
use Rattle.cell_base.specs.Screen.{Screen}
use Rattle.screen_change.specs.ChangeValue.{ChangeValue, CursorPosition}
use Rattle.terminal_table.specs.History.{History, Piece, Look}
use Rattle.terminal_table.specs.Meaning.{meaning}
use Rattle.terminal_table.specs.Logged.{log_of}

-- the text of each row, the cursor's column and row, and the log's number
pub record Seen : Type 0 where
  pub rows : List (List ℕ)
  pub column : ℕ
  pub row : ℕ
  pub number : ℕ

abbrev pub seen : ℕ → ℕ → History → Seen
seen width height history =
    let screen = (meaning program_width width height history).state.screen in
    record {
      rows = map row_text screen.rows;
      column = screen.column;
      row = screen.row;
      number = (log_of program_width width height history).log.number;
    }

-- the screen, the replies, and the changes that were logged
abbrev pub screen_after : ℕ → ℕ → History → Screen
screen_after width height history = (meaning program_width width height history).state.screen

abbrev pub replies_after : ℕ → ℕ → History → List ℕ
replies_after width height history = (meaning program_width width height history).state.replies

abbrev pub logged_after : ℕ → ℕ → History → List ChangeValue
logged_after width height history = (log_of program_width width height history).log.entries

-- the first column
abbrev pub first_column : Screen → Column
first_column screen = slice_index_or (slice_index_or screen.rows 0 []) 0 (blank plain)

-- some bytes and a look; and the same byte by byte
abbrev pub shown : List ℕ → History
shown bytes = Piece bytes ∷ Look ∷ []

abbrev pub shown_by_byte : List ℕ → History
shown_by_byte bytes = map (λ b. Piece (b ∷ [])) bytes ++ Look ∷ []

-- bytes after ESC, after ESC [, and between ESC ] and ESC \
abbrev pub escape : List ℕ → List ℕ
escape bytes = 27 ∷ bytes

abbrev pub csi : List ℕ → List ℕ
csi bytes = 27 ∷ 91 ∷ bytes

abbrev pub osc : List ℕ → List ℕ
osc bytes = 27 ∷ 93 ∷ bytes ++ 27 ∷ 92 ∷ []

-- a position by column and row
abbrev pub at : ℕ → ℕ → ChangeValue
at column row = CursorPosition (Absolute column) (Absolute row)

-- an acute accent that joins the letter before it
abbrev pub acute : List ℕ
acute = 0xCC ∷ 0x81 ∷ []

-- か, of two columns
abbrev pub wide_letter : List ℕ
wide_letter = 0xE3 ∷ 0x81 ∷ 0x8B ∷ []
