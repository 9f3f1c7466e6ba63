-- What `show` and `show_on` write of an input.
use Rattle.std.specs.Prelude.{◌≡◌, ℕ, List, [], ◌∷◌, ◌++◌, Option}
use Rattle.std.specs.Io.KnownBytes.{Appends}
use Rattle.cell_base.specs.Screen.{screen_text}
use Rattle.terminal_table.specs.History.{Piece, Look}
use Rattle.terminal_table.specs.Meaning.{meaning}

-- the rows of the input with one look at the end, each with a line feed after it
abbrev pub rows_shown : (List ℕ → ℕ) → ℕ → ℕ → List ℕ → List ℕ
rows_shown width_of width height input =
    screen_text (meaning width_of width height (Piece input ∷ Look ∷ [])).state.screen

-- the bytes that were appended to the writer's contents are a prefix of `bytes`, which may be all of them
pub record AppendsPrefix (old new : Option (List ℕ)) (bytes : List ℕ) : Type 0 where
  pub written : List ℕ
  pub remaining : List ℕ
  pub whole : bytes ≡ written ++ remaining
  pub appends : Appends old new written
