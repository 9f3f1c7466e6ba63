-- The updates of an input: a new terminal takes a look after each chunk of a number of bytes, and one at the end.
use Rattle.std.specs.Prelude.{ℕ, ◌+◌, ◌==◌, List, [], ◌∷◌, ◌++◌, length, if◌then◌else◌}
use Rattle.std.specs.List.{flat_map}
use Rattle.screen_log.specs.Log.{most_due, new_log}
use Rattle.screen_log.specs.LogSteps.{Sized}
use Rattle.terminal_table.specs.History.{History, Piece, Look}
use Rattle.terminal_table.specs.Logged.{log_after}
use Rattle.terminal_table.specs.Meaning.{View, new_view, after}
use Rattle.terminal_viewers.specs.Update.{update_of}

-- an input in chunks of `every` bytes, of which the first begins with `begun`; the last chunk is shorter, or empty
-- where no byte is left for it
abbrev pub in_chunks : ℕ → List ℕ → List ℕ → List (List ℕ)
in_chunks every begun [] = begun ∷ []
in_chunks every begun (byte ∷ input) =
    if length begun + 1 == every then (begun ++ byte ∷ []) ∷ in_chunks every [] input
    else in_chunks every (begun ++ byte ∷ []) input

-- each chunk, and a look after it
abbrev pub looks : List (List ℕ) → History
looks chunks = flat_map (λ chunk. Piece chunk ∷ Look ∷ []) chunks

-- the standing of a terminal: its view, and its log
pub record Standing : Type 0 where
  pub view : View
  pub log : Sized

abbrev pub new_standing : ℕ → ℕ → Standing
new_standing width height =
    record { view = new_view width height; log = record { most = most_due width height; log = new_log } }

-- the standing after a history
abbrev pub standing_after : (List ℕ → ℕ) → Standing → History → Standing
standing_after width_of s history =
    record { view = after width_of s.view history; log = log_after width_of s.view s.log history }

-- after each chunk the update for the number of the update before it
abbrev pub updates_after : (List ℕ → ℕ) → Standing → ℕ → List (List ℕ) → List ℕ
updates_after width_of s number [] = []
updates_after width_of s number (chunk ∷ chunks) =
    let next = standing_after width_of s (looks (chunk ∷ [])) in
    update_of next.view.state.screen next.log number ++ updates_after width_of next next.log.log.number chunks

-- the updates of an input, joined; a new viewer is at number 0
abbrev pub updates : (List ℕ → ℕ) → ℕ → ℕ → ℕ → List ℕ → List ℕ
updates width_of width height every input =
    updates_after width_of (new_standing width height) 0 (in_chunks every [] input)

-- the view of the terminal at the end of the input
abbrev pub updated : (List ℕ → ℕ) → ℕ → ℕ → ℕ → List ℕ → View
updated width_of width height every input = after width_of (new_view width height) (looks (in_chunks every [] input))
