-- Calls of a terminal in turn, in some of which its replies are taken.
use Rattle.std.specs.Prelude.{◌≡◌, ℕ, List, [], ◌∷◌, ◌++◌}
use Rattle.terminal.specs.Headline.{GoesBy}
use Rattle.terminal.specs.Terminal.{Terminal}
use Rattle.terminal_table.specs.History.{History}

-- a terminal goes on by a history, or its replies are taken: these bytes
pub data Call : Type 0 where
  Goes : History → Call
  Takes : List ℕ → Call

-- one terminal becomes another by calls in turn
abbrev pub GoesThrough : {W : Type 0} → (W → List ℕ → ℕ) → Terminal W → List Call → Terminal W → Type 0
GoesThrough {W = W} width_of before [] now = now ≡ before
GoesThrough {W = W} width_of before (Goes history ∷ calls) now =
    (next : Terminal W) × GoesBy width_of before next history × GoesThrough width_of next calls now
GoesThrough {W = W} width_of before (Takes replies ∷ calls) now =
    (replies ≡ before.replies) × GoesThrough width_of (record before { replies = [] }) calls now

-- the history of all calls, joined, and all replies that they take, joined
abbrev pub history_in : List Call → History
history_in [] = []
history_in (Goes history ∷ calls) = history ++ history_in calls
history_in (Takes replies ∷ calls) = history_in calls

abbrev pub taken_in : List Call → List ℕ
taken_in [] = []
taken_in (Goes history ∷ calls) = taken_in calls
taken_in (Takes replies ∷ calls) = replies ++ taken_in calls

-- a terminal that also has replies that were taken, before those that were not
abbrev pub with_taken : {W : Type 0} → List ℕ → Terminal W → Terminal W
with_taken taken t = record t { replies = taken ++ t.replies }
