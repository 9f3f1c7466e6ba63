-- Replies that are taken.
use Rattle.std.specs.Prelude.{ℕ, List, [], ◌++◌}
use Rattle.terminal_table.specs.Meaning.{View}

-- the replies were taken
abbrev pub without_replies : View → View
without_replies view = record view { state = record view.state { replies = [] } }

-- replies that were taken, and then those that were not
abbrev pub with_taken : List ℕ → View → View
with_taken replies view = record view { state = record view.state { replies = replies ++ view.state.replies } }
