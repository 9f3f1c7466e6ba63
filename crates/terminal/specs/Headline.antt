-- The main statements: the meaning of a terminal, the screens of its viewers, and the cells that a patch prints.
use Rattle.std.specs.Prelude.{◌≡◌, ℕ, false, All, List, [], ◌∷◌, ◌++◌, map}
use Rattle.screen_log.specs.LogSteps.{Sized}
use Rattle.escape_framing.specs.Held.{held_of}
use Rattle.screen_difference.specs.FreshCells.{screen_fresh}
use Rattle.screen_difference.specs.Prints.{text_of}
use Rattle.terminal.specs.Terminal.{Terminal, state_in}
use Rattle.terminal.specs.Viewing.{CanReadFrom, patch_from, standing_of}
use Rattle.terminal_viewers.specs.Patch.{position_prints}
use Rattle.terminal_table.specs.Prints.{prints}
use Rattle.terminal_viewers.specs.Sessions.{Answer, Answers, Turn, new_chain, session}
use Rattle.terminal_viewers.specs.Showing.{IsShown, IsTurn}
use Rattle.terminal_table.specs.History.{History, Piece}
use Rattle.terminal_table.specs.Logged.{log_after}
use Rattle.terminal_table.specs.Meaning.{View, after}

-- A terminal stands at a view: it has the view's state and held run, and its unfinished bytes are those of the view's
-- stream.
pub record StandsAt {W : Type 0} (t : Terminal W) (view : View) : Type 0 where
  pub state : state_in t ≡ view.state
  pub run : t.run ≡ view.held
  pub unfinished : t.unfinished ≡ held_of view.stream

-- the log after a history, from the view of a terminal
abbrev pub final_log : {W : Type 0} → (W → List ℕ → ℕ) → Terminal W → View → History → Sized
final_log width_of t view history = log_after (width_of t.surface.grid.widths) view t.surface.log history

-- A terminal's screen and replies are the table's meaning of a history of bytes, looks, resizes and forgotten changes:
-- from whatever view it stood at, it now stands at the view after the history, and its log is the log after the
-- history.
pub record GoesBy {W : Type 0} (width_of : W → List ℕ → ℕ) (before now : Terminal W) (history : History) : Type 0 where
  pub stands : (view : View) → StandsAt before view
      → StandsAt now (after (width_of before.surface.grid.widths) view history)
  pub log : (view : View) → StandsAt before view → now.surface.log ≡ final_log width_of before view history
  pub widths : now.surface.grid.widths ≡ before.surface.grid.widths
  pub sound : now.is_failed ≡ false

-- However the bytes are cut: feeding two chunks is feeding their bytes joined.
abbrev pub PiecesJoin : {W : Type 0} → (W → List ℕ → ℕ) → Type 0
PiecesJoin {W} width_of = (first between last : Terminal W) (x y : List ℕ)
    → GoesBy width_of first between (Piece x ∷ []) → GoesBy width_of between last (Piece y ∷ [])
    → GoesBy width_of first last (Piece (x ++ y) ∷ [])

-- In every session that begins at the terminal, a viewer that repeats the resizes and reads its updates and patches
-- whole shows after each answer the screen of the terminal or viewer that answered it.
abbrev pub ViewersShow : {W : Type 0} → (W → List ℕ → ℕ) → Terminal W → Type 0
ViewersShow width_of t = (view : View) (count : ℕ) (turns : List Turn) (at : ℕ) (answer : Answer)
    → t.is_failed ≡ false → StandsAt t view → All IsTurn turns
    → let start = new_chain (standing_of t view) count in
    let chain = session (width_of t.surface.grid.widths) start (turns ++ Answers at answer ∷ []) in
    IsShown at chain.terminal chain.viewers

-- A patch prints exactly the cells that the viewer doesn't show, and one more only at a pending wrap
-- (`position_prints`).
abbrev pub PatchesPrintFresh : {W : Type 0} → (W → List ℕ → ℕ) → Terminal W → Terminal W → Type 0
PatchesPrintFresh {W} width_of t viewer = (shown : Terminal W) (view : View)
    → CanReadFrom width_of t viewer shown → StandsAt viewer view
    → prints (width_of viewer.surface.grid.widths) view (patch_from t shown)
    ≡ map text_of (screen_fresh (state_in shown).screen (state_in t).screen) ++ position_prints (state_in t).screen
