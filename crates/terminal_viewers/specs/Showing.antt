-- What the laws of sessions say.
use Rattle.std.specs.Prelude.{◌≡◌, ℕ, zero, suc, ◌<◌, ◌≤◌, ◌^◌, ⊤, All, List, [], ◌∷◌, ◌++◌, length, take}
use Rattle.cell_base.specs.Screen.{Screen, height}
use Rattle.cell_base.specs.ScreenSize.{IsScreenSize}
use Rattle.terminal_viewers.specs.Sessions.{Answer, Turn, Goes, Answers, Forgets, Viewer, Chain, new_chain, round}
use Rattle.terminal_viewers.specs.Sessions.{session, steps_of, with_taken}
use Rattle.terminal_render.specs.Spelling.{HaveEncodings, IsSpelledView}
use Rattle.terminal_table.specs.History.{Step, Piece, Look, Resize, Forget}
use Rattle.terminal_table.specs.Turns.{IsView}
use Rattle.terminal_viewers.specs.Updates.{Standing, standing_after}

-- A terminal at a standing can answer viewers: its state is lawful, with less than 2^32 columns and rows; the cells, the
-- run and the changes that the log keeps have an encoding; and each of these changes has a number.
pub record CanAnswer (width_of : List ℕ → ℕ) (s : Standing) : Type 0 where
  pub lawful : IsView width_of s.view
  pub wide : s.view.state.screen.width < 2 ^ 32
  pub tall : height s.view.state.screen < 2 ^ 32
  pub spelled : IsSpelledView s.view
  pub encodings : HaveEncodings s.view.state.screen.width (height s.view.state.screen) s.log.log.entries
  pub counted : length s.log.log.entries ≤ s.log.log.number

-- each width and height is from 1 to 2^32 - 1
abbrev pub IsStep : Step → Type 0
IsStep (Piece bytes) = ⊤
IsStep Look = ⊤
IsStep (Resize width height) = IsScreenSize width height
IsStep (Forget number) = ⊤

abbrev pub IsTurn : Turn → Type 0
IsTurn (Goes step) = IsStep step
IsTurn (Answers at answer) = ⊤
IsTurn (Forgets at number) = ⊤

-- the viewer at an index, if there is one, shows the screen of the one that answers it
abbrev pub IsShown : ℕ → Standing → List Viewer → Type 0
IsShown at one [] = ⊤
IsShown zero one (viewer ∷ viewers) = viewer.standing.view.state.screen ≡ one.view.state.screen
IsShown (suc at) one (viewer ∷ viewers) = IsShown at viewer.standing viewers

-- in every session a viewer shows the screen of the one that answered it, after each answer
abbrev pub AnswersAreShown : Type 0
AnswersAreShown =
    (width_of : List ℕ → ℕ) (terminal : Standing) (count : ℕ) (turns : List Turn) (at : ℕ) (answer : Answer)
    → CanAnswer width_of terminal → All IsTurn turns
    → let chain =
    session width_of (new_chain terminal count) (turns ++ Answers at answer ∷ []) in IsShown at chain.terminal
    chain.viewers

-- each of some viewers shows a screen: the terminal's, where the viewers are answered one after another
abbrev pub AllShow : Screen → List Viewer → Type 0
AllShow screen viewers = All (λ viewer. viewer.standing.view.state.screen ≡ screen) viewers

abbrev pub RoundsAreShown : Type 0
RoundsAreShown =
    (width_of : List ℕ → ℕ) (terminal : Standing) (count : ℕ) (turns : List Turn) (answers : List Answer)
    → CanAnswer width_of terminal → All IsTurn turns
    → let chain =
    session width_of (new_chain terminal count) (turns ++ round 0 answers) in AllShow
    chain.terminal.view.state.screen (take (length answers) chain.viewers)

-- the terminal goes through its steps, and a look for each answer to the first viewer, and nothing else; and there are
-- as many viewers as at first
abbrev pub TerminalsGoTheirWay : Type 0
TerminalsGoTheirWay =
    (width_of : List ℕ → ℕ) (terminal : Standing) (count : ℕ) (turns : List Turn)
    → (session width_of (new_chain terminal (suc count)) turns).terminal
    ≡ standing_after width_of terminal (steps_of turns)

abbrev pub ViewersStay : Type 0
ViewersStay =
    (width_of : List ℕ → ℕ) (terminal : Standing) (count : ℕ) (turns : List Turn)
    → length (session width_of (new_chain terminal count) turns).viewers ≡ count

-- replies that are taken from the terminal change nothing else of a session, then and later
abbrev pub RepliesAreSeparate : Type 0
RepliesAreSeparate =
    (width_of : List ℕ → ℕ) (taken : List ℕ) (chain : Chain) (turns : List Turn)
    → session width_of (with_taken taken chain) turns ≡ with_taken taken (session width_of chain turns)
