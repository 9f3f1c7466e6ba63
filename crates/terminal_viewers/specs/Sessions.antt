-- Sessions: a terminal goes on and answers a viewer, which may answer another viewer in its turn.
use Rattle.std.specs.Prelude.{ℕ, zero, suc, ◌+◌, List, [], ◌∷◌, ◌++◌, fold, replicate}
use Rattle.cell_base.specs.Screen.{height}
use Rattle.terminal_viewers.specs.Patch.{patch_of}
use Rattle.terminal_table.specs.History.{Step, History, Piece, Look, Resize, Forget}
use Rattle.terminal_table.specs.Replies as replies
use Rattle.terminal_viewers.specs.Update.{update_of}
use Rattle.terminal_viewers.specs.Updates.{Standing, new_standing, standing_after}

-- ---- viewers

-- A viewer: its standing, as it is a terminal, too; the number of its last answer; and the history, since that answer,
-- of the terminal or viewer that answers it.
pub record Viewer : Type 0 where
  pub standing : Standing
  pub number : ℕ
  pub since : History

abbrev pub new_viewer : ℕ → ℕ → Viewer
new_viewer width height = record { standing = new_standing width height; number = 0; since = [] }

-- the resizes of a history
abbrev pub sizes : History → History
sizes [] = []
sizes (Piece bytes ∷ history) = sizes history
sizes (Look ∷ history) = sizes history
sizes (Resize width height ∷ history) = Resize width height ∷ sizes history
sizes (Forget number ∷ history) = sizes history

-- ---- answers

pub data Answer : Type 0 where
  Update : Answer
  Patch : Answer

-- the bytes of an answer to a viewer: an update for the number that it holds, or a patch from the screen that it shows
abbrev pub answer_bytes : Answer → Standing → ℕ → Standing → List ℕ
answer_bytes Update viewer number one = update_of one.view.state.screen one.log number
answer_bytes Patch viewer number one = patch_of viewer.view.state.screen one.view.state.screen

-- what a viewer does for an answer: it repeats the resizes since the last answer, and reads the answer
abbrev pub readings : (List ℕ → ℕ) → Answer → Viewer → Standing → History
readings width_of answer viewer one =
    sizes viewer.since
    ++ Piece (answer_bytes answer (standing_after width_of viewer.standing (sizes viewer.since)) viewer.number one)
    ∷ []

-- a viewer after an answer: it holds the number that came with the answer
abbrev pub answered : (List ℕ → ℕ) → Answer → Viewer → Standing → Viewer
answered width_of answer viewer one =
    record {
      standing = standing_after width_of viewer.standing (readings width_of answer viewer one);
      number = one.log.log.number;
      since = [];
    }

-- ---- chains

-- a terminal, and viewers, each of which is answered by the one before it
pub record Chain : Type 0 where
  pub terminal : Standing
  pub viewers : List Viewer

-- `count` new viewers of a terminal's size
abbrev pub new_chain : Standing → ℕ → Chain
new_chain terminal count =
    record {
      terminal = terminal;
      viewers = replicate count (new_viewer terminal.view.state.screen.width (height terminal.view.state.screen));
    }

-- viewers of which the first is answered by a terminal or viewer that has gone through a history since the last answer
abbrev pub lagging : History → List Viewer → List Viewer
lagging history [] = []
lagging history (viewer ∷ viewers) = record viewer { since = viewer.since ++ history } ∷ viewers

-- the viewer at index `at`, if there is one, gets an answer; the terminal or viewer that answers takes a look first
abbrev pub answering : (List ℕ → ℕ) → Answer → ℕ → Standing → List Viewer → Chain
answering width_of answer at one [] = record { terminal = one; viewers = [] }
answering width_of answer zero one (viewer ∷ viewers) =
    let looked = standing_after width_of one (Look ∷ []) in
    record {
      terminal = looked;
      viewers = answered width_of answer viewer looked ∷ lagging (readings width_of answer viewer looked) viewers;
    }
answering width_of answer (suc at) one (viewer ∷ viewers) =
    let remaining = answering width_of answer at viewer.standing viewers in
    record { terminal = one; viewers = record viewer { standing = remaining.terminal } ∷ remaining.viewers }

-- the viewer at index `at`, if there is one, forgets the changes before a number
abbrev pub forgetting : (List ℕ → ℕ) → ℕ → ℕ → List Viewer → List Viewer
forgetting width_of number at [] = []
forgetting width_of number zero (viewer ∷ viewers) =
    record viewer { standing = standing_after width_of viewer.standing (Forget number ∷ []) }
    ∷ lagging (Forget number ∷ []) viewers
forgetting width_of number (suc at) (viewer ∷ viewers) = viewer ∷ forgetting width_of number at viewers

-- ---- sessions

-- the terminal goes on by a step; or the viewer at an index gets an answer, or forgets the changes before a number
pub data Turn : Type 0 where
  Goes : Step → Turn
  Answers : ℕ → Answer → Turn
  Forgets : ℕ → ℕ → Turn

abbrev pub turned : (List ℕ → ℕ) → Chain → Turn → Chain
turned width_of chain (Goes step) =
    record {
      terminal = standing_after width_of chain.terminal (step ∷ []);
      viewers = lagging (step ∷ []) chain.viewers;
    }
turned width_of chain (Answers at answer) = answering width_of answer at chain.terminal chain.viewers
turned width_of chain (Forgets at number) = record chain { viewers = forgetting width_of number at chain.viewers }

-- the turns one after another
abbrev pub session : (List ℕ → ℕ) → Chain → List Turn → Chain
session width_of chain turns = fold (turned width_of) chain turns

-- each of the first viewers is answered, the terminal's own first
abbrev pub round : ℕ → List Answer → List Turn
round at [] = []
round at (answer ∷ answers) = Answers at answer ∷ round (at + 1) answers

-- a chain whose terminal also has replies that were taken, before those that were not
abbrev pub with_taken : List ℕ → Chain → Chain
with_taken taken chain =
    record chain { terminal = record chain.terminal { view = replies.with_taken taken chain.terminal.view } }

-- the history of a session's terminal that has viewers: its steps, and a look for each answer to the first viewer
abbrev pub steps_of : List Turn → History
steps_of [] = []
steps_of (Goes step ∷ turns) = step ∷ steps_of turns
steps_of (Answers zero answer ∷ turns) = Look ∷ steps_of turns
steps_of (Answers (suc at) answer ∷ turns) = steps_of turns
steps_of (Forgets at number ∷ turns) = steps_of turns
