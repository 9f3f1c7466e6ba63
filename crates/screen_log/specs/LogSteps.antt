-- The steps of a log, where all entries are kept and where only the last ones are.
use Rattle.std.specs.Prelude.{ℕ, ◌<◌, ⊤, List, [], ◌∷◌, codes, fold}
use Rattle.screen_log.specs.Log.{Log, new_log, logged, kept, forgotten, resized_log}
use Rattle.screen_change.specs.ChangeValue.{ChangeValue, Text}

-- a change is logged, the entries before a number are forgotten, or the size changes, and with it how many are due at
-- most
pub data LogStep : Type 0 where
  Logged : ChangeValue → LogStep
  Forgotten : ℕ → LogStep
  Resized : ℕ → LogStep

-- a log, and how many changes are due at most
pub record Sized : Type 0 where
  pub most : ℕ
  pub log : Log

-- all entries are kept
abbrev pub step_of_all : Sized → LogStep → Sized
step_of_all s (Logged change) = record s { log = logged change s.log }
step_of_all s (Forgotten number) = record s { log = forgotten number s.log }
step_of_all s (Resized most) = record { most = most; log = resized_log s.log }

-- after each change the last ones that may be due are kept
abbrev pub step_of_kept : Sized → LogStep → Sized
step_of_kept s (Logged change) = record s { log = kept s.most (logged change s.log) }
step_of_kept s (Forgotten number) = record s { log = forgotten number s.log }
step_of_kept s (Resized most) = record { most = most; log = resized_log s.log }

-- each size has some changes that may be due
abbrev pub AreSized : List LogStep → Type 0
AreSized [] = ⊤
AreSized (Logged change ∷ steps) = AreSized steps
AreSized (Forgotten number ∷ steps) = AreSized steps
AreSized (Resized most ∷ steps) = (0 < most) × AreSized steps

abbrev pub log_of_all : ℕ → List LogStep → Sized
log_of_all most steps = fold step_of_all (record { most = most; log = new_log }) steps

abbrev pub log_of_kept : ℕ → List LogStep → Sized
log_of_kept most steps = fold step_of_kept (record { most = most; log = new_log }) steps

-- a text of one letter is logged, for worked examples
abbrev pub a_text : LogStep
a_text = Logged (Text (codes "a"))
