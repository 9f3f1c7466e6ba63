-- The texts of faults, and the condition that one is reported.
use Rattle.std.specs.Prelude.{◌≡◌, ℕ, List, [], ◌∷◌, ◌++◌, Option, false, IsTrue, codes}
use Rattle.std.specs.Io.KnownBytes.{Appends}
use Rattle.terminal.specs.Watched.{Watched}
use Rattle.terminal.specs.declared.error.RunError.{RunError}
use Rattle.terminal.specs.declared.error.RunError.TheVariants as run
use Rattle.terminal_steps.specs.declared.error.TerminalError.TheVariants as terminal

-- the text for a run that ended early
abbrev pub fault_text : RunError → List ℕ
fault_text run.Read = codes "cannot read"
fault_text run.Write = codes "cannot write"
fault_text run.TooLong = codes "input too long"
fault_text (run.Terminal terminal.Number) = codes "numbers used up"
fault_text (run.Terminal terminal.Memory) = codes "out of memory"
fault_text (run.Terminal terminal.Failed) = codes "out of memory"

-- the line that reports a fault
abbrev pub fault_line : List ℕ → List ℕ
fault_line fault = codes "relay: " ++ fault ++ 10 ∷ []

-- a text was written and flushed, unless the writer has failed
abbrev pub IsReported : {T : Type 0} → (T → Option (List ℕ)) → Watched T → Watched T → List ℕ → Type 0
IsReported contents old new text =
    new.has_failed ≡ false → Appends (contents old.inner) (contents new.inner) text × IsTrue new.is_flushed
