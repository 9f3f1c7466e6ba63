-- The reports of runs that end early.
use Rattle.std.specs.Prelude.{ℕ, List, Option, ⊤}
use Rattle.clap.specs.Words.{Text}
use Rattle.terminal.specs.Shown.{AppendsPrefix}
use Rattle.terminal.specs.declared.error.RunError.{RunError}
use Rattle.terminal.specs.declared.error.RunError.TheVariants as run
use Rattle.terminal_steps.specs.declared.error.TerminalError.TheVariants as terminal
use Rattle.relay.specs.CommandLine.{Asked, asked_in}
use Rattle.relay.specs.Faults.{fault_line, fault_text}
use Rattle.relay.specs.Output.{MemoryRunsOut, NumbersRunOut}

-- a run may end with a fault when `left` of its input is left: with `Number` or `Memory` only where these run out, and
-- never with `Failed`
abbrev pub MayEndWith : RunError → Asked → Option (List ℕ) → List ℕ → Type 0
MayEndWith run.Read asked left input = ⊤
MayEndWith run.Write asked left input = ⊤
MayEndWith run.TooLong asked left input = ⊤
MayEndWith (run.Terminal terminal.Number) asked left input = NumbersRunOut asked input
MayEndWith (run.Terminal terminal.Memory) asked left input = MemoryRunsOut asked left input
MayEndWith (run.Terminal terminal.Failed) asked left input = ⊥

-- the line of a fault with which the run may end was written, or a prefix of the line
pub record ReportsFault (words : List Text) (left old new : Option (List ℕ)) (input : List ℕ) : Type 0 where
  pub fault : RunError
  pub right : MayEndWith fault (asked_in words) left input
  pub written : AppendsPrefix old new (fault_line (fault_text fault))

-- the line of such a fault was written, or a prefix of it, for some part of the input that is left
abbrev pub EndsWithFault : List Text → Option (List ℕ) → Option (List ℕ) → List ℕ → Type 0
EndsWithFault words old new input = (left : Option (List ℕ)) × ReportsFault words left old new input
