-- What the program does with `--live`: it writes an update after each read that brought bytes, before the next read.
use Rattle.std.specs.Prelude.{◌≡◌, ◌⊎◌, ◌↔◌, ℕ, Bool, true, false, List, [], Option, Result, Ok, Err, IsErrOf, IsTrue}
use Rattle.std.specs.Prelude.{OnOk}
use Rattle.std.specs.Io.KnownBytes.{IsAtEnd, Keeps}
use Rattle.clap.specs.Words.{Text}
use Rattle.cell_base.specs.Cluster.{program_width}
use Rattle.terminal.specs.Live.{HasBrought, LastPieceTakesMemory, PiecesNeedNumber, SendsEach, SendsPartOfLast}
use Rattle.terminal.specs.Live.{SendsPrefix}
use Rattle.terminal.specs.Shown.{AppendsPrefix}
use Rattle.terminal.specs.Watched.{Watched}
use Rattle.terminal.specs.declared.error.RunError.{RunError}
use Rattle.terminal.specs.declared.error.RunError.TheVariants as run
use Rattle.terminal_steps.specs.declared.error.TerminalError.TheVariants as terminal
use Rattle.terminal_viewers.specs.Updates.{Standing}
use Rattle.relay.specs.CommandLine.{Asked, asked_in, faults_in, live_in}
use Rattle.relay.specs.Faults.{fault_line, fault_text}
use Rattle.relay.specs.Output.{first_standing}

-- the words are a command line to be run with `--live`
abbrev pub IsLive : List Text → Type 0
IsLive words = (faults_in words ≡ []) × IsTrue (live_in words)

-- the standing of a new terminal of the size and the profile that are asked for
abbrev pub IsFirst : Asked → Standing → Type 0
IsFirst asked start = start ≡ first_standing asked

-- nothing was read and nothing was written
pub record DoesNothing {R T : Type 0} (remaining : R → Option (List ℕ)) (contents : T → Option (List ℕ))
    (reader next_reader : Watched R) (writer next_writer : Watched T) : Type 0 where
  pub brought : HasBrought remaining [] 0 reader next_reader
  pub keeps : Keeps (contents writer.inner) (contents next_writer.inner)

-- What a run has read and written when it ends with a result.
pub record RunsLive {R T : Type 0} (asked : Asked) (remaining : R → Option (List ℕ)) (contents : T → Option (List ℕ))
    (result : Result (Unit {0}) RunError) (reader next_reader : Watched R) (writer next_writer : Watched T) : Type 0
  where
    -- at the end of the input, and where a read fails, the updates of all that was read are written
    pub ok : OnOk result
        (SendsEach program_width (IsFirst asked) remaining contents 1 reader next_reader writer next_writer)
    pub ends : OnOk result (IsAtEnd (remaining next_reader.inner))
    pub read : IsErrOf result run.Read
        → SendsEach program_width (IsFirst asked) remaining contents 1 reader next_reader writer next_writer
    -- where a write fails, or the terminal refuses the last piece, the last update may be written in part
    pub write : IsErrOf result run.Write
        → SendsPartOfLast program_width (IsFirst asked) remaining contents reader next_reader writer next_writer
    pub number : IsErrOf result (run.Terminal terminal.Number)
        → SendsPartOfLast program_width (IsFirst asked) remaining contents reader next_reader writer next_writer
        × PiecesNeedNumber program_width (IsFirst asked) remaining reader next_reader
    -- memory may be refused before the first read
    pub memory : IsErrOf result (run.Terminal terminal.Memory)
        → DoesNothing remaining contents reader next_reader writer next_writer
        ⊎ (SendsPartOfLast program_width (IsFirst asked) remaining contents reader next_reader writer next_writer
        × LastPieceTakesMemory program_width (IsFirst asked) remaining reader next_reader)
    pub too_long : IsErrOf result run.TooLong
        → SendsPrefix program_width (IsFirst asked) remaining contents reader next_reader writer next_writer
    pub never : IsErrOf result (run.Terminal terminal.Failed) → ⊥
    pub failed : IsErrOf result run.Write ↔ IsTrue next_writer.has_failed

-- ---- the status, and what is told

-- the status is 0, and nothing is told
abbrev pub IsQuiet : ℕ → Option (List ℕ) → Option (List ℕ) → Type 0
IsQuiet status old new = (status ≡ 0) × Keeps old new

-- the status is 1, and the line of the fault is told, or a prefix of it
abbrev pub TellsFault : RunError → ℕ → Option (List ℕ) → Option (List ℕ) → Type 0
TellsFault fault status old new = (status ≡ 1) × AppendsPrefix old new (fault_line (fault_text fault))

-- a write that fails because the pipe is broken is no fault
abbrev pub TellsWrite : Bool → ℕ → Option (List ℕ) → Option (List ℕ) → Type 0
TellsWrite true status old new = IsQuiet status old new
TellsWrite false status old new = TellsFault run.Write status old new

abbrev pub Tells : Bool → Result (Unit {0}) RunError → ℕ → Option (List ℕ) → Option (List ℕ) → Type 0
Tells is_broken (Ok done) status old new = IsQuiet status old new
Tells is_broken (Err run.Write) status old new = TellsWrite is_broken status old new
Tells is_broken (Err fault) status old new = TellsFault fault status old new

-- a run, and how it ends: its status, and what is told from `old` to `new`
pub record EndsLive {R T : Type 0} (asked : Asked) (remaining : R → Option (List ℕ)) (contents : T → Option (List ℕ))
    (is_broken : Bool) (status : ℕ) (reader next_reader : Watched R) (writer next_writer : Watched T)
    (old new : Option (List ℕ)) : Type 0 where
  pub result : Result (Unit {0}) RunError
  pub runs : RunsLive asked remaining contents result reader next_reader writer next_writer
  pub tells : Tells is_broken result status old new

-- ---- of bytes that are read and written by streams that nobody watches

abbrev pub watched : Option (List ℕ) → Watched (Option (List ℕ))
watched bytes = record {
  inner = bytes;
  has_failed = false;
  has_gone_on = false;
  reads = 0;
  flushes = 0;
  is_flushed = false;
}

-- so a run ends that reads of an input and writes from `before` to `after`
pub record EndsLiveOn (words : List Text) (status : ℕ) (input before after old new : Option (List ℕ)) : Type 0 where
  pub is_broken : Bool
  pub next_reader : Watched (Option (List ℕ))
  pub next_writer : Watched (Option (List ℕ))
  pub written : next_writer.inner ≡ after
  pub ends : EndsLive (asked_in words) (λ o. o) (λ o. o) is_broken status (watched input) next_reader (watched before)
      next_writer old new
