-- What the program writes.
use Rattle.std.specs.Prelude.{ℕ, ◌≤◌, ◌^◌, List, Option, if◌then◌else◌}
use Rattle.clap.specs.Words.{Text}
use Rattle.cell_base.specs.Cluster.{program_width}
use Rattle.terminal.specs.Fed.{rows_after}
use Rattle.terminal.specs.Refusals.{IsRefusedMemory, all_looks, one_look}
use Rattle.terminal.specs.Written.{updates_from}
use Rattle.terminal_steps.specs.ProfileView.{modes_of}
use Rattle.terminal_table.specs.History.{History}
use Rattle.terminal_table.specs.Meaning.{new_view_with}
use Rattle.terminal_viewers.specs.Updates.{Standing, new_standing, standing_after}
use Rattle.relay.specs.CommandLine.{Asked, asked_in}
use Rattle.relay.specs.declared.options.Options.{Options}

abbrev pub asked_of : Options → Asked
asked_of options = record {
  width = options.width;
  height = options.height;
  profile = options.profile;
  every = options.every;
  is_show = options.is_show;
  is_live = options.is_live;
}

-- the standing of a new terminal of the size and the profile that are asked for
abbrev pub first_standing : Asked → Standing
first_standing asked = record (new_standing asked.width asked.height)
    { view = new_view_with (modes_of asked.profile) asked.width asked.height }

-- the output for an input, without `--live`: with `--show` the rows of the screen, each with a line feed after it, and
-- else the updates
unfoldable pub written : Asked → List ℕ → List ℕ
written asked input =
    if asked.is_show then rows_after program_width (first_standing asked) input
    else updates_from program_width asked.every (first_standing asked) input

-- the terminal's history for an input: it takes a look at the end, and without `--show` one for each update
abbrev pub history_for : Asked → List ℕ → History
history_for asked = if asked.is_show then one_look else all_looks asked.every

-- the number after an input and its looks doesn't fit in 64 bits
abbrev pub NumbersRunOut : Asked → List ℕ → Type 0
NumbersRunOut asked input =
    2 ^ 64 ≤ (standing_after program_width (first_standing asked) (history_for asked input)).log.log.number

-- memory is refused after a part of an input was read
abbrev pub MemoryRunsOut : Asked → Option (List ℕ) → List ℕ → Type 0
MemoryRunsOut asked left input =
    IsRefusedMemory program_width (first_standing asked) (history_for asked) input left

-- the output for an input, with the options of the words
abbrev pub written_in : List Text → List ℕ → List ℕ
written_in words input = written (asked_in words) input
