-- What is written before a screen, and what a sink is left with.
use Rattle.std.specs.Prelude.{◌==◌, ℕ, Bool, true, false, List, [], Option, if◌then◌else◌}
use Rattle.std.specs.Io.KnownBytes.{Appends}
use Rattle.terminal.specs.Shown.{AppendsPrefix}

-- what comes before a screen after `number` other ones: what parts it from them, if there are any
abbrev pub lead : ℕ → List ℕ → List ℕ
lead number between = if number == 0 then [] else between

-- all bytes are appended; or, where nobody reads them any more, a prefix of them
abbrev pub AppendsUnlessClosed : Bool → Option (List ℕ) → Option (List ℕ) → List ℕ → Type 0
AppendsUnlessClosed false old new bytes = Appends old new bytes
AppendsUnlessClosed true old new bytes = AppendsPrefix old new bytes
