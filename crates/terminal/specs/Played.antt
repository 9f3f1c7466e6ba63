-- The steps that `play` does, as a terminal's history.
use Rattle.std.specs.Prelude.{⊤, List, [], ◌∷◌, map}
use Rattle.cell_base.specs.ScreenSize.{IsScreenSize}
use Rattle.terminal.specs.declared.steps.Step.{Step}
use Rattle.terminal.specs.declared.steps.Step.TheVariants as code
use Rattle.terminal_table.specs.History as history
use Rattle.terminal_table.specs.History.{History}

abbrev pub played : Step → history.Step
played (code.Feed bytes) = history.Piece bytes.now
played code.Settle = history.Look
played (code.Resize width height) = history.Resize width height

abbrev pub history_of : List Step → History
history_of steps = map played steps

-- each width and height is from 1 to 2^32 - 1
abbrev pub AreStepSizes : List Step → Type 0
AreStepSizes [] = ⊤
AreStepSizes (code.Feed bytes ∷ steps) = AreStepSizes steps
AreStepSizes (code.Settle ∷ steps) = AreStepSizes steps
AreStepSizes (code.Resize width height ∷ steps) = IsScreenSize width height × AreStepSizes steps
