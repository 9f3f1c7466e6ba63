-- How far the screens of a recording are written.
use Rattle.std.specs.Prelude.{◌≡◌, ℕ, List, ◌++◌, Option}
use Rattle.std.specs.Io.KnownBytes.{Appends}
use Rattle.recordings.specs.Events as recorded
use Rattle.shot.specs.Shots.{pictures, pictures_after, times_after}
use Rattle.shot.specs.declared.format.Format.{Format}
use Rattle.terminal.specs.Headline.{StandsAt}
use Rattle.terminal.specs.Terminal.{Terminal}
use Rattle.terminal_table.specs.Meaning.{View}

-- A part of the screens is written. All screens are those at `count` times, from a view and its events. At `time`,
-- `number` of them are written and `left` of them remain, with the events `rest`. The bytes that are written and the
-- screens at the remaining times, and at any times after these, are together the whole.
pub record IsWriting {W : Type 0} (format : Format) (view : View) (events : List recorded.Event) (step count : ℕ)
    (terminal : Terminal W) (rest : List recorded.Event) (time number left : ℕ) (old new : Option (List ℕ))
    : Type 0 where
  pub now : View
  pub done : List ℕ
  pub stands : StandsAt terminal now
  pub appends : Appends old new done
  pub whole : (remaining : List ℕ)
      → done ++ pictures_after number format now rest (times_after time step left remaining)
      ≡ pictures format view events (times_after 0 step count remaining)
