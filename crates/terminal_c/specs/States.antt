-- The state of a terminal as C gets it, and a row of its screen.
use Rattle.std.specs.Prelude.{ℕ, ◌==◌, [], length, slice_index_or, Option, Some, None, if◌then◌else◌}
use Rattle.cell_base.specs.Row.{Row}
use Rattle.cell_base.specs.Screen.{Screen}
use Rattle.cell_base.specs.declared.attributes.CursorShape.{CursorShape}
use Rattle.cell_base.specs.declared.attributes.CursorShape.TheVariants as shape
use Rattle.cell_base.specs.declared.widths.ProgramWidth.{ProgramWidth}
use Rattle.cell_surface.specs.Surface.{number_of, shown_by}
use Rattle.terminal.specs.Terminal.{Terminal}
use Rattle.terminal_c.specs.declared.kept.State.{State}
use Rattle.terminal_steps.specs.declared.profile.Profile.{Profile}
use Rattle.terminal_steps.specs.declared.profile.Profile.TheVariants.{Plain, Xterm}

-- the number of the shape for DECSCUSR; 0 is the default one, also where none was set
abbrev pub shape_number : Option CursorShape → ℕ
shape_number None = 0
shape_number (Some shape.Default) = 0
shape_number (Some shape.BlinkingBlock) = 1
shape_number (Some shape.SteadyBlock) = 2
shape_number (Some shape.BlinkingUnderline) = 3
shape_number (Some shape.SteadyUnderline) = 4
shape_number (Some shape.BlinkingBar) = 5
shape_number (Some shape.SteadyBar) = 6

-- the screen of a terminal
abbrev pub screen_of : Terminal ProgramWidth → Screen
screen_of t = (shown_by t.surface).screen

-- the profile of a number
abbrev pub profile_of : ℕ → Option Profile
profile_of number = if number == 0 then Some Plain else if number == 1 then Some Xterm else None

-- a row of a screen
abbrev pub row_at : ℕ → Screen → Row
row_at row screen = slice_index_or screen.rows row []

abbrev pub state_of : Terminal ProgramWidth → State
state_of t =
    let screen = screen_of t in record {
      number = number_of t.surface;
      width = t.surface.grid.width;
      height = length t.surface.grid.lines;
      cursor_column = screen.column;
      cursor_row = screen.row;
      cursor_shape = shape_number (shown_by t.surface).shape;
      cursor_is_visible = screen.visible;
      is_failed = t.is_failed;
    }
