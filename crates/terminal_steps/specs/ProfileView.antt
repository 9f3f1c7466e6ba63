-- The modes of a terminal: those of a profile at first, and those that a terminal keeps.
use Rattle.std.specs.Prelude.{⊤, All, Option, Some, None, map, option_map}
use Rattle.std.specs.String.{string_bytes}
use Rattle.cell_base.specs.WholeRow.{IsWhole}
use Rattle.screen_difference.specs.FreshCells.{rows_of}
use Rattle.terminal_steps.specs.declared.charsets.Charset as set
use Rattle.terminal_steps.specs.declared.charsets.Charset.TheVariants as sets
use Rattle.terminal_steps.specs.declared.charsets.Charsets as code_sets
use Rattle.terminal_steps.specs.declared.profile.Modes as code
use Rattle.terminal_steps.specs.declared.profile.OtherScreen as code_other
use Rattle.terminal_steps.specs.declared.profile.Profile.{Profile}
use Rattle.terminal_steps.specs.declared.profile.Profile.TheVariants as profile
use Rattle.terminal_steps.specs.declared.profile.Region.TheInside as region
use Rattle.terminal_steps.specs.declared.profile.SavedModes as code_saved
use Rattle.terminal_table.specs.Charsets.{Charset, Charsets, Ascii, Graphics, British}
use Rattle.terminal_table.specs.Modes.{Modes, OtherScreen, Region, SavedModes, initial_modes}

-- a plain terminal has none
abbrev pub modes_of : Profile → Option Modes
modes_of profile.Plain = None
modes_of profile.Xterm = Some initial_modes

abbrev pub region_in : region.Inside → Region
region_in inside = record { top = inside.top; bottom = inside.bottom }

abbrev pub charset_in : set.Charset → Charset
charset_in sets.Ascii = Ascii
charset_in sets.Graphics = Graphics
charset_in sets.British = British

abbrev pub charsets_in : code_sets.Charsets → Charsets
charsets_in sets = record { g0 = charset_in sets.g0; g1 = charset_in sets.g1; shifted = sets.shifted }

abbrev pub saved_modes_in : code_saved.SavedModes → SavedModes
saved_modes_in saved =
    record { pending = saved.pending; origin = saved.origin; charsets = charsets_in saved.charsets }

abbrev pub other_in : code_other.OtherScreen → OtherScreen
other_in other = record {
  rows = rows_of other.lines.items;
  cursor = other.cursor;
  with_cursor = saved_modes_in other.with_cursor;
}

abbrev pub modes_in : code.Modes → Modes
modes_in modes = record {
  region = modes.region;
  origin = modes.origin;
  insert = modes.insert;
  autowrap = modes.autowrap;
  newline = modes.newline;
  stops = modes.stops.items;
  charsets = charsets_in modes.charsets;
  last = string_bytes modes.last;
  alternate = modes.alternate;
  with_cursor = saved_modes_in modes.with_cursor;
  other = other_in modes.other;
  titles = map string_bytes modes.titles.items;
  flags = modes.flags;
}

abbrev pub kept_modes : Option code.Modes → Option Modes
kept_modes modes = option_map modes_in modes

-- the rows of the screen that is not shown are whole
abbrev pub HaveWholeRows : Option Modes → Type 0
HaveWholeRows None = ⊤
HaveWholeRows (Some modes) = All IsWhole modes.other.rows
