-- What leads to the next row under the profile xterm: LF and NEL; they are asked for as the table's where they do what
-- they do there.
use Rattle.std.specs.Prelude.{◌-◌, ◌==◌, ◌&&◌, Bool, true, false, not, nat_lt, if◌then◌else◌}
use Rattle.cell_base.specs.declared.color.ColorAttribute.{ColorAttribute}
use Rattle.cell_base.specs.declared.color.ColorAttribute.TheVariants.{Default}
use Rattle.cell_base.specs.Screen.{Screen, height}
use Rattle.terminal_table.specs.Functions as table
use Rattle.terminal_table.specs.Modes.{Region}
use Rattle.terminal_table.specs.Request.{Request, Table, Xterm}
use Rattle.terminal_table.specs.Screens.{is_pending}
use Rattle.terminal_table.specs.Xterm as own

abbrev pub is_default : ColorAttribute → Bool
is_default Default = true
is_default _ = false

-- a scroll of the region is one of the table: it moves all rows, and the blanks that come have the default background
abbrev pub scrolls_plainly : Region → Screen → Bool
scrolls_plainly region screen =
    region.top == 0 && region.bottom == height screen - 1 && is_default screen.pen.background

-- the table's move to the next row leads to the same one: it scrolls likewise, or neither scrolls
abbrev pub feeds_plainly : Region → Screen → Bool
feeds_plainly region screen =
    if screen.row == region.bottom then scrolls_plainly region screen else nat_lt screen.row (height screen - 1)

abbrev pub line_feed_request : Region → Screen → Request  -- LF, VT, FF, IND
line_feed_request region screen =
    if not (is_pending screen) && feeds_plainly region screen then Table table.LineFeed else Xterm (own.LineFeed region)

abbrev pub next_line_request : Region → Screen → Request  -- NEL
next_line_request region screen =
    if feeds_plainly region screen then Table table.NextRow else Xterm (own.NextLine region)
