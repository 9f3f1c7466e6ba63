-- The control functions of the table, and those of xterm's own, that those of the code represent.
use Rattle.std.specs.Prelude.{ℕ, List, Option, option_map}
use Rattle.std.specs.String.{string_bytes}
use Rattle.terminal_table.specs.Functions as table
use Rattle.terminal_table.specs.Modes.{Region}
use Rattle.terminal_table.specs.Request as request
use Rattle.terminal_table.specs.Screens as screens
use Rattle.terminal_table.specs.OtherRequests.{extended_position_text, mode_report, primary_reply, private_report}
use Rattle.terminal_table.specs.OtherRequests.{secondary_reply}
use Rattle.terminal_table.specs.Steps.{position_text}
use Rattle.terminal_table.specs.Xterm as xterm
use Rattle.terminal_steps.specs.ProfileView.{charset_in}
use Rattle.terminal_steps.specs.declared.function.Move.{Move}
use Rattle.terminal_steps.specs.declared.function.Move.TheVariants as move
use Rattle.terminal_steps.specs.declared.function.ControlFunction.{ControlFunction}
use Rattle.terminal_steps.specs.declared.function.ControlFunction.TheVariants as code
use Rattle.terminal_steps.specs.declared.xterm.XtermFunction.{XtermFunction}
use Rattle.terminal_steps.specs.declared.xterm.XtermFunction.TheVariants as own
use Rattle.terminal_steps.specs.declared.replies.Reply.{Reply}
use Rattle.terminal_steps.specs.declared.replies.Reply.TheVariants as reply
use Rattle.terminal_steps.specs.declared.requests.Request.{Request}
use Rattle.terminal_steps.specs.declared.requests.Request.TheVariants as asked
use Rattle.terminal_steps.specs.declared.requests.Setting.{Setting}
use Rattle.terminal_steps.specs.declared.requests.Setting.TheVariants as set
use Rattle.terminal_steps.specs.declared.screens.ScreenFunction.{ScreenFunction}
use Rattle.terminal_steps.specs.declared.screens.ScreenFunction.TheVariants as switch

abbrev pub move_of : Move → table.Move
move_of (move.Up n) = table.Up n
move_of (move.Down n) = table.Down n
move_of (move.Left n) = table.Left n
move_of (move.Right n) = table.Right n
move_of move.NextTab = table.NextTab
move_of (move.NextLine n) = table.NextLine n
move_of (move.PrecedingLine n) = table.PrecedingLine n
move_of (move.ToColumn column) = table.ToColumn column
move_of (move.ToLine line) = table.ToLine line
move_of (move.ToPosition line column) = table.ToPosition line column

abbrev pub table_function : ControlFunction → table.ControlFunction
table_function (code.Moves movement) = table.Moves (move_of movement)
table_function code.LineFeed = table.LineFeed
table_function code.CarriageReturn = table.CarriageReturn
table_function code.NextRow = table.NextRow
table_function code.ReverseIndex = table.ReverseIndex
table_function code.EraseToEndOfDisplay = table.EraseToEndOfDisplay
table_function code.EraseDisplay = table.EraseDisplay
table_function code.EraseToEndOfLine = table.EraseToEndOfLine
table_function code.EraseLine = table.EraseLine
table_function (code.ScrollUp n) = table.ScrollUp n
table_function (code.ScrollDown n) = table.ScrollDown n
table_function (code.Rendition value) = table.Rendition value
table_function (code.Hyperlink link) = table.Hyperlink (option_map (λ l. l.value) link)
table_function (code.Title text) = table.Title (string_bytes text)
table_function (code.ShowCursor shown) = table.ShowCursor shown
table_function code.SaveCursor = table.SaveCursor
table_function code.RestoreCursor = table.RestoreCursor
table_function code.FullReset = table.FullReset
table_function code.ReportStatus = table.ReportStatus
table_function code.ReportPosition = table.ReportPosition

-- a control function or none, as a function's answer
abbrev pub table_functions : Option ControlFunction → Option table.ControlFunction
table_functions found = option_map table_function found

-- a function of xterm's own, where a region scrolls
abbrev pub own_function : Region → XtermFunction → xterm.XtermFunction
own_function region (own.EraseCharacters n) = xterm.EraseCharacters n
own_function region (own.InsertCharacters n) = xterm.InsertCharacters n
own_function region (own.DeleteCharacters n) = xterm.DeleteCharacters n
own_function region own.EraseToEndOfLine = xterm.EraseToEndOfLine
own_function region own.EraseToStartOfLine = xterm.EraseToStartOfLine
own_function region own.EraseToEndOfDisplay = xterm.EraseToEndOfDisplay
own_function region own.EraseToStartOfDisplay = xterm.EraseToStartOfDisplay
own_function region own.LineFeed = xterm.LineFeed region
own_function region own.NextLine = xterm.NextLine region
own_function region own.ReverseIndex = xterm.ReverseIndex region
own_function region (own.ScrollUp n) = xterm.ScrollUp region n
own_function region (own.ScrollDown n) = xterm.ScrollDown region n
own_function region (own.InsertLines n) = xterm.InsertLines region n
own_function region (own.DeleteLines n) = xterm.DeleteLines region n

-- a function of the two screens; and how modes become others
abbrev pub screen_function : ScreenFunction → screens.ScreenFunction
screen_function switch.SaveCursor = screens.SaveCursor
screen_function switch.RestoreCursor = screens.RestoreCursor
screen_function switch.ShowOther = screens.ShowOther
screen_function switch.ClearAndShowOther = screens.ClearAndShowOther
screen_function switch.SaveAndClear = screens.SaveAndClear
screen_function switch.SaveAndShowCleared = screens.SaveAndShowCleared
screen_function switch.ShowAndRestore = screens.ShowAndRestore
screen_function switch.SoftReset = screens.SoftReset
screen_function switch.PushTitle = screens.PushTitle
screen_function switch.PopTitle = screens.PopTitle

abbrev pub setting_of : Setting → request.Setting
setting_of set.Reset = request.ToReset
setting_of (set.Region top bottom) = request.ToRegion (record { top = top; bottom = bottom })
setting_of (set.Origin origin) = request.ToOrigin origin
setting_of (set.Insert insert) = request.ToInsert insert
setting_of (set.Autowrap autowrap) = request.ToAutowrap autowrap
setting_of (set.Newline newline) = request.ToNewline newline
setting_of (set.Stop column stop) = request.ToStop column stop
setting_of (set.NoStops width) = request.ToNoStops width
setting_of (set.First charset) = request.ToFirst (charset_in charset)
setting_of (set.Second charset) = request.ToSecond (charset_in charset)
setting_of (set.Shift shifted) = request.ToShift shifted
setting_of (set.Flag flag on) = request.ToFlag flag on
setting_of (set.Mouse protocol) = request.ToMouse protocol
setting_of (set.Encoding encoding) = request.ToEncoding encoding
setting_of (set.WithoutEncoding encoding) = request.WithoutEncoding encoding
setting_of (set.Style style) = request.ToStyle style

-- the text of a reply
abbrev pub reply_text : Reply → List ℕ
reply_text (reply.Position row column) = position_text row column
reply_text (reply.ExtendedPosition row column) = extended_position_text row column
reply_text reply.PrimaryAttributes = primary_reply
reply_text reply.SecondaryAttributes = secondary_reply
reply_text (reply.Mode number state) = mode_report number state
reply_text (reply.PrivateMode number state) = private_report number state

-- what is asked for, and nothing or something, as a function's answer
abbrev pub asked_for : Region → Request → request.Request
asked_for region (asked.Table function) = request.Table (table_function function)
asked_for region (asked.Xterm function) = request.Xterm (own_function region function)
asked_for region (asked.Sets setting function) = request.Sets (setting_of setting) (table_function function)
asked_for region (asked.SetsAlone setting) = request.SetsAlone (setting_of setting)
asked_for region (asked.Switches function) = request.Switches (screen_function function)
asked_for region (asked.Repeats count) = request.Repeats count
asked_for region asked.Aligns = request.Aligns
asked_for region (asked.Reply reply) = request.Replies (reply_text reply)
asked_for region asked.Nothing = request.Nothing

abbrev pub maybe_asked : Region → Option Request → Option request.Request
maybe_asked region found = option_map (asked_for region) found
