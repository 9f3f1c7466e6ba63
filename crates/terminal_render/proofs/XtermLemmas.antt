-- The functions that only xterm has leave screens that have an encoding, and what is logged for them has one.
use Rattle.std.proofs.Common.{ℕ, List, [], ◌∷◌, refl, sym, subst}
use Rattle.cell_base.specs.Row.{Column, Row, Narrow, LeftHalf, RightHalf}
use Rattle.cell_base.specs.Screen.{Screen, height}
use Rattle.xterm_table.proofs.ColumnLemmas.{Each, IsKept}
use Rattle.xterm_table.proofs.FollowLemmas.{FollowsWith}
use Rattle.terminal_table.specs.Led.{led}
use Rattle.terminal_table.specs.State.{State, IsState}
use Rattle.terminal_table.specs.Xterm.{XtermFunction, xterm_screen}
use Rattle.terminal_table.proofs.XtermLemmas.{function_follows, pen_stays, title_stays, xterm_follows}
use Rattle.terminal_render.specs.Spelling.{HaveEncodings, IsSpelledPen, IsSpelledRow, IsSpelledRun, IsSpelledScreen, IsSpelledTitle}
use Rattle.terminal_render.proofs.DisplayLemmas.{blank_spelled}
use Rattle.terminal_render.proofs.LedLemmas.{led_has}
use Rattle.terminal_render.proofs.TextLemmas.{spelled_space}

-- a column has a spelled text and spelled attributes
abbrev IsSpelledColumn : Column → Type 0
IsSpelledColumn (Narrow text attributes) = IsSpelledRun text × IsSpelledPen attributes
IsSpelledColumn (LeftHalf text attributes) = IsSpelledRun text × IsSpelledPen attributes
IsSpelledColumn (RightHalf attributes) = IsSpelledPen attributes

spelled_kept : IsKept IsSpelledColumn
spelled_kept = record { left = λ text attributes p. (spelled_space, p.1); right = λ attributes p. (spelled_space, p) }

each_spelled : (row : Row) → IsSpelledRow row → Each IsSpelledColumn row
each_spelled [] p = tt
each_spelled (Narrow text attributes ∷ row) p = ((p.0, p.1), each_spelled row p.2)
each_spelled (LeftHalf text attributes ∷ row) p = ((p.0, p.1), each_spelled row p.2)
each_spelled (RightHalf attributes ∷ row) p = (p.0, each_spelled row p.1)

spelled_each : (row : Row) → Each IsSpelledColumn row → IsSpelledRow row
spelled_each [] p = tt
spelled_each (Narrow text attributes ∷ row) p = (p.0.0, p.0.1, spelled_each row p.1)
spelled_each (LeftHalf text attributes ∷ row) p = (p.0.0, p.0.1, spelled_each row p.1)
spelled_each (RightHalf attributes ∷ row) p = (p.0, spelled_each row p.1)

pub xterm_spelled : (width_of : List ℕ → ℕ) (function : XtermFunction) (state : State) → IsState width_of state → IsSpelledScreen state.screen → IsSpelledScreen (xterm_screen function state.screen)
xterm_spelled width_of function state h p =
    let s : Screen = state.screen in
    let f : FollowsWith IsSpelledColumn s (xterm_screen function s) = function_follows IsSpelledColumn spelled_kept s function s (record {
      wide = refl;
      tall = refl;
      some = h.lawful.wide_enough;
      column_in = h.lawful.column_in;
      row_in = h.lawful.row_in;
      rows = λ k d i. record { wide = h.lawful.even k d i; whole = h.whole k d i; each = each_spelled _ (p.rows k d i) };
      blank = (spelled_space, blank_spelled s.pen.background p.pen.background);
    }) in
    record {
      rows = λ k d i. spelled_each _ (f.rows k d i).each;
      pen = subst IsSpelledPen (sym (pen_stays function s)) p.pen;
      title = subst IsSpelledTitle (sym (title_stays function s)) p.title;
    }

-- at the size of the screen after it, which is that of the screen before it
pub xterm_has : (width_of : List ℕ → ℕ) (function : XtermFunction) (state : State) → IsState width_of state → IsSpelledScreen state.screen
    → let new = xterm_screen function state.screen in HaveEncodings new.width (height new) (led state.screen new)
xterm_has width_of function state h p =
    led_has width_of state.screen (xterm_screen function state.screen) h.lawful (xterm_follows width_of function state h) (xterm_spelled width_of function state h p)
