-- The effect of a run of printed characters, and what is logged for it: its clusters (UAX 29) are put at the cursor,
-- one after another. Here the meaning of runs forks by the profile: under xterm something may be asked for before a
-- cluster.
use Rattle.std.specs.Prelude.{ℕ, zero, suc, ◌+◌, ◌&&◌, ◌||◌, Bool, not, nat_le, List, [], ◌∷◌, ◌++◌, fold, length}
use Rattle.std.specs.Prelude.{Option, Some, None, if◌then◌else◌}
use Rattle.cell_base.specs.Cluster.{clusters}
use Rattle.cell_base.specs.Screen.{Screen, cluster_columns, put, put_run}
use Rattle.screen_change.specs.ChangeValue.{ChangeValue}
use Rattle.terminal_table.specs.Changes.{changes, run_change}
use Rattle.terminal_table.specs.Charsets.{charset_in_use, text_in}
use Rattle.terminal_table.specs.Functions.{Moves, Right}
use Rattle.terminal_table.specs.Modes.{Modes, region_on, with_last}
use Rattle.terminal_table.specs.Request.{Request, Table, Xterm}
use Rattle.terminal_table.specs.Led.{led}
use Rattle.terminal_table.specs.State.{State}
use Rattle.terminal_table.specs.Steps.{screen_step}
use Rattle.terminal_table.specs.Xterm.{InsertCharacters, xterm_screen}
use Rattle.terminal_table.specs.Feeds.{feeds_plainly, next_line_request}

-- ---- before a cluster is put under xterm

-- how many columns the cluster takes
abbrev pub columns_for : (List ℕ → ℕ) → Screen → List ℕ → ℕ
columns_for width_of screen cluster = length (cluster_columns width_of screen cluster)

-- so many columns fit in the cursor's row
abbrev pub fits : ℕ → Screen → Bool
fits columns screen = nat_le (screen.column + columns) screen.width

-- nothing is asked for: they fit, or a plain terminal's put leads to the next row as NEL does
abbrev pub is_put_plainly : Modes → ℕ → Screen → Bool
is_put_plainly modes columns screen =
    not modes.insert && (fits columns screen || (modes.autowrap && feeds_plainly (region_on modes screen) screen))

-- where they don't fit: NEL; without autowrap (DECAWM) no wrap is pending
abbrev pub wrap_request : Modes → ℕ → Screen → Option Request
wrap_request modes columns screen =
    if fits columns screen then None
    else if modes.autowrap then Some (next_line_request (region_on modes screen) screen)
    else Some (Table (Moves (Right 0)))

-- in insert mode (IRM) columns are inserted, if they fit then
abbrev pub insert_request : Modes → ℕ → Screen → Option Request
insert_request modes columns screen =
    if modes.insert && fits columns screen then Some (Xterm (InsertCharacters columns)) else None

-- ---- a run under xterm

-- A run on its way: the changes so far, the screen that they lead to, the clusters after it that are put plainly,
-- joined, and the screen with these.
pub record Running : Type 0 where
  pub changes : List ChangeValue
  pub led : Screen
  pub text : List ℕ
  pub screen : Screen

abbrev pub run_begun : Screen → Running
run_begun screen = record { changes = []; led = screen; text = []; screen = screen }

-- a text is one change, and none where it is empty
abbrev pub text_changes : List ℕ → List ChangeValue
text_changes [] = []
text_changes (byte ∷ bytes) = run_change (byte ∷ bytes) ∷ []

-- the clusters so far become a change
abbrev pub text_put : (List ℕ → ℕ) → Running → Running
text_put width_of run =
    let screen = put_run width_of run.led run.text in
    record { changes = run.changes ++ text_changes run.text; led = screen; text = []; screen = screen }

-- a state with a screen, and nothing else
abbrev pub screen_alone : Screen → State
screen_alone screen = record { screen = screen; saved = None; replies = []; modes = None }

-- the screen after what is asked for there, a function of the table or one that only xterm has; and its changes
abbrev pub screen_asked : Option Request → Screen → Screen
screen_asked (Some (Table function)) screen = screen_step function None screen
screen_asked (Some (Xterm function)) screen = xterm_screen function screen
screen_asked _ screen = screen

abbrev pub changes_asked : Option Request → Screen → List ChangeValue
changes_asked (Some (Table function)) screen = changes function None screen
changes_asked (Some (Xterm function)) screen = led screen (xterm_screen function screen)
changes_asked _ screen = []

-- what is asked for is done
abbrev pub asked : Option Request → Running → Running
asked request run =
    let screen = screen_asked request run.led in
    record { changes = run.changes ++ changes_asked request run.led; led = screen; text = []; screen = screen }

abbrev pub prepared : Modes → ℕ → Running → Running
prepared modes columns run =
    let wrapped = asked (wrap_request modes columns run.led) run in
    asked (insert_request modes columns wrapped.led) wrapped

abbrev pub with_cluster : (List ℕ → ℕ) → Running → List ℕ → Running
with_cluster width_of run cluster =
    record run { text = run.text ++ cluster; screen = put width_of run.screen cluster }

-- the next cluster; one that doesn't fit yet, which is wide and in the last column, isn't shown
abbrev pub put_next : Modes → (List ℕ → ℕ) → Running → List ℕ → Running
put_next modes width_of run cluster =
    let columns = columns_for width_of run.screen cluster in
    let ready = prepared modes columns (text_put width_of run) in
    if is_put_plainly modes columns run.screen then with_cluster width_of run cluster
    else if fits columns ready.led then with_cluster width_of ready cluster
    else ready

abbrev pub run_done : Modes → (List ℕ → ℕ) → Screen → List ℕ → Running
run_done modes width_of screen text =
    text_put width_of (fold (put_next modes width_of) (run_begun screen) (clusters text))

-- ---- a run under either profile

-- the characters of a run as the character set in use has them
abbrev pub text_as : Modes → List ℕ → List ℕ
text_as modes text = text_in (charset_in_use modes.charsets) text

-- the screen after it
abbrev pub run_screen : Option Modes → (List ℕ → ℕ) → Screen → List ℕ → Screen
run_screen None width_of screen text = put_run width_of screen text
run_screen (Some modes) width_of screen text = (run_done modes width_of screen (text_as modes text)).led

-- what is logged for it: one change on a plain terminal
abbrev pub run_changes : Option Modes → (List ℕ → ℕ) → Screen → List ℕ → List ChangeValue
run_changes None width_of screen text = run_change text ∷ []
run_changes (Some modes) width_of screen text = (run_done modes width_of screen (text_as modes text)).changes

-- the modes after it: they keep it as the run before
abbrev pub run_modes : List ℕ → Option Modes → Option Modes
run_modes text None = None
run_modes text (Some modes) = Some (with_last (text_as modes text) modes)

abbrev pub run_step : (List ℕ → ℕ) → List ℕ → State → State
run_step width_of text state =
    record state {
      screen = run_screen state.modes width_of state.screen text;
      modes = run_modes text state.modes;
    }

-- the changes of a run that ends on a state
abbrev pub run_changes_of : (List ℕ → ℕ) → List ℕ → State → List ChangeValue
run_changes_of width_of text state = run_changes state.modes width_of state.screen text

-- ---- a cluster that is repeated (REP, ECMA-48 8.3.103)

-- the last cluster of a run; none, where the run is empty
abbrev pub last_cluster : List ℕ → List ℕ
last_cluster text = fold (λ _ cluster. cluster) [] (clusters text)

-- that of the run before, put so many times, each time as a run of its own: the screen after it, and the changes
abbrev pub put_again : Modes → (List ℕ → ℕ) → Screen → Running
put_again modes width_of screen = run_done modes width_of screen (last_cluster modes.last)

abbrev pub screen_repeated : Modes → (List ℕ → ℕ) → ℕ → Screen → Screen
screen_repeated modes width_of zero screen = screen
screen_repeated modes width_of (suc count) screen =
    screen_repeated modes width_of count (put_again modes width_of screen).led

abbrev pub changes_repeated : Modes → (List ℕ → ℕ) → ℕ → Screen → List ChangeValue
changes_repeated modes width_of zero screen = []
changes_repeated modes width_of (suc count) screen =
    let put = put_again modes width_of screen in
    put.changes ++ changes_repeated modes width_of count put.led
