-- A viewer that is fed an update shows the update's screen; so it does with the encoding of any changes that lead to a screen.
use Rattle.std.proofs.Common.{◌≡◌, ◌≢◌, ℕ, ◌<◌, ◌^◌, List, [], ◌∷◌, length, refl, sym, ap, subst, ◌∙◌, arith}
use Rattle.std.specs.Prelude.{Option, Some, None, IfSome}
use Rattle.cell_base.specs.Row.{space}
use Rattle.cell_base.specs.Screen.{Screen, height}
use Rattle.cell_base.specs.ScreenSize.{IsScreenSize}
use Rattle.screen_change.specs.ChangeValue.{ChangeValue}
use Rattle.screen_log.specs.Log.{due}
use Rattle.screen_log.specs.LogSteps.{Sized}
use Rattle.escape_stream.specs.StreamAction.{StreamAction}
use Rattle.escape_stream.specs.StreamText.{stream_text}
use Rattle.escape_stream.specs.StreamWritable.{IsWritable}
use Rattle.screen_effects.specs.Display.{Display, IsDisplay}
use Rattle.screen_effects.specs.Effect.{replay}
use Rattle.screen_effects.specs.WrittenCells.{IsSoundDisplay}
use Rattle.terminal_render.specs.Effects.{IsReady}
use Rattle.terminal_render.specs.Lists.{all_rendered, ListTextsHaveTheEffect, ListTextsLeaveIdle}
use Rattle.terminal_render.specs.Spelling.{HaveEncodings, IsSpelledScreen}
use Rattle.terminal_render.proofs.LogLemmas.{all_some}
use Rattle.terminal_render.proofs.RequestLemmas.{display_on_is}
use Rattle.terminal_table.specs.Alone.{IsIdle}
use Rattle.terminal_table.specs.History.{Piece}
use Rattle.terminal_table.specs.Meaning.{View, after}
use Rattle.terminal_viewers.specs.Shows.{replayed_on}
use Rattle.terminal_viewers.specs.Update.{display_on, painted_anew, due_or, update_changes, bytes_of}
use Rattle.terminal_viewers.specs.Viewers.{CanRead, UpdatesAreShown, UpdatesLeaveIdle}

-- ---- premises: other laws

-- the screen painted anew is painted on any display of its size
abbrev pub UpdatesPaintTheScreen : Type 0
UpdatesPaintTheScreen = (width_of : List ℕ → ℕ) (other : Display) (screen : Screen) → width_of space ≡ 1 → IsDisplay (display_on screen) → IsSoundDisplay width_of (display_on screen) → IsDisplay other
    → other.screen.width ≡ screen.width → length other.screen.rows ≡ length screen.rows → (replay width_of other (painted_anew screen)).screen ≡ screen

-- the changes of an update have an encoding
abbrev pub UpdatesHaveEncodings : Type 0
UpdatesHaveEncodings = (screen : Screen) (log : Sized) (number : ℕ) → IsDisplay (display_on screen) → IsSpelledScreen screen → HaveEncodings screen.width (height screen) log.log.entries
    → HaveEncodings screen.width (height screen) (update_changes screen log number)

-- the encoding of changes that each have one reads back
abbrev pub SpelledChangesAreWritable : Type 0
SpelledChangesAreWritable = (width height : ℕ) (changes : List ChangeValue) (actions : List StreamAction) → IsScreenSize width height → HaveEncodings width height changes
    → all_rendered changes width height ≡ Some actions → IsWritable actions

-- ---- changes that lead to a screen

-- the value of an option that isn't `None`
there : {A : Type 0} (found : Option A) → found ≢ None → (x : A) × (found ≡ Some x)
there None h = absurd (h refl)
there (Some x) h = (x, refl)

-- Changes that lead a viewer to a screen of its size: it is ready, nothing is unfinished there, and the changes have encodings.
pub record CanFollow (width_of : List ℕ → ℕ) (viewer : View) (screen : Screen) (changes : List ChangeValue) : Type 0 where
  pub ready : IsReady viewer
  pub idle : IsIdle viewer
  pub display : IsDisplay (display_on screen)
  pub wide : viewer.state.screen.width ≡ screen.width
  pub tall : height viewer.state.screen ≡ height screen
  pub spelled : HaveEncodings screen.width (height screen) changes
  pub leads : replayed_on width_of viewer.state.screen changes ≡ screen

-- their bytes
abbrev pub bytes_for : Screen → List ChangeValue → List ℕ
bytes_for screen changes = bytes_of (all_rendered changes screen.width (height screen))

-- the rendering of these changes, and its bytes, which read back
pub record Encoded (viewer : View) (screen : Screen) (changes : List ChangeValue) : Type 0 where
  pub actions : List StreamAction
  pub rendered : all_rendered changes viewer.state.screen.width (height viewer.state.screen) ≡ Some actions
  pub bytes : bytes_for screen changes ≡ stream_text actions
  pub writable : IsWritable actions

some_row : (screen : Screen) → IsDisplay (display_on screen) → 0 < height screen
some_row screen h = let k = h.lawful.row_in in omega arith

module _ (writes : SpelledChangesAreWritable) (width_of : List ℕ → ℕ) (viewer : View) (screen : Screen) (changes : List ChangeValue) (can : CanFollow width_of viewer screen changes) where
  pub encoded_changes : Encoded viewer screen changes
  encoded_changes =
      let found = there (all_rendered changes screen.width (height screen)) (all_some screen.width (height screen) changes can.spelled) in
      record {
        actions = found.0;
        rendered = (λ i. all_rendered changes (can.wide i) (can.tall i)) ∙ found.1;
        bytes = ap bytes_of found.1;
        writable = writes screen.width (height screen) changes found.0
            (record { columns = (can.display.lawful.wide_enough, subst (λ n. n < 2 ^ 32) can.wide can.ready.width); rows = (some_row screen can.display, subst (λ n. n < 2 ^ 32) can.tall can.ready.height) })
            can.spelled found.1;
      }

  pub changes_are_shown : ListTextsHaveTheEffect → (after width_of viewer (Piece (bytes_for screen changes) ∷ [])).state ≡ record viewer.state { screen = screen }
  changes_are_shown texts =
      ap (λ bytes. (after width_of viewer (Piece bytes ∷ [])).state) encoded_changes.bytes
      ∙ ap (λ (v : View). v.state) (texts width_of viewer (display_on viewer.state.screen) changes encoded_changes.actions can.ready can.idle encoded_changes.writable (display_on_is viewer.state.screen can.ready.lawful can.ready.whole) refl encoded_changes.rendered)
      ∙ ap (λ x. record viewer.state { screen = x }) can.leads

  pub changes_leave_idle : ListTextsLeaveIdle → IsIdle (after width_of viewer (Piece (bytes_for screen changes) ∷ []))
  changes_leave_idle idles =
      subst (λ bytes. IsIdle (after width_of viewer (Piece bytes ∷ []))) (sym encoded_changes.bytes)
      (idles width_of viewer (display_on viewer.state.screen) changes encoded_changes.actions can.ready can.idle encoded_changes.writable (display_on_is viewer.state.screen can.ready.lawful can.ready.whole) refl encoded_changes.rendered)

-- ---- updates are changes of this kind

module _ (paints : UpdatesPaintTheScreen) (spells : UpdatesHaveEncodings) where
  can_follow : (width_of : List ℕ → ℕ) (viewer : View) (screen : Screen) (log : Sized) (number : ℕ) → CanRead width_of viewer screen log number → CanFollow width_of viewer screen (update_changes screen log number)
  can_follow width_of viewer screen log number can = record {
    ready = can.ready;
    idle = can.idle;
    display = can.display;
    wide = can.shows.wide;
    tall = can.shows.tall;
    spelled = spells screen log number can.display can.spelled can.encodings;
    leads = due_leads (due log.most log.log number) can.shows.leads;
  }
    where
      painted : replayed_on width_of viewer.state.screen (painted_anew screen) ≡ screen
      painted = paints width_of (display_on viewer.state.screen) screen can.narrow can.display can.sound (display_on_is viewer.state.screen can.ready.lawful can.ready.whole) can.shows.wide can.shows.tall

      due_leads : (changes : Option (List ChangeValue)) → IfSome changes (λ cs. replayed_on width_of viewer.state.screen cs ≡ screen) → replayed_on width_of viewer.state.screen (due_or (painted_anew screen) changes) ≡ screen
      due_leads None h = painted
      due_leads (Some changes) h = h

  pub update_is_shown : SpelledChangesAreWritable → ListTextsHaveTheEffect → UpdatesAreShown
  update_is_shown writes texts width_of viewer screen log number can =
      changes_are_shown writes width_of viewer screen (update_changes screen log number) (can_follow width_of viewer screen log number can) texts

  pub update_leaves_idle : SpelledChangesAreWritable → ListTextsLeaveIdle → UpdatesLeaveIdle
  update_leaves_idle writes idles width_of viewer screen log number can =
      changes_leave_idle writes width_of viewer screen (update_changes screen log number) (can_follow width_of viewer screen log number can) idles
