-- A viewer that reads a patch: it shows the screen, is idle, and prints the fresh cells.
use Rattle.std.proofs.Common.{◌≡◌, ℕ, List, [], ◌∷◌, ◌++◌, map, fold, refl, sym, ap, subst, ◌∙◌, append-nil}
use Rattle.cell_base.specs.Cluster.{clusters}
use Rattle.cell_base.specs.Row.{space}
use Rattle.cell_base.specs.Screen.{Screen, height}
use Rattle.screen_change.specs.ChangeValue.{ChangeValue}
use Rattle.escape_framing.specs.Cut.{tail_of}
use Rattle.escape_framing.specs.Held.{held_of, nothing_held}
use Rattle.escape_framing.specs.Segment.{Begun}
use Rattle.escape_stream.specs.StreamAction.{StreamAction}
use Rattle.escape_stream.specs.StreamActions.{newly_decided_actions}
use Rattle.escape_stream.specs.StreamWritable.{WritableListsReadOn, read_form}
use Rattle.screen_effects.specs.Display.{IsDisplay}
use Rattle.screen_effects.specs.Strokes.{Cluster}
use Rattle.screen_difference.specs.Prints.{PlacedText, changes_print, strokes_print, strokes_scroll}
use Rattle.screen_effects.specs.WrittenCells.{IsSoundDisplay}
use Rattle.terminal_viewers.specs.Patch.{patch_changes}
use Rattle.terminal_viewers.specs.Reading.{CanReadPatch, PatchesAreShown, PatchesArePlain, PatchesLeaveIdle, PatchesPrintFreshCells, patch_for}
use Rattle.terminal_viewers.proofs.ActionLemmas.{Sends, events_append, plain_append, plain_done, plain_put, read_prints}
use Rattle.terminal_table.proofs.LedLemmas.{DifferencesKeepRest, RegionsHavePositions, ScreensAreShown}
use Rattle.terminal_viewers.proofs.PrintLemmas.{DifferencesAreStill, DifferencesPrintCells, PrintsJoin, StillJoin, changes_send, patch_is, patch_prints, patch_still}
use Rattle.terminal_table.specs.Prints.{ArePlainEvents, events_print, prints}
use Rattle.terminal_render.specs.Effects.{actions_done}
use Rattle.terminal_render.specs.Lists.{ListTextsHaveTheEffect, ListTextsLeaveIdle}
use Rattle.terminal_render.specs.Spelling.{HaveEncodings, IsSpelledScreen}
use Rattle.terminal_render.proofs.RequestLemmas.{display_on_is}
use Rattle.terminal_table.specs.History.{Act, Event, Looked}
use Rattle.terminal_table.specs.Meaning.{View, event_done}
use Rattle.terminal_table.proofs.RunLemmas.{no_clusters}
use Rattle.terminal_viewers.specs.Shows.{replayed_on}
use Rattle.terminal_viewers.specs.Update.{display_on}
use Rattle.terminal_viewers.proofs.ViewerLemmas.{CanFollow, Encoded, SpelledChangesAreWritable, changes_are_shown, changes_leave_idle, encoded_changes}

-- ---- premises: laws of patches

abbrev pub PatchesLead : Type 0
PatchesLead = (width_of : List ℕ → ℕ) (old : Screen) (new : Screen) → width_of space ≡ 1 → IsDisplay (display_on old) → IsDisplay (display_on new) → IsSoundDisplay width_of (display_on new) → old.width ≡ new.width → height old ≡ height new
    → replayed_on width_of old (patch_changes old new) ≡ new

abbrev pub PatchesHaveEncodings : Type 0
PatchesHaveEncodings = (old : Screen) (new : Screen) → IsDisplay (display_on old) → IsDisplay (display_on new) → old.width ≡ new.width → height old ≡ height new → IsSpelledScreen new → HaveEncodings new.width (height new) (patch_changes old new)

module _ (leads : PatchesLead) (spells : PatchesHaveEncodings) (writes : SpelledChangesAreWritable) where
  can_follow : (width_of : List ℕ → ℕ) (viewer : View) (screen : Screen) → CanReadPatch width_of viewer screen → CanFollow width_of viewer screen (patch_changes viewer.state.screen screen)
  can_follow width_of viewer screen can =
      let old : Screen = viewer.state.screen in
      let shown : IsDisplay (display_on old) = display_on_is old can.ready.lawful can.ready.whole in
      record {
        ready = can.ready;
        idle = can.idle;
        display = can.display;
        wide = can.wide;
        tall = can.tall;
        spelled = spells old screen shown can.display can.wide can.tall can.spelled;
        leads = leads width_of old screen can.narrow shown can.display can.sound can.wide can.tall;
      }

  pub patch_is_shown : ListTextsHaveTheEffect → PatchesAreShown
  patch_is_shown texts width_of viewer screen can =
      changes_are_shown writes width_of viewer screen (patch_changes viewer.state.screen screen) (can_follow width_of viewer screen can) texts

  pub patch_leaves_idle : ListTextsLeaveIdle → PatchesLeaveIdle
  patch_leaves_idle idles width_of viewer screen can =
      changes_leave_idle writes width_of viewer screen (patch_changes viewer.state.screen screen) (can_follow width_of viewer screen can) idles

  -- ---- the texts that are printed

  module _ (keeps : DifferencesKeepRest) (positions : RegionsHavePositions) (shows : ScreensAreShown) (print : DifferencesPrintCells) (calm : DifferencesAreStill) (join : PrintsJoin) (still_join : StillJoin)
      (whole : (stream : List ℕ) → held_of stream ≡ nothing_held → tail_of stream ≡ Begun []) (reads : WritableListsReadOn) (idles : PatchesLeaveIdle) where
    module _ (f : List ℕ → ℕ) (viewer : View) (screen : Screen) (can : CanReadPatch f viewer screen) where
      abbrev old : Screen
      old = viewer.state.screen

      abbrev changes : List ChangeValue
      changes = patch_changes old screen

      shown : IsDisplay (display_on old)
      shown = display_on_is old can.ready.lawful can.ready.whole

      s : Encoded viewer screen changes
      s = encoded_changes writes f viewer screen changes (can_follow f viewer screen can)

      abbrev texts : List PlacedText
      texts = changes_print f (display_on old) changes

      encode : Sends f viewer s.actions texts
      encode =
          changes_send f viewer (display_on old) changes s.actions can.ready shown refl (patch_is old screen shown can.display can.wide can.spelled)
          (patch_still keeps positions shows print calm join still_join f old screen can.narrow shown can.display can.sound can.wide can.tall) s.rendered

      read_back : (events_print f viewer (map Act (read_form s.actions)) ≡ texts) × ArePlainEvents f viewer (map Act (read_form s.actions))
      read_back = read_prints f s.actions viewer texts can.ready.plain encode

      decided : newly_decided_actions viewer.stream (patch_for viewer screen) ≡ read_form s.actions
      decided = ap (newly_decided_actions viewer.stream) s.bytes ∙ reads viewer.stream s.actions (whole viewer.stream can.idle.stream) s.writable

      abbrev after : View
      after = actions_done f viewer (read_form s.actions)

      no_run : after.held ≡ []
      no_run =
          sym (ap (λ (es : List Event). (fold (event_done f) viewer es).held) (append-nil (map Act (newly_decided_actions viewer.stream (patch_for viewer screen))) ∙ ap (map Act) decided))
          ∙ (idles f viewer screen can).run

      pub fresh_printed : prints f viewer (patch_for viewer screen) ≡ texts
      fresh_printed =
          ap (λ (xs : List StreamAction). events_print f viewer (map Act xs ++ Looked ∷ [])) decided
          ∙ events_append f viewer (map Act (read_form s.actions)) (Looked ∷ [])
          ∙ (λ i. read_back.0 i ++ (strokes_print f after.state.screen (map Cluster (clusters (no_run i))) ++ []))
          ∙ (λ i. texts ++ (strokes_print f after.state.screen (map Cluster (no_clusters i)) ++ []))
          ∙ append-nil texts

      pub plain_read : ArePlainEvents f viewer (map Act (newly_decided_actions viewer.stream (patch_for viewer screen)) ++ Looked ∷ [])
      plain_read =
          subst (λ (xs : List StreamAction). ArePlainEvents f viewer (map Act xs ++ Looked ∷ [])) (sym decided)
          (plain_append f viewer (map Act (read_form s.actions)) (Looked ∷ []) read_back.1 (
            record {
              rows = refl;
              still = refl;
              run = λ e. (λ i. strokes_scroll f after.state.screen (map Cluster (clusters (no_run i)))) ∙ ap (λ (ts : List (List ℕ)). strokes_scroll f after.state.screen (map Cluster ts)) no_clusters;
              put = λ e. plain_put f after (plain_done f viewer (read_form s.actions) can.ready.plain);
            },
            tt,
          ))

    pub patch_prints_fresh : PatchesPrintFreshCells
    patch_prints_fresh f viewer screen can =
        fresh_printed f viewer screen can
        ∙ patch_prints keeps positions shows print calm join still_join f viewer.state.screen screen can.narrow (display_on_is viewer.state.screen can.ready.lawful can.ready.whole) can.display can.sound can.wide can.tall

    pub patch_is_plain : PatchesArePlain
    patch_is_plain f viewer screen can = plain_read f viewer screen can
