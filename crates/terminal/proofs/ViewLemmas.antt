-- Viewers that are terminals, and the screens that they show after updates, patches and sessions.
use Rattle.std.proofs.Common.{◌≡◌, ℕ, ◌+◌, ◌*◌, ◌<◌, ◌≤◌, ◌^◌, false, Option, Some, None, List, [], ◌∷◌, ◌++◌, length, map, refl, sym, ap, subst, ◌∙◌, arith}
use Rattle.cell_base.specs.Row.{space, plain_row}
use Rattle.cell_base.specs.Screen.{Screen, IsScreen, height}
use Rattle.cell_base.specs.ScreenSize.{IsScreenSize}
use Rattle.screen_change.specs.ChangeValue.{ChangeValue}
use Rattle.cell_surface.specs.Surface.{Surface, number_of}
use Rattle.screen_log.specs.LogSteps.{Forgotten, Sized, step_of_kept}
use Rattle.screen_log.specs.Log.{due, most_due}
use Rattle.escape_framing.specs.Framed.{IsReached}
use Rattle.escape_framing.specs.Held.{Held, hand_out, held_of, nothing_held}
use Rattle.escape_stream.specs.StreamAction.{StreamAction}
use Rattle.escape_stream.specs.StreamText.{stream_text}
use Rattle.escape_stream.specs.StreamActions.{stream_actions}
use Rattle.escape_stream.specs.StreamWritable.{IsWritable, WritableListsReadBack}
use Rattle.screen_difference.specs.FreshCells.{screen_fresh}
use Rattle.screen_effects.specs.Display.{Display, IsDisplay}
use Rattle.screen_effects.specs.Effect.{effect}
use Rattle.screen_difference.specs.Prints.{text_of}
use Rattle.screen_effects.specs.WrittenCells.{IsSoundDisplay}
use Rattle.std.proofs.lemmas.List.{length-map, length-replicate}
use Rattle.terminal.specs.Headline.{StandsAt, GoesBy}
use Rattle.terminal.specs.Terminal.{Terminal, IsIdle, IsSpelled, state_in}
use Rattle.terminal.specs.Viewing.{CanReadFrom, ShowsAt, changes_for, patch_from, standing_of, update_for, update_prints}
use Rattle.terminal.proofs.GoLemmas.{looked, stands_somewhere, went, with_parts}
use Rattle.terminal.proofs.LawLemmas.{idle_view}
use Rattle.terminal.proofs.PrintLemmas.{prints_stay}
use Rattle.terminal.proofs.SpellLemmas.{still_held}
use Rattle.terminal_steps.specs.Events as steps
use Rattle.terminal_steps.specs.declared.state.TerminalState.{TerminalState}
use Rattle.terminal_viewers.specs.Patch.{patch_of, position_prints}
use Rattle.terminal_viewers.specs.Reading.{CanReadPatch, PatchesAreShown, PatchesArePlain, PatchesLeaveIdle, PatchesPrintFreshCells, patch_for}
use Rattle.terminal_table.specs.Prints.{IsPlain}
use Rattle.terminal_table.specs.Prints.{prints as prints_of}
use Rattle.terminal_render.specs.Effects.{IsReady, RenderedTextsHaveTheEffect, RenderedTextsLeaveIdle}
use Rattle.terminal_render.specs.Lists.{all_rendered}
use Rattle.terminal_render.specs.Rendering.{rendering}
use Rattle.terminal_viewers.specs.Showing.{CanAnswer}
use Rattle.terminal_render.specs.EncodedSizes.{AreShort, all_encoded_size, prints_in, runs_in}
use Rattle.terminal_render.specs.Spelling.{HaveEncodings, IsSpelledScreen, IsSpelledState, IsSpelledText}
use Rattle.terminal_table.proofs.StateLemmas.{replay_size}
use Rattle.terminal_render.proofs.RequestLemmas.{display_on_is}
use Rattle.terminal_table.specs.Alone as alone
use Rattle.terminal_table.specs.History.{History, Piece, Look, Looked, Forget}
use Rattle.terminal_table.specs.Logged.{event_logged}
use Rattle.terminal_table.specs.Meaning.{View, new_view, after, settled}
use Rattle.terminal_table.specs.State.{State, IsState}
use Rattle.terminal_table.specs.RunText.{IsRunText}
use Rattle.terminal_table.specs.Turns.{IsView, AreSizes, changes_in, replayed}
use Rattle.terminal_table.proofs.EventLemmas.{event_turns}
use Rattle.terminal_table.proofs.StateLemmas.{new_is}
use Rattle.terminal_viewers.specs.Shows.{Shows}
use Rattle.terminal_viewers.specs.Update.{display_on, update_changes, update_of, bytes_of, due_or, painted_anew}
use Rattle.terminal_viewers.specs.Updates.{updated, updates}
use Rattle.terminal_viewers.specs.Viewers.{CanRead, UpdatesAreShown, UpdatesLeaveIdle, UpdatesLeaveNewViewersIdle, UpdatesShowTheInput, ViewersGoOnShowing, repeated}

-- nothing is unfinished of an empty stream
idle_stream : held_of [] ≡ nothing_held
unfolding hand_out
idle_stream = refl

-- a terminal that stands at a lawful view, and whose changes have encodings
pub record IsSound {W : Type 0} (width_of : W → List ℕ → ℕ) (t : Terminal W) : Type 0 where
  pub view : View
  pub stands : StandsAt t view
  pub lawful : IsView (width_of t.surface.grid.widths) view
  pub spelled : IsSpelled t

module _ {W : Type 0} (width_of : W → List ℕ → ℕ) where
  abbrev of : Terminal W → List ℕ → ℕ
  of t = width_of t.surface.grid.widths

  pub sound_of : (t : Terminal W) → (view : View) × StandsAt t view × IsView (of t) view → IsSpelled t → IsSound width_of t
  sound_of t stands p = record { view = stands.0; stands = stands.1; lawful = stands.2; spelled = p }

  pub counted_of : (t : Terminal W) (s : Surface W) → s ≡ t.surface → length s.log.log.entries ≤ number_of s → length t.surface.log.log.entries ≤ number_of t.surface
  counted_of t s e h = subst (λ (x : Surface W). length x.log.log.entries ≤ number_of x) e h

  state_is : (t : Terminal W) → IsSound width_of t → IsState (of t) (state_in t)
  state_is t s = subst (IsState (of t)) (sym s.stands.state) s.lawful.lawful

  display_is : (t : Terminal W) → IsSound width_of t → IsDisplay (display_on (state_in t).screen)
  display_is t s = let h = state_is t s in display_on_is (state_in t).screen h.lawful h.whole

  -- a viewer that is ready and idle, and shows the terminal at a number, can read the update for that number
  can_read : (t : Terminal W) (viewer : View) (number : ℕ) (f : List ℕ → ℕ) → of t ≡ f → IsSound width_of t → IsReady viewer → alone.IsIdle viewer → ShowsAt width_of viewer.state.screen number t
      → CanRead f viewer (state_in t).screen t.surface.log number
  can_read t viewer number f e s ready idle shows = record {
    narrow = subst (λ (g : List ℕ → ℕ). g space ≡ 1) e s.lawful.lawful.narrow;
    ready = ready;
    idle = idle;
    display = display_is t s;
    sound = subst (λ g. IsSoundDisplay g (display_on (state_in t).screen)) e (state_is t s).sound;
    spelled = s.spelled.surface.spelled;
    encodings = s.spelled.surface.kept;
    shows = subst (λ g. Shows g viewer.state.screen number (state_in t).screen t.surface.log) e shows;
  }

  -- an idle viewer is ready for encodings
  ready_is : (v : Terminal W) (s : IsSound width_of v) → IsIdle v → v.modes ≡ None → IsReady s.view
  ready_is v s idle plain = record {
    lawful = s.lawful.lawful.lawful;
    whole = s.lawful.lawful.whole;
    width = subst (λ (x : State). x.screen.width < 2 ^ 32) s.stands.state s.spelled.surface.wide;
    height = subst (λ (x : State). height x.screen < 2 ^ 32) s.stands.state s.spelled.surface.tall;
    run = sym s.stands.run ∙ idle.run;
    plain = sym (ap (λ (x : State). x.modes) s.stands.state) ∙ plain;
  }

  -- a viewer at which an update was fed
  module _ (t v later : Terminal W) (number : ℕ) (st : IsSound width_of t) (sv : IsSound width_of v) (idle : IsIdle v) (plain : v.modes ≡ None) (same : of v ≡ of t)
      (shows : ShowsAt width_of (state_in v).screen number t) (g : GoesBy width_of v later (Piece (update_for t number) ∷ [])) where
    reads : CanRead (of v) sv.view (state_in t).screen t.surface.log number
    reads = can_read t sv.view number (of v) (sym same) st (ready_is v sv idle plain) (idle_view width_of v sv.view idle sv.stands)
        (subst (λ (x : State). ShowsAt width_of x.screen number t) sv.stands.state shows)

    pub update_shown : UpdatesAreShown → state_in later ≡ record (state_in v) { screen = (state_in t).screen }
    update_shown law =
        (g.stands sv.view sv.stands).state ∙ law (of v) sv.view (state_in t).screen t.surface.log number reads
        ∙ ap (λ (x : State). record x { screen = (state_in t).screen }) (sym sv.stands.state)

    pub update_idle : UpdatesLeaveIdle → IsIdle later
    update_idle law =
        let there = g.stands sv.view sv.stands in
        let quiet = law (of v) sv.view (state_in t).screen t.surface.log number reads in
        record { run = there.run ∙ quiet.run; unfinished = there.unfinished ∙ quiet.stream }

  -- ---- a viewer at which a patch was fed

  -- a sound terminal is sound at each view at which it stands
  abbrev pub at_view : (v : Terminal W) → IsSound width_of v → (view : View) → StandsAt v view → IsSound width_of v
  at_view v s view stands = record {
    view = view;
    stands = stands;
    lawful = record { lawful = subst (IsState (of v)) (sym s.stands.state ∙ stands.state) s.lawful.lawful; plain = subst IsRunText (sym s.stands.run ∙ stands.run) s.lawful.plain };
    spelled = s.spelled;
  }

  count_is : (t : Terminal W) → height (state_in t).screen ≡ length t.surface.grid.lines
  count_is t = length-map t.surface.grid.lines (λ l. l.columns)

  module _ (t v shown : Terminal W) (st : IsSound width_of t) (sv : IsSound width_of v) (can : CanReadFrom width_of t v shown) where
    abbrev new_screen : Screen
    new_screen = (state_in t).screen

    reads_patch : CanReadPatch (of v) sv.view new_screen
    reads_patch = record {
      narrow = sv.lawful.lawful.narrow;
      ready = ready_is v sv can.idle can.plain;
      idle = idle_view width_of v sv.view can.idle sv.stands;
      display = display_is t st;
      sound = subst (λ g. IsSoundDisplay g (display_on new_screen)) (sym can.widths) (state_is t st).sound;
      spelled = st.spelled.surface.spelled;
      wide = subst (λ (x : State). x.screen.width ≡ new_screen.width) sv.stands.state can.wide;
      tall = subst (λ (x : State). height x.screen ≡ height new_screen) sv.stands.state (count_is v ∙ can.tall ∙ sym (count_is t));
    }

    old_is : (state_in shown).screen ≡ sv.view.state.screen
    old_is = sym can.shows ∙ ap (λ (x : State). x.screen) sv.stands.state

    bytes_are : patch_from t shown ≡ patch_for sv.view new_screen
    bytes_are = ap (λ x. patch_of x new_screen) old_is

    pub patch_shown : PatchesAreShown → (later : Terminal W) → GoesBy width_of v later (Piece (patch_from t shown) ∷ []) → state_in later ≡ record (state_in v) { screen = (state_in t).screen }
    patch_shown law later g =
        (g.stands sv.view sv.stands).state ∙ ap (λ bytes. (after (of v) sv.view (Piece bytes ∷ [])).state) bytes_are ∙ law (of v) sv.view new_screen reads_patch
        ∙ ap (λ (x : State). record x { screen = new_screen }) (sym sv.stands.state)

    pub patch_idle : PatchesLeaveIdle → (later : Terminal W) → GoesBy width_of v later (Piece (patch_from t shown) ∷ []) → IsIdle later
    patch_idle law later g =
        let there = g.stands sv.view sv.stands in
        let quiet = subst (λ bytes. alone.IsIdle (after (of v) sv.view (Piece bytes ∷ []))) (sym bytes_are) (law (of v) sv.view new_screen reads_patch) in
        record { run = there.run ∙ quiet.run; unfinished = there.unfinished ∙ quiet.stream }

    pub patch_printed : PatchesPrintFreshCells → prints_of (of v) sv.view (patch_from t shown) ≡ map text_of (screen_fresh (state_in shown).screen (state_in t).screen) ++ position_prints (state_in t).screen
    patch_printed law =
        ap (prints_of (of v) sv.view) bytes_are ∙ law (of v) sv.view new_screen reads_patch
        ∙ ap (λ x. map text_of (screen_fresh x new_screen) ++ position_prints new_screen) (sym old_is)

    pub patch_plain : PatchesArePlain → IsPlain (of v) sv.view (patch_from t shown)
    patch_plain law = subst (IsPlain (of v) sv.view) (sym bytes_are) (law (of v) sv.view new_screen reads_patch)

  -- a look keeps the size
  pub record IsSize (one other : Terminal W) : Type 0 where
    pub wide : one.surface.grid.width ≡ other.surface.grid.width
    pub tall : length one.surface.grid.lines ≡ length other.surface.grid.lines

  pub look_keeps_size : (t now : Terminal W) → (view : View) × StandsAt t view × IsView (of t) view → GoesBy width_of t now (Look ∷ []) → IsSize t now
  look_keeps_size t now s g =
      let view : View = s.0 in
      let f = of t in
      let d : Display = display_on view.state.screen in
      let lawful : IsDisplay d = display_on_is view.state.screen s.2.lawful.lawful s.2.lawful.whole in
      let turned : (replayed f view Looked d).screen ≡ (settled f view).state.screen = (event_turns f view Looked d s.2 tt lawful refl).screen in
      let size = replay_size f (changes_in (event_logged f view Looked)) d lawful in
      let same : (state_in now).screen ≡ (replayed f view Looked d).screen = ap (λ (x : State). x.screen) (g.stands view s.1).state ∙ sym turned in
      let start : view.state.screen ≡ (state_in t).screen = ap (λ (x : State). x.screen) (sym s.1.state) in
      record {
        wide = sym (ap (λ (x : Screen). x.width) same ∙ size.wide ∙ ap (λ (x : Screen). x.width) start);
        tall = sym (count_is t) ∙ sym (ap (λ (x : Screen). height x) same ∙ size.tall ∙ ap (λ (x : Screen). height x) start) ∙ count_is now;
      }

  -- where the held run ends the size stays
  pub settle_keeps_size : (s r : TerminalState W) (u : Held) → IsReached u → steps.IsReady width_of s → steps.Had width_of s r (Looked ∷ []) → IsSize (with_parts s u) (with_parts r u)
  settle_keeps_size s r u reached ready had =
      look_keeps_size (with_parts s u) (with_parts r u) (stands_somewhere width_of s u (with_parts s u) reached ready refl)
      (went width_of s r u u (Look ∷ []) (λ view. Looked ∷ []) reached (looked (width_of s.surface.grid.widths)) (still_held width_of u) (λ view e. had))

  -- ---- sessions

  pub can_answer : (t : Terminal W) → (s : IsSound width_of t) → length t.surface.log.log.entries ≤ number_of t.surface → CanAnswer (of t) (standing_of t s.view)
  can_answer t s counted = record {
    lawful = s.lawful;
    wide = subst (λ (x : State). x.screen.width < 2 ^ 32) s.stands.state s.spelled.surface.wide;
    tall = subst (λ (x : State). height x.screen < 2 ^ 32) s.stands.state s.spelled.surface.tall;
    spelled = record { state = subst IsSpelledState s.stands.state (record { screen = s.spelled.surface.spelled; saved = s.spelled.saved; modes = s.spelled.modes }); held = subst IsSpelledText s.stands.run s.spelled.run };
    encodings = subst (λ (x : State). HaveEncodings x.screen.width (height x.screen) t.surface.log.log.entries) s.stands.state s.spelled.surface.kept;
    counted = counted;
  }

  -- ---- going on

  pub shown_on : ViewersGoOnShowing → (t now : Terminal W) (shown : Screen) (number : ℕ) (history : History) → IsSound width_of t → AreSizes history → IsDisplay (display_on shown) → length t.surface.log.log.entries ≤ number_of t.surface → number ≤ number_of t.surface
      → ShowsAt width_of shown number t → GoesBy width_of t now history → ShowsAt width_of (repeated history shown) number now
  shown_on law t now shown number history s sizes lawful counted within shows g =
      let f = of t in
      let there = g.stands s.view s.stands in
      let whole = law f shown number s.view t.surface.log history s.lawful sizes lawful counted within (subst (λ (x : State). Shows f shown number x.screen t.surface.log) s.stands.state shows) in
      let logged = subst (λ (l : Sized). Shows f (repeated history shown) number (after f s.view history).state.screen l) (sym (g.log s.view s.stands)) whole in
      let placed = subst (λ (x : State). Shows f (repeated history shown) number x.screen now.surface.log) (sym there.state) logged in
      subst (λ (w : W). Shows (width_of w) (repeated history shown) number (state_in now).screen now.surface.log) (sym g.widths) placed

  -- ---- forgetting

  pub forgets_nothing : (t now : Terminal W) (before : ℕ) → IsSound width_of t → GoesBy width_of t now (Forget before ∷ []) → state_in now ≡ state_in t
  forgets_nothing t now before s g = (g.stands s.view s.stands).state ∙ sym s.stands.state

  pub same_update : ((log : Sized) (before number : ℕ) → length log.log.entries ≤ log.log.number → before ≤ number → due log.most (step_of_kept log (Forgotten before)).log number ≡ due log.most log.log number)
      → (t now : Terminal W) (before number : ℕ) → IsSound width_of t → length t.surface.log.log.entries ≤ number_of t.surface → GoesBy width_of t now (Forget before ∷ []) → before ≤ number → update_for now number ≡ update_for t number
  same_update law t now before number s counted g within =
      (λ i. update_of (forgets_nothing t now before s g i).screen (g.log s.view s.stands i) number)
      ∙ ap (λ d. bytes_of (all_rendered (due_or (painted_anew (state_in t).screen) d) (state_in t).screen.width (height (state_in t).screen))) (law t.surface.log before number counted within)

  -- ---- the first update

  pub first_tells : UpdatesAreShown → (one other : Terminal W) → IsSound width_of one → IsSound width_of other → of one ≡ of other
      → (state_in one).screen.width ≡ (state_in other).screen.width → height (state_in one).screen ≡ height (state_in other).screen → update_for one 0 ≡ update_for other 0 → (state_in one).screen ≡ (state_in other).screen
  first_tells law one other s r same wide tall bytes =
      ap (λ (x : State). x.screen) (sym (seen one s refl refl refl) ∙ ap (λ b. (after (of one) viewer (Piece b ∷ [])).state) bytes ∙ seen other r (sym same) wide tall)
    where
      size : Screen
      size = (state_in one).screen

      viewer : View
      viewer = new_view size.width (height size)

      new : IsState (of one) viewer.state
      new = let h = (state_is one s).lawful in new_is (of one) None size.width (height size) tt s.lawful.lawful.narrow h.wide_enough (omega (arith, h.row_in))

      seen : (t : Terminal W) → IsSound width_of t → of t ≡ of one → size.width ≡ (state_in t).screen.width → height size ≡ height (state_in t).screen
          → (after (of one) viewer (Piece (update_for t 0) ∷ [])).state ≡ record viewer.state { screen = (state_in t).screen }
      seen t x e w h = law (of one) viewer (state_in t).screen t.surface.log 0 (can_read t viewer 0 (of one) e x
          (record { lawful = new.lawful; whole = new.whole; width = s.spelled.surface.wide; height = subst (λ n. n < 2 ^ 32) (sym (length-replicate (height size) (plain_row size.width))) s.spelled.surface.tall; run = refl; plain = refl })
          (record { run = refl; stream = idle_stream })
          (record { wide = w; tall = length-replicate (height size) (plain_row size.width) ∙ h; leads = tt }))

  -- ---- all updates of an input

  pub input_shown : UpdatesShowTheInput → (w : W) (width rows every : ℕ) (input : List ℕ) (new later : Terminal W) → width_of w space ≡ 1 → IsScreenSize width rows → StandsAt new (new_view width rows) → new.surface.grid.widths ≡ w
      → GoesBy width_of new later (Piece (updates (width_of w) width rows every input) ∷ []) → (state_in later).screen ≡ (updated (width_of w) width rows every input).state.screen
  input_shown law w width rows every input new later narrow size st e g =
      ap (λ (x : State). x.screen) (g.stands (new_view width rows) st).state
      ∙ ap (λ x. (after (width_of x) (new_view width rows) (Piece (updates (width_of w) width rows every input) ∷ [])).state.screen) e
      ∙ law (width_of w) width rows every input narrow size

  pub input_idle : UpdatesLeaveNewViewersIdle → (w : W) (width rows every : ℕ) (input : List ℕ) (new later : Terminal W) → width_of w space ≡ 1 → IsScreenSize width rows → StandsAt new (new_view width rows) → new.surface.grid.widths ≡ w
      → GoesBy width_of new later (Piece (updates (width_of w) width rows every input) ∷ []) → IsIdle later
  input_idle law w width rows every input new later narrow size st e g =
      let there = g.stands (new_view width rows) st in
      let bytes = updates (width_of w) width rows every input in
      let quiet = subst (λ x. alone.IsIdle (after (width_of x) (new_view width rows) (Piece bytes ∷ []))) (sym e) (law (width_of w) width rows every input narrow size) in
      record { run = there.run ∙ quiet.run; unfinished = there.unfinished ∙ quiet.stream }

  -- ---- the bytes, the texts and the changes of an update

  some_of : {A : Type 0} (o : Option A) → (o ≡ None → ⊥) → (x : A) × (o ≡ Some x)
  some_of None h = absurd (h refl)
  some_of (Some x) h = (x, refl)

  module _ (t : Terminal W) (s : IsSound width_of t) (number : ℕ) where
    abbrev screen : Screen
    screen = (state_in t).screen

    screen_size : IsScreenSize screen.width (height screen)
    screen_size =
        let lawful = (state_is t s).lawful in
        record { columns = (lawful.wide_enough, s.spelled.surface.wide); rows = (omega (arith, lawful.row_in), s.spelled.surface.tall) }

    spelled_update : ((x : Screen) (log : Sized) (n : ℕ) → IsDisplay (display_on x) → IsSpelledScreen x → HaveEncodings x.width (height x) log.log.entries → HaveEncodings x.width (height x) (update_changes x log n)) → HaveEncodings screen.width (height screen) (changes_for t number)
    spelled_update law = law screen t.surface.log number (display_is t s) s.spelled.surface.spelled s.spelled.surface.kept

    pub short : ((x : Screen) (log : Sized) (n : ℕ) → IsDisplay (display_on x) → IsSpelledScreen x → HaveEncodings x.width (height x) log.log.entries → HaveEncodings x.width (height x) (update_changes x log n))
        → ((w h : ℕ) (changes : List ChangeValue) → HaveEncodings w h changes → all_rendered changes w h ≡ None → ⊥)
        → ((w h : ℕ) (changes : List ChangeValue) (actions : List StreamAction) → IsScreenSize w h → HaveEncodings w h changes → all_rendered changes w h ≡ Some actions → length (stream_text actions) ≤ all_encoded_size changes)
        → length (update_for t number) ≤ all_encoded_size (changes_for t number)
    short law rendered size =
        let spelled = spelled_update law in
        let found = some_of (all_rendered (changes_for t number) screen.width (height screen)) (rendered screen.width (height screen) (changes_for t number) spelled) in
        subst (λ o. length (bytes_of o) ≤ all_encoded_size (changes_for t number)) (sym found.1)
        (size screen.width (height screen) (changes_for t number) found.0 screen_size spelled found.1)

    pub each_short : ((x : Screen) (log : Sized) (n : ℕ) → IsDisplay (display_on x) → IsSpelledScreen x → HaveEncodings x.width (height x) log.log.entries → HaveEncodings x.width (height x) (update_changes x log n))
        → ((w h : ℕ) (changes : List ChangeValue) → IsScreenSize w h → HaveEncodings w h changes → AreShort w h changes)
        → AreShort screen.width (height screen) (changes_for t number)
    each_short law size = size screen.width (height screen) (changes_for t number) screen_size (spelled_update law)

    pub prints : ((x : Screen) (log : Sized) (n : ℕ) → IsDisplay (display_on x) → IsSpelledScreen x → HaveEncodings x.width (height x) log.log.entries → HaveEncodings x.width (height x) (update_changes x log n))
        → ((w h : ℕ) (changes : List ChangeValue) → HaveEncodings w h changes → all_rendered changes w h ≡ None → ⊥)
        → ((w h : ℕ) (changes : List ChangeValue) (actions : List StreamAction) → IsScreenSize w h → HaveEncodings w h changes → all_rendered changes w h ≡ Some actions → IsWritable actions)
        → WritableListsReadBack
        → ((w h : ℕ) (changes : List ChangeValue) (actions : List StreamAction) → all_rendered changes w h ≡ Some actions → prints_in actions ≡ runs_in changes)
        → update_prints t number ≡ runs_in (changes_for t number)
    prints law rendered writable back once =
        let spelled = spelled_update law in
        let found = some_of (all_rendered (changes_for t number) screen.width (height screen)) (rendered screen.width (height screen) (changes_for t number) spelled) in
        let w = writable screen.width (height screen) (changes_for t number) found.0 screen_size spelled found.1 in
        ap (λ o. prints_in (stream_actions (bytes_of o))) found.1 ∙ ap prints_in (back found.0 w) ∙ prints_stay found.0 w ∙ once screen.width (height screen) (changes_for t number) found.0 found.1

    pub counted : ((x : Screen) (log : Sized) (n : ℕ) → IsScreen x → length log.log.entries ≤ log.log.number → log.most ≡ most_due x.width (height x) → length (update_changes x log n) ≤ 2 * x.width * height x + 2 * height x + 11)
        → length t.surface.log.log.entries ≤ number_of t.surface → t.surface.log.most ≡ most_due screen.width (height screen)
        → length (changes_for t number) ≤ 2 * screen.width * height screen + 2 * height screen + 11
    counted law within most = law screen t.surface.log number (state_is t s).lawful within most

  -- how many changes may be due
  pub most_of : (t : Terminal W) (x : Surface W) → x ≡ t.surface → IsSpelled t → (x.is_failed ≡ false → x.log.most ≡ most_due x.grid.width (length x.grid.lines)) → t.surface.log.most ≡ most_due (state_in t).screen.width (height (state_in t).screen)
  most_of t x e p most =
      subst (λ (y : Surface W). y.log.most ≡ most_due y.grid.width (length y.grid.lines)) e (most (ap (λ (y : Surface W). y.is_failed) e ∙ p.surface.stays))
      ∙ ap (most_due t.surface.grid.width) (sym (length-map t.surface.grid.lines (λ l. l.columns)))

  -- ---- the rendering of one change

  module _ (v later : Terminal W) (change : ChangeValue) (actions : List StreamAction) (sv : IsSound width_of v) (idle : IsIdle v) (plain : v.modes ≡ None)
      (sent : rendering change (state_in v).screen.width (height (state_in v).screen) ≡ Some actions) (writable : IsWritable actions) (g : GoesBy width_of v later (Piece (stream_text actions) ∷ [])) where
    encoded_at : rendering change sv.view.state.screen.width (height sv.view.state.screen) ≡ Some actions
    encoded_at = subst (λ (x : State). rendering change x.screen.width (height x.screen) ≡ Some actions) sv.stands.state sent

    pub rendered_shown : RenderedTextsHaveTheEffect → state_in later ≡ record (state_in v) { screen = (effect (of v) (display_on (state_in v).screen) change).screen }
    rendered_shown law =
        (g.stands sv.view sv.stands).state
        ∙ ap (λ (x : View). x.state) (law (of v) sv.view (display_on (state_in v).screen) change actions (ready_is v sv idle plain) (idle_view width_of v sv.view idle sv.stands) writable (ap (λ (x : State). x.screen) sv.stands.state) encoded_at)
        ∙ ap (λ (x : State). record x { screen = (effect (of v) (display_on (state_in v).screen) change).screen }) (sym sv.stands.state)

    pub rendered_idle : RenderedTextsLeaveIdle → IsIdle later
    rendered_idle law =
        let there = g.stands sv.view sv.stands in
        let quiet = law (of v) sv.view change actions (ready_is v sv idle plain) (idle_view width_of v sv.view idle sv.stands) writable encoded_at in
        record { run = there.run ∙ quiet.run; unfinished = there.unfinished ∙ quiet.stream }
