-- A terminal all of whose changes have an encoding is still one after any history of sizes less than 2^32.
use Rattle.std.proofs.Common.{◌≡◌, ℕ, ◌<◌, ◌^◌, Bool, true, false, List, [], ◌∷◌, ◌++◌, length, take, map, fold, replicate, refl, sym, ap, subst, ◌∙◌, arith, length-take, length-append}
use Rattle.std.specs.Prelude.{⊤, ◌-◌, Option, None}
use Rattle.std.proofs.lemmas.List.{length-replicate}
use Rattle.cell_base.specs.Screen.{Screen, height}
use Rattle.cell_base.specs.Row.{plain_row}
use Rattle.cell_surface.specs.Surface.{shown_by}
use Rattle.screen_log.specs.LogSteps.{Sized}
use Rattle.escape_framing.proofs.Existence.CutLemmas.{is_the_cut}
use Rattle.escape_framing.specs.Framed.{IsReached}
use Rattle.escape_framing.specs.Held.{Held, held_of}
use Rattle.escape_stream.specs.Items.{items}
use Rattle.escape_stream.specs.StreamAction.{StreamAction, is_print}
use Rattle.escape_stream.specs.StreamActions.{newly_decided_actions}
use Rattle.screen_effects.specs.Resize.{resized_row, resized_screen}
use Rattle.terminal.specs.Headline.{StandsAt, GoesBy}
use Rattle.terminal.specs.Terminal.{Terminal, IsSpelled}
use Rattle.terminal.proofs.GoLemmas.{with_parts, stands_somewhere, looked, resized, forgot, went, fed, events_are as events_are_lawful}
use Rattle.terminal_render.specs.Spelling.{AreSpelledModes, HaveEncodings, IsSpelledSaved, IsSpelledScreen, IsSpelledText, IsSpelledView}
use Rattle.terminal_render.proofs.LogLemmas.{history_keeps}
use Rattle.terminal_render.proofs.StreamLemmas.{history_spelled}
use Rattle.terminal_table.proofs.StateLemmas.{HasSize}
use Rattle.terminal_render.proofs.RequestLemmas.{acted_size}
use Rattle.terminal_render.proofs.ViewLemmas.{new_spelled_with, settled_size}
use Rattle.terminal_steps.specs.Events.{IsReady, Had}
use Rattle.terminal_steps.specs.Items.{Leads, item_events}
use Rattle.terminal_steps.specs.declared.state.TerminalState.{TerminalState}
use Rattle.terminal_table.specs.History.{History, Piece, Look, Resize, Forget, Event, Act, Looked, Resized, Forgot, events}
use Rattle.terminal_table.specs.Meaning.{View, new_view_with, settled, event_done, after}
use Rattle.terminal_table.specs.Modes.{AreNew, Modes}
use Rattle.terminal_table.specs.Requests.{acted}
use Rattle.terminal_table.specs.Turns.{IsView, AreEvents, AreSizes}
use Rattle.terminal_table.proofs.EventLemmas.{event_is, settled_is}
use Rattle.terminal_table.proofs.JoinLemmas.{nothing_after}
use Rattle.terminal_table.proofs.PrintLemmas.{AllCut, events_are}

cut : AllCut
cut stream = is_the_cut stream

-- ---- sizes

-- the width and the height are less than 2^32
pub record IsSmall (s : Screen) : Type 0 where
  pub wide : s.width < 2 ^ 32
  pub tall : height s < 2 ^ 32

-- and so are those of each size that comes
abbrev pub AreSmall : History → Type 0
AreSmall [] = ⊤
AreSmall (Piece bytes ∷ history) = AreSmall history
AreSmall (Look ∷ history) = AreSmall history
AreSmall (Resize width height ∷ history) = (width < 2 ^ 32) × (height < 2 ^ 32) × AreSmall history
AreSmall (Forget number ∷ history) = AreSmall history

abbrev IsSmallEvent : Event → Type 0
IsSmallEvent (Act action) = ⊤
IsSmallEvent Looked = ⊤
IsSmallEvent (Resized width height) = (width < 2 ^ 32) × (height < 2 ^ 32)
IsSmallEvent (Forgot number) = ⊤

abbrev AreSmallEvents : List Event → Type 0
AreSmallEvents [] = ⊤
AreSmallEvents (event ∷ events) = IsSmallEvent event × AreSmallEvents events

acts_before : (actions : List StreamAction) (remaining : List Event) → AreSmallEvents remaining → AreSmallEvents (map Act actions ++ remaining)
acts_before [] remaining h = h
acts_before (a ∷ actions) remaining h = (tt, acts_before actions remaining h)

events_small : (stream : List ℕ) (history : History) → AreSmall history → AreSmallEvents (events stream history)
events_small stream [] h = tt
events_small stream (Piece bytes ∷ history) h = acts_before (newly_decided_actions stream bytes) (events (stream ++ bytes) history) (events_small (stream ++ bytes) history h)
events_small stream (Look ∷ history) h = (tt, events_small stream history h)
events_small stream (Resize width height ∷ history) h = ((h.0, h.1), events_small stream history h.2)
events_small stream (Forget number ∷ history) h = (tt, events_small stream history h)

same_small : (s t : Screen) → HasSize s t → IsSmall t → IsSmall s
same_small s t size h = record { wide = subst (λ n. n < 2 ^ 32) (sym size.wide) h.wide; tall = subst (λ n. n < 2 ^ 32) (sym size.tall) h.tall }

settled_small : (f : List ℕ → ℕ) (v : View) → IsView f v → IsSmall v.state.screen → IsSmall (settled f v).state.screen
settled_small f v h p = same_small (settled f v).state.screen v.state.screen (settled_size f v h) p

resized_tall : (width tall : ℕ) (s : Screen) → height (resized_screen width tall s) ≡ tall
resized_tall width tall s =
    let rows = map (resized_row width) s.rows in
    let prefix = length-take tall rows in
    let more = length-replicate (tall - length rows) (plain_row width) in
    let both = length-append (take tall rows) (replicate (tall - length rows) (plain_row width)) in
    omega arith

event_small : (f : List ℕ → ℕ) (v : View) (event : Event) → IsView f v → IsSmallEvent event → IsSmall v.state.screen → IsSmall (event_done f v event).state.screen
event_small f v (Act action) h k p = by_test (is_print action) refl
  where
    done_small : IsSmall (acted f action (settled f v).state).screen
    done_small = same_small (acted f action (settled f v).state).screen (settled f v).state.screen (acted_size f action (settled f v).state (settled_is f v h).lawful) (settled_small f v h p)

    by_test : (b : Bool) → is_print action ≡ b → IsSmall (event_done f v (Act action)).state.screen
    by_test true e = rw e p
    by_test false e = rw e done_small
event_small f v Looked h k p = settled_small f v h p
event_small f v (Resized width tall) h k p =
    record { wide = k.0; tall = subst (λ n. n < 2 ^ 32) (sym (resized_tall width tall (settled f v).state.screen)) k.1 }
event_small f v (Forgot number) h k p = p

all_small : (f : List ℕ → ℕ) (v : View) (es : List Event) → IsView f v → AreEvents es → AreSmallEvents es → IsSmall v.state.screen → IsSmall (fold (event_done f) v es).state.screen
all_small f v [] h l k p = p
all_small f v (event ∷ es) h l k p = all_small f (event_done f v event) es (event_is f v event h l.0) l.1 k.1 (event_small f v event h k.0 p)

history_small : (f : List ℕ → ℕ) (v : View) (history : History) → IsView f v → AreSizes history → AreSmall history → IsSmall v.state.screen → IsSmall (after f v history).state.screen
history_small f v history h s k p = all_small f v (events v.stream history) h (events_are cut v.stream history s) (events_small v.stream history k) p

-- ---- terminals

module _ {W : Type 0} (width_of : W → List ℕ → ℕ) where
  abbrev of : Terminal W → List ℕ → ℕ
  of t = width_of t.surface.grid.widths

  -- where a terminal's changes have encodings, so have the parts of a view at which it stands
  view_spelled : (t : Terminal W) (view : View) → StandsAt t view → IsSpelled t → IsSpelledView view
  view_spelled t view st p = subst IsSpelledView (λ i. record { state = st.state i; stream = view.stream; held = st.run i }) (record {
    state = record { screen = p.surface.spelled; saved = p.saved; modes = p.modes };
    held = p.run;
  })

  -- a terminal that stands at a view shows the view's screen
  at_view : (t : Terminal W) (view : View) → StandsAt t view → (shown_by t.surface).screen ≡ view.state.screen
  at_view t view st = ap (λ s. s.screen) st.state

  pub spelled_after : (x y : Terminal W) (history : History) (view : View) → StandsAt x view → IsView (of x) view → AreSizes history → AreSmall history → IsSpelled x → GoesBy width_of x y history
      → (shown_by y.surface).shape ≡ (shown_by x.surface).shape → y.surface.is_failed ≡ false → IsSpelled y
  spelled_after x y history view st lawful sizes small p g shape stays =
      let next = after (of x) view history in
      let there = g.stands view st in
      let spelled : IsSpelledView next = history_spelled cut (of x) view history lawful sizes (view_spelled x view st p) in
      let first : HaveEncodings view.state.screen.width (height view.state.screen) x.surface.log.log.entries
      = subst (λ (s : Screen). HaveEncodings s.width (height s) x.surface.log.log.entries) (at_view x view st) p.surface.kept in
      let kept = history_keeps cut (of x) view history x.surface.log lawful sizes (view_spelled x view st p) first in
      let little = history_small (of x) view history lawful sizes small (subst IsSmall (at_view x view st) (record { wide = p.surface.wide; tall = p.surface.tall })) in
      let here = at_view y next there in
      let size : IsSmall (shown_by y.surface).screen = subst IsSmall (sym here) little in
      record {
        surface = record {
          stays = stays;
          wide = size.wide;
          tall = size.tall;
          shapeless = shape ∙ p.surface.shapeless;
          spelled = subst IsSpelledScreen (sym here) spelled.state.screen;
          kept = subst (λ (s : Screen). HaveEncodings s.width (height s) y.surface.log.log.entries) (sym here)
              (subst (λ (l : Sized). HaveEncodings next.state.screen.width (height next.state.screen) l.log.entries) (sym (g.log view st)) kept);
        };
        saved = subst (λ s. IsSpelledSaved s) (ap (λ s. s.saved) (sym there.state)) spelled.state.saved;
        modes = subst AreSpelledModes (ap (λ s. s.modes) (sym there.state)) spelled.state.modes;
        run = subst IsSpelledText (sym there.run) spelled.held;
      }

  -- ---- by parts

  -- a new terminal
  pub spelled_first : (t : Terminal W) (modes : Option Modes) (width rows : ℕ) → AreNew modes → width < 2 ^ 32 → rows < 2 ^ 32 → StandsAt t (new_view_with modes width rows) → t.surface.log.log.entries ≡ [] → (shown_by t.surface).shape ≡ None → t.surface.is_failed ≡ false → IsSpelled t
  spelled_first t modes width rows new wide tall st none shape stays =
      let first = new_spelled_with modes width rows new in
      let here = at_view t (new_view_with modes width rows) st in
      record {
        surface = record {
          stays = stays;
          wide = subst (λ n. n < 2 ^ 32) (ap (λ (s : Screen). s.width) (sym here)) wide;
          tall = subst (λ n. n < 2 ^ 32) (sym (ap (λ (s : Screen). length s.rows) here ∙ length-replicate rows (plain_row width))) tall;
          shapeless = shape;
          spelled = subst IsSpelledScreen (sym here) first.state.screen;
          kept = subst (HaveEncodings (shown_by t.surface).screen.width (height (shown_by t.surface).screen)) (sym none) tt;
        };
        saved = subst IsSpelledSaved (ap (λ s. s.saved) (sym st.state)) tt;
        modes = subst AreSpelledModes (ap (λ s. s.modes) (sym st.state)) first.state.modes;
        run = subst IsSpelledText (sym st.run) first.held;
      }

  -- for a terminal by its parts: its changes still have encodings after a history
  pub parts_spelled : (s r : TerminalState W) (u w : Held) (history : History) (events : List Event) → IsReached u → IsReady width_of s → AreSizes history → AreSmall history → IsSpelled (with_parts s u)
      → GoesBy width_of (with_parts s u) (with_parts r w) history → Had width_of s r events → IsSpelled (with_parts r w)
  parts_spelled s r u w history events reached ready sizes small p g had =
      let some = stands_somewhere width_of s u (with_parts s u) reached ready refl in
      spelled_after (with_parts s u) (with_parts r w) history some.0 some.1 some.2 sizes small p g had.shape had.ready.stays

  pub still_held : (u : Held) (view : View) → u ≡ held_of view.stream → u ≡ held_of (view.stream ++ [])
  still_held u view e = e ∙ ap held_of (sym (nothing_after view.stream))

  pub looked_spelled : (s r : TerminalState W) (u : Held) → IsReached u → IsReady width_of s → IsSpelled (with_parts s u) → Had width_of s r (Looked ∷ []) → IsSpelled (with_parts r u)
  looked_spelled s r u reached ready p had =
      parts_spelled s r u u (Look ∷ []) (Looked ∷ []) reached ready tt tt p
      (went width_of s r u u (Look ∷ []) (λ view. Looked ∷ []) reached (looked (width_of s.surface.grid.widths)) (still_held u) (λ view e. had)) had

  pub resized_spelled : (s r : TerminalState W) (u : Held) (width rows : ℕ) → (0 < width) × (width < 2 ^ 32) → (0 < rows) × (rows < 2 ^ 32) → IsReached u → IsReady width_of s → IsSpelled (with_parts s u) → Had width_of s r (Resized width rows ∷ []) → IsSpelled (with_parts r u)
  resized_spelled s r u width rows wide tall reached ready p had =
      parts_spelled s r u u (Resize width rows ∷ []) (Resized width rows ∷ []) reached ready (wide.0, tall.0, tt) (wide.1, tall.1, tt) p
      (went width_of s r u u (Resize width rows ∷ []) (λ view. Resized width rows ∷ []) reached (resized width rows (width_of s.surface.grid.widths)) (still_held u) (λ view e. had)) had

  pub forgot_spelled : (s r : TerminalState W) (u : Held) (number : ℕ) → IsReached u → IsReady width_of s → IsSpelled (with_parts s u) → Had width_of s r (Forgot number ∷ []) → IsSpelled (with_parts r u)
  forgot_spelled s r u number reached ready p had =
      parts_spelled s r u u (Forget number ∷ []) (Forgot number ∷ []) reached ready tt tt p
      (went width_of s r u u (Forget number ∷ []) (λ view. Forgot number ∷ []) reached (forgot number (width_of s.surface.grid.widths)) (still_held u) (λ view e. had)) had

  pub fed_spelled : (s r : TerminalState W) (u w : Held) (bytes : List ℕ) → IsReached u → IsReady width_of s → IsSpelled (with_parts s u)
      → ((stream : List ℕ) → u ≡ held_of stream → Leads width_of s r (items stream bytes))
      → ((stream : List ℕ) → u ≡ held_of stream → w ≡ held_of (stream ++ bytes))
      → IsSpelled (with_parts r w)
  fed_spelled s r u w bytes reached ready p takes ends =
      parts_spelled s r u w (Piece bytes ∷ []) (item_events (items reached.0 bytes)) reached ready tt tt p
      (fed width_of s r u w (with_parts s u) bytes reached ready refl takes ends) (takes reached.0 reached.1 ready (events_are_lawful width_of reached.0 bytes))
