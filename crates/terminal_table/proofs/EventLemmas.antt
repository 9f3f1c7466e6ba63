-- The changes logged for events have the effect of the events, and views stay lawful.
use Rattle.std.proofs.Common.{◌≡◌, ℕ, Bool, true, false, List, [], ◌∷◌, ◌++◌, length, take, map, fold, replicate, refl, sym, ap, subst, ◌∙◌}
use Rattle.std.specs.Prelude.{◌-◌, ◌==◌}
use Rattle.std.proofs.lemmas.List.Elements.{All-append, All-take, All-replicate}
use Rattle.std.proofs.lemmas.List.Sums.{fold-append}
use Rattle.cell_base.specs.declared.attributes.LineAttribute.TheVariants.{SingleWidthLine}
use Rattle.cell_base.specs.Screen.{Screen}
use Rattle.screen_change.specs.ChangeValue.{ChangeValue}
use Rattle.screen_log.specs.LogSteps as log
use Rattle.screen_log.specs.LogSteps.{LogStep, Logged}
use Rattle.screen_log.specs.Log.{most_due}
use Rattle.escape_stream.specs.StreamAction.{StreamAction, is_print, printed}
use Rattle.screen_effects.specs.Display.{Display, IsDisplay}
use Rattle.screen_effects.specs.Effect.{effect, replay}
use Rattle.screen_effects.specs.Resize.{resized, resized_screen}
use Rattle.screen_effects.proofs.EffectLaws.{replay_is, resized_is}
use Rattle.terminal_table.specs.Requests.{acted_changes}
use Rattle.terminal_table.specs.History.{History, Event, Act, Looked, Resized, Forgot, events}
use Rattle.terminal_table.specs.Meaning.{View, settled, event_done, after}
use Rattle.terminal_table.specs.Logged.{run_logged}
use Rattle.terminal_table.specs.Runs.{run_changes_of}
use Rattle.terminal_table.specs.Turns.{Turns, IsView, AreSizes, IsEvent, AreEvents, changes_in, replayed, all_replayed}
use Rattle.terminal_table.proofs.RunLemmas.{no_text, text_append}
use Rattle.terminal_table.proofs.RunningLemmas.{run_is, run_step_turns, then_turns}
use Rattle.terminal_table.proofs.StateLemmas.{size_is}
use Rattle.terminal_table.proofs.RequestLemmas.{actions_are_logged, actions_keep_states}
use Rattle.terminal_table.proofs.PrintLemmas.{AllCut, events_are}

-- ---- views stay lawful

pub settled_is : (width_of : List ℕ → ℕ) (v : View) → IsView width_of v → IsView width_of (settled width_of v)
settled_is width_of v h = by_test (length v.held == 0) refl
  where
    by_test : (b : Bool) → (length v.held == 0) ≡ b → IsView width_of (settled width_of v)
    by_test true e = rw e (record { lawful = h.lawful; plain = no_text })
    by_test false e = rw e (record { lawful = run_is width_of v.held v.state h.plain h.lawful; plain = no_text })

pub event_is : (width_of : List ℕ → ℕ) (v : View) (event : Event) → IsView width_of v → IsEvent event → IsView width_of (event_done width_of v event)
event_is width_of v (Act action) h k = by_test (is_print action) refl
  where
    by_test : (b : Bool) → is_print action ≡ b → IsView width_of (event_done width_of v (Act action))
    by_test true e = rw e (record { lawful = h.lawful; plain = text_append v.held (printed action) h.plain k })
    by_test false e = rw e (record { lawful = actions_keep_states width_of action (settled width_of v).state (settled_is width_of v h).lawful; plain = no_text })
event_is width_of v Looked h k = settled_is width_of v h
event_is width_of v (Resized width height) h k = record { lawful = size_is width_of width height (settled width_of v).state k.0 k.1 (settled_is width_of v h).lawful; plain = no_text }
event_is width_of v (Forgot number) h k = h

events_keep : (width_of : List ℕ → ℕ) (v : View) (es : List Event) → IsView width_of v → AreEvents es → IsView width_of (fold (event_done width_of) v es)
events_keep width_of v [] h k = h
events_keep width_of v (e ∷ es) h k = events_keep width_of (event_done width_of v e) es (event_is width_of v e h k.0) k.1

pub after_is : AllCut → (width_of : List ℕ → ℕ) (v : View) (history : History) → IsView width_of v → AreSizes history → IsView width_of (after width_of v history)
after_is cut width_of v history h k =
    let kept = events_keep width_of v (events v.stream history) h (events_are cut v.stream history k) in
    record { lawful = kept.lawful; plain = kept.plain }

-- ---- the logged changes are replayed

-- a display turns into one that shows a screen, and stays lawful
pub record Follows (before after : Display) (shown : Screen) : Type 0 where
  pub turns : Turns before after shown
  pub lawful : IsDisplay after

changes-append : (xs ys : List LogStep) → changes_in (xs ++ ys) ≡ changes_in xs ++ changes_in ys
changes-append [] ys = refl
changes-append (Logged change ∷ xs) ys = ap (λ cs. change ∷ cs) (changes-append xs ys)
changes-append (log.Forgotten number ∷ xs) ys = changes-append xs ys
changes-append (log.Resized most ∷ xs) ys = changes-append xs ys

changes-logged : (changes : List ChangeValue) → changes_in (map Logged changes) ≡ changes
changes-logged [] = refl
changes-logged (c ∷ cs) = ap (λ xs. c ∷ xs) (changes-logged cs)

settled_follows : (width_of : List ℕ → ℕ) (v : View) (d : Display) → IsView width_of v → IsDisplay d → d.screen ≡ v.state.screen → Follows d (replay width_of d (changes_in (run_logged width_of v))) (settled width_of v).state.screen
settled_follows width_of v d h k e = by_test (length v.held == 0) refl
  where
    changes : List ChangeValue
    changes = run_changes_of width_of v.held v.state

    by_test : (b : Bool) → (length v.held == 0) ≡ b → Follows d (replay width_of d (changes_in (run_logged width_of v))) (settled width_of v).state.screen
    by_test true t = rw t (record { turns = record { screen = e; shape = refl; sizes = λ x. x }; lawful = k })
    by_test false t = rw (t, changes-logged changes) (record { turns = run_step_turns width_of v.held v.state d h.plain h.lawful k e; lawful = replay_is width_of changes d k })

-- the run, and then other changes
replay_after : (width_of : List ℕ → ℕ) (v : View) (d : Display) (steps : List LogStep) → replay width_of d (changes_in (run_logged width_of v ++ steps)) ≡ replay width_of (replay width_of d (changes_in (run_logged width_of v))) (changes_in steps)
replay_after width_of v d steps = ap (replay width_of d) (changes-append (run_logged width_of v) steps) ∙ fold-append (effect width_of) d (changes_in (run_logged width_of v)) (changes_in steps)

act_follows : (width_of : List ℕ → ℕ) (v : View) (action : StreamAction) (d : Display) → IsView width_of v → IsDisplay d → d.screen ≡ v.state.screen → Follows d (replayed width_of v (Act action) d) (event_done width_of v (Act action)).state.screen
act_follows width_of v action d h k e = by_test (is_print action) refl
  where
    changes : List ChangeValue
    changes = acted_changes width_of action (settled width_of v).state

    first : Display
    first = replay width_of d (changes_in (run_logged width_of v))

    ends : replay width_of d (changes_in (run_logged width_of v ++ map Logged changes)) ≡ replay width_of first changes
    ends = replay_after width_of v d (map Logged changes) ∙ ap (replay width_of first) (changes-logged changes)

    by_test : (b : Bool) → is_print action ≡ b → Follows d (replayed width_of v (Act action) d) (event_done width_of v (Act action)).state.screen
    by_test true t = rw t (record { turns = record { screen = e; shape = refl; sizes = λ x. x }; lawful = k })
    by_test false t = rw (t, ends) (let s = settled_follows width_of v d h k e in record {
      turns = then_turns d first (replay width_of first changes) (settled width_of v).state.screen _ s.turns (actions_are_logged width_of action (settled width_of v).state first (settled_is width_of v h).lawful s.lawful s.turns.screen);
      lawful = replay_is width_of changes first s.lawful;
    })

size_turns : (width height : ℕ) (d : Display) (s : Screen) → d.screen ≡ s → Turns d (resized width height d) (resized_screen width height s)
size_turns width height d s e = record {
  screen = ap (resized_screen width height) e;
  shape = refl;
  sizes = λ h. All-append (λ x. x ≡ SingleWidthLine) (take height d.sizes) (replicate (height - length d.sizes) SingleWidthLine) (All-take (λ x. x ≡ SingleWidthLine) height d.sizes h) (All-replicate (λ x. x ≡ SingleWidthLine) (height - length d.sizes) SingleWidthLine refl);
}

pub event_follows : (width_of : List ℕ → ℕ) (v : View) (event : Event) (d : Display) → IsView width_of v → IsEvent event → IsDisplay d → d.screen ≡ v.state.screen → Follows d (replayed width_of v event d) (event_done width_of v event).state.screen
event_follows width_of v (Act action) d h l k e = act_follows width_of v action d h k e
event_follows width_of v Looked d h l k e = settled_follows width_of v d h k e
event_follows width_of v (Resized width height) d h l k e =
    let first = replay width_of d (changes_in (run_logged width_of v)) in
    let s = settled_follows width_of v d h k e in
    subst (λ x. Follows d (resized width height x) (resized_screen width height (settled width_of v).state.screen)) (sym (replay_after width_of v d (log.Resized (most_due width height) ∷ [])))
    (record {
      turns = then_turns d first (resized width height first) (settled width_of v).state.screen _ s.turns (size_turns width height first (settled width_of v).state.screen s.turns.screen);
      lawful = resized_is width height first l.0 l.1 s.lawful;
    })
event_follows width_of v (Forgot number) d h l k e = record { turns = record { screen = e; shape = refl; sizes = λ x. x }; lawful = k }

all_follow : (width_of : List ℕ → ℕ) (v : View) (es : List Event) (d : Display) → IsView width_of v → AreEvents es → IsDisplay d → d.screen ≡ v.state.screen → Follows d (all_replayed width_of v es d) (fold (event_done width_of) v es).state.screen
all_follow width_of v [] d h l k e = record { turns = record { screen = e; shape = refl; sizes = λ x. x }; lawful = k }
all_follow width_of v (event ∷ es) d h l k e =
    let next = event_done width_of v event in
    let first = event_follows width_of v event d h l.0 k e in
    let rest = all_follow width_of next es (replayed width_of v event d) (event_is width_of v event h l.0) l.1 first.lawful first.turns.screen in
    record {
      turns = then_turns d (replayed width_of v event d) (all_replayed width_of next es (replayed width_of v event d)) next.state.screen (fold (event_done width_of) next es).state.screen first.turns rest.turns;
      lawful = rest.lawful;
    }

pub event_turns : (width_of : List ℕ → ℕ) (v : View) (event : Event) (d : Display) → IsView width_of v → IsEvent event → IsDisplay d → d.screen ≡ v.state.screen → Turns d (replayed width_of v event d) (event_done width_of v event).state.screen
event_turns width_of v event d h l k e = (event_follows width_of v event d h l k e).turns

pub history_turns : AllCut → (width_of : List ℕ → ℕ) (v : View) (history : History) (d : Display) → IsView width_of v → AreSizes history → IsDisplay d → d.screen ≡ v.state.screen → Turns d (all_replayed width_of v (events v.stream history) d) (after width_of v history).state.screen
history_turns cut width_of v history d h l k e = (all_follow width_of v (events v.stream history) d h (events_are cut v.stream history l) k e).turns
