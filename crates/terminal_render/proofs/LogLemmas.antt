-- The changes that a log keeps have an encoding at the screen's present size.
use Rattle.std.proofs.Common.{◌≢◌, ℕ, zero, suc, ◌-◌, List, [], ◌∷◌, ◌++◌, length, drop, fold, refl, sym, subst, ◌∙◌}
use Rattle.std.specs.Prelude.{◌==◌, ◌||◌, nat_lt, None, IfSome, option_map}
use Rattle.std.proofs.lemmas.Bool.{cond_both}
use Rattle.std.proofs.lemmas.List.Sums.{fold-append}
use Rattle.cell_base.specs.Screen.{height}
use Rattle.screen_change.specs.ChangeValue.{ChangeValue}
use Rattle.screen_log.specs.Log.{Log, most_due, first_number, logged, kept, forgotten, resized_log, due}
use Rattle.screen_log.specs.LogSteps as log
use Rattle.screen_log.specs.LogSteps.{LogStep, Logged, Forgotten, Sized, step_of_kept}
use Rattle.escape_stream.specs.StreamAction.{StreamAction, is_print}
use Rattle.terminal_render.specs.Lists.{all_rendered}
use Rattle.terminal_render.specs.Rendering.{rendering}
use Rattle.terminal_table.specs.Changes.{changes}
use Rattle.terminal_table.specs.History.{History, Event, Act, Looked, Resized, Forgot, events}
use Rattle.terminal_table.specs.Meaning.{View, settled, event_done, after}
use Rattle.terminal_table.specs.Logged.{run_logged, event_logged, events_logged, log_after}
use Rattle.terminal_table.specs.Turns.{IsView, AreSizes, AreEvents}
use Rattle.terminal_table.proofs.EventLemmas.{event_is, settled_is}
use Rattle.terminal_table.proofs.PrintLemmas.{AllCut, events_are}
use Rattle.terminal_render.specs.Spelling.{IsSpelledView, IsSpelledEvent, AreSpelledEvents, HasEncoding, HaveEncodings}
use Rattle.terminal_render.proofs.SpelledPenLemmas.{map_some, then_some}
use Rattle.terminal_render.proofs.ChangeLemmas.{encodings_append}
use Rattle.terminal_render.proofs.StreamLemmas.{events_spelled}
use Rattle.terminal_table.proofs.StateLemmas.{HasSize}
use Rattle.terminal_render.proofs.RequestLemmas.{acted_size, moved_has}
use Rattle.terminal_render.proofs.ViewLemmas.{AreEncoded, settled_size, event_encoded, event_spelled}

-- ---- lists

pub encodings_drop : (width tall n : ℕ) (xs : List ChangeValue) → HaveEncodings width tall xs → HaveEncodings width tall (drop n xs)
encodings_drop width tall zero xs h = h
encodings_drop width tall (suc n) [] h = tt
encodings_drop width tall (suc n) (x ∷ xs) h = encodings_drop width tall n xs h.1

-- changes that each have an encoding have one in turn
pub all_some : (width tall : ℕ) (changes : List ChangeValue) → HaveEncodings width tall changes → all_rendered changes width tall ≢ None
all_some width tall [] h = λ e. cc
all_some width tall (change ∷ changes) h =
    then_some (λ first. option_map (λ remaining. first ++ remaining) (all_rendered changes width tall)) (rendering change width tall) h.0.encoded
    (λ first. map_some (λ remaining. first ++ remaining) (all_rendered changes width tall) (all_some width tall changes h.1))

pub due_has : (width tall most : ℕ) (l : Log) (number : ℕ) → HaveEncodings width tall l.entries → IfSome (due most l number) (HaveEncodings width tall)
due_has width tall most l number h =
    cond_both (number == 0 || nat_lt number (first_number l) || nat_lt l.number number || nat_lt most (l.number - number)) _ _ (λ found. IfSome found (HaveEncodings width tall)) (λ e. tt)
    (λ e. encodings_drop width tall (number - first_number l) l.entries h)

-- ---- steps of a log

kept_has : (width tall most : ℕ) (l : Log) (change : ChangeValue) → HasEncoding width tall change → HaveEncodings width tall l.entries → HaveEncodings width tall (kept most (logged change l)).entries
kept_has width tall most l change h k =
    encodings_drop width tall (length (l.entries ++ change ∷ []) - most) (l.entries ++ change ∷ []) (encodings_append width tall l.entries (change ∷ []) k (h, tt))

forgotten_has : (width tall number : ℕ) (l : Log) → HaveEncodings width tall l.entries → HaveEncodings width tall (forgotten number l).entries
forgotten_has width tall number l h =
    cond_both (nat_lt l.number number) _ _ (λ (x : Log). HaveEncodings width tall x.entries) (λ e. h) (λ e. encodings_drop width tall (number - first_number l) l.entries h)

-- another size empties it
emptied : (width tall number : ℕ) (entries : List ChangeValue) → HaveEncodings width tall (resized_log (record { number = number; entries = entries })).entries
emptied width tall number [] = tt
emptied width tall number (change ∷ changes) = tt

steps_have : (width tall : ℕ) (steps : List LogStep) (s : Sized) → AreEncoded width tall steps → HaveEncodings width tall s.log.entries → HaveEncodings width tall (fold step_of_kept s steps).log.entries
steps_have width tall [] s h k = k
steps_have width tall (Logged change ∷ steps) s h k = steps_have width tall steps (step_of_kept s (Logged change)) h.1 (kept_has width tall s.most s.log change h.0 k)
steps_have width tall (Forgotten number ∷ steps) s h k = steps_have width tall steps (step_of_kept s (Forgotten number)) h.1 (forgotten_has width tall number s.log k)
steps_have width tall (log.Resized most ∷ steps) s h k = steps_have width tall steps (step_of_kept s (log.Resized most)) h.1 (emptied width tall s.log.number s.log.entries)

-- ---- events

abbrev KeepsSpelled : View → Sized → Type 0
KeepsSpelled v s = HaveEncodings v.state.screen.width (height v.state.screen) s.log.entries

-- after the steps that an event logs the log's changes have encodings, at the size of the screen before the event
logged_keeps : (width_of : List ℕ → ℕ) (v : View) (event : Event) (s : Sized) → IsView width_of v → IsSpelledView v → IsSpelledEvent event → KeepsSpelled v s → KeepsSpelled v (fold step_of_kept s (event_logged width_of v event))
logged_keeps width_of v event s h p q k = steps_have v.state.screen.width (height v.state.screen) (event_logged width_of v event) s (event_encoded width_of v event h p q) k

act_size : (width_of : List ℕ → ℕ) (v : View) (action : StreamAction) → IsView width_of v → HasSize v.state.screen (event_done width_of v (Act action)).state.screen
act_size width_of v action h =
    let one = settled_size width_of v h in
    let other = acted_size width_of action (settled width_of v).state (settled_is width_of v h).lawful in
    cond_both (is_print action) _ _ (λ (x : View). HasSize v.state.screen x.state.screen) (λ e. record { wide = refl; tall = refl })
    (λ e. record { wide = sym (other.wide ∙ one.wide); tall = sym (other.tall ∙ one.tall) })

pub event_keeps : (width_of : List ℕ → ℕ) (v : View) (event : Event) (s : Sized) → IsView width_of v → IsSpelledView v → IsSpelledEvent event → KeepsSpelled v s → KeepsSpelled (event_done width_of v event) (fold step_of_kept s (event_logged width_of v event))
event_keeps width_of v (Act action) s h p q k =
    moved_has v.state.screen (event_done width_of v (Act action)).state.screen _ (act_size width_of v action h) (logged_keeps width_of v (Act action) s h p q k)
event_keeps width_of v Looked s h p q k =
    let size = settled_size width_of v h in
    moved_has v.state.screen (settled width_of v).state.screen _ (record { wide = sym size.wide; tall = sym size.tall }) (logged_keeps width_of v Looked s h p q k)
event_keeps width_of v (Resized width tall) s h p q k =
    let after = fold step_of_kept s (run_logged width_of v) in
    subst (λ (x : Sized). KeepsSpelled (event_done width_of v (Resized width tall)) x) (sym (fold-append step_of_kept s (run_logged width_of v) (log.Resized (most_due width tall) ∷ [])))
    (emptied _ _ after.log.number after.log.entries)
event_keeps width_of v (Forgot number) s h p q k = logged_keeps width_of v (Forgot number) s h p q k

all_keep : (width_of : List ℕ → ℕ) (v : View) (es : List Event) (s : Sized) → IsView width_of v → AreEvents es → IsSpelledView v → AreSpelledEvents es → KeepsSpelled v s → KeepsSpelled (fold (event_done width_of) v es) (fold step_of_kept s (events_logged width_of v es))
all_keep width_of v [] s h l p q k = k
all_keep width_of v (event ∷ es) s h l p q k =
    let next = event_done width_of v event in
    subst (λ (x : Sized). KeepsSpelled (fold (event_done width_of) next es) x) (sym (fold-append step_of_kept s (event_logged width_of v event) (events_logged width_of next es)))
    (all_keep width_of next es (fold step_of_kept s (event_logged width_of v event)) (event_is width_of v event h l.0) l.1 (event_spelled width_of v event h l.0 p q.0) q.1 (event_keeps width_of v event s h p q.0 k))

pub history_keeps : AllCut → (width_of : List ℕ → ℕ) (v : View) (history : History) (s : Sized) → IsView width_of v → AreSizes history → IsSpelledView v → HaveEncodings v.state.screen.width (height v.state.screen) s.log.entries
    → HaveEncodings (after width_of v history).state.screen.width (height (after width_of v history).state.screen) (log_after width_of v s history).log.entries
history_keeps cut width_of v history s h l p k = all_keep width_of v (events v.stream history) s h (events_are cut v.stream history l) p (events_spelled cut v.stream history) k
