-- How many cells a plain stream makes that the screen before didn't show: only the runs that it ends make any.
use Rattle.std.proofs.Common.{◌≡◌, ℕ, ◌+◌, ◌∙◌, Bool, true, false, List, [], ◌∷◌, ◌++◌, length, get_or, fold, refl, sym, ap, subst, arith, length-append}
use Rattle.std.specs.Prelude.{All, ◌==◌, nat_lt, if◌then◌else◌}
use Rattle.std.proofs.lemmas.List.Elements.{All-cons, All-head, All-nil, All-tail}
use Rattle.cell_base.specs.Cluster.{clusters}
use Rattle.cell_base.specs.Row.{Row}
use Rattle.cell_base.specs.Screen.{Screen, IsScreen, height, scrolled, carriage_return, write_columns, cluster_columns, put, put_run}
use Rattle.cell_base.proofs.LawfulScreens.{first_row}
use Rattle.screen_difference.specs.Prints.{PlacedText, strokes_print, strokes_scroll}
use Rattle.terminal_table.specs.History.{History, Event, Looked, events}
use Rattle.terminal_table.specs.Meaning.{View, settled, event_done, after}
use Rattle.terminal_table.specs.Runs.{run_screen, run_step}
use Rattle.terminal_table.specs.Turns.{IsView, AreSizes, IsEvent, AreEvents}
use Rattle.terminal_table.specs.Bounds.{fresh_after, PlainStreamsPrintAThird, NarrowStreamsPrintAsMany}
use Rattle.terminal_table.specs.Prints.{IsPlain, IsPlainEvent, ArePlainEvents, ends_run, event_prints, events_print, read, run_ended, run_strokes}
use Rattle.terminal_table.proofs.RowsLemmas.{fresh_count, rows_count, rows_themselves}
use Rattle.terminal_table.proofs.PutLemmas.{AnyText, Anything, AreNarrow, Grows, IsNarrowText, TextsGrow, clusters_grow, in_turn, narrow_texts_grow, stays, texts_grow}

-- a property of all elements of two joined lists is one of all elements of each list
both_parts : {A : Type 0} (P : A → Type 0) (xs ys : List A) → All P (xs ++ ys) → All P xs × All P ys
both_parts P [] ys h = (All-nil P, h)
both_parts P (x ∷ xs) ys h = let rest = both_parts P xs ys (All-tail P x (xs ++ ys) h) in (All-cons P x xs (All-head P x (xs ++ ys) h) rest.0, rest.1)

-- ---- cells, event by event

module _ (width_of : List ℕ → ℕ) (olds : List Row) (most : ℕ) (Kept : List Row → Type 0) (Printed : PlacedText → Type 0) (grow : TextsGrow width_of olds most Kept Printed) where
  -- a run that ends
  run_grows : (view : View) → strokes_scroll width_of view.state.screen (run_strokes view) ≡ false → run_screen view.state.modes width_of view.state.screen view.held ≡ put_run width_of view.state.screen view.held → Kept view.state.screen.rows → All Printed (strokes_print width_of view.state.screen (run_strokes view))
      → Grows olds most Kept view.state.screen.rows (settled width_of view).state.screen.rows (length (strokes_print width_of view.state.screen (run_strokes view)))
  run_grows view still put k p = by_test (length view.held == 0)
    where
      texts : ℕ
      texts = length (strokes_print width_of view.state.screen (run_strokes view))

      by_test : (b : Bool) → Grows olds most Kept view.state.screen.rows (if b then view.state else run_step width_of view.held view.state).screen.rows texts
      by_test true = record { kept = k; bound = omega arith }
      by_test false = subst (λ (s : Screen). Grows olds most Kept view.state.screen.rows s.rows texts) (sym put) (clusters_grow width_of olds most Kept Printed grow (clusters view.held) view.state.screen still k p)

  -- an event changes no row by itself
  event_grows : (view : View) (event : Event) → IsPlainEvent width_of view event → Kept view.state.screen.rows → All Printed (event_prints width_of view event)
      → Grows olds most Kept view.state.screen.rows (event_done width_of view event).state.screen.rows (length (event_prints width_of view event))
  event_grows view event plain k p = subst (λ rows. Grows olds most Kept view.state.screen.rows rows (length (event_prints width_of view event))) (sym plain.rows) (by_test (ends_run event) plain.run plain.put p)
    where
      by_test : (b : Bool) → (b ≡ true → strokes_scroll width_of view.state.screen (run_strokes view) ≡ false) → (b ≡ true → run_screen view.state.modes width_of view.state.screen view.held ≡ put_run width_of view.state.screen view.held) → All Printed (if b then strokes_print width_of view.state.screen (run_strokes view) else [])
          → Grows olds most Kept view.state.screen.rows (if b then settled width_of view else view).state.screen.rows (length (if b then strokes_print width_of view.state.screen (run_strokes view) else []))
      by_test true still put q = run_grows view (still refl) (put refl) k q
      by_test false still put q = stays olds most Kept view.state.screen.rows k

  pub events_grow : (es : List Event) (view : View) → ArePlainEvents width_of view es → Kept view.state.screen.rows → All Printed (events_print width_of view es)
      → Grows olds most Kept view.state.screen.rows (fold (event_done width_of) view es).state.screen.rows (length (events_print width_of view es))
  events_grow [] view plain k p = stays olds most Kept view.state.screen.rows k
  events_grow (event ∷ es) view plain k p =
      let next : View = event_done width_of view event in
      let firsts : List PlacedText = event_prints width_of view event in
      let remaining : List PlacedText = events_print width_of next es in
      let parts = both_parts Printed firsts remaining p in
      let first = event_grows view event plain.0 k parts.0 in
      let rest = events_grow es next plain.1 first.kept parts.1 in
      subst (λ n. Grows olds most Kept view.state.screen.rows (fold (event_done width_of) next es).state.screen.rows n) (sym (length-append firsts remaining))
      (in_turn olds most Kept view.state.screen.rows next.state.screen.rows (fold (event_done width_of) next es).state.screen.rows (length firsts) (length remaining) first rest)

-- ---- screens stay as wide

pub put_width : (width_of : List ℕ → ℕ) (s : Screen) (text : List ℕ) → (put width_of s text).width ≡ s.width
put_width width_of s text = by_test (nat_lt s.width (s.column + length (cluster_columns width_of s text))) (s.row + 1 == height s)
  where
    by_test : (next last : Bool) → (write_columns (cluster_columns width_of s text) (if next then carriage_return (if last then scrolled s else record s { row = s.row + 1 }) else s)).width ≡ s.width
    by_test false last = refl
    by_test true false = refl
    by_test true true = refl

puts_width : (width_of : List ℕ → ℕ) (texts : List (List ℕ)) (s : Screen) → (fold (put width_of) s texts).width ≡ s.width
puts_width width_of [] s = refl
puts_width width_of (text ∷ texts) s = puts_width width_of texts (put width_of s text) ∙ put_width width_of s text

run_width : (width_of : List ℕ → ℕ) (view : View) → run_screen view.state.modes width_of view.state.screen view.held ≡ put_run width_of view.state.screen view.held → (settled width_of view).state.screen.width ≡ view.state.screen.width
run_width width_of view put = by_test (length view.held == 0)
  where
    by_test : (b : Bool) → (if b then view.state else run_step width_of view.held view.state).screen.width ≡ view.state.screen.width
    by_test true = refl
    by_test false = ap (λ (s : Screen). s.width) put ∙ puts_width width_of (clusters view.held) view.state.screen

-- the laws of views: events leave lawful views, and a stream has lawful events
abbrev pub EventsKeepViews : Type 0
EventsKeepViews = (width_of : List ℕ → ℕ) (view : View) (event : Event) → IsView width_of view → IsEvent event → IsView width_of (event_done width_of view event)

abbrev pub StreamsHaveEvents : Type 0
StreamsHaveEvents = (stream : List ℕ) (history : History) → AreSizes history → AreEvents (events stream history)

-- lawful screens with the same rows have the same width
same_width : (one other : Screen) → IsScreen one → IsScreen other → one.rows ≡ other.rows → one.width ≡ other.width
same_width one other h k e = sym (first_row one h) ∙ ap (λ (rows : List Row). length (get_or rows 0 [])) e ∙ first_row other k

event_width : EventsKeepViews → (width_of : List ℕ → ℕ) (view : View) (event : Event) → IsView width_of view → IsEvent event → IsPlainEvent width_of view event
    → (event_done width_of view event).state.screen.width ≡ view.state.screen.width
event_width keep width_of view event h k plain =
    same_width (event_done width_of view event).state.screen (run_ended width_of view event).state.screen (keep width_of view event h k).lawful.lawful (lawful (ends_run event)) plain.rows
    ∙ width (ends_run event) plain.put
  where
    lawful : (b : Bool) → IsScreen (if b then settled width_of view else view).state.screen
    lawful true = (keep width_of view Looked h tt).lawful.lawful
    lawful false = h.lawful.lawful

    width : (b : Bool) → (b ≡ true → run_screen view.state.modes width_of view.state.screen view.held ≡ put_run width_of view.state.screen view.held) → (if b then settled width_of view else view).state.screen.width ≡ view.state.screen.width
    width true put = run_width width_of view (put refl)
    width false put = refl

-- a view that is lawful, on a screen of some width
record IsAsWide (width_of : List ℕ → ℕ) (view : View) (width : ℕ) : Type 0 where
  lawful : IsView width_of view
  same : view.state.screen.width ≡ width

events_wide : EventsKeepViews → (width_of : List ℕ → ℕ) (es : List Event) (view : View) (width : ℕ) → IsAsWide width_of view width → AreEvents es → ArePlainEvents width_of view es
    → IsAsWide width_of (fold (event_done width_of) view es) width
events_wide keep width_of [] view width h k plain = h
events_wide keep width_of (event ∷ es) view width h k plain =
    let next : IsAsWide width_of (event_done width_of view event) width =
    record { lawful = keep width_of view event h.lawful k.0; same = event_width keep width_of view event h.lawful k.0 plain.0 ∙ h.same } in
    events_wide keep width_of es (event_done width_of view event) width next k.1 plain.1

-- ---- streams

-- the fresh cells after a plain stream are those of its rows
fresh_rows : EventsKeepViews → StreamsHaveEvents → (width_of : List ℕ → ℕ) (view : View) (bytes : List ℕ) → IsView width_of view → IsPlain width_of view bytes
    → fresh_after width_of view bytes ≡ rows_count view.state.screen.rows (after width_of view (read bytes)).state.screen.rows
fresh_rows keep have width_of view bytes h plain =
    let wide = events_wide keep width_of (events view.stream (read bytes)) view view.state.screen.width (record { lawful = h; same = refl }) (have view.stream (read bytes) tt) plain in
    fresh_count view.state.screen (after width_of view (read bytes)).state.screen h.lawful.lawful wide.lawful.lawful.lawful h.lawful.whole wide.lawful.lawful.whole wide.same

pub prints_a_third : EventsKeepViews → StreamsHaveEvents → PlainStreamsPrintAThird
prints_a_third keep have width_of view bytes h plain =
    let olds : List Row = view.state.screen.rows in
    let all = events_grow width_of olds 3 Anything AnyText (texts_grow width_of olds) (events view.stream (read bytes)) view plain tt (λ k d lt. tt) in
    let bound = all.bound in
    let none = rows_themselves olds in
    let fresh = fresh_rows keep have width_of view bytes h plain in
    omega arith

pub prints_as_many : EventsKeepViews → StreamsHaveEvents → NarrowStreamsPrintAsMany
prints_as_many keep have width_of view bytes h plain narrow texts =
    let olds : List Row = view.state.screen.rows in
    let all = events_grow width_of olds 1 AreNarrow (IsNarrowText width_of) (narrow_texts_grow width_of olds) (events view.stream (read bytes)) view plain narrow texts in
    let bound = all.bound in
    let none = rows_themselves olds in
    let fresh = fresh_rows keep have width_of view bytes h plain in
    omega arith
