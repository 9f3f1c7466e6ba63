-- A new viewer that is fed the updates of an input shows the terminal's screen.
use Rattle.std.proofs.Common.{◌≡◌, ℕ, ◌+◌, ◌<◌, ◌≤◌, ◌^◌, Bool, true, false, List, [], ◌∷◌, ◌++◌, length, refl, sym, ap, subst, ◌∙◌, arith}
use Rattle.std.specs.Prelude.{All, ◌==◌, None, if◌then◌else◌}
use Rattle.std.proofs.lemmas.List.{length-replicate}
use Rattle.cell_base.specs.Row.{space, plain_row}
use Rattle.cell_base.specs.Screen.{Screen, IsScreen, height}
use Rattle.cell_base.specs.WholeRow.{IsWhole}
use Rattle.cell_base.specs.ScreenSize.{IsScreenSize}
use Rattle.screen_log.specs.LogSteps.{Sized}
use Rattle.escape_framing.specs.Held.{hand_out, held_of, nothing_held}
use Rattle.terminal_render.specs.Effects.{IsReady}
use Rattle.terminal_render.specs.Spelling.{HaveEncodings, IsSpelledView}
use Rattle.terminal_render.proofs.LogLemmas.{history_keeps}
use Rattle.terminal_render.proofs.StreamLemmas.{history_spelled}
use Rattle.terminal_render.proofs.RequestLemmas.{display_on_is}
use Rattle.terminal_render.proofs.ViewLemmas.{new_spelled}
use Rattle.terminal_table.specs.Alone.{IsIdle}
use Rattle.terminal_table.specs.History.{Piece}
use Rattle.terminal_table.specs.Logged.{logged}
use Rattle.terminal_table.specs.Meaning.{View, new_view, after}
use Rattle.terminal_table.specs.State.{State}
use Rattle.terminal_table.specs.Turns.{IsView}
use Rattle.terminal_table.proofs.EventLemmas.{after_is}
use Rattle.terminal_table.proofs.JoinLemmas.{PiecesJoin, after_joins, cut_after, nothing_after}
use Rattle.terminal_table.proofs.PrintLemmas.{AllCut}
use Rattle.terminal_table.proofs.ModesLemmas.{plain_terminals_stay}
use Rattle.terminal_table.proofs.RunLemmas.{no_text}
use Rattle.terminal_table.proofs.StateLemmas.{new_is}
use Rattle.terminal_viewers.specs.Shows.{Shows}
use Rattle.terminal_viewers.specs.Update.{update_of}
use Rattle.terminal_viewers.specs.Updates.{Standing, in_chunks, looks, new_standing, standing_after, updated, updates, updates_after}
use Rattle.terminal_viewers.specs.Viewers.{CanRead, UpdatesAreShown, UpdatesLeaveIdle}
use Rattle.terminal_viewers.proofs.DueLemmas.{steps_reach}
use Rattle.terminal_viewers.proofs.ShowLemmas.{history_shows, shows_itself}

-- the standing of a terminal that writes updates: its state is lawful, and its changes have encodings and numbers
record Stands (width_of : List ℕ → ℕ) (s : Standing) : Type 0 where
  lawful : IsView width_of s.view
  spelled : IsSpelledView s.view
  encodings : HaveEncodings s.view.state.screen.width (height s.view.state.screen) s.log.log.entries
  counted : length s.log.log.entries ≤ s.log.log.number

-- a viewer that can read an update: it is ready, and nothing is unfinished there
record Reads (viewer : View) : Type 0 where
  ready : IsReady viewer
  idle : IsIdle viewer

-- after an update a viewer shows the terminal's screen, and can read the next update
record HasRead (later : View) (screen : Screen) : Type 0 where
  screen_is : later.state.screen ≡ screen
  reads : Reads later

-- ---- one chunk

module _ (cut : AllCut) (shown : UpdatesAreShown) (idles : UpdatesLeaveIdle) (width_of : List ℕ → ℕ) (narrow : width_of space ≡ 1) where
  next_stands : (s : Standing) (chunk : List ℕ) → Stands width_of s → Stands width_of (standing_after width_of s (looks (chunk ∷ [])))
  next_stands s chunk h =
      let history = looks (chunk ∷ []) in
      record {
        lawful = after_is cut width_of s.view history h.lawful tt;
        spelled = history_spelled cut width_of s.view history h.lawful tt h.spelled;
        encodings = history_keeps cut width_of s.view history s.log h.lawful tt h.spelled h.encodings;
        counted = (steps_reach 0 (logged width_of s.view history) s.log (record { counted = h.counted; reached = omega arith })).counted;
      }

  can_read : (s : Standing) (chunk : List ℕ) (number : ℕ) (viewer : View) → Stands width_of s → Reads viewer → number ≤ s.log.log.number → Shows width_of viewer.state.screen number s.view.state.screen s.log
      → CanRead width_of viewer (standing_after width_of s (looks (chunk ∷ []))).view.state.screen (standing_after width_of s (looks (chunk ∷ []))).log number
  can_read s chunk number viewer h r n p =
      let later = next_stands s chunk h in
      record {
        narrow = narrow;
        ready = r.ready;
        idle = r.idle;
        display = display_on_is (standing_after width_of s (looks (chunk ∷ []))).view.state.screen later.lawful.lawful.lawful later.lawful.lawful.whole;
        sound = later.lawful.lawful.sound;
        spelled = later.spelled.state.screen;
        encodings = later.encodings;
        shows = history_shows width_of cut viewer.state.screen number s.view s.log (looks (chunk ∷ [])) h.lawful tt (display_on_is viewer.state.screen r.ready.lawful r.ready.whole) h.counted n p;
      }

  has_read : (viewer : View) (screen : Screen) (log : Sized) (number : ℕ) → CanRead width_of viewer screen log number → HasRead (after width_of viewer (Piece (update_of screen log number) ∷ [])) screen
  has_read viewer screen log number can =
      let state_is = shown width_of viewer screen log number can in
      let idle = idles width_of viewer screen log number can in
      let screen_is = ap (λ (x : State). x.screen) state_is in
      record {
        screen_is = screen_is;
        reads = record {
          ready = record {
            lawful = subst IsScreen (sym screen_is) can.display.lawful;
            whole = subst (λ (x : Screen). All IsWhole x.rows) (sym screen_is) can.display.whole;
            width = subst (λ n. n < 2 ^ 32) (can.shows.wide ∙ ap (λ (x : Screen). x.width) (sym screen_is)) can.ready.width;
            height = subst (λ n. n < 2 ^ 32) (can.shows.tall ∙ ap (λ (x : Screen). height x) (sym screen_is)) can.ready.height;
            run = idle.run;
            plain = plain_terminals_stay width_of viewer (Piece (update_of screen log number) ∷ []) can.ready.plain;
          };
          idle = idle;
        };
      }

  -- ---- all chunks

  all_shown : PiecesJoin → (chunk : List ℕ) (chunks : List (List ℕ)) (s : Standing) (number : ℕ) (viewer : View) → Stands width_of s → Reads viewer → number ≤ s.log.log.number → Shows width_of viewer.state.screen number s.view.state.screen s.log
      → HasRead (after width_of viewer (Piece (updates_after width_of s number (chunk ∷ chunks)) ∷ [])) (after width_of s.view (looks (chunk ∷ chunks))).state.screen
  all_shown joins chunk [] s number viewer h r n p =
      let later = standing_after width_of s (looks (chunk ∷ [])) in
      subst (λ (bytes : List ℕ). HasRead (after width_of viewer (Piece bytes ∷ [])) later.view.state.screen) (sym (nothing_after (update_of later.view.state.screen later.log number)))
      (has_read viewer later.view.state.screen later.log number (can_read s chunk number viewer h r n p))
  all_shown joins chunk (other ∷ chunks) s number viewer h r n p =
      let later = standing_after width_of s (looks (chunk ∷ [])) in
      let update = update_of later.view.state.screen later.log number in
      let rest = updates_after width_of later later.log.log.number (other ∷ chunks) in
      let stands = next_stands s chunk h in
      let read = has_read viewer later.view.state.screen later.log number (can_read s chunk number viewer h r n p) in
      let shows = subst (λ (x : Screen). Shows width_of x later.log.log.number later.view.state.screen later.log) (sym read.screen_is) (shows_itself width_of later.view.state.screen later.log stands.counted) in
      let remaining = all_shown joins other chunks later later.log.log.number (after width_of viewer (Piece update ∷ [])) stands read.reads (omega arith) shows in
      subst (λ (v : View). HasRead v (after width_of s.view (looks (chunk ∷ other ∷ chunks))).state.screen)
      (sym (sym (cut_after joins width_of viewer update rest []) ∙ after_joins width_of viewer (Piece update ∷ []) (Piece rest ∷ [])))
      (subst (λ (v : View). HasRead (after width_of (after width_of viewer (Piece update ∷ [])) (Piece rest ∷ [])) v.state.screen) (sym (after_joins width_of s.view (looks (chunk ∷ [])) (looks (other ∷ chunks)))) remaining)

  -- ---- the input

  some_chunk : (every : ℕ) (begun input : List ℕ) → (chunk : List ℕ) × (chunks : List (List ℕ)) × (in_chunks every begun input ≡ chunk ∷ chunks)
  some_chunk every begun [] = (begun, [], refl)
  some_chunk every begun (byte ∷ input) = by_test (length begun + 1 == every) (some_chunk every (begun ++ byte ∷ []) input)
    where
      by_test : (b : Bool) → (chunk : List ℕ) × (chunks : List (List ℕ)) × (in_chunks every (begun ++ byte ∷ []) input ≡ chunk ∷ chunks)
          → (chunk : List ℕ) × (chunks : List (List ℕ)) × ((if b then (begun ++ byte ∷ []) ∷ in_chunks every [] input else in_chunks every (begun ++ byte ∷ []) input) ≡ chunk ∷ chunks)
      by_test true r = (begun ++ byte ∷ [], in_chunks every [] input, refl)
      by_test false r = r

  new_stands : (width height : ℕ) → 0 < width → 0 < height → Stands width_of (new_standing width height)
  new_stands width height w t = record {
    lawful = record { lawful = new_is width_of None width height tt narrow w t; plain = no_text };
    spelled = new_spelled width height;
    encodings = tt;
    counted = omega arith;
  }

  idle_stream : held_of [] ≡ nothing_held
  unfolding hand_out
  idle_stream = refl

  new_reads : (width height : ℕ) → IsScreenSize width height → Reads (new_view width height)
  new_reads width height size =
      let new = new_is width_of None width height tt narrow size.columns.0 size.rows.0 in
      record {
        ready = record { lawful = new.lawful; whole = new.whole; width = size.columns.1; height = subst (λ n. n < 2 ^ 32) (sym (length-replicate height (plain_row width))) size.rows.1; run = refl; plain = refl };
        idle = record { run = refl; stream = idle_stream };
      }

  input_read : PiecesJoin → (width height every : ℕ) (input : List ℕ) → IsScreenSize width height
      → HasRead (after width_of (new_view width height) (Piece (updates width_of width height every input) ∷ [])) (updated width_of width height every input).state.screen
  input_read joins width height every input size =
      let s = new_standing width height in
      let p = some_chunk every [] input in
      subst (λ chunks. HasRead (after width_of (new_view width height) (Piece (updates_after width_of s 0 chunks) ∷ [])) (after width_of (new_view width height) (looks chunks)).state.screen) (sym p.2)
      (all_shown joins p.0 p.1 s 0 (new_view width height) (new_stands width height size.columns.0 size.rows.0) (new_reads width height size) (omega arith) (record { wide = refl; tall = refl; leads = tt }))

  pub input_is_shown : PiecesJoin → (width height every : ℕ) (input : List ℕ) → IsScreenSize width height
      → (after width_of (new_view width height) (Piece (updates width_of width height every input) ∷ [])).state.screen ≡ (updated width_of width height every input).state.screen
  input_is_shown joins width height every input size = (input_read joins width height every input size).screen_is

  pub input_leaves_idle : PiecesJoin → (width height every : ℕ) (input : List ℕ) → IsScreenSize width height
      → IsIdle (after width_of (new_view width height) (Piece (updates width_of width height every input) ∷ []))
  input_leaves_idle joins width height every input size = (input_read joins width height every input size).reads.idle
