-- Encodings that are fed as bytes: they are read as their actions, with prints split and string terminators added.
use Rattle.std.proofs.Common.{◌≡◌, ℕ, Bool, true, false, List, [], ◌∷◌, ◌++◌, map, fold, refl, sym, ap, ◌∙◌}
use Rattle.std.specs.Prelude.{⊤, Option, Some, None}
use Rattle.std.specs.Str.{IsUtf8, chars}
use Rattle.std.proofs.lemmas.List.{map-append}
use Rattle.std.proofs.lemmas.List.Sums.{fold-append}
use Rattle.std.proofs.lemmas.Str.{encodes-chars}
use Rattle.escape_framing.specs.Cut.{tail_of}
use Rattle.escape_framing.specs.Held.{held_of, nothing_held}
use Rattle.escape_framing.specs.Segment.{Begun}
use Rattle.escape_stream.specs.StreamAction.{StreamAction, print, print_string, control, enter, data_byte, exit, command, csi, esc}
use Rattle.escape_stream.specs.StreamActions.{newly_decided_actions}
use Rattle.escape_stream.specs.StreamText.{closes_string, is_string_terminator, stream_text}
use Rattle.escape_stream.specs.StreamWritable.{IsWritableAfter, IsWritable, HasTexts, string_terminator, terminator_before, characters_of, read_form_after, read_form, WritableListsReadOn, WritableListsEndOn}
use Rattle.screen_effects.specs.Display.{Display}
use Rattle.terminal_table.specs.Alone.{IsIdle}
use Rattle.terminal_table.specs.History.{Act, Piece, events}
use Rattle.terminal_table.specs.Meaning.{View, settled, event_done, after}
use Rattle.terminal_table.specs.Request.{Request}
use Rattle.terminal_table.specs.Requests.{acted, request_done, request_of, without_last}
use Rattle.terminal_table.specs.State.{State}
use Rattle.terminal_table.proofs.JoinLemmas.{nothing_after}
use Rattle.terminal_table.proofs.ListLemmas.{append_nil}
use Rattle.terminal_table.proofs.RequestLemmas.{terminator_nothing, twice}
use Rattle.terminal_table.proofs.TextLemmas.{with_text}
use Rattle.terminal_render.specs.Effects.{actions_done, RenderedTextsHaveTheEffect, RenderedTextsLeaveIdle}
use Rattle.terminal_render.proofs.WholeLemmas.{have_the_effect}

-- ---- the actions that are read do what the encoded actions do

-- no run is held, and none is the one before
pub record IsClosed (v : View) : Type 0 where
  pub run : v.held ≡ []
  pub last : without_last v.state ≡ v.state

module _ (f : List ℕ → ℕ) where
  pub joined : (xs ys : List StreamAction) (v : View) → actions_done f v (xs ++ ys) ≡ actions_done f (actions_done f v xs) ys
  joined xs ys v = ap (fold (event_done f) v) (map-append Act xs ys) ∙ fold-append (event_done f) v (map Act xs) (map Act ys)

  -- a string terminator does nothing where that holds
  pub terminator_done : (v : View) → IsClosed v → actions_done f v (string_terminator ∷ []) ≡ v
  terminator_done v h =
      ap (λ run. actions_done f (record v { held = run }) (string_terminator ∷ [])) h.run
      ∙ ap (λ (request : Option Request). record v { state = without_last (request_done f request v.state); held = [] }) (terminator_nothing v.state)
      ∙ (λ i. record v { state = h.last i; held = sym h.run i })

  added_done : (closed stands : Bool) (v : View) → (closed ≡ true → IsClosed v) → actions_done f v (terminator_before closed stands) ≡ v
  added_done true true v h = refl
  added_done true false v h = terminator_done v (h refl)
  added_done false true v h = refl
  added_done false false v h = refl

  text_done : (text : List ℕ) (v : View) → IsUtf8 text → actions_done f v (map print (chars text)) ≡ actions_done f v (print_string text ∷ [])
  text_done text v u = with_text f v (chars text) ∙ (λ i. record v { held = v.held ++ encodes-chars text u i })

  acted_closed : (a : StreamAction) (v : View) → IsClosed (record (settled f v) { state = acted f a (settled f v).state; held = [] })
  acted_closed a v =
      let own : State = (settled f v).state in
      record { run = refl; last = twice (request_done f (request_of own.modes own.screen a) own) }

  -- after an action that closes a string no run is held, and none is the one before
  closed_after : (a : StreamAction) (v : View) → closes_string a ≡ true → IsClosed (event_done f v (Act a))
  closed_after (command c) v e = acted_closed (command c) v
  closed_after exit v e = acted_closed exit v
  closed_after (print c) v e = cc
  closed_after (print_string text) v e = cc
  closed_after (control n) v e = cc
  closed_after (enter header byte) v e = cc
  closed_after (data_byte b) v e = cc
  closed_after (csi a) v e = cc
  closed_after (esc p) v e = cc

  abbrev HasText : StreamAction → Type 0
  HasText a = HasTexts (a ∷ [])

  one_done : (a : StreamAction) (v : View) → HasText a → actions_done f v (characters_of a) ≡ event_done f v (Act a)
  one_done (print_string text) v h = text_done text v h.0
  one_done (print c) v h = refl
  one_done (control n) v h = refl
  one_done (enter header byte) v h = refl
  one_done (data_byte b) v h = refl
  one_done exit v h = refl
  one_done (command c) v h = refl
  one_done (csi a) v h = refl
  one_done (esc p) v h = refl

  abbrev HaveTexts : List StreamAction → Type 0
  HaveTexts [] = ⊤
  HaveTexts (a ∷ remaining) = HasText a × HaveTexts remaining

  form_done : (closed : Bool) (actions : List StreamAction) (v : View) → HaveTexts actions → (closed ≡ true → IsClosed v) → actions_done f v (read_form_after closed actions) ≡ actions_done f v actions
  form_done closed [] v t h = added_done closed false v h
  form_done closed (a ∷ remaining) v t h =
      joined (terminator_before closed (is_string_terminator a) ++ characters_of a) (read_form_after (closes_string a) remaining) v
      ∙ ap (λ w. actions_done f w (read_form_after (closes_string a) remaining))
      (joined (terminator_before closed (is_string_terminator a)) (characters_of a) v ∙ ap (λ w. actions_done f w (characters_of a)) (added_done closed (is_string_terminator a) v h) ∙ one_done a v t.0)
      ∙ form_done (closes_string a) remaining (event_done f v (Act a)) t.1 (closed_after a v)

  -- writable lists have texts that are UTF-8, outside of a device control string and within one
  texts_in : (actions : List StreamAction) → (IsWritableAfter None actions → HaveTexts actions) × ((before : ℕ) → IsWritableAfter (Some before) actions → HaveTexts actions)
  texts_in [] = (λ w. tt, λ before w. tt)
  texts_in (print c ∷ remaining) = let r = texts_in remaining in (λ w. (tt, r.0 w.1), λ before w. absurd w)
  texts_in (print_string text ∷ remaining) = let r = texts_in remaining in (λ w. ((w.0.utf8, tt), r.0 w.1), λ before w. absurd w)
  texts_in (control n ∷ remaining) = let r = texts_in remaining in (λ w. (tt, r.0 w.1), λ before w. absurd w)
  texts_in (enter header byte ∷ remaining) = let r = texts_in remaining in (λ w. (tt, r.1 byte w.1), λ before w. absurd w)
  texts_in (data_byte b ∷ remaining) = let r = texts_in remaining in (λ w. absurd w.0, λ before w. (tt, r.1 b w.1))
  texts_in (exit ∷ remaining) = let r = texts_in remaining in (λ w. absurd w.0, λ before w. (tt, r.0 w))
  texts_in (command c ∷ remaining) = let r = texts_in remaining in (λ w. (tt, r.0 w.1), λ before w. absurd w)
  texts_in (csi a ∷ remaining) = let r = texts_in remaining in (λ w. (tt, r.0 w.1), λ before w. absurd w)
  texts_in (esc p ∷ remaining) = let r = texts_in remaining in (λ w. (tt, r.0 w.1), λ before w. absurd w)

-- ---- fed

module _ (idle : (stream : List ℕ) → held_of stream ≡ nothing_held → tail_of stream ≡ Begun []) (whole : (stream : List ℕ) → tail_of stream ≡ Begun [] → held_of stream ≡ nothing_held) (reads : WritableListsReadOn) (ends : WritableListsEndOn) where
  -- feeding the bytes of writable actions does what the actions do
  pub fed : (f : List ℕ → ℕ) (view : View) (actions : List StreamAction) → IsIdle view → IsWritable actions → after f view (Piece (stream_text actions) ∷ []) ≡ record (actions_done f view actions) { stream = view.stream ++ stream_text actions }
  fed f view actions i h = λ j. record (done j) { stream = view.stream ++ nothing_after (stream_text actions) j }
    where
      read : events view.stream (Piece (stream_text actions) ∷ []) ≡ map Act (read_form actions)
      read = append_nil (map Act (newly_decided_actions view.stream (stream_text actions))) ∙ ap (map Act) (reads view.stream actions (idle view.stream i.stream) h)

      done : fold (event_done f) view (events view.stream (Piece (stream_text actions) ∷ [])) ≡ actions_done f view actions
      done = ap (fold (event_done f) view) read ∙ form_done f false actions view ((texts_in f actions).0 h) (λ e. cc)

  pub texts_have_the_effect : RenderedTextsHaveTheEffect
  texts_have_the_effect f view d change actions ready i w same stands =
      fed f view actions i w ∙ ap (λ (v : View). record v { stream = view.stream ++ stream_text actions }) (have_the_effect f view d change actions ready same stands)

  -- and leave nothing unfinished or held, where the actions leave no run
  pub fed_idle : (f : List ℕ → ℕ) (view : View) (actions : List StreamAction) → IsIdle view → IsWritable actions → (actions_done f view actions).held ≡ [] → IsIdle (after f view (Piece (stream_text actions) ∷ []))
  fed_idle f view actions i w run = record {
    run = ap (λ (v : View). v.held) (fed f view actions i w) ∙ run;
    stream = ap (λ bytes. held_of (view.stream ++ bytes)) (nothing_after (stream_text actions)) ∙ whole (view.stream ++ stream_text actions) (ends view.stream actions (idle view.stream i.stream) w);
  }

  pub texts_leave_idle : RenderedTextsLeaveIdle
  texts_leave_idle f view change actions ready i w stands =
      let d : Display = record { screen = view.state.screen; sizes = []; shape = None } in
      fed_idle f view actions i w (ap (λ (v : View). v.held) (have_the_effect f view d change actions ready refl stands) ∙ ready.run)
