-- Actions in turn, on a screen of a terminal that holds no run; texts among them.
use Rattle.std.proofs.Common.{◌≡◌, ℕ, Bool, true, false, List, [], ◌∷◌, ◌++◌, length, map, fold, refl, sym, ap, subst, ◌∙◌, arith}
use Rattle.std.specs.Prelude.{◌==◌, Option, None, if◌then◌else◌}
use Rattle.std.specs.List.{flat_map}
use Rattle.std.specs.Str.{chars}
use Rattle.std.proofs.lemmas.Bool.Decides.{nat_tests}
use Rattle.std.proofs.lemmas.List.Sums.{fold-append}
use Rattle.std.proofs.lemmas.List.{map-append}
use Rattle.unicode_segmentation.proofs.Computing.{unicode_segmentation}
use Rattle.cell_base.specs.Cluster.{clusters}
use Rattle.cell_base.specs.Row.{space}
use Rattle.cell_base.specs.Screen.{Screen, put, put_run}
use Rattle.escape_stream.specs.StreamAction.{StreamAction, control}
use Rattle.screen_effects.specs.Display.{Display}
use Rattle.screen_effects.specs.Strokes.{TextPart, Plain, Control, Stroke, CarriageReturn, LineFeed, Cluster, text_parts, part_strokes, strokes, stroke_on, stroke_done}
use Rattle.terminal_table.specs.Modes.{SavedCursor}
use Rattle.terminal_table.specs.Functions.{function_of}
use Rattle.terminal_table.specs.Requests.{without_last}
use Rattle.terminal_table.specs.Runs.{run_step}
use Rattle.terminal_table.specs.History.{Act}
use Rattle.terminal_table.specs.Meaning.{View, event_done}
use Rattle.terminal_table.proofs.OtherLemmas.{other_view}
use Rattle.terminal_render.specs.Effects.{actions_done}
use Rattle.terminal_render.specs.Texts.{part_actions, run_actions}

no_clusters : clusters [] ≡ []
unfolding unicode_segmentation chars
no_clusters = refl

one_cluster : clusters space ≡ space ∷ []
unfolding unicode_segmentation chars
one_cluster = refl

-- the screen of a display on which strokes were done
strokes_screen : (f : List ℕ → ℕ) (ss : List Stroke) (d : Display) → (fold (stroke_done f) d ss).screen ≡ fold (stroke_on f) d.screen ss
strokes_screen f [] d = refl
strokes_screen f (s ∷ ss) d = strokes_screen f ss (stroke_done f d s)

clusters_put : (f : List ℕ → ℕ) (ts : List (List ℕ)) (s : Screen) → fold (stroke_on f) s (map Cluster ts) ≡ fold (put f) s ts
clusters_put f [] s = refl
clusters_put f (t ∷ ts) s = clusters_put f ts (put f s t)

some_text : (b : ℕ) (text : List ℕ) → (length (b ∷ text) == 0) ≡ false
some_text b text = grind (arith, nat_tests)

module _ (f : List ℕ → ℕ) (saved : Option SavedCursor) (replies : List ℕ) (stream : List ℕ) where
  -- the view of a plain terminal's screen with this saved cursor, these replies and this stream, in which no run is held
  abbrev pub on : Screen → View
  on screen = record { state = record { screen = screen; saved = saved; replies = replies; modes = None }; stream = stream; held = [] }

  pub done_append : (xs ys : List StreamAction) (view : View) → actions_done f view (xs ++ ys) ≡ actions_done f (actions_done f view xs) ys
  done_append xs ys view = ap (fold (event_done f) view) (map-append Act xs ys) ∙ fold-append (event_done f) view (map Act xs) (map Act ys)

  -- a text that is printed, and NUL
  run_done : (text : List ℕ) (s : Screen) → actions_done f (on s) (run_actions text) ≡ on (put_run f s text)
  unfolding function_of
  run_done [] s = sym (ap (λ ts. on (fold (put f) s ts)) no_clusters)
  run_done (b ∷ text) s =
      other_view f (record (on s) { held = b ∷ text }) (control 0) refl (λ last screen. refl)
      ∙ (λ i. record (on s) { state = without_last (if some_text b text i then (on s).state else run_step f (b ∷ text) (on s).state) })

  return_done : (s : Screen) → actions_done f (on s) (control 13 ∷ []) ≡ on (stroke_on f s CarriageReturn)
  unfolding function_of
  return_done s = refl

  feed_done : (s : Screen) → actions_done f (on s) (control 10 ∷ []) ≡ on (stroke_on f s LineFeed)
  unfolding function_of
  feed_done s = refl

  is_number : (m n : ℕ) → (m == n) ≡ true → m ≡ n
  is_number m n e = grind (arith, nat_tests)

  -- a part of a text
  part_done : (part : TextPart) (s : Screen) → actions_done f (on s) (part_actions part) ≡ on (fold (stroke_on f) s (part_strokes part))
  part_done (Plain text) s = run_done text s ∙ ap on (sym (clusters_put f (clusters text) s))
  part_done (Control byte) s = by_return (byte == 13) refl
    where
      other : (byte == 13) ≡ false → (byte == 10) ≡ false → actions_done f (on s) (part_actions (Control byte)) ≡ on (fold (stroke_on f) s (part_strokes (Control byte)))
      other e k = rw (e, k) (run_done space s ∙ ap (λ ts. on (fold (put f) s ts)) one_cluster)

      by_feed : (b : Bool) → (byte == 10) ≡ b → (byte == 13) ≡ false → actions_done f (on s) (part_actions (Control byte)) ≡ on (fold (stroke_on f) s (part_strokes (Control byte)))
      by_feed true k e = subst (λ n. actions_done f (on s) (part_actions (Control n)) ≡ on (fold (stroke_on f) s (part_strokes (Control n)))) (sym (is_number byte 10 k)) (feed_done s)
      by_feed false k e = other e k

      by_return : (b : Bool) → (byte == 13) ≡ b → actions_done f (on s) (part_actions (Control byte)) ≡ on (fold (stroke_on f) s (part_strokes (Control byte)))
      by_return true e = subst (λ n. actions_done f (on s) (part_actions (Control n)) ≡ on (fold (stroke_on f) s (part_strokes (Control n)))) (sym (is_number byte 13 e)) (return_done s)
      by_return false e = by_feed (byte == 10) refl e

  parts_done : (parts : List TextPart) (s : Screen) → actions_done f (on s) (flat_map part_actions parts) ≡ on (fold (stroke_on f) s (flat_map part_strokes parts))
  parts_done [] s = refl
  parts_done (part ∷ parts) s =
      done_append (part_actions part) (flat_map part_actions parts) (on s)
      ∙ ap (λ view. actions_done f view (flat_map part_actions parts)) (part_done part s)
      ∙ parts_done parts (fold (stroke_on f) s (part_strokes part))
      ∙ ap on (sym (fold-append (stroke_on f) s (part_strokes part) (flat_map part_strokes parts)))

  -- the parts of a text in turn
  pub text_does : (text : List ℕ) (d : Display) → actions_done f (on d.screen) (flat_map part_actions (text_parts text)) ≡ on (fold (stroke_done f) d (strokes text)).screen
  text_does text d = parts_done (text_parts text) d.screen ∙ ap on (sym (strokes_screen f (strokes text) d))
