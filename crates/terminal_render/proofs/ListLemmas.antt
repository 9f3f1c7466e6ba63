-- The encodings of changes in turn.
use Rattle.std.proofs.Common.{◌≡◌, ℕ, ◌^◌, ◌<◌, List, [], ◌∷◌, ◌++◌, refl, sym, ap, subst, ◌∙◌, append_assoc}
use Rattle.std.specs.Prelude.{Option, Some, None, option_map, option_and_then}
use Rattle.cell_base.specs.Screen.{Screen, height}
use Rattle.screen_change.specs.ChangeValue.{ChangeValue}
use Rattle.screen_effects.proofs.SizeLemmas.{effect_size}
use Rattle.escape_framing.specs.Cut.{tail_of}
use Rattle.escape_framing.specs.Held.{held_of, nothing_held}
use Rattle.escape_framing.specs.Segment.{Begun}
use Rattle.escape_stream.specs.StreamAction.{StreamAction, print, print_string, control, enter, data_byte, exit, command, csi, esc}
use Rattle.escape_stream.specs.StreamText.{stream_text}
use Rattle.escape_stream.specs.StreamWritable.{IsWritableAfter, IsWritable, WritableListsReadOn, WritableListsEndOn}
use Rattle.screen_effects.specs.Display.{Display, IsDisplay}
use Rattle.screen_effects.specs.Effect.{effect}
use Rattle.screen_effects.proofs.EffectLaws.{effect_is}
use Rattle.terminal_table.specs.Meaning.{View}
use Rattle.terminal_render.specs.Effects.{actions_done, with_change, IsReady}
use Rattle.terminal_render.specs.Lists.{all_rendered, ListsHaveTheEffect, ListTextsHaveTheEffect, ListTextsLeaveIdle, WritableListsJoin, RenderingsJoin}
use Rattle.terminal_render.specs.Rendering.{rendering}
use Rattle.terminal_render.proofs.FedLemmas.{joined, fed, fed_idle}
use Rattle.terminal_render.proofs.WholeLemmas.{have_the_effect}

-- ---- the effect

-- a terminal that is ready for an encoding is ready after the change's effect as well
ready_after : (f : List ℕ → ℕ) (view : View) (d : Display) (change : ChangeValue) → IsReady view → IsDisplay d → d.screen ≡ view.state.screen → IsReady (with_change f view d change)
ready_after f view d change ready h same =
    let lawful = effect_is f d change h in
    let size = effect_size f d change h in
    let width : (effect f d change).screen.width ≡ view.state.screen.width = size.width ∙ ap (λ (s : Screen). s.width) same in
    let tall : height (effect f d change).screen ≡ height view.state.screen = size.tall ∙ ap (λ (s : Screen). height s) same in
    record { lawful = lawful.lawful; whole = lawful.whole; width = subst (λ n. n < 2 ^ 32) (sym width) ready.width; height = subst (λ n. n < 2 ^ 32) (sym tall) ready.height; run = ready.run; plain = ready.plain }

-- the parts of a list of actions: the rendering of the first change, and that of the remaining ones
pub record Parts (found rest : Option (List StreamAction)) (actions : List StreamAction) : Type 0 where
  pub first : List StreamAction
  pub remaining : List StreamAction
  pub found_is : found ≡ Some first
  pub rest_is : rest ≡ Some remaining
  pub are : actions ≡ first ++ remaining

pub parts : (found rest : Option (List StreamAction)) (actions : List StreamAction) → option_and_then (λ first. option_map (λ remaining. first ++ remaining) rest) found ≡ Some actions → Parts found rest actions
parts None rest actions e = cc
parts (Some first) None actions e = cc
parts (Some first) (Some remaining) actions e = let k : first ++ remaining ≡ actions = cc in record { first = first; remaining = remaining; found_is = refl; rest_is = refl; are = sym k }

pub lists_have_the_effect : ListsHaveTheEffect
lists_have_the_effect f view d [] actions ready h same stands =
    let none : [] ≡ actions = cc in
    ap (actions_done f view) (sym none) ∙ (λ i. record view { state = record view.state { screen = sym same i } })
lists_have_the_effect f view d (change ∷ changes) actions ready h same stands =
    let size = effect_size f d change h in
    let width : (effect f d change).screen.width ≡ view.state.screen.width = size.width ∙ ap (λ (s : Screen). s.width) same in
    let tall : height (effect f d change).screen ≡ height view.state.screen = size.tall ∙ ap (λ (s : Screen). height s) same in
    let p = parts (rendering change view.state.screen.width (height view.state.screen)) (all_rendered changes view.state.screen.width (height view.state.screen)) actions stands in
    let rest : all_rendered changes (effect f d change).screen.width (height (effect f d change).screen) ≡ Some p.remaining = (λ i. all_rendered changes (width i) (tall i)) ∙ p.rest_is in
    ap (actions_done f view) p.are ∙ joined f p.first p.remaining view
    ∙ ap (λ v. actions_done f v p.remaining) (have_the_effect f view d change p.first ready same p.found_is)
    ∙ lists_have_the_effect f (with_change f view d change) (effect f d change) changes p.remaining (ready_after f view d change ready h same) (effect_is f d change h) refl rest

-- ---- fed

module _ (idle : (stream : List ℕ) → held_of stream ≡ nothing_held → tail_of stream ≡ Begun []) (whole : (stream : List ℕ) → tail_of stream ≡ Begun [] → held_of stream ≡ nothing_held) (reads : WritableListsReadOn) (ends : WritableListsEndOn) where
  pub list_texts_have_the_effect : ListTextsHaveTheEffect
  list_texts_have_the_effect f view d changes actions ready i w h same stands =
      fed idle whole reads ends f view actions i w ∙ ap (λ (v : View). record v { stream = view.stream ++ stream_text actions }) (lists_have_the_effect f view d changes actions ready h same stands)

  pub list_texts_leave_idle : ListTextsLeaveIdle
  list_texts_leave_idle f view d changes actions ready i w h same stands =
      fed_idle idle whole reads ends f view actions i w (ap (λ (v : View). v.held) (lists_have_the_effect f view d changes actions ready h same stands) ∙ ready.run)

-- ---- lists that are joined

-- outside of a device control string, and within one
joins : (xs ys : List StreamAction) → IsWritable ys → (IsWritableAfter None xs → IsWritable (xs ++ ys)) × ((before : ℕ) → IsWritableAfter (Some before) xs → IsWritableAfter (Some before) (xs ++ ys))
joins [] ys k = (λ w. k, λ before w. absurd w)
joins (print c ∷ xs) ys k = let r = joins xs ys k in (λ w. (w.0, r.0 w.1), λ before w. absurd w)
joins (print_string text ∷ xs) ys k = let r = joins xs ys k in (λ w. (w.0, r.0 w.1), λ before w. absurd w)
joins (control n ∷ xs) ys k = let r = joins xs ys k in (λ w. (w.0, r.0 w.1), λ before w. absurd w)
joins (enter header byte ∷ xs) ys k = let r = joins xs ys k in (λ w. (w.0, r.1 byte w.1), λ before w. absurd w)
joins (data_byte b ∷ xs) ys k = let r = joins xs ys k in (λ w. absurd w.0, λ before w. (w.0, r.1 b w.1))
joins (exit ∷ xs) ys k = let r = joins xs ys k in (λ w. absurd w.0, λ before w. r.0 w)
joins (command c ∷ xs) ys k = let r = joins xs ys k in (λ w. (w.0, r.0 w.1), λ before w. absurd w)
joins (csi a ∷ xs) ys k = let r = joins xs ys k in (λ w. (w.0, r.0 w.1), λ before w. absurd w)
joins (esc p ∷ xs) ys k = let r = joins xs ys k in (λ w. (w.0, r.0 w.1), λ before w. absurd w)

pub writable_lists_join : WritableListsJoin
writable_lists_join xs ys w k = (joins xs ys k).0 w

no_more : (xs : List StreamAction) → xs ++ [] ≡ xs
no_more [] = refl
no_more (x ∷ xs) = ap (λ ys. x ∷ ys) (no_more xs)

pub renderings_join : RenderingsJoin
renderings_join [] change width height first last a b =
    let none : [] ≡ first = cc in
    ap (λ found. option_and_then (λ x. option_map (λ remaining. x ++ remaining) (all_rendered [] width height)) found) b ∙ (λ i. Some (no_more last i)) ∙ ap (λ (xs : List StreamAction). Some (xs ++ last)) none
renderings_join (c ∷ changes) change width height first last a b =
    let p = parts (rendering c width height) (all_rendered changes width height) first a in
    let rest = renderings_join changes change width height p.remaining last p.rest_is b in
    (λ i. option_and_then (λ x. option_map (λ remaining. x ++ remaining) (rest i)) (p.found_is i)) ∙ ap (λ (xs : List StreamAction). Some xs) (sym (append_assoc p.first p.remaining last)) ∙ ap (λ (xs : List StreamAction). Some (xs ++ last)) (sym p.are)
