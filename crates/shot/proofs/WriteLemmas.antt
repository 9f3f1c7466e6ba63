-- Screens that are written one after another.
use Rattle.std.proofs.Common.{◌≡◌, ℕ, zero, suc, ◌+◌, ◌*◌, ◌-◌, ◌<◌, Bool, true, false, List, [], ◌∷◌, ◌++◌, Option, Some, None, refl, sym, ap, subst, ◌∙◌, append_assoc, append-nil, arith}
use Rattle.std.proofs.Math.Nat.{suc-mul}
use Rattle.std.specs.Io.KnownBytes.{Appends}
use Rattle.recordings.specs.Events as recorded
use Rattle.shot.specs.Play.{events_after, view_at}
use Rattle.shot.specs.Shots.{parted, pictures, pictures_after, times_after}
use Rattle.shot.specs.Sinks.{AppendsUnlessClosed}
use Rattle.shot.specs.Writing.{IsWriting}
use Rattle.shot.specs.declared.format.Format.{Format}
use Rattle.terminal.specs.Headline.{StandsAt}
use Rattle.terminal.specs.Shown.{AppendsPrefix}
use Rattle.terminal.specs.Terminal.{Terminal}
use Rattle.terminal.proofs.UpdateLemmas.{appends_both, prefix_after}
use Rattle.terminal_table.specs.Meaning.{View}

-- ---- prefixes

appends_none : (a : Option (List ℕ)) → Appends a a []
appends_none None = tt
appends_none (Some x) = sym (append-nil x)

-- nothing is written
pub prefix_none : (a : Option (List ℕ)) (x : List ℕ) → AppendsPrefix a a x
prefix_none a x = record { written = []; remaining = x; whole = refl; appends = appends_none a }

pub prefix_all : (a b : Option (List ℕ)) (x : List ℕ) → Appends a b x → AppendsPrefix a b x
prefix_all a b x h = record { written = x; remaining = []; whole = sym (append-nil x); appends = h }

-- a prefix of a part, and a part with a prefix after it
pub prefix_stops : (a b : Option (List ℕ)) (x y : List ℕ) → AppendsPrefix a b x → AppendsPrefix a b (x ++ y)
prefix_stops a b x y h = record {
  written = h.written;
  remaining = h.remaining ++ y;
  whole = ap (λ s. s ++ y) h.whole ∙ append_assoc h.written h.remaining y;
  appends = h.appends;
}

pub prefix_then : (a b c : Option (List ℕ)) (x y : List ℕ) → Appends a b x → AppendsPrefix b c y → AppendsPrefix a c (x ++ y)
prefix_then a b c x y h k = record {
  written = x ++ k.written;
  remaining = k.remaining;
  whole = ap (λ s. x ++ s) k.whole ∙ sym (append_assoc x k.written k.remaining);
  appends = appends_both a b c x k.written h k.appends;
}

-- all is written, whether or not somebody reads it still
pub written_unless_closed : (is_closed : Bool) (a b : Option (List ℕ)) (x : List ℕ) → Appends a b x → AppendsUnlessClosed is_closed a b x
written_unless_closed false a b x h = h
written_unless_closed true a b x h = prefix_all a b x h

-- a prefix is written, and nobody reads it any more
pub part_if_closed : (is_closed : Bool) (a b : Option (List ℕ)) (x : List ℕ) → is_closed ≡ true → AppendsPrefix a b x → AppendsUnlessClosed is_closed a b x
part_if_closed is_closed a b x e h = subst (λ c. AppendsUnlessClosed c a b x) (sym e) h

-- ---- screens

pub writing_first : {W : Type 0} (format : Format) (view : View) (events : List recorded.Event) (step count : ℕ) (t : Terminal W) (out : Option (List ℕ))
    → StandsAt t view → IsWriting format view events step count t events 0 0 count out out
writing_first format view events step count t out st = record {
  now = view;
  done = [];
  stands = st;
  appends = appends_none out;
  whole = λ remaining. refl;
}

-- one screen more
pub writing_next : {W : Type 0} (format : Format) (view : View) (events : List recorded.Event) (step count : ℕ) (t u : Terminal W) (rest next : List recorded.Event) (time later number left : ℕ) (old out new : Option (List ℕ))
    → IsWriting format view events step count t rest time number (suc left) old out
    → later ≡ time + step
    → ((v : View) → StandsAt t v → StandsAt u (view_at v rest later))
    → ((v : View) → StandsAt t v → Appends out new (parted format number (view_at v rest later).state.screen))
    → next ≡ events_after later rest
    → IsWriting format view events step count u next later (number + 1) left old new
writing_next format view events step count t u rest next time later number left old out new w at stands appends is = record {
  now = view_at w.now rest later;
  done = w.done ++ parted format number (view_at w.now rest later).state.screen;
  stands = stands w.now w.stands;
  appends = appends_both old out new w.done (parted format number (view_at w.now rest later).state.screen) w.appends (appends w.now w.stands);
  whole = λ remaining.
      append_assoc w.done (parted format number (view_at w.now rest later).state.screen) (pictures_after (number + 1) format (view_at w.now rest later) next (times_after later step left remaining))
      ∙ ap (λ es. w.done ++ (parted format number (view_at w.now rest later).state.screen ++ pictures_after (number + 1) format (view_at w.now rest later) es (times_after later step left remaining))) is
      ∙ ap (λ l. w.done ++ pictures_after number format w.now rest (l ∷ times_after l step left remaining)) at
      ∙ w.whole remaining;
}

-- a prefix of one screen more
pub writing_stops : {W : Type 0} (format : Format) (view : View) (events : List recorded.Event) (step count : ℕ) (t : Terminal W) (rest : List recorded.Event) (time later number left : ℕ) (old out new : Option (List ℕ))
    → IsWriting format view events step count t rest time number (suc left) old out
    → later ≡ time + step
    → ((v : View) → StandsAt t v → AppendsPrefix out new (parted format number (view_at v rest later).state.screen))
    → (remaining : List ℕ) → AppendsPrefix old new (pictures format view events (times_after 0 step count remaining))
writing_stops format view events step count t rest time later number left old out new w at part remaining =
    subst (AppendsPrefix old new)
    (ap (λ l. w.done ++ pictures_after number format w.now rest (l ∷ times_after l step left remaining)) at ∙ w.whole remaining)
    (prefix_after old out new w.done (parted format number (view_at w.now rest later).state.screen)
    (pictures_after (number + 1) format (view_at w.now rest later) (events_after later rest) (times_after later step left remaining)) w.appends (part w.now w.stands))

-- after the screens at those times, the screen at the last time completes the pictures
pub written_last : {W : Type 0} (format : Format) (view : View) (events : List recorded.Event) (step count : ℕ) (t : Terminal W) (rest : List recorded.Event) (time last number : ℕ) (old out new : Option (List ℕ))
    → IsWriting format view events step count t rest time number 0 old out
    → ((v : View) → StandsAt t v → Appends out new (parted format number (view_at v rest last).state.screen))
    → Appends old new (pictures format view events (times_after 0 step count (last ∷ [])))
written_last format view events step count t rest time last number old out new w appends =
    let screen = parted format number (view_at w.now rest last).state.screen in
    subst (Appends old new) (ap (λ l. w.done ++ l) (sym (append-nil screen)) ∙ w.whole (last ∷ []))
    (appends_both old out new w.done screen w.appends (appends w.now w.stands))

-- after the screens at those times, a prefix of the last one
pub stopped_last : {W : Type 0} (format : Format) (view : View) (events : List recorded.Event) (step count : ℕ) (t : Terminal W) (rest : List recorded.Event) (time last number : ℕ) (old out new : Option (List ℕ))
    → IsWriting format view events step count t rest time number 0 old out
    → ((v : View) → StandsAt t v → AppendsPrefix out new (parted format number (view_at v rest last).state.screen))
    → AppendsPrefix old new (pictures format view events (times_after 0 step count (last ∷ [])))
stopped_last format view events step count t rest time last number old out new w part =
    subst (AppendsPrefix old new) (w.whole (last ∷ []))
    (prefix_after old out new w.done (parted format number (view_at w.now rest last).state.screen) [] w.appends (part w.now w.stands))

pub written_all : {W : Type 0} (format : Format) (view : View) (events : List recorded.Event) (step count : ℕ) (t : Terminal W) (rest : List recorded.Event) (time number : ℕ) (old new : Option (List ℕ))
    → IsWriting format view events step count t rest time number 0 old new
    → Appends old new (pictures format view events (times_after 0 step count []))
written_all format view events step count t rest time number old new w =
    subst (Appends old new) (sym (append-nil w.done) ∙ w.whole []) w.appends

pub one_less : (left step : ℕ) → 0 < left → left * step ≡ (left - 1) * step + step
one_less zero step h = absurd (omega arith)
one_less (suc left) step h = let less : left ≡ suc left - 1 = omega arith in suc-mul left step ∙ ap (λ n. n * step + step) less
