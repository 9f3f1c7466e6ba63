-- Events that are played one by one.
use Rattle.std.proofs.Common.{◌≡◌, ℕ, ◌+◌, Bool, List, [], ◌∷◌, ◌++◌, map, take, refl, sym, ap, subst, ◌∙◌, append-nil}
use Rattle.std.specs.Prelude.{cond}
use Rattle.std.specs.List.{prefix_len}
use Rattle.std.proofs.lemmas.List.{take-map}
use Rattle.cell_base.specs.Cluster.{program_width}
use Rattle.recordings.specs.Events as recorded
use Rattle.recordings.specs.EventView.{event_of}
use Rattle.recordings.specs.declared.event.Event.{Event}
use Rattle.shot.specs.Play.{is_by, step_of, steps_of, until, view_at}
use Rattle.terminal.specs.Headline.{GoesBy, StandsAt}
use Rattle.terminal.specs.Terminal.{Terminal}
use Rattle.terminal_table.specs.History.{Look}
use Rattle.terminal_table.specs.Meaning.{View, after}
use Rattle.terminal_table.proofs.JoinLemmas.{after_joins}

-- nothing more happens
after_none : (view : View) → after program_width view [] ≡ view
after_none view = ap (λ stream. record view { stream = stream }) (append-nil view.stream)

-- a terminal stands at a view from which the events left lead to a final view
pub record Led {W : Type 0} (now : Terminal W) (left : List recorded.Event) («end» : View) : Type 0 where
  pub view : View
  pub stands : StandsAt now view
  pub leads : after program_width view (steps_of left) ≡ «end»

-- from a view at which `before` stands, `whole` leads to a view; `now` stands at one from which `left` leads to that view
abbrev pub LeadsOn : {W : Type 0} → Terminal W → Terminal W → List recorded.Event → List recorded.Event → Type 0
LeadsOn before now left whole = (view : View) → StandsAt before view → Led now left (after program_width view (steps_of whole))

pub led_first : {W : Type 0} (t : Terminal W) (events : List recorded.Event) → LeadsOn t t events events
led_first t events view st = record { view = view; stands = st; leads = refl }

pub led_next : {W : Type 0} (before now next : Terminal W) (event : recorded.Event) (left whole : List recorded.Event) → LeadsOn before now (event ∷ left) whole
    → GoesBy (λ w. program_width) now next (step_of event.act ∷ []) → LeadsOn before next left whole
led_next before now next event left whole h g view st =
    let led = h view st in
    record {
      view = after program_width led.view (step_of event.act ∷ []);
      stands = g.stands led.view led.stands;
      leads = sym (after_joins program_width led.view (step_of event.act ∷ []) (steps_of left)) ∙ led.leads;
    }

pub led_all : {W : Type 0} (before now : Terminal W) (whole : List recorded.Event) → LeadsOn before now [] whole
    → (view : View) → StandsAt before view → StandsAt now (after program_width view (steps_of whole))
led_all before now whole h view st =
    let led = h view st in
    subst (StandsAt now) (sym (after_none led.view) ∙ led.leads) led.stands

-- the prefix of items whose images pass a test is as long as the prefix of images that pass it
pub prefix_mapped : {A B : Type 0} (f : A → B) (test : B → Bool) (xs : List A) → prefix_len (λ x. test (f x)) xs ≡ prefix_len test (map f xs)
prefix_mapped f test [] = refl
prefix_mapped f test (x ∷ xs) = ap (λ n. cond (test (f x)) (1 + n) 0) (prefix_mapped f test xs)

-- after the events up to a time, and a look, the terminal stands at the view of that time
pub played_until : {W : Type 0} (before then now : Terminal W) (events prefix : List Event) (time count : ℕ) → prefix ≡ take count events → count ≡ prefix_len (is_by time) (map event_of events)
    → ((view : View) → StandsAt before view → StandsAt then (after program_width view (steps_of (map event_of prefix))))
    → GoesBy (λ w. program_width) then now (Look ∷ [])
    → (view : View) → StandsAt before view → StandsAt now (view_at view (map event_of events) time)
unfolding view_at
played_until before then now events prefix time count prefix_is count_is acted looked view st =
    let prefixes : map event_of prefix ≡ until time (map event_of events) =
    ap (map event_of) prefix_is ∙ sym (take-map event_of count events) ∙ ap (λ n. take n (map event_of events)) count_is in
    subst (StandsAt now)
    (sym (after_joins program_width view (steps_of (map event_of prefix)) (Look ∷ [])) ∙ ap (λ es. after program_width view (steps_of es ++ Look ∷ [])) prefixes)
    (looked.stands (after program_width view (steps_of (map event_of prefix))) (acted view st))
