-- Events that are cut at a time, and a recording of one screen.
use Rattle.std.proofs.Common.{◌≡◌, ◌<◌, ℕ, suc, ◌+◌, Bool, true, false, List, [], ◌∷◌, ◌++◌, Option, None, take, drop, refl, sym, ap, ◌∙◌, arith, append-nil}
use Rattle.std.specs.Prelude.{filter, is_some, nat_lt, not, ◌||◌, if◌then◌else◌}
use Rattle.std.specs.List.{prefix_len}
use Rattle.std.proofs.lemmas.Bool.{leb-false, lt-leb}
use Rattle.cell_base.specs.Cluster.{program_width}
use Rattle.recordings.specs.Events.{Event}
use Rattle.recordings.specs.Order.{AreFrom}
use Rattle.recordings.specs.Recordings.{Recording}
use Rattle.shot.specs.Pictures.{picture}
use Rattle.shot.specs.Play.{events_after, is_by, steps_of, until, view_at}
use Rattle.shot.specs.Shots.{end_of, first_view, last_time, multiples, pictures, shots}
use Rattle.shot.specs.declared.format.Format.{Format}
use Rattle.terminal_table.specs.History.{Look}
use Rattle.terminal_steps.specs.declared.profile.Profile.{Profile}
use Rattle.terminal_table.specs.Meaning.{after}

by_test : {P : Type 0} (b : Bool) → (b ≡ true → P) → (b ≡ false → P) → P
by_test {P} b is not_is = (elim b as (λ w. b ≡ w → P) [ true ↦ is | false ↦ not_is ]) refl

later : (time : ℕ) (event : Event) → time < event.time → is_by time event ≡ false
later time event h = lt-leb event.time time h

-- of events that are all later none is by a time
none_by : (time late : ℕ) (events : List Event) → time < late → AreFrom late events → filter (is_by time) events ≡ []
none_by time late [] h from = refl
none_by time late (event ∷ events) h from =
    let after_time : time < event.time = omega (arith, h, from.0) in
    rw (later time event after_time) (none_by time event.time events after_time from.1)

all_later : (time late : ℕ) (events : List Event) → time < late → AreFrom late events → filter (λ event. not (is_by time event)) events ≡ events
all_later time late [] h from = refl
all_later time late (event ∷ events) h from =
    let after_time : time < event.time = omega (arith, h, from.0) in
    rw (later time event after_time) (ap (λ es. event ∷ es) (all_later time event.time events after_time from.1))

pub until_is : (time early : ℕ) (events : List Event) → AreFrom early events → until time events ≡ filter (is_by time) events
until_is time early [] from = refl
until_is time early (event ∷ events) from =
    by_test (is_by time event)
    (λ is.
    let more : 1 + prefix_len (is_by time) events ≡ suc (prefix_len (is_by time) events) = omega arith in
    rw is (ap (λ n. take n (event ∷ events)) more ∙ ap (λ es. event ∷ es) (until_is time event.time events from.1)))
    (λ is. rw is (sym (none_by time event.time events (leb-false event.time time is) from.1)))

pub after_is : (time early : ℕ) (events : List Event) → AreFrom early events → events_after time events ≡ filter (λ event. not (is_by time event)) events
after_is time early [] from = refl
after_is time early (event ∷ events) from =
    by_test (is_by time event)
    (λ is.
    let more : 1 + prefix_len (is_by time) events ≡ suc (prefix_len (is_by time) events) = omega arith in
    rw is (ap (λ n. drop n (event ∷ events)) more ∙ after_is time event.time events from.1))
    (λ is. rw is (ap (λ es. event ∷ es) (sym (all_later time event.time events (leb-false event.time time is) from.1))))

pub one_screen : (format : Format) (at : Option ℕ) (profile : Profile) (recording : Recording) → recording.fault ≡ None
    → shots format at 0 profile recording
    ≡ picture format (after program_width (first_view profile recording) (steps_of (until (end_of at recording.events) recording.events) ++ Look ∷ [])).state.screen
unfolding shots view_at
one_screen format at profile recording none =
    let last = end_of at recording.events in
    ap (λ fault. pictures format (first_view profile recording) recording.events
    (if not (is_some fault) || nat_lt last (last_time recording.events) then multiples 0 last (last ∷ []) else multiples 0 (last_time recording.events) [])) none
    ∙ append-nil (picture format (view_at (first_view profile recording) recording.events last).state.screen)
