-- Histories join, chunks may be cut anywhere, and of a stream only its unfinished end matters.
use Rattle.std.proofs.Common.{◌≡◌, ℕ, Bool, true, false, List, [], ◌∷◌, ◌++◌, length, drop, map, fold, refl, sym, ap, ◌∙◌, append_assoc}
use Rattle.std.proofs.lemmas.List.Sums.{fold-append}
use Rattle.escape_framing.specs.Cut.{newly_decided}
use Rattle.escape_framing.specs.Held.{hand_out, held_of}
use Rattle.escape_stream.specs.StreamAction.{is_print}
use Rattle.escape_stream.specs.StreamActions.{actions_of, newly_decided_actions}
use Rattle.terminal_table.specs.History.{History, Piece, Look, Resize, Forget, pieces, Event, Act, Looked, Resized, Forgot, events}
use Rattle.terminal_table.specs.Meaning.{View, event_done, after}
use Rattle.terminal_table.specs.Logged.{event_logged, events_logged, logged}
use Rattle.terminal_table.specs.Turns.{DecideAlike}

map-append : {A B : Type 0} (f : A → B) (xs ys : List A) → map f (xs ++ ys) ≡ map f xs ++ map f ys
map-append f [] ys = refl
map-append f (x ∷ xs) ys = ap (λ zs. f x ∷ zs) (map-append f xs ys)

drop-prefix : {A : Type 0} (xs ys : List A) → drop (length xs) (xs ++ ys) ≡ ys
drop-prefix [] ys = refl
drop-prefix (x ∷ xs) ys = drop-prefix xs ys

-- ---- the stream of a view is nothing to events

abbrev pub with_stream : List ℕ → View → View
with_stream stream v = record v { stream = stream }

done_with : (width_of : List ℕ → ℕ) (v : View) (stream : List ℕ) (event : Event) → event_done width_of (with_stream stream v) event ≡ with_stream stream (event_done width_of v event)
done_with width_of v stream (Act action) = by_test (is_print action) refl
  where
    by_test : (b : Bool) → is_print action ≡ b → event_done width_of (with_stream stream v) (Act action) ≡ with_stream stream (event_done width_of v (Act action))
    by_test true e = rw e refl
    by_test false e = rw e refl
done_with width_of v stream Looked = refl
done_with width_of v stream (Resized width height) = refl
done_with width_of v stream (Forgot number) = refl

pub all_done_with : (width_of : List ℕ → ℕ) (v : View) (stream : List ℕ) (es : List Event) → fold (event_done width_of) (with_stream stream v) es ≡ with_stream stream (fold (event_done width_of) v es)
all_done_with width_of v stream [] = refl
all_done_with width_of v stream (e ∷ es) = ap (λ x. fold (event_done width_of) x es) (done_with width_of v stream e) ∙ all_done_with width_of (event_done width_of v e) stream es

pub logged_with : (width_of : List ℕ → ℕ) (v : View) (stream : List ℕ) (es : List Event) → events_logged width_of (with_stream stream v) es ≡ events_logged width_of v es
logged_with width_of v stream [] = refl
logged_with width_of v stream (e ∷ es) =
    ap (λ x. event_logged width_of (with_stream stream v) e ++ events_logged width_of x es) (done_with width_of v stream e)
    ∙ ap (λ xs. event_logged width_of (with_stream stream v) e ++ xs) (logged_with width_of (event_done width_of v e) stream es)
    ∙ ap (λ xs. xs ++ events_logged width_of (event_done width_of v e) es) (one e)
  where
    one : (e : Event) → event_logged width_of (with_stream stream v) e ≡ event_logged width_of v e
    one (Act action) = refl
    one Looked = refl
    one (Resized width height) = refl
    one (Forgot number) = refl

-- ---- histories join

pieces-append : (a b : History) → pieces (a ++ b) ≡ pieces a ++ pieces b
pieces-append [] b = refl
pieces-append (Piece bytes ∷ a) b = ap (λ xs. bytes ++ xs) (pieces-append a b) ∙ sym (append_assoc bytes (pieces a) (pieces b))
pieces-append (Look ∷ a) b = pieces-append a b
pieces-append (Resize width height ∷ a) b = pieces-append a b
pieces-append (Forget number ∷ a) b = pieces-append a b

pub nothing_after : (xs : List ℕ) → xs ++ [] ≡ xs
nothing_after [] = refl
nothing_after (x ∷ xs) = ap (λ ys. x ∷ ys) (nothing_after xs)

events-append : (stream : List ℕ) (a b : History) → events stream (a ++ b) ≡ events stream a ++ events (stream ++ pieces a) b
events-append stream [] b = ap (λ s. events s b) (sym (nothing_after stream))
events-append stream (Piece bytes ∷ a) b =
    ap (λ es. map Act (newly_decided_actions stream bytes) ++ es) (events-append (stream ++ bytes) a b)
    ∙ ap (λ s. map Act (newly_decided_actions stream bytes) ++ (events (stream ++ bytes) a ++ events s b)) (append_assoc stream bytes (pieces a))
    ∙ sym (append_assoc (map Act (newly_decided_actions stream bytes)) (events (stream ++ bytes) a) (events (stream ++ (bytes ++ pieces a)) b))
events-append stream (Look ∷ a) b = ap (λ es. Looked ∷ es) (events-append stream a b)
events-append stream (Resize width height ∷ a) b = ap (λ es. Resized width height ∷ es) (events-append stream a b)
events-append stream (Forget number ∷ a) b = ap (λ es. Forgot number ∷ es) (events-append stream a b)

pub after_joins : (width_of : List ℕ → ℕ) (v : View) (a b : History) → after width_of v (a ++ b) ≡ after width_of (after width_of v a) b
after_joins width_of v a b =
    ap (λ es. with_stream (v.stream ++ pieces (a ++ b)) (fold (event_done width_of) v es)) (events-append v.stream a b)
    ∙ ap (with_stream (v.stream ++ pieces (a ++ b))) (fold-append (event_done width_of) v (events v.stream a) (events middle b))
    ∙ ap (λ s. with_stream s (fold (event_done width_of) first (events middle b))) (ap (λ xs. v.stream ++ xs) (pieces-append a b) ∙ sym (append_assoc v.stream (pieces a) (pieces b)))
    ∙ ap (with_stream (middle ++ pieces b)) (sym (all_done_with width_of first middle (events middle b)))
  where
    middle : List ℕ
    middle = v.stream ++ pieces a

    first : View
    first = fold (event_done width_of) v (events v.stream a)

pub events_logged-append : (width_of : List ℕ → ℕ) (v : View) (xs ys : List Event) → events_logged width_of v (xs ++ ys) ≡ events_logged width_of v xs ++ events_logged width_of (fold (event_done width_of) v xs) ys
events_logged-append width_of v [] ys = refl
events_logged-append width_of v (x ∷ xs) ys =
    ap (λ zs. event_logged width_of v x ++ zs) (events_logged-append width_of (event_done width_of v x) xs ys)
    ∙ sym (append_assoc (event_logged width_of v x) (events_logged width_of (event_done width_of v x) xs) (events_logged width_of (fold (event_done width_of) (event_done width_of v x) xs) ys))

pub logged_joins : (width_of : List ℕ → ℕ) (v : View) (a b : History) → logged width_of v (a ++ b) ≡ logged width_of v a ++ logged width_of (after width_of v a) b
logged_joins width_of v a b =
    ap (events_logged width_of v) (events-append v.stream a b)
    ∙ events_logged-append width_of v (events v.stream a) (events (v.stream ++ pieces a) b)
    ∙ ap (λ xs. logged width_of v a ++ xs) (sym (logged_with width_of (fold (event_done width_of) v (events v.stream a)) (v.stream ++ pieces a) (events (v.stream ++ pieces a) b)))

-- ---- chunks may be cut anywhere

-- two chunks decide the actions that their concatenation decides
abbrev pub PiecesJoin : Type 0
PiecesJoin = (stream x y : List ℕ) → newly_decided_actions stream (x ++ y) ≡ newly_decided_actions stream x ++ newly_decided_actions (stream ++ x) y

pub cut_events : PiecesJoin → (stream x y : List ℕ) (history : History) → events stream (Piece x ∷ Piece y ∷ history) ≡ events stream (Piece (x ++ y) ∷ history)
cut_events joins stream x y history =
    sym (append_assoc (map Act (newly_decided_actions stream x)) (map Act (newly_decided_actions (stream ++ x) y)) (events ((stream ++ x) ++ y) history))
    ∙ ap (λ es. es ++ events ((stream ++ x) ++ y) history) (sym (map-append Act (newly_decided_actions stream x) (newly_decided_actions (stream ++ x) y)) ∙ ap (map Act) (sym (joins stream x y)))
    ∙ ap (λ s. map Act (newly_decided_actions stream (x ++ y)) ++ events s history) (append_assoc stream x y)

pub cut_after : PiecesJoin → (width_of : List ℕ → ℕ) (v : View) (x y : List ℕ) (history : History) → after width_of v (Piece x ∷ Piece y ∷ history) ≡ after width_of v (Piece (x ++ y) ∷ history)
cut_after joins width_of v x y history =
    ap (λ es. with_stream (v.stream ++ (x ++ (y ++ pieces history))) (fold (event_done width_of) v es)) (cut_events joins v.stream x y history)
    ∙ ap (λ xs. with_stream (v.stream ++ xs) (fold (event_done width_of) v (events v.stream (Piece (x ++ y) ∷ history)))) (sym (append_assoc x y (pieces history)))

pub cut_logged : PiecesJoin → (width_of : List ℕ → ℕ) (v : View) (x y : List ℕ) (history : History) → logged width_of v (Piece x ∷ Piece y ∷ history) ≡ logged width_of v (Piece (x ++ y) ∷ history)
cut_logged joins width_of v x y history = ap (events_logged width_of v) (cut_events joins v.stream x y history)

-- ---- only the unfinished end matters

alike_after : PiecesJoin → (a b x : List ℕ) → DecideAlike a b → DecideAlike (a ++ x) (b ++ x)
alike_after joins a b x h y =
    sym (drop-prefix (newly_decided_actions a x) (newly_decided_actions (a ++ x) y))
    ∙ ap (drop (length (newly_decided_actions a x))) (sym (joins a x y) ∙ h (x ++ y) ∙ joins b x y)
    ∙ ap (λ xs. drop (length xs) (newly_decided_actions b x ++ newly_decided_actions (b ++ x) y)) (h x)
    ∙ drop-prefix (newly_decided_actions b x) (newly_decided_actions (b ++ x) y)

pub alike_events : PiecesJoin → (a b : List ℕ) (history : History) → DecideAlike a b → events a history ≡ events b history
alike_events joins a b [] h = refl
alike_events joins a b (Piece bytes ∷ history) h = λ i. map Act (h bytes i) ++ alike_events joins (a ++ bytes) (b ++ bytes) history (alike_after joins a b bytes h) i
alike_events joins a b (Look ∷ history) h = ap (λ es. Looked ∷ es) (alike_events joins a b history h)
alike_events joins a b (Resize width height ∷ history) h = ap (λ es. Resized width height ∷ es) (alike_events joins a b history h)
alike_events joins a b (Forget number ∷ history) h = ap (λ es. Forgot number ∷ es) (alike_events joins a b history h)

pub alike_state : PiecesJoin → (width_of : List ℕ → ℕ) (v : View) (other : List ℕ) (history : History) → DecideAlike v.stream other → (after width_of (record v { stream = other }) history).state ≡ (after width_of v history).state
alike_state joins width_of v other history h =
    ap (λ x. x.state) (all_done_with width_of v other (events other history)) ∙ ap (λ es. (fold (event_done width_of) v es).state) (sym (alike_events joins v.stream other history h))

pub alike_held : PiecesJoin → (width_of : List ℕ → ℕ) (v : View) (other : List ℕ) (history : History) → DecideAlike v.stream other → (after width_of (record v { stream = other }) history).held ≡ (after width_of v history).held
alike_held joins width_of v other history h =
    ap (λ x. x.held) (all_done_with width_of v other (events other history)) ∙ ap (λ es. (fold (event_done width_of) v es).held) (sym (alike_events joins v.stream other history h))

pub alike_logged : PiecesJoin → (width_of : List ℕ → ℕ) (v : View) (other : List ℕ) (history : History) → DecideAlike v.stream other → logged width_of (record v { stream = other }) history ≡ logged width_of v history
alike_logged joins width_of v other history h =
    logged_with width_of v other (events other history) ∙ ap (events_logged width_of v) (sym (alike_events joins v.stream other history h))

-- the held state of a stream determines the dispatches of more bytes
abbrev pub HeldDecides : Type 0
HeldDecides = (stream more : List ℕ) → newly_decided stream more ≡ (hand_out (held_of stream) more).dispatches

pub held_alike : HeldDecides → (a b : List ℕ) → held_of a ≡ held_of b → DecideAlike a b
held_alike decides a b e more = ap actions_of (decides a more ∙ ap (λ x. (hand_out x more).dispatches) e ∙ sym (decides b more))
