-- The pieces of a call, and the actions that they represent.
use Rattle.std.proofs.Common.{◌≡◌, ℕ, ◌+◌, List, [], ◌∷◌, ◌++◌, length, drop, map, fold, refl, sym, ap, subst, ◌∙◌, arith}
use Rattle.std.specs.Prelude.{encode_utf8, encode_utf8_all}
use Rattle.std.proofs.lemmas.List.Sums.{fold-append}
use Rattle.escape_framing.specs.Cut.{dispatches, newly_decided}
use Rattle.escape_framing.specs.Dispatch.{Dispatch}
use Rattle.escape_framing.specs.Placed.{placed_from}
use Rattle.escape_stream.specs.Items.{items, items_of}
use Rattle.escape_stream.specs.Pieces.{Piece, pieces, Spells, nothing, alone, in_text}
use Rattle.escape_stream.specs.StreamAction.{StreamAction, print}
use Rattle.escape_stream.specs.StreamActions.{actions_of, newly_decided_actions}
use Rattle.terminal_table.specs.History as history
use Rattle.terminal_table.specs.History.{Event, Act, events}
use Rattle.terminal_table.specs.Logged.{event_logged, events_logged, logged}
use Rattle.terminal_table.specs.Meaning.{View, event_done, after}
use Rattle.terminal_table.specs.RunText.{IsRunText}
use Rattle.terminal_table.specs.Turns.{AreEvents}
use Rattle.terminal_table.proofs.ListLemmas.{append_nil, drop_past}
use Rattle.terminal_table.proofs.PrintLemmas.{AllCut, events_are}
use Rattle.terminal_table.proofs.RunLemmas.{no_text, text_append}
use Rattle.terminal_table.proofs.TextLemmas.{prints, with_text, text_logged}
use Rattle.terminal_steps.specs.Items.{item_events}

map-append : {A B : Type 0} (f : A → B) (xs ys : List A) → map f (xs ++ ys) ≡ map f xs ++ map f ys
map-append f [] ys = refl
map-append f (x ∷ xs) ys = ap (λ zs. f x ∷ zs) (map-append f xs ys)

-- ---- the dispatches of a call

abbrev pub DispatchesJoin : Type 0
DispatchesJoin = (stream x y : List ℕ) → newly_decided stream (x ++ y) ≡ newly_decided stream x ++ newly_decided (stream ++ x) y

same_again : (n : ℕ) (ds : List Dispatch) → map (λ (p : ℕ × Dispatch). p.1) (map (λ d. (n, d)) ds) ≡ ds
same_again n [] = refl
same_again n (d ∷ ds) = ap (λ xs. d ∷ xs) (same_again n ds)

pub none_newly : (stream : List ℕ) → newly_decided stream [] ≡ []
none_newly stream = ap (λ s. drop (length (dispatches stream)) (dispatches s)) (append_nil stream) ∙ drop_past (length (dispatches stream)) (dispatches stream) (omega arith)

placed_are : DispatchesJoin → (prefix bytes : List ℕ) → map (λ (p : ℕ × Dispatch). p.1) (placed_from prefix bytes) ≡ newly_decided prefix bytes
placed_are joins prefix [] = sym (none_newly prefix)
placed_are joins prefix (b ∷ bytes) =
    map-append (λ (p : ℕ × Dispatch). p.1) (map (λ d. (length prefix + 1, d)) (newly_decided prefix (b ∷ []))) (placed_from (prefix ++ b ∷ []) bytes)
    ∙ (λ i. same_again (length prefix + 1) (newly_decided prefix (b ∷ [])) i ++ placed_are joins (prefix ++ b ∷ []) bytes i)
    ∙ sym (joins prefix (b ∷ []) bytes)

-- ---- the bytes of printed characters

text_printed : (cs : List ℕ) (remaining : List Event) → AreEvents (prints cs ++ remaining) → IsRunText (encode_utf8_all cs) × AreEvents remaining
text_printed [] remaining h = (no_text, h)
text_printed (c ∷ cs) remaining h = let rest = text_printed cs remaining h.1 in (text_append (encode_utf8 c) (encode_utf8_all cs) h.0 rest.0, rest.1)

-- the events of a text's characters, and then those of the remaining actions
acts_of : (cs : List ℕ) (actions all : List StreamAction) → all ≡ map print cs ++ actions → map Act all ≡ prints cs ++ map Act actions
acts_of cs actions all e = ap (map Act) e ∙ map-append Act (map print cs) actions

spelled_view : (width_of : List ℕ → ℕ) (ps : List Piece) (actions : List StreamAction) → Spells ps actions → (v : View) → fold (event_done width_of) v (item_events (items_of ps)) ≡ fold (event_done width_of) v (map Act actions)
spelled_view width_of [] [] nothing v = refl
spelled_view width_of _ _ (alone a ps actions rest) v = spelled_view width_of ps actions rest (event_done width_of v (Act a))
spelled_view width_of _ _ (in_text from c cs text ps actions all e f rest) v =
    (λ i. fold (event_done width_of) (record v { held = v.held ++ e i }) (item_events (items_of ps)))
    ∙ spelled_view width_of ps actions rest (record v { held = v.held ++ encode_utf8_all (c ∷ cs) })
    ∙ ap (λ x. fold (event_done width_of) x (map Act actions)) (sym (with_text width_of v (c ∷ cs)))
    ∙ sym (fold-append (event_done width_of) v (prints (c ∷ cs)) (map Act actions))
    ∙ ap (fold (event_done width_of) v) (sym (acts_of (c ∷ cs) actions all f))

spelled_logged : (width_of : List ℕ → ℕ) (ps : List Piece) (actions : List StreamAction) → Spells ps actions → (v : View) → events_logged width_of v (item_events (items_of ps)) ≡ events_logged width_of v (map Act actions)
spelled_logged width_of [] [] nothing v = refl
spelled_logged width_of _ _ (alone a ps actions rest) v = ap (λ xs. event_logged width_of v (Act a) ++ xs) (spelled_logged width_of ps actions rest (event_done width_of v (Act a)))
spelled_logged width_of _ _ (in_text from c cs text ps actions all e f rest) v =
    (λ i. events_logged width_of (record v { held = v.held ++ e i }) (item_events (items_of ps)))
    ∙ spelled_logged width_of ps actions rest (record v { held = v.held ++ encode_utf8_all (c ∷ cs) })
    ∙ sym (text_logged width_of v (c ∷ cs) (map Act actions))
    ∙ ap (events_logged width_of v) (sym (acts_of (c ∷ cs) actions all f))

spelled_events : (ps : List Piece) (actions : List StreamAction) → Spells ps actions → AreEvents (map Act actions) → AreEvents (item_events (items_of ps))
spelled_events [] [] nothing h = tt
spelled_events _ _ (alone a ps actions rest) h = (h.0, spelled_events ps actions rest h.1)
spelled_events _ _ (in_text from c cs text ps actions all e f rest) h =
    let both = text_printed (c ∷ cs) (map Act actions) (subst AreEvents (acts_of (c ∷ cs) actions all f) h) in
    (subst IsRunText (sym e) both.0, spelled_events ps actions rest both.1)

-- ---- the pieces of a call

abbrev pub AllSpell : Type 0
AllSpell = (stream bytes : List ℕ) → Spells (pieces stream bytes) (actions_of (map (λ (p : ℕ × Dispatch). p.1) (placed_from stream bytes)))

spell_newly : DispatchesJoin → AllSpell → (stream bytes : List ℕ) → Spells (pieces stream bytes) (newly_decided_actions stream bytes)
spell_newly joins spell stream bytes = subst (λ ds. Spells (pieces stream bytes) (actions_of ds)) (placed_are joins stream bytes) (spell stream bytes)

no_more : (es : List Event) → es ++ [] ≡ es
no_more [] = refl
no_more (e ∷ es) = ap (λ xs. e ∷ xs) (no_more es)

call_view : DispatchesJoin → AllSpell → (width_of : List ℕ → ℕ) (v : View) (bytes : List ℕ) → fold (event_done width_of) v (item_events (items v.stream bytes)) ≡ fold (event_done width_of) v (events v.stream (history.Piece bytes ∷ []))
call_view joins spell width_of v bytes = spelled_view width_of (pieces v.stream bytes) (newly_decided_actions v.stream bytes) (spell_newly joins spell v.stream bytes) v
    ∙ ap (fold (event_done width_of) v) (sym (no_more (map Act (newly_decided_actions v.stream bytes))))

pub call_state : DispatchesJoin → AllSpell → (width_of : List ℕ → ℕ) (v : View) (bytes : List ℕ) → (fold (event_done width_of) v (item_events (items v.stream bytes))).state ≡ (after width_of v (history.Piece bytes ∷ [])).state
call_state joins spell width_of v bytes = ap (λ x. x.state) (call_view joins spell width_of v bytes)

pub call_held : DispatchesJoin → AllSpell → (width_of : List ℕ → ℕ) (v : View) (bytes : List ℕ) → (fold (event_done width_of) v (item_events (items v.stream bytes))).held ≡ (after width_of v (history.Piece bytes ∷ [])).held
call_held joins spell width_of v bytes = ap (λ x. x.held) (call_view joins spell width_of v bytes)

pub call_logged : DispatchesJoin → AllSpell → (width_of : List ℕ → ℕ) (v : View) (bytes : List ℕ) → events_logged width_of v (item_events (items v.stream bytes)) ≡ logged width_of v (history.Piece bytes ∷ [])
call_logged joins spell width_of v bytes = spelled_logged width_of (pieces v.stream bytes) (newly_decided_actions v.stream bytes) (spell_newly joins spell v.stream bytes) v
    ∙ ap (events_logged width_of v) (sym (no_more (map Act (newly_decided_actions v.stream bytes))))

pub call_events : AllCut → DispatchesJoin → AllSpell → (stream bytes : List ℕ) → AreEvents (item_events (items stream bytes))
call_events cut joins spell stream bytes = spelled_events (pieces stream bytes) (newly_decided_actions stream bytes) (spell_newly joins spell stream bytes)
    (subst AreEvents (no_more (map Act (newly_decided_actions stream bytes))) (events_are cut stream (history.Piece bytes ∷ []) tt))
