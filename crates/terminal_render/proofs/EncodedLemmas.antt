-- Bytes that are appended change by change.
use Rattle.std.proofs.Common.{◌≡◌, ◌≢◌, ℕ, zero, suc, ◌+◌, ◌<◌, ◌≤◌, Bool, true, false, List, [], ◌∷◌, ◌++◌, length, take, drop, get_or, map, refl, sym, ap, ◌∙◌, append_assoc, append-nil, arith}
use Rattle.std.specs.Prelude.{Option, Some, None, is_some, option_map, option_and_then}
use Rattle.std.proofs.lemmas.List.{at_drop_more, at_drop_all, map_more, length-take, take-take}
use Rattle.screen_change.specs.declared.change.Change.{Change}
use Rattle.screen_change.specs.ChangeValue.{ChangeValue}
use Rattle.screen_change.specs.ValueOf.{value_of}
use Rattle.escape_stream.specs.StreamAction.{StreamAction}
use Rattle.escape_stream.specs.StreamText.{action_text, closes_string, stream_text, texts_after}
use Rattle.terminal_render.specs.declared.borrowed_action.BorrowedAction.{BorrowedAction}
use Rattle.terminal_render.specs.declared.borrowed_action.BorrowedAction.TheVariants as variant
use Rattle.terminal_render.specs.Lists.{all_rendered}
use Rattle.terminal_render.specs.Rendering.{appended, rendering}
use Rattle.terminal_render.specs.BorrowedActionView.{borrowed_value, borrowed_values}
use Rattle.terminal_render.proofs.ListLemmas.{renderings_join}
use Rattle.terminal_render.proofs.OpeningLemmas.{following_bytes, one_opens, rendering_opens}

-- ---- the bytes before a call

-- a prefix `start` of `bytes` is a prefix of all bytes of which `bytes` is a prefix
pub still_prefix : (start bytes after : List ℕ) → take (length start) bytes ≡ start → take (length bytes) after ≡ bytes → take (length start) after ≡ start
still_prefix start bytes after e f =
    let l = sym (length-take (length start) bytes) ∙ ap length e in
    let le : length start ≤ length bytes = omega (arith, l) in
    sym (take-take (length start) (length bytes) after le) ∙ ap (λ xs. take (length start) xs) f ∙ e

-- ---- a list that is lent

-- none of its actions is a string terminator
closed_alike : (closed : Bool) (xs : List BorrowedAction) → texts_after closed (borrowed_values xs) ≡ stream_text (borrowed_values xs)
closed_alike false xs = refl
closed_alike true [] = refl
closed_alike true (variant.Setting value ∷ xs) = refl
closed_alike true (variant.Move cursor ∷ xs) = refl
closed_alike true (variant.Edit edit ∷ xs) = refl
closed_alike true (variant.Mode mode ∷ xs) = refl
closed_alike true (variant.Control code ∷ xs) = refl
closed_alike true (variant.Text text ∷ xs) = refl
closed_alike true (variant.Title title ∷ xs) = refl
closed_alike true (variant.Link link ∷ xs) = refl

one_text : (x : BorrowedAction) (xs : List BorrowedAction) → stream_text (borrowed_values (x ∷ xs)) ≡ action_text (borrowed_value x) ++ stream_text (borrowed_values xs)
one_text x xs = ap (λ rest. action_text (borrowed_value x) ++ rest) (closed_alike (closes_string (borrowed_value x)) xs)

-- the steps of a walk that appends their bytes
pub text_next : (bytes : List ℕ) (items : List BorrowedAction) (i : ℕ) (x : BorrowedAction) → i < length items → x ≡ get_or items i x
    → (bytes ++ action_text (borrowed_value x)) ++ stream_text (borrowed_values (drop (i + 1) items)) ≡ bytes ++ stream_text (borrowed_values (drop i items))
text_next bytes items i x below item =
    append_assoc bytes (action_text (borrowed_value x)) (stream_text (borrowed_values (drop (i + 1) items)))
    ∙ ap (λ rest. bytes ++ rest) (sym (one_text x (drop (i + 1) items)))
    ∙ ap (λ (a : BorrowedAction). bytes ++ stream_text (borrowed_values (a ∷ drop (i + 1) items))) item
    ∙ sym (at_drop_more (λ (rest : List BorrowedAction). bytes ++ stream_text (borrowed_values rest)) items i x below)

pub text_end : (bytes : List ℕ) (items : List BorrowedAction) (i : ℕ) → length items ≤ i → bytes ++ stream_text (borrowed_values (drop i items)) ≡ bytes
text_end bytes items i h = at_drop_all (λ (rest : List BorrowedAction). bytes ++ stream_text (borrowed_values rest)) items i h ∙ append-nil bytes

-- ---- changes in turn

-- the bytes `start`, and then those of a rendering, if there is one
abbrev pub bytes_after : List ℕ → Option (List StreamAction) → Option (List ℕ)
bytes_after start found = option_map (λ actions. start ++ stream_text actions) found

record Made (found : Option (List StreamAction)) (start bytes : List ℕ) : Type 0 where
  actions : List StreamAction
  found_is : found ≡ Some actions
  are : start ++ stream_text actions ≡ bytes

made : (found : Option (List StreamAction)) (start bytes : List ℕ) → bytes_after start found ≡ Some bytes → Made found start bytes
made None start bytes e = cc
made (Some actions) start bytes e = record { actions = actions; found_is = refl; are = cc e }

record Stood (found : Option (List StreamAction)) (before list : List StreamAction) : Type 0 where
  actions : List StreamAction
  found_is : found ≡ Some actions
  are : before ++ actions ≡ list

stood : (found : Option (List StreamAction)) (before list : List StreamAction) → appended before found ≡ Some list → Stood found before list
stood None before list e = cc
stood (Some actions) before list e = record { actions = actions; found_is = refl; are = cc e }

pub first_rendered : (found : Option (List StreamAction)) (before list owned : List StreamAction) → appended before found ≡ Some list → before ≡ [] → owned ≡ list → found ≡ Some owned
first_rendered found before list owned e none same =
    let s = stood found before list e in
    s.found_is ∙ ap (λ (xs : List StreamAction). Some xs) (ap (λ (xs : List StreamAction). xs ++ s.actions) (sym none) ∙ s.are ∙ sym same)

pub next_appended : (start bytes after : List ℕ) (changes : List ChangeValue) (change : ChangeValue) (width height : ℕ) (before list : List StreamAction)
    → bytes_after start (all_rendered changes width height) ≡ Some bytes → before ≡ [] → appended before (rendering change width height) ≡ Some list → after ≡ bytes ++ stream_text list
    → bytes_after start (all_rendered (changes ++ change ∷ []) width height) ≡ Some after
next_appended start bytes after changes change width height before list e none stands appended =
    let m = made (all_rendered changes width height) start bytes e in
    let s = stood (rendering change width height) before list stands in
    let same : s.actions ≡ list = ap (λ (xs : List StreamAction). xs ++ s.actions) (sym none) ∙ s.are in
    ap (bytes_after start) (renderings_join changes change width height m.actions s.actions m.found_is s.found_is)
    ∙ ap (λ (xs : List ℕ). Some xs)
    (ap (λ xs. start ++ xs) (following_bytes m.actions s.actions (one_opens (rendering change width height) s.actions (rendering_opens change width height) s.found_is))
    ∙ sym (append_assoc start (stream_text m.actions) (stream_text s.actions))
    ∙ (λ i. m.are i ++ stream_text (same i))
    ∙ sym appended)

pub next_of_changes : (start bytes after : List ℕ) (changes : List Change) (i : ℕ) (change : Change) (width height : ℕ) (before list : List StreamAction) → i < length changes → change ≡ get_or changes i change
    → bytes_after start (all_rendered (map value_of (take i changes)) width height) ≡ Some bytes → before ≡ [] → appended before (rendering (value_of change) width height) ≡ Some list → after ≡ bytes ++ stream_text list
    → bytes_after start (all_rendered (map value_of (take (i + 1) changes)) width height) ≡ Some after
next_of_changes start bytes after changes i change width height before list below item e none stands appended =
    ap (λ (cs : List ChangeValue). bytes_after start (all_rendered cs width height))
    (map_more value_of changes i change below ∙ ap (λ (c : Change). map value_of (take i changes) ++ value_of c ∷ []) (sym item))
    ∙ next_appended start bytes after (map value_of (take i changes)) (value_of change) width height before list e none stands appended

-- where one of the changes has no rendering, the changes in turn have none
pub none_rendered : (changes : List Change) (i : ℕ) (change : Change) (width height : ℕ) → i < length changes → change ≡ get_or changes i change → rendering (value_of change) width height ≡ None
    → all_rendered (map value_of changes) width height ≡ None
none_rendered [] i change width height below item none = absurd (omega (arith, below))
none_rendered (c ∷ changes) zero change width height below item none =
    ap (option_and_then (λ first. option_map (λ remaining. first ++ remaining) (all_rendered (map value_of changes) width height))) (ap (λ (x : Change). rendering (value_of x) width height) (sym item) ∙ none)
none_rendered (c ∷ changes) (suc i) change width height below item none =
    ap (λ rest. option_and_then (λ first. option_map (λ remaining. first ++ remaining) rest) (rendering (value_of c) width height)) (none_rendered changes i change width height (omega (arith, below)) item none)
    ∙ no_more (rendering (value_of c) width height)
  where
    no_more : (found : Option (List StreamAction)) → option_and_then (λ first. option_map (λ remaining. first ++ remaining) None) found ≡ None
    no_more None = refl
    no_more (Some first) = refl

-- so each change has a rendering where the changes in turn have one
pub each_rendered : (changes : List Change) (i : ℕ) (change : Change) (width height : ℕ) → i < length changes → change ≡ get_or changes i change → all_rendered (map value_of changes) width height ≢ None
    → rendering (value_of change) width height ≢ None
each_rendered changes i change width height below item h none = h (none_rendered changes i change width height below item none)

-- after a change that has a rendering, the remaining ones have one just where they have one with this change
pub rest_rendered : (changes : List Change) (i : ℕ) (change : Change) (width height : ℕ) → i < length changes → change ≡ get_or changes i change → is_some (rendering (value_of change) width height) ≡ true
    → is_some (all_rendered (map value_of (drop (i + 1) changes)) width height) ≡ is_some (all_rendered (map value_of (drop i changes)) width height)
rest_rendered changes i change width height below item some =
    by_first (rendering (value_of change) width height) some
    ∙ ap (λ (c : Change). is_some (all_rendered (map value_of (c ∷ drop (i + 1) changes)) width height)) item
    ∙ sym (at_drop_more (λ (rest : List Change). is_some (all_rendered (map value_of rest) width height)) changes i change below)
  where
    remaining : Option (List StreamAction)
    remaining = all_rendered (map value_of (drop (i + 1) changes)) width height

    mapped : (first : List StreamAction) (found : Option (List StreamAction)) → is_some found ≡ is_some (option_map (λ more. first ++ more) found)
    mapped first None = refl
    mapped first (Some more) = refl

    by_first : (found : Option (List StreamAction)) → is_some found ≡ true → is_some remaining ≡ is_some (option_and_then (λ first. option_map (λ more. first ++ more) remaining) found)
    by_first None e = cc
    by_first (Some first) e = mapped first remaining
