-- The encodings of changes in turn.
use Rattle.std.proofs.Common.{◌≡◌, ◌≢◌, ℕ, zero, suc, ◌<◌, false, List, [], ◌∷◌, ◌++◌, length, get_or, map, refl, sym, ap, subst, ◌∙◌, arith}
use Rattle.std.specs.Prelude.{Option, Some, None, IfSome, option_map, option_and_then}
use Rattle.std.specs.List.{flat_map}
use Rattle.screen_change.specs.declared.change.Change.{Change}
use Rattle.screen_change.specs.ChangeValue.{ChangeValue}
use Rattle.screen_change.specs.ValueOf.{value_of}
use Rattle.escape_stream.specs.StreamAction.{StreamAction}
use Rattle.escape_stream.specs.StreamText.{begins_terminated, stream_text}
use Rattle.terminal_render.proofs.OpeningLemmas.{following_bytes, joined_open, rendering_opens}
use Rattle.terminal_render.specs.Lists.{all_rendered}
use Rattle.terminal_render.specs.Rendering.{rendering}
use Rattle.terminal_render.specs.Spelling.{HasEncoding, HaveEncodings}
use Rattle.terminal_render.proofs.LogLemmas.{all_some}
use Rattle.terminal_viewers.specs.Encoding.{actions_or_none, all_encoded, encoded_for, encoded_text, encoded_texts}

-- ---- changes with an encoding

-- a change that has an encoding has a rendering
pub spelled_some : (width tall : ℕ) (change : ChangeValue) → HasEncoding width tall change → rendering change width tall ≢ None
spelled_some width tall change h none =
    all_some width tall (change ∷ []) (h, tt) (ap (λ found. option_and_then (λ first. option_map (λ remaining. first ++ remaining) (Some [])) found) none)

or_none : (found : Option (List StreamAction)) → found ≢ None → found ≡ Some (actions_or_none found)
or_none None h = absurd (h refl)
or_none (Some actions) h = refl

one_is_encoded : (width tall : ℕ) (change : ChangeValue) → HasEncoding width tall change → rendering change width tall ≡ Some (encoded_for width tall change)
unfolding encoded_for
one_is_encoded width tall change h = or_none (rendering change width tall) (spelled_some width tall change h)

pub all_are_encoded : (width tall : ℕ) (changes : List ChangeValue) → HaveEncodings width tall changes → all_rendered changes width tall ≡ Some (all_encoded width tall changes)
all_are_encoded width tall [] h = refl
all_are_encoded width tall (change ∷ changes) h =
    λ i. option_and_then (λ first. option_map (λ remaining. first ++ remaining) (all_are_encoded width tall changes h.1 i)) (one_is_encoded width tall change h.0 i)

-- ---- their bytes

or_open : (found : Option (List StreamAction)) → IfSome found (λ actions. begins_terminated actions ≡ false) → begins_terminated (actions_or_none found) ≡ false
or_open None h = refl
or_open (Some actions) h = h

encoding_opens : (width tall : ℕ) (change : ChangeValue) → begins_terminated (encoded_for width tall change) ≡ false
unfolding encoded_for
encoding_opens width tall change = or_open (rendering change width tall) (rendering_opens change width tall)

all_open : (width tall : ℕ) (changes : List ChangeValue) → begins_terminated (all_encoded width tall changes) ≡ false
all_open width tall [] = refl
all_open width tall (change ∷ changes) = joined_open (encoded_for width tall change) (all_encoded width tall changes) (encoding_opens width tall change) (all_open width tall changes)

-- the bytes of changes in turn are those of each, joined
pub texts_are : (width tall : ℕ) (changes : List ChangeValue) → stream_text (all_encoded width tall changes) ≡ encoded_texts width tall changes
unfolding encoded_text
texts_are width tall [] = refl
texts_are width tall (change ∷ changes) =
    following_bytes (encoded_for width tall change) (all_encoded width tall changes) (all_open width tall changes) ∙ ap (λ rest. stream_text (encoded_for width tall change) ++ rest) (texts_are width tall changes)

-- the appended bytes are those of each change in turn
pub appended_encoded : (width tall : ℕ) (changes : List ChangeValue) (before after : List ℕ) → HaveEncodings width tall changes
    → option_map (λ actions. before ++ stream_text actions) (all_rendered changes width tall) ≡ Some after → after ≡ before ++ encoded_texts width tall changes
appended_encoded width tall changes before after h e =
    let same : Some (before ++ stream_text (all_encoded width tall changes)) ≡ Some after = ap (option_map (λ actions. before ++ stream_text actions)) (sym (all_are_encoded width tall changes h)) ∙ e in
    let k : before ++ stream_text (all_encoded width tall changes) ≡ after = cc same in
    sym k ∙ ap (λ text. before ++ text) (texts_are width tall changes)

-- one change by itself
pub one_spelled : (width tall : ℕ) (change : Change) (changes : List Change) → changes ≡ change ∷ [] → HasEncoding width tall (value_of change) → HaveEncodings width tall (map value_of changes)
one_spelled width tall change changes e h = subst (λ (cs : List Change). HaveEncodings width tall (map value_of cs)) (sym e) (h, tt)

-- ---- lists of them

pub encodings_prefix : (width tall : ℕ) (xs ys : List ChangeValue) → HaveEncodings width tall (xs ++ ys) → HaveEncodings width tall xs
encodings_prefix width tall [] ys h = tt
encodings_prefix width tall (x ∷ xs) ys h = (h.0, encodings_prefix width tall xs ys h.1)

pub encodings_after : (width tall : ℕ) (xs ys : List ChangeValue) → HaveEncodings width tall (xs ++ ys) → HaveEncodings width tall ys
encodings_after width tall [] ys h = h
encodings_after width tall (x ∷ xs) ys h = encodings_after width tall xs ys h.1

module _ {X : Type 0} (width tall : ℕ) (value : X → ChangeValue) where
  pub spelled_at : (xs : List X) (i : ℕ) (x : X) → i < length xs → x ≡ get_or xs i x → HaveEncodings width tall (map value xs) → HasEncoding width tall (value x)
  spelled_at [] i x lt e h = absurd (omega (arith, lt))
  spelled_at (y ∷ xs) zero x lt e h = subst (λ (z : X). HasEncoding width tall (value z)) (sym e) h.0
  spelled_at (y ∷ xs) (suc i) x lt e h = spelled_at xs i x (omega (arith, lt)) e h.1

  pub spelled_in : (as_encoded : ChangeValue → List ChangeValue) (xs : List X) (i : ℕ) (x : X) → i < length xs → x ≡ get_or xs i x → HaveEncodings width tall (flat_map as_encoded (map value xs)) → HaveEncodings width tall (as_encoded (value x))
  spelled_in as_encoded [] i x lt e h = absurd (omega (arith, lt))
  spelled_in as_encoded (y ∷ xs) zero x lt e h = subst (λ (z : X). HaveEncodings width tall (as_encoded (value z))) (sym e) (encodings_prefix width tall (as_encoded (value y)) (flat_map as_encoded (map value xs)) h)
  spelled_in as_encoded (y ∷ xs) (suc i) x lt e h = spelled_in as_encoded xs i x (omega (arith, lt)) e (encodings_after width tall (as_encoded (value y)) (flat_map as_encoded (map value xs)) h)
