-- An upper bound on the bytes that encode changes in turn.
use Rattle.std.proofs.Common.{◌≡◌, ℕ, ◌+◌, ◌*◌, ◌≤◌, inl, inr, Bool, false, List, [], ◌∷◌, ◌++◌, length, refl, sym, ap, subst, arith, length-append}
use Rattle.std.specs.Prelude.{not, IfSome, Option, None, Some}
use Rattle.std.specs.List.{list_all}
use Rattle.std.specs.Char.{is_ascii_control}
use Rattle.std.proofs.lemmas.Bool.{cond_both}
use Rattle.std.proofs.lemmas.List.Sums.{sum_by-cons}
use Rattle.cell_base.specs.ScreenSize.{IsScreenSize}
use Rattle.screen_change.specs.ChangeValue.{ChangeValue, Text}
use Rattle.escape_stream.specs.StreamAction.{StreamAction}
use Rattle.escape_stream.specs.StreamText.{closes_string, text_after, texts_after, stream_text}
use Rattle.terminal_render.specs.Carried.{IsChange}
use Rattle.terminal_render.specs.Lists.{all_rendered}
use Rattle.terminal_render.specs.Rendering.{rendering}
use Rattle.terminal_render.specs.Sizes.{RenderingsAreShort, TextsAreShort, RunsAreShort}
use Rattle.terminal_render.proofs.ListLemmas.{parts}
use Rattle.terminal_render.proofs.SizeLemmas.{after_short}
use Rattle.terminal_render.specs.EncodedSizes.{AreShort, all_encoded_size, own_size, encoded_size}
use Rattle.terminal_render.specs.Spelling.{HasEncoding, HaveEncodings, IsLinePart}

-- ---- joined lists: only a string terminator after the end of a string is left out

separate_longer : (closed : Bool) (ys : List StreamAction) → length (texts_after closed ys) ≤ length (stream_text ys)
separate_longer closed [] = omega arith
separate_longer closed (y ∷ ys) =
    omega (arith, after_short closed y, length-append (text_after closed y) (texts_after (closes_string y) ys), length-append (text_after false y) (texts_after (closes_string y) ys))

joined_short : (closed : Bool) (xs ys : List StreamAction) → length (texts_after closed (xs ++ ys)) ≤ length (texts_after closed xs) + length (stream_text ys)
joined_short closed [] ys = omega (arith, separate_longer closed ys)
joined_short closed (x ∷ xs) ys =
    omega (arith, joined_short (closes_string x) xs ys, length-append (text_after closed x) (texts_after (closes_string x) (xs ++ ys)), length-append (text_after closed x) (texts_after (closes_string x) xs))

-- ---- changes

module _ (remaining : RenderingsAreShort) (texts : TextsAreShort) (runs : RunsAreShort) where
  change_short : (change : ChangeValue) (width height : ℕ) (actions : List StreamAction) → IsChange change → IsScreenSize width height → rendering change width height ≡ Some actions → length (stream_text actions) ≤ encoded_size change
  change_short (Text text) width height actions k size e =
      cond_both (list_all (λ b. not (is_ascii_control b)) text) (length text + 1) (2 * length text) (λ most. length (stream_text actions) ≤ most) (λ t. runs text width height actions t e) (λ t. texts text width height actions e)
  change_short change width height actions k size e = remaining change width height actions k size refl e

  pub lists_short : (width height : ℕ) (changes : List ChangeValue) (actions : List StreamAction) → IsScreenSize width height → HaveEncodings width height changes
      → all_rendered changes width height ≡ Some actions → length (stream_text actions) ≤ all_encoded_size changes
  lists_short width height [] actions size s e = let none : [] ≡ actions = cc in subst (λ (xs : List StreamAction). length (stream_text xs) ≤ 0) none (omega arith)
  lists_short width height (change ∷ changes) actions size s e =
      let p = parts (rendering change width height) (all_rendered changes width height) actions e in
      subst (λ (xs : List StreamAction). length (stream_text xs) ≤ all_encoded_size (change ∷ changes)) (sym p.are)
      (omega (arith, sum_by-cons encoded_size change changes, joined_short false p.first p.remaining, change_short change width height p.first s.0.of_code size p.found_is, lists_short width height changes p.remaining size s.1 p.rest_is))

  -- ---- each by itself

  if_encoded : (most : ℕ) (found : Option (List StreamAction)) → ((actions : List StreamAction) → found ≡ Some actions → length (stream_text actions) ≤ most) → IfSome found (λ actions. length (stream_text actions) ≤ most)
  if_encoded most None h = tt
  if_encoded most (Some actions) h = h actions refl

  -- the end of a line has at most two bytes
  text_short : (text : List ℕ) (width height : ℕ) (actions : List StreamAction) → IsLinePart (Text text) → rendering (Text text) width height ≡ Some actions → length (stream_text actions) ≤ length text + 320
  text_short text width height actions (inl printed) e = omega (arith, runs text width height actions printed e)
  text_short text width height actions (inr (inl is)) e = omega (arith, texts text width height actions e, ap length is)
  text_short text width height actions (inr (inr (inl is))) e = omega (arith, texts text width height actions e, ap length is)
  text_short text width height actions (inr (inr (inr is))) e = omega (arith, texts text width height actions e, ap length is)

  one_short : (change : ChangeValue) (width height : ℕ) (actions : List StreamAction) → IsScreenSize width height → HasEncoding width height change → rendering change width height ≡ Some actions → length (stream_text actions) ≤ own_size change + 320
  one_short (Text text) width height actions size s e = text_short text width height actions s.part e
  one_short change width height actions size s e = remaining change width height actions s.of_code size refl e

  pub each_short : (width height : ℕ) (changes : List ChangeValue) → IsScreenSize width height → HaveEncodings width height changes → AreShort width height changes
  each_short width height [] size s = tt
  each_short width height (change ∷ changes) size s =
      (if_encoded (own_size change + 320) (rendering change width height) (λ actions. one_short change width height actions size s.0), each_short width height changes size s.1)
