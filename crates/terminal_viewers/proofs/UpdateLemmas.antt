-- The update is the encoding of the changes that are due, or of a repaint.
use Rattle.std.proofs.Common.{◌≡◌, ℕ, ◌++◌, List, [], ◌∷◌, sym, ap, ◌∙◌, subst}
use Rattle.std.specs.Prelude.{IfSome, Option, Some, None}
use Rattle.std.specs.List.{flat_map}
use Rattle.std.proofs.lemmas.List.{length-replicate}
use Rattle.cell_base.specs.declared.attributes.CursorShape.{CursorShape as Shape}
use Rattle.cell_base.specs.declared.attributes.LineAttribute.TheVariants.{SingleWidthLine}
use Rattle.cell_base.specs.Screen.{height}
use Rattle.screen_change.specs.ChangeValue.{ChangeValue, Title}
use Rattle.screen_log.specs.Log.{due}
use Rattle.screen_log.specs.LogSteps.{Sized}
use Rattle.screen_effects.specs.Display.{Display, IsDisplay}
use Rattle.screen_repaint.specs.Repaint.{repaint_with}
use Rattle.terminal_render.specs.Spelling.{HaveEncodings, IsSpelledScreen}
use Rattle.terminal_render.proofs.LogLemmas.{due_has}
use Rattle.terminal_viewers.specs.Encoding.{encoded_texts}
use Rattle.terminal_viewers.specs.Update.{bytes_of, display_on, due_or, painted_anew, as_encoded, update_changes, update_of}
use Rattle.terminal_viewers.proofs.EncodedLemmas.{all_are_encoded, texts_are}
use Rattle.terminal_viewers.proofs.SpellLemmas.{painted_has}

-- ---- the changes that are due are lent; where none are due, the repaint is made

-- a display's screen by itself
pub on_display : (d : Display) → IsDisplay d → IsDisplay (display_on d.screen)
on_display d h = record { lawful = h.lawful; whole = h.whole; sized = length-replicate (height d.screen) SingleWidthLine }

module _ (d : Display) (log : Sized) (number : ℕ) (width tall : ℕ) (w : width ≡ d.screen.width) (t : tall ≡ height d.screen) where
  at_size : (changes : List ChangeValue) → HaveEncodings d.screen.width (height d.screen) changes → HaveEncodings width tall changes
  at_size changes h = subst (λ n. HaveEncodings n tall changes) (sym w) (subst (λ n. HaveEncodings d.screen.width n changes) (sym t) h)

  pub lent_spelled : (lent : List ChangeValue) → Some lent ≡ due log.most log.log number → HaveEncodings d.screen.width (height d.screen) log.log.entries → HaveEncodings width tall lent
  lent_spelled lent e kept = at_size lent (subst (λ o. IfSome o (HaveEncodings d.screen.width (height d.screen))) (sym e) (due_has d.screen.width (height d.screen) log.most log.log number kept))

  pub lent_encoded : (before after : List ℕ) (lent : List ChangeValue) → Some lent ≡ due log.most log.log number → after ≡ before ++ encoded_texts width tall lent → after ≡ before ++ encoded_texts width tall (update_changes d.screen log number)
  lent_encoded before after lent e appended = appended ∙ ap (λ found. before ++ encoded_texts width tall (due_or (painted_anew d.screen) found)) e

  module _ (h : IsDisplay d) (shapeless : d.shape ≡ None) (none : None ≡ due log.most log.log number) (made : List ChangeValue) (are : made ≡ repaint_with (Title d.screen.title ∷ []) d) where
    anew : flat_map (as_encoded d.screen) made ≡ painted_anew d.screen
    anew = ap (flat_map (as_encoded d.screen)) (are ∙ ap (λ (shape : Option Shape). repaint_with (Title d.screen.title ∷ []) (record { screen = d.screen; sizes = d.sizes; shape = shape })) shapeless)

    pub made_spelled : IsSpelledScreen d.screen → HaveEncodings width tall (flat_map (as_encoded d.screen) made)
    made_spelled p = subst (HaveEncodings width tall) (sym anew) (at_size (painted_anew d.screen) (painted_has d.screen (on_display d h) p))

    pub made_encoded : (before after : List ℕ) → after ≡ before ++ encoded_texts width tall (flat_map (as_encoded d.screen) made) → after ≡ before ++ encoded_texts width tall (update_changes d.screen log number)
    made_encoded before after appended = appended ∙ ap (λ (cs : List ChangeValue). before ++ encoded_texts width tall cs) anew ∙ ap (λ found. before ++ encoded_texts width tall (due_or (painted_anew d.screen) found)) none

-- ---- the bytes

pub encoded_bytes : (d : Display) (log : Sized) (number : ℕ) (made start : List ℕ) (width tall : ℕ) → width ≡ d.screen.width → tall ≡ height d.screen → HaveEncodings d.screen.width (height d.screen) (update_changes d.screen log number)
    → start ≡ [] → made ≡ start ++ encoded_texts width tall (update_changes d.screen log number) → made ≡ update_of d.screen log number
encoded_bytes d log number made start width tall w t h none appended =
    let changes : List ChangeValue = update_changes d.screen log number in
    appended ∙ (λ i. none i ++ encoded_texts (w i) (t i) changes) ∙ sym (texts_are d.screen.width (height d.screen) changes) ∙ sym (ap bytes_of (all_are_encoded d.screen.width (height d.screen) changes h))
