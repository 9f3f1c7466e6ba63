-- Two lists of changes in turn: what they print, and where they leave the cursor.
use Rattle.std.proofs.Common.{◌≡◌, ℕ, ◌∙◌, Bool, true, false, List, [], ◌∷◌, ◌++◌, refl, sym, ap, append_assoc}
use Rattle.std.specs.Prelude.{◌||◌}
use Rattle.std.proofs.lemmas.List.Sums.{fold-append}
use Rattle.cell_base.specs.Attributes.{Attributes}
use Rattle.cell_base.specs.Screen.{Screen, height}
use Rattle.screen_change.specs.ChangeValue.{ChangeValue}
use Rattle.screen_effects.specs.Display.{Display}
use Rattle.screen_effects.specs.Effect.{effect, replay}
use Rattle.screen_difference.specs.Prints.{PlacedText, change_strokes, changes_print, strokes_print, strokes_scroll, texts_scroll}

-- ---- a second list of changes

or_assoc : (a b c : Bool) → ((a || b) || c) ≡ (a || (b || c))
or_assoc true b c = refl
or_assoc false b c = refl

pub prints_after : (width_of : List ℕ → ℕ) (d : Display) (first second : List ChangeValue)
    → changes_print width_of d (first ++ second) ≡ changes_print width_of d first ++ changes_print width_of (replay width_of d first) second
prints_after width_of d [] second = refl
prints_after width_of d (change ∷ first) second =
    let own : List PlacedText = strokes_print width_of d.screen (change_strokes change) in
    let next : Display = effect width_of d change in
    ap (λ (ts : List PlacedText). own ++ ts) (prints_after width_of next first second)
    ∙ sym (append_assoc own (changes_print width_of next first) (changes_print width_of (replay width_of next first) second))

pub scroll_after : (width_of : List ℕ → ℕ) (d : Display) (first second : List ChangeValue)
    → texts_scroll width_of d (first ++ second) ≡ (texts_scroll width_of d first || texts_scroll width_of (replay width_of d first) second)
scroll_after width_of d [] second = refl
scroll_after width_of d (change ∷ first) second =
    let own : Bool = strokes_scroll width_of d.screen (change_strokes change) in
    let next : Display = effect width_of d change in
    ap (λ b. own || b) (scroll_after width_of next first second)
    ∙ sym (or_assoc own (texts_scroll width_of next first) (texts_scroll width_of (replay width_of next first) second))

pub still_after : (width_of : List ℕ → ℕ) (d : Display) (first second : List ChangeValue) → texts_scroll width_of d first ≡ false → texts_scroll width_of (replay width_of d first) second ≡ false
    → texts_scroll width_of d (first ++ second) ≡ false
still_after width_of d first second a b = scroll_after width_of d first second ∙ (λ i. a i || b i)

-- ---- the cursor's position, the size of the screen, and the pen

pub record Stand : Type 0 where
  pub row : ℕ
  pub column : ℕ
  pub width : ℕ
  pub rows : ℕ
  pub pen : Attributes

abbrev pub stand_of : Screen → Stand
stand_of s = record { row = s.row; column = s.column; width = s.width; rows = height s; pen = s.pen }

-- the changes print these texts, scroll nothing, and leave the cursor, the size and the pen as in `after`
pub record Prints (width_of : List ℕ → ℕ) (d : Display) (changes : List ChangeValue) (texts : List PlacedText) (after : Stand) : Type 0 where
  pub prints : changes_print width_of d changes ≡ texts
  pub still : texts_scroll width_of d changes ≡ false
  pub leaves : stand_of (replay width_of d changes).screen ≡ after

pub Prints-nothing : {width_of : List ℕ → ℕ} {d : Display} {at : Stand} → stand_of d.screen ≡ at → Prints width_of d [] [] at
Prints-nothing e = record { prints = refl; still = refl; leaves = e }

-- more changes after them, which print their texts on any display that the first ones can leave
pub Prints-join : {width_of : List ℕ → ℕ} {d : Display} {a b : List ChangeValue} {ts us : List PlacedText} {mid after : Stand}
    → Prints width_of d a ts mid → ((e : Display) → stand_of e.screen ≡ mid → Prints width_of e b us after) → Prints width_of d (a ++ b) (ts ++ us) after
Prints-join {width_of} {d} {a} {b} p q =
    let r = q (replay width_of d a) p.leaves in
    record {
      prints = prints_after width_of d a b ∙ (λ i. p.prints i ++ r.prints i);
      still = still_after width_of d a b p.still r.still;
      leaves = ap (λ (e : Display). stand_of e.screen) (fold-append (effect width_of) d a b) ∙ r.leaves;
    }

pub Prints-as : {width_of : List ℕ → ℕ} {d : Display} {changes : List ChangeValue} {ts us : List PlacedText} {a b : Stand} → Prints width_of d changes ts a → ts ≡ us → a ≡ b
    → Prints width_of d changes us b
Prints-as p e f = record { prints = p.prints ∙ e; still = p.still; leaves = p.leaves ∙ f }
