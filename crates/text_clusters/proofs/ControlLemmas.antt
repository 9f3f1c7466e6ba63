-- Facts about C1 controls: the steps of a scan for one.
use Rattle.std.proofs.Common.{◌≡◌, ℕ, suc, zero, ◌+◌, ◌-◌, ◌<◌, ◌≤◌, true, false, ◌||◌, List, [], ◌∷◌, length, get_or, drop, length-drop, refl, arith}
use Rattle.text_clusters.specs.Controls.{is_c1, holds_c1}

-- one step to the right
pub holds_c1-drop : (text : List ℕ) (i : ℕ) → suc i < length text
    → holds_c1 (drop i text) ≡ (is_c1 (get_or text i 0) (get_or text (suc i) 0) || holds_c1 (drop (suc i) text))
unfolding holds_c1
holds_c1-drop [] i h = absurd (omega arith)
holds_c1-drop (b ∷ []) i h = absurd (omega arith)
holds_c1-drop (b ∷ c ∷ rest) zero h = refl
holds_c1-drop (b ∷ c ∷ rest) (suc i) h = holds_c1-drop (c ∷ rest) i (omega arith)

-- a text of at most one byte holds no C1 control
pub holds_c1-short : (text : List ℕ) → length text ≤ 1 → holds_c1 text ≡ false
unfolding holds_c1
holds_c1-short [] h = refl
holds_c1-short (b ∷ []) h = refl
holds_c1-short (b ∷ c ∷ rest) h = absurd (omega arith)

-- the steps of a scan over pairs of neighbouring bytes, where i is the index of the right one
pub c1_next : (text : List ℕ) (i : ℕ) → 0 < i → i < length text → is_c1 (get_or text (i - 1) 0) (get_or text i 0) ≡ false
    → holds_c1 (drop (i + 1 - 1) text) ≡ holds_c1 (drop (i - 1) text)
c1_next text zero above below other = absurd (omega arith)
c1_next text (suc i) above below other =
    let e : holds_c1 (drop i text) ≡ (is_c1 (get_or text i 0) (get_or text (suc i) 0) || holds_c1 (drop (suc i) text)) = holds_c1-drop text i below in
    let a : suc i + 1 - 1 ≡ suc i = omega arith in
    let b : suc i - 1 ≡ i = omega arith in
    let n : is_c1 (get_or text i 0) (get_or text (suc i) 0) ≡ false = rw b at other in
    rw (a, b, e, n) refl

pub c1_found : (text : List ℕ) (i : ℕ) → 0 < i → i < length text → is_c1 (get_or text (i - 1) 0) (get_or text i 0) ≡ true
    → holds_c1 (drop (i - 1) text) ≡ true
c1_found text zero above below same = absurd (omega arith)
c1_found text (suc i) above below same =
    let e : holds_c1 (drop i text) ≡ (is_c1 (get_or text i 0) (get_or text (suc i) 0) || holds_c1 (drop (suc i) text)) = holds_c1-drop text i below in
    let b : suc i - 1 ≡ i = omega arith in
    let y : is_c1 (get_or text i 0) (get_or text (suc i) 0) ≡ true = rw b at same in
    rw (b, e, y) refl

pub c1_end : (text : List ℕ) (i : ℕ) → length text ≤ i → holds_c1 (drop (i - 1) text) ≡ false
c1_end text i h = holds_c1-short (drop (i - 1) text) (omega (arith, length-drop (i - 1) text))

pub ruleset c1_steps = (c1_next, c1_found, c1_end)
