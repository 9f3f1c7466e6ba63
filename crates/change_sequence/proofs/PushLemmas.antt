-- One change more.
use Rattle.std.proofs.Common.{◌≡◌, ℕ, Bool, true, false, List, [], ◌∷◌, ◌++◌, sym, ap, ◌∙◌}
use Rattle.std.specs.Prelude.{ℤ, if◌then◌else◌}
use Rattle.std.specs.Int.{int_max, int_min}
use Rattle.screen_change.specs.ChangeValue.{ChangeValue}
use Rattle.change_sequence.specs.Positions.{position_of}
use Rattle.change_sequence.specs.Sequence.{CellPosition, Sequence, change_moved, is_drawn, with_change}

module _ {W : Type 0} (width_of : List ℕ → ℕ) (s : Sequence W) (change : ChangeValue) (p : ℕ × ℤ) (r : ℤ) (cs : List ChangeValue)
    (moved : position_of p ≡ change_moved width_of s.columns s.rows s.position change) (row : r ≡ p.1) (changes : cs ≡ s.changes ++ change ∷ []) where
  abbrev stepped : CellPosition → ℤ → ℤ → List ChangeValue → Sequence W
  stepped position lowest highest changes = record s { position = position; lowest = lowest; highest = highest; changes = changes }

  by_test : Bool → Sequence W
  by_test b =
      let position = change_moved width_of s.columns s.rows s.position change in
      stepped position (if b then int_min s.lowest position.row else s.lowest) (if b then int_max s.highest position.row else s.highest) (s.changes ++ change ∷ [])

  position_is : record { column = p.0; row = r } ≡ change_moved width_of s.columns s.rows s.position change
  position_is = ap (λ (z : ℤ). record { column = p.0; row = z }) row ∙ moved

  pub drawn_pushed : (l h : ℤ) → is_drawn change ≡ true → l ≡ int_min s.lowest r → h ≡ int_max s.highest r → stepped (record { column = p.0; row = r }) l h cs ≡ with_change width_of s change
  unfolding by_test
  drawn_pushed l h d e f =
      (λ i. stepped (position_is i) ((e ∙ ap (λ (q : CellPosition). int_min s.lowest q.row) position_is) i) ((f ∙ ap (λ (q : CellPosition). int_max s.highest q.row) position_is) i) (changes i))
      ∙ ap by_test (sym d)

  pub other_pushed : is_drawn change ≡ false → stepped (record { column = p.0; row = r }) s.lowest s.highest cs ≡ with_change width_of s change
  unfolding by_test
  other_pushed d = (λ i. stepped (position_is i) s.lowest s.highest (changes i)) ∙ ap by_test (sym d)
