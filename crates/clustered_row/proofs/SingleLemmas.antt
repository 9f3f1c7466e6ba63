-- Characters that stand alone, as cells.
use Rattle.std.proofs.Common.{◌≡◌, ℕ, ◌<◌, ◌≤◌, true, false, List, [], ◌∷◌, IsUtf8, length, length-append, take, refl, sym, ap, ◌∙◌, arith, inl, inr}
use Rattle.std.specs.Prelude.{◌+◌, ◌/◌, ◌%◌, nat_lt, max, if◌then◌else◌}
use Rattle.std.specs.Char.{encode_utf8, is_ascii_control}
use Rattle.std.proofs.lemmas.Bool.{ltb-true}
use Rattle.std.proofs.lemmas.Bool.Decides.{leb_tells, nat_tests}
use Rattle.std.proofs.lemmas.List.{take_at}
use Rattle.std.proofs.lemmas.Str.{encode_ascii, IsUtf8-take}
use Rattle.text_clusters.specs.Independent.{is_independent, IsFirst}
use Rattle.cell_base.specs.Attributes.{Attributes}
use Rattle.cell_base.specs.CellContent.{cell_of, shows_as_space}
use Rattle.cell_edits.specs.CellList.{cell_columns}
use Rattle.cell_edits.proofs.CellLemmas.{by_test}
use Rattle.cell_edits.proofs.CutLemmas.{columns_narrow, columns_wide}
use Rattle.clustered_row.specs.SingleText.{stands_alone}
use Rattle.clustered_row.proofs.AloneLemmas.{first_seam}

low : (c : ℕ) → c < 128 → stands_alone c ≡ true → is_ascii_control c ≡ false
unfolding is_independent
low c l h = grind (arith, nat_tests)

high_pair : (c : ℕ) → shows_as_space ((192 + c / 64) ∷ (128 + c % 64) ∷ []) ≡ false
high_pair c = grind (arith, nat_tests)

high : (c : ℕ) → nat_lt c 128 ≡ false → shows_as_space (encode_utf8 c) ≡ false
unfolding encode_utf8
high c t = by_test (nat_lt c 2048)
    (λ u. rw (t, u) (high_pair c))
    (λ u. by_test (nat_lt c 65536) (λ v. rw (t, u, v) refl) (λ v. rw (t, u, v) refl))

-- none shows as a space
pub single_kept : (c : ℕ) → stands_alone c ≡ true → shows_as_space (encode_utf8 c) ≡ false
single_kept c h = by_test (nat_lt c 128)
    (λ t. let l = ltb-true c 128 t in ap shows_as_space (encode_ascii c l) ∙ low c l h)
    (λ t. high c t)

-- none counts as one
pub single_cell : (text : List ℕ) (n : ℕ) (a : Attributes) → cell_of text (max 1 n) a ≡ cell_of text n a
single_cell text n a =
    let one : max 1 (max 1 n) ≡ max 1 n = omega arith in
    ap (λ (m : ℕ). record (cell_of text n a) { width = if shows_as_space text then 1 else m }) one

pub single_count : (text : List ℕ) (width : ℕ) (a : Attributes) → shows_as_space text ≡ false → 1 ≤ width → width ≤ 2 → length (cell_columns (cell_of text width a)) ≡ width
single_count text width a k some most =
    let cell = cell_of text width a in
    let own : cell.width ≡ max 1 width = ap (λ b. if b then 1 else max 1 width) k in
    elim (leb_tells 2 cell.width) [
      | inl p ↦ let n = ap length (columns_wide cell p.0) in let two : 2 ≡ width = omega arith in n ∙ two
      | inr p ↦ let n = ap length (columns_narrow cell p.0) in let one : 1 ≡ width = omega arith in n ∙ one
    ]

-- its bytes
module _ (text : List ℕ) (c n : ℕ) (b : IsFirst text c n) where
  pub first_bytes : take n text ≡ encode_utf8 c
  first_bytes = ap (take n) b.whole ∙ take_at (encode_utf8 c) b.rest n (sym b.bytes)

  pub first_inside : n ≤ length text
  first_inside = let l = b.bytes in let all = ap length b.whole in let both = length-append (encode_utf8 c) b.rest in omega arith

  pub first_utf8 : IsUtf8 text → IsUtf8 (take n text)
  first_utf8 u = IsUtf8-take text n u (first_seam text text text c n u b)

  pub first_kept : stands_alone c ≡ true → shows_as_space (take n text) ≡ false
  first_kept s = ap shows_as_space first_bytes ∙ single_kept c s
