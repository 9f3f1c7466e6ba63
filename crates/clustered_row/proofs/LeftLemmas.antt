-- The rest of runs and of texts after columns that were lent.
use Rattle.std.proofs.Common.{◌≡◌, ℕ, zero, suc, ◌+◌, ◌-◌, ◌<◌, true, List, [], ◌∷◌, length, take, drop, get_or, refl, sym, ap, subst, ◌∙◌, arith, IsUtf8}
use Rattle.std.specs.Prelude.{nat_lt}
use Rattle.std.specs.List.{list_all}
use Rattle.std.proofs.lemmas.Bool.{and_parts, and_from, ltb-true, lt-ltb}
use Rattle.std.proofs.lemmas.List.{take_all, length-drop}
use Rattle.text_clusters.specs.Plain.{is_printable}
use Rattle.clustered_row.specs.declared.cell_size.CellSize.{CellSize}
use Rattle.clustered_row.specs.declared.run.Run.{Run}
use Rattle.clustered_row.specs.declared.run.Position.{Position}
use Rattle.clustered_row.specs.Runs.{spread, AreMaximal, is_begun}
use Rattle.clustered_row.specs.RunSteps.{column_at, IsPosition}
use Rattle.clustered_row.specs.Sizes.{is_text, is_cut}
use Rattle.clustered_row.proofs.SizeLemmas.{IsUtf8-cell, IsUtf8-cut}
use Rattle.clustered_row.proofs.RunLists.{drop_maximal, after_prefix}

-- ---- runs

pub run_has : (used : ℕ) (runs : List Run) (d : Run) → 0 < length runs → is_begun used runs ≡ true → used < (get_or runs 0 d).count
run_has used [] d h b = absurd (omega arith)
run_has used (r ∷ runs) d h b = ltb-true used r.count (and_parts (nat_lt used r.count) (is_begun 0 runs) b).0

-- where columns are left there is a run
pub some_run : (used : ℕ) (runs : List Run) → 0 < length (drop used (spread runs)) → 0 < length runs
some_run zero [] h = absurd (omega arith)
some_run (suc used) [] h = absurd (omega arith)
some_run used (r ∷ runs) h = omega arith

pub all_begun : (runs : List Run) → AreMaximal runs → is_begun 0 runs ≡ true
all_begun [] h = refl
all_begun (r ∷ runs) h = and_from (nat_lt 0 r.count) (is_begun 0 runs) (lt-ltb 0 r.count h.0) (all_begun runs h.2)

-- runs from a position within the first one
pub begun_at : (used : ℕ) (runs : List Run) → AreMaximal runs → ((run : Run) → 0 < length runs → run ≡ get_or runs 0 run → used < run.count) → is_begun used runs ≡ true
begun_at used [] h k = refl
begun_at used (r ∷ runs) h k = and_from (nat_lt used r.count) (is_begun 0 runs) (lt-ltb used r.count (k r (omega arith) refl)) (all_begun runs h.2)

-- the runs from a position on
begun_from : (xs : List Run) (position : Position) → IsPosition xs position → AreMaximal xs → is_begun position.offset (drop position.index xs) ≡ true
begun_from xs position p h = begun_at position.offset (drop position.index xs) (drop_maximal position.index xs h)
    (λ run some e.
    let within : position.index < length xs = let n = length-drop position.index xs in omega (arith, n, some) in
    p.inside run within (e ∙ first_left xs position.index run))
  where
    first_left : (xs : List Run) (i : ℕ) (run : Run) → get_or (drop i xs) 0 run ≡ get_or xs i run
    first_left xs zero run = refl
    first_left [] (suc i) run = refl
    first_left (x ∷ xs) (suc i) run = first_left xs i run

-- a slice's part up to its end
pub rest_of : {X : Type 0} (i : ℕ) (xs : List X) → take (length xs - i) (drop i xs) ≡ drop i xs
rest_of i xs = take_all (length xs - i) (drop i xs) (let n = length-drop i xs in omega (arith, n))

pub begun_there : (bs cs xs : List Run) (position : Position) → bs ≡ xs → cs ≡ xs → IsPosition cs position → AreMaximal xs
    → is_begun position.offset (take (length bs - position.index) (drop position.index bs)) ≡ true
begun_there bs cs xs position p q here h =
    ap (is_begun position.offset) (rest_of position.index bs ∙ ap (drop position.index) p) ∙ begun_from xs position (subst (λ (ys : List Run). IsPosition ys position) q here) h

pub left_there : (bs cs xs : List Run) (position : Position) (column : ℕ) → bs ≡ xs → cs ≡ xs → column_at cs position ≡ 0 + column
    → drop position.offset (spread (take (length bs - position.index) (drop position.index bs))) ≡ drop column (spread xs)
left_there bs cs xs position column p q e =
    let at : column_at xs position ≡ column = ap (λ (ys : List Run). column_at ys position) (sym q) ∙ e ∙ omega arith in
    ap (λ (ys : List Run). drop position.offset (spread ys)) (rest_of position.index bs ∙ ap (drop position.index) p) ∙ sym (after_prefix xs position.index position.offset) ∙ ap (λ n. drop n (spread xs)) at

-- ---- texts

-- the text of the first cell
pub first_utf8 : (text : List ℕ) (all : List CellSize) (s : CellSize) (sizes : List CellSize) → all ≡ s ∷ sizes → is_cut text all ≡ true → IsUtf8 (take s.len text)
first_utf8 text all s sizes e h =
    IsUtf8-cell s (take s.len text) (and_parts (is_text s (take s.len text)) (is_cut (drop s.len text) sizes) (ap (is_cut text) (sym e) ∙ h)).0

one_utf8 : (text : List ℕ) → list_all is_printable text ≡ true → IsUtf8 (take 1 text)
one_utf8 [] h = IsUtf8-cut [] [] refl
one_utf8 (b ∷ text) h = IsUtf8-cut (b ∷ []) [] (and_from (is_printable b) true (and_parts (is_printable b) (list_all is_printable text) h).0 refl)

-- the first byte, after all sizes
pub byte_utf8 : (text : List ℕ) (sizes : List CellSize) → length sizes ≡ 0 → is_cut text sizes ≡ true → IsUtf8 (take 1 text)
byte_utf8 text [] e h = one_utf8 text h
byte_utf8 text (s ∷ sizes) e h = absurd (omega arith)
