-- Plain cells with equal attributes that are passed together.
use Rattle.std.proofs.Common.{◌≡◌, ℕ, zero, suc, ◌+◌, ◌-◌, ◌<◌, ◌≤◌, Bool, true, false, List, [], ◌∷◌, ◌++◌, length, take, drop, replicate, get_or, cond, refl, sym, ap, subst, ◌∙◌, arith, append_assoc}
use Rattle.std.specs.Prelude.{min, IsTrue, ◌↔◌, ◌==◌}
use Rattle.std.specs.List.{list_all, prefix_len}
use Rattle.std.proofs.Math.Seq.{drop-nil}
use Rattle.std.proofs.lemmas.Bool.{and_parts, and_from, eqb-true}
use Rattle.std.proofs.lemmas.List.{length-replicate, map-append, take-append-drop, drop_at}
use Rattle.std.proofs.lemmas.List.Folds.{list_all-append}
use Rattle.cell_base.specs.Attributes.{Attributes}
use Rattle.cell_base.specs.Row.{Row, blank}
use Rattle.cell_edits.specs.VisibleCells.{visible_from, visible_each}
use Rattle.cell_edits.proofs.CellLemmas.{by_test}
use Rattle.cell_edits.proofs.EachLemmas.{columns_each, visible_after_each}
use Rattle.text_clusters.specs.Plain.{is_printable}
use Rattle.clustered_row.specs.declared.cell_size.CellSize.{CellSize}
use Rattle.clustered_row.specs.declared.run.Run.{Run}
use Rattle.clustered_row.specs.declared.texts_left.TextsLeft.{TextsLeft}
use Rattle.clustered_row.specs.Faces.{Face, Own, cell_faces, plain_faces, row_of}
use Rattle.clustered_row.specs.Runs.{spread, is_begun, first_left}
use Rattle.clustered_row.specs.Sizes.{bytes_of, faces_of, is_plain, is_text, is_cut}
use Rattle.clustered_row.proofs.SizeLemmas.{plain_cell}
use Rattle.clustered_row.proofs.LeftLemmas.{rest_of, run_has, some_run}

-- ---- texts

-- each cell has a byte at least
pub sizes_bound : (sizes : List CellSize) → length sizes ≤ bytes_of sizes
sizes_bound [] = omega arith
sizes_bound (s ∷ sizes) = let some = s.some in omega (arith, some, sizes_bound sizes)

first_plain : (s : CellSize) (sizes : List CellSize) → is_plain s ≡ true → prefix_len is_plain (s ∷ sizes) ≡ suc (prefix_len is_plain sizes)
first_plain s sizes e = ap (λ t. cond t (1 + prefix_len is_plain sizes) 0) e ∙ omega arith

first_other : (s : CellSize) (sizes : List CellSize) → is_plain s ≡ false → prefix_len is_plain (s ∷ sizes) ≡ 0
first_other s sizes e = ap (λ t. cond t (1 + prefix_len is_plain sizes) 0) e

-- the sizes at the start up to one that isn't plain
pub plain_prefix : (n : ℕ) (sizes : List CellSize) → list_all is_plain (take (prefix_len is_plain (take n sizes)) sizes) ≡ true
plain_prefix zero sizes = refl
plain_prefix (suc n) [] = refl
plain_prefix (suc n) (s ∷ sizes) = by_test (is_plain s)
    (λ e. let more : prefix_len is_plain (s ∷ take n sizes) ≡ suc (prefix_len is_plain (take n sizes)) = first_plain s (take n sizes) e in
    ap (λ m. list_all is_plain (take m (s ∷ sizes))) more ∙ and_from (is_plain s) (list_all is_plain (take (prefix_len is_plain (take n sizes)) sizes)) e (plain_prefix n sizes))
    (λ e. ap (λ m. list_all is_plain (take m (s ∷ sizes))) (first_other s (take n sizes) e))

all_of : (sizes : List CellSize) → length sizes ≤ prefix_len is_plain sizes → list_all is_plain sizes ≡ true
all_of [] h = refl
all_of (s ∷ sizes) h = by_test (is_plain s)
    (λ e. let more = first_plain s sizes e in and_from (is_plain s) (list_all is_plain sizes) e (all_of sizes (omega (arith, more, h))))
    (λ e. let none = first_other s sizes e in absurd (omega (arith, none, h)))

-- all that are looked at are plain
pub plain_all : (m most n : ℕ) (sizes : List CellSize) → m ≡ min most (length sizes) → length (take m sizes) ≤ prefix_len is_plain (take m sizes) → n ≤ most → list_all is_plain (take n sizes) ≡ true
plain_all m most n sizes e h k = within m most n sizes e (all_of (take m sizes) h) k
  where
    within : (m most n : ℕ) (sizes : List CellSize) → m ≡ min most (length sizes) → list_all is_plain (take m sizes) ≡ true → n ≤ most → list_all is_plain (take n sizes) ≡ true
    within m most zero sizes e h k = refl
    within m most (suc n) [] e h k = refl
    within zero most (suc n) (s ∷ sizes) e h k = absurd (omega (arith, e, k))
    within (suc m) most (suc n) (s ∷ sizes) e h k =
        let parts = and_parts (is_plain s) (list_all is_plain (take m sizes)) h in
        and_from (is_plain s) (list_all is_plain (take n sizes)) parts.0 (within m (most - 1) n sizes (omega (arith, e, k)) parts.1 (omega (arith, k)))

-- plain cells at the start of a text were passed: their text, and the text and the sizes that remain
pub record Passes (text : List ℕ) (sizes : List CellSize) (prefix left : List ℕ) (rest : List CellSize) : Type 0 where
  pub faces : faces_of text sizes ≡ plain_faces prefix ++ faces_of left rest
  pub bytes : bytes_of rest ≤ length left
  pub parts : is_cut left rest ≡ true
  pub printable : list_all is_printable prefix ≡ true

passes_bytes : (n : ℕ) (text : List ℕ) → list_all is_printable text ≡ true → Passes text [] (take n text) (drop n text) (drop n [])
passes_bytes n text c =
    let none = drop-nil {A = CellSize} n in
    let whole = take-append-drop n text in
    let parts = and_parts (list_all is_printable (take n text)) (list_all is_printable (drop n text)) (sym (list_all-append is_printable (take n text) (drop n text)) ∙ ap (list_all is_printable) whole ∙ c) in
    let no_bytes : bytes_of (drop n []) ≡ 0 = ap bytes_of none in
    record {
      faces = ap plain_faces (sym whole) ∙ map-append (λ byte. Own (byte ∷ [])) (take n text) (drop n text) ∙ ap (λ (sizes : List CellSize). plain_faces (take n text) ++ faces_of (drop n text) sizes) (sym none);
      bytes = omega (arith, no_bytes);
      parts = ap (is_cut (drop n text)) none ∙ parts.1;
      printable = parts.0;
    }

passes : (n : ℕ) (text : List ℕ) (sizes : List CellSize) → n ≤ length text → bytes_of sizes ≤ length text → list_all is_plain (take n sizes) ≡ true → is_cut text sizes ≡ true → Passes text sizes (take n text) (drop n text) (drop n sizes)
passes zero text sizes w b p c = record { faces = refl; bytes = b; parts = c; printable = refl }
passes (suc n) [] sizes w b p c = absurd (omega arith)
passes (suc n) (x ∷ text) [] w b p c = passes_bytes (suc n) (x ∷ text) c
passes (suc n) (x ∷ text) (s ∷ sizes) w b p c =
    let plain = and_parts (is_plain s) (list_all is_plain (take n sizes)) p in
    let cell = plain_cell s x text plain.0 in
    let parts = and_parts (is_text s (take s.len (x ∷ text))) (is_cut (drop s.len (x ∷ text)) sizes) c in
    let some = s.some in
    let rest = passes n text sizes (omega arith) (omega (arith, b, some)) plain.1 (ap (λ t. is_cut t sizes) (sym cell.2) ∙ parts.1) in
    record {
      faces = (λ i. cell.0 i ++ faces_of (cell.2 i) sizes) ∙ ap (λ fs. Own (x ∷ []) ∷ fs) rest.faces;
      bytes = rest.bytes;
      parts = rest.parts;
      printable = and_from (is_printable x) (list_all is_printable (take n text)) (sym cell.1 ∙ parts.0) rest.printable;
    }

sizes_left : (n m : ℕ) (sizes : List CellSize) → m ≡ min n (length sizes) → drop m sizes ≡ drop n sizes
sizes_left zero zero sizes e = refl
sizes_left zero (suc m) sizes e = absurd (omega (arith, e))
sizes_left (suc n) m [] e = drop-nil m
sizes_left (suc n) zero (s ∷ sizes) e = absurd (omega (arith, e))
sizes_left (suc n) (suc m) (s ∷ sizes) e = sizes_left n m sizes (omega (arith, e))

pub plain_passed : (l : TextsLeft) (n m : ℕ) (prefix : List ℕ) → prefix ≡ take n l.text.now → m ≡ min n (length l.sizes.now) → n ≤ length l.text.now → list_all is_plain (take n l.sizes.now) ≡ true
    → Passes l.text.now l.sizes.now prefix (take (length l.text.now - n) (drop n l.text.now)) (take (length l.sizes.now - m) (drop m l.sizes.now))
plain_passed l n m prefix f e w p =
    let text = l.text.now in
    let sizes = l.sizes.now in
    let left : drop n text ≡ take (length text - n) (drop n text) = sym (rest_of n text) in
    let rest : drop n sizes ≡ take (length sizes - m) (drop m sizes) = sym (rest_of m sizes ∙ sizes_left n m sizes e) in
    subst (λ (t : List ℕ). Passes text sizes t (take (length text - n) (drop n text)) (take (length sizes - m) (drop m sizes))) (sym f)
    (subst (λ (t : List ℕ). Passes text sizes (take n text) t (take (length sizes - m) (drop m sizes))) left
    (subst (λ (s : List CellSize). Passes text sizes (take n text) (drop n text) s) rest (passes n text sizes w l.bytes p l.parts)))

none_if_empty : (text : List ℕ) (sizes : List CellSize) → bytes_of sizes ≤ length text → text ≡ [] → faces_of text sizes ≡ []
none_if_empty text [] b e = ap plain_faces e
none_if_empty text (s ∷ sizes) b e = let some = s.some in absurd (omega (arith, b, some, ap length e))

empty_if_none : (text : List ℕ) (sizes : List CellSize) → faces_of text sizes ≡ [] → text ≡ []
empty_if_none [] sizes e = refl
empty_if_none (x ∷ text) [] e = absurd (cc)
empty_if_none (x ∷ text) (s ∷ sizes) e = absurd (some_faces s.is_wide (take s.len (x ∷ text)) (faces_of (drop s.len (x ∷ text)) sizes) e)
  where
    some_faces : (wide : Bool) (text : List ℕ) (fs : List Face) → cell_faces wide text ++ fs ≡ [] → ⊥
    some_faces true text fs e = absurd (cc)
    some_faces false text fs e = absurd (cc)

pub empty_if_no_byte : (answer : Bool) (text : List ℕ) (sizes : List CellSize) → answer ≡ (length text == 0) → bytes_of sizes ≤ length text → IsTrue answer ↔ (faces_of text sizes ≡ [])
empty_if_no_byte answer [] sizes e b = (λ _. none_if_empty [] sizes b refl, λ _. e)
empty_if_no_byte answer (x ∷ text) sizes e b = (λ t. absurd (let none = eqb-true (length (x ∷ text)) 0 (sym e ∙ t) in omega (arith, none)), λ none. absurd (let f = empty_if_none (x ∷ text) sizes none in cc))

-- ---- runs

pub run_is : (used : ℕ) (runs : List Run) (d : Run) → 0 < first_left used runs → (get_or runs 0 d).count ≡ used + first_left used runs
run_is used [] d h = absurd (omega arith)
run_is used (r ∷ runs) d h = omega arith

pub columns_passed : (used n : ℕ) (runs : List Run) (d : Run) → 0 < n → n ≤ first_left used runs → drop used (spread runs) ≡ replicate n (get_or runs 0 d).attributes ++ drop (used + n) (spread runs)
columns_passed used n [] d some h = absurd (omega arith)
columns_passed used n (r ∷ runs) d some h = after r.count used n (used + n) refl (omega arith)
  where
    prefix : (count n m : ℕ) → m ≡ n → m ≤ count → replicate count r.attributes ++ spread runs ≡ replicate n r.attributes ++ drop m (replicate count r.attributes ++ spread runs)
    prefix count zero zero e h = refl
    prefix count zero (suc m) e h = absurd (omega (arith, e))
    prefix count (suc n) zero e h = absurd (omega (arith, e))
    prefix zero (suc n) (suc m) e h = absurd (omega (arith, h))
    prefix (suc count) (suc n) (suc m) e h = ap (λ (xs : List Attributes). r.attributes ∷ xs) (prefix count n m (omega (arith, e)) (omega (arith, h)))

    after : (count used n m : ℕ) → m ≡ used + n → m ≤ count → drop used (replicate count r.attributes ++ spread runs) ≡ replicate n r.attributes ++ drop m (replicate count r.attributes ++ spread runs)
    after count zero n m e h = prefix count n m (omega (arith, e)) h
    after count (suc used) n zero e h = absurd (omega (arith, e))
    after zero (suc used) n (suc m) e h = absurd (omega (arith, h))
    after (suc count) (suc used) n (suc m) e h = after count used n m (omega (arith, e)) (omega (arith, h))

pub run_passed : (used n : ℕ) (runs : List Run) (d : Run) → 0 < n → n ≤ first_left used runs → (get_or runs 0 d).count ≤ used + n → drop used (spread runs) ≡ replicate n (get_or runs 0 d).attributes ++ spread (take (length runs - 1) (drop 1 runs))
run_passed used n [] d some h k = absurd (omega arith)
run_passed used n (r ∷ runs) d some h k =
    let all : length (replicate r.count r.attributes) ≡ used + n = omega (arith, some, h, k, length-replicate r.count r.attributes) in
    columns_passed used n (r ∷ runs) d some h
    ∙ ap (λ (xs : List Attributes). replicate n r.attributes ++ xs) (drop_at (replicate r.count r.attributes) (spread runs) (used + n) all ∙ ap spread (sym (rest_of 1 (r ∷ runs))))

-- where columns are left, the next run has one
pub some_left : (used : ℕ) (runs : List Run) → 0 < length (drop used (spread runs)) → is_begun used runs ≡ true → 0 < first_left used runs
some_left used [] h b = absurd (omega (arith, some_run used [] h))
some_left used (r ∷ runs) h b = let more = run_has used (r ∷ runs) r (omega arith) b in omega (arith, more)

-- ---- rows

-- plain faces, all with the same attributes
row_each : (text : List ℕ) (a : Attributes) (fs : List Face) (ats : List Attributes) → row_of (plain_faces text ++ fs) (replicate (length text) a ++ ats) ≡ columns_each text a ++ row_of fs ats
row_each [] a fs ats = refl
row_each (b ∷ text) a fs ats = ap (λ (r : Row). columns_each (b ∷ []) a ++ r) (row_each text a fs ats)

pub text_passed : (at : ℕ) (text : List ℕ) (a : Attributes) (fs gs : List Face) (ats bts : List Attributes) (blanks : Row) → fs ≡ plain_faces text ++ gs → ats ≡ replicate (length text) a ++ bts
    → visible_from at (row_of fs ats ++ blanks) ≡ visible_each at text a ++ visible_from (at + length text) (row_of gs bts ++ blanks)
text_passed at text a fs gs ats bts blanks e f =
    (λ i. visible_from at (row_of (e i) (f i) ++ blanks))
    ∙ ap (λ (r : Row). visible_from at (r ++ blanks)) (row_each text a gs bts)
    ∙ ap (visible_from at) (append_assoc (columns_each text a) (row_of gs bts) blanks)
    ∙ visible_after_each at text a (row_of gs bts ++ blanks)

blanks_each : (k n : ℕ) (a : Attributes) → k ≤ n → replicate n (blank a) ≡ columns_each (replicate k 32) a ++ replicate (n - k) (blank a)
blanks_each zero n a h = let same : n ≡ n - 0 = omega arith in ap (λ m. replicate m (blank a)) same
blanks_each (suc k) zero a h = absurd (omega arith)
blanks_each (suc k) (suc n) a h =
    let less : n - k ≡ suc n - suc k = omega arith in
    ap (λ (r : Row). blank a ∷ r) (blanks_each k n a (omega arith) ∙ ap (λ m. columns_each (replicate k 32) a ++ replicate m (blank a)) less)

pub blanks_passed : (at k n : ℕ) (text : List ℕ) (a : Attributes) (fs : List Face) (ats : List Attributes) → fs ≡ [] → text ≡ replicate k 32 → k ≤ n
    → visible_from at (row_of fs ats ++ replicate n (blank a)) ≡ visible_each at text a ++ visible_from (at + k) (row_of fs ats ++ replicate (n - k) (blank a))
blanks_passed at k n text a fs ats none e h =
    let long = length-replicate k 32 in
    (λ i. visible_from at (row_of (none i) ats ++ replicate n (blank a)))
    ∙ ap (visible_from at) (blanks_each k n a h)
    ∙ visible_after_each at (replicate k 32) a (replicate (n - k) (blank a))
    ∙ (λ i. visible_each at (sym e i) a ++ visible_from (at + long i) (row_of (sym none i) ats ++ replicate (n - k) (blank a)))

pub spaces_printable : (k : ℕ) (text : List ℕ) → text ≡ replicate k 32 → list_all is_printable text ≡ true
spaces_printable k text e = ap (list_all is_printable) e ∙ copies k
  where
    copies : (k : ℕ) → list_all is_printable (replicate k 32) ≡ true
    copies zero = refl
    copies (suc k) = copies k
