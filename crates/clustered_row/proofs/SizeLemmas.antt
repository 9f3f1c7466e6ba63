-- Texts that are cut by sizes.
use Rattle.std.proofs.Common.{◌≡◌, ℕ, zero, suc, ◌+◌, ◌*◌, ◌<◌, ◌≤◌, Bool, true, false, ◌&&◌, not, ◌==◌, List, [], ◌∷◌, ◌++◌, length, take, drop, replicate, get_or, refl, sym, ap, subst, ◌∙◌, arith, append_assoc, length-append, IsUtf8, IsAscii}
use Rattle.std.specs.Prelude.{if◌then◌else◌}
use Rattle.std.specs.Char.{is_ascii_control}
use Rattle.std.specs.List.{list_all}
use Rattle.std.specs.Str.{is_utf8}
use Rattle.std.proofs.lemmas.Bool.{and_parts, and_from, eqb-true}
use Rattle.std.proofs.lemmas.Bool.Decides.{nat_tests}
use Rattle.std.proofs.lemmas.List.{map-append, length-map, take_more, take-append-le, drop-append-le, take-append-drop, length-drop, length-take-le}
use Rattle.std.proofs.lemmas.List.Folds.{list_all-append}
use Rattle.std.proofs.lemmas.Str.{IsUtf8-append, IsUtf8-from_ascii, IsUtf8-from_is_utf8}
use Rattle.std.proofs.lemmas.Str.Ascii.{IsAscii-nil, IsAscii-cons}
use Rattle.text_clusters.specs.Plain.{is_printable}
use Rattle.cell_base.specs.CellContent.{shows_as_space}
use Rattle.clustered_row.specs.declared.cell_size.CellSize.{CellSize}
use Rattle.clustered_row.specs.Faces.{Own, cell_faces, plain_faces, closed_end, closed_start}
use Rattle.clustered_row.specs.Sizes.{width_of, bytes_of, columns_of, is_plain, ends_plain, faces_of, is_text, is_cut}
use Rattle.clustered_row.proofs.FaceLemmas.{closed_end-cell, closed_start-cell, closed_end-plain, closed_start-plain}

and_assoc : (x y z : Bool) → ((x && y) && z) ≡ (x && (y && z))
and_assoc true y z = refl
and_assoc false y z = refl

and_true : (x : Bool) → (x && true) ≡ x
and_true true = refl
and_true false = refl

-- ---- sums

pub bytes_of-append : (xs ys : List CellSize) → bytes_of (xs ++ ys) ≡ bytes_of xs + bytes_of ys
bytes_of-append [] ys = omega arith
bytes_of-append (s ∷ xs) ys = omega (arith, bytes_of-append xs ys)

pub columns_of-append : (xs ys : List CellSize) → columns_of (xs ++ ys) ≡ columns_of xs + columns_of ys
columns_of-append [] ys = omega arith
columns_of-append (s ∷ xs) ys = omega (arith, columns_of-append xs ys)

pub bytes_split : (n : ℕ) (xs : List CellSize) → bytes_of xs ≡ bytes_of (take n xs) + bytes_of (drop n xs)
bytes_split n xs = ap bytes_of (sym (take-append-drop n xs)) ∙ bytes_of-append (take n xs) (drop n xs)

pub columns_split : (n : ℕ) (xs : List CellSize) → columns_of xs ≡ columns_of (take n xs) + columns_of (drop n xs)
columns_split n xs = ap columns_of (sym (take-append-drop n xs)) ∙ columns_of-append (take n xs) (drop n xs)

pub bytes_next : (xs : List CellSize) (i : ℕ) (d : CellSize) → i < length xs → bytes_of (take (i + 1) xs) ≡ bytes_of (take i xs) + (get_or xs i d).len
bytes_next xs i d h =
    let one = bytes_of-append (take i xs) (get_or xs i d ∷ []) in
    ap bytes_of (take_more xs i d h) ∙ omega (arith, one)

pub columns_next : (xs : List CellSize) (i : ℕ) (d : CellSize) → i < length xs → columns_of (take (i + 1) xs) ≡ columns_of (take i xs) + width_of (get_or xs i d).is_wide
columns_next xs i d h =
    let one = columns_of-append (take i xs) (get_or xs i d ∷ []) in
    ap columns_of (take_more xs i d h) ∙ omega (arith, one)

pub width_bounds : (wide : Bool) → (1 ≤ width_of wide) × (width_of wide ≤ 2)
width_bounds true = (omega arith, omega arith)
width_bounds false = (omega arith, omega arith)

-- a cell has a byte at least, and two columns at most
pub columns_bound : (xs : List CellSize) → columns_of xs ≤ 2 * bytes_of xs
columns_bound [] = omega arith
columns_bound (s ∷ xs) = let some = s.some in let most = (width_bounds s.is_wide).1 in omega (arith, some, most, columns_bound xs)

-- ---- texts side by side

length-cell : (wide : Bool) (text : List ℕ) → length (cell_faces wide text) ≡ width_of wide
length-cell true text = refl
length-cell false text = refl

pub length-faces : (text : List ℕ) (sizes : List CellSize) → bytes_of sizes ≤ length text → length (faces_of text sizes) + bytes_of sizes ≡ columns_of sizes + length text
length-faces text [] h = let n = length-map text (λ byte. Own (byte ∷ [])) in omega (arith, n)
length-faces text (s ∷ sizes) h =
    let rest = drop s.len text in
    let m = length-drop s.len text in
    let ih = length-faces rest sizes (omega (arith, m)) in
    let n = length-append (cell_faces s.is_wide (take s.len text)) (faces_of rest sizes) in
    let w = length-cell s.is_wide (take s.len text) in
    omega (arith, m, ih, n, w)

pub join : (text more : List ℕ) (xs ys : List CellSize) → bytes_of xs ≡ length text → faces_of (text ++ more) (xs ++ ys) ≡ faces_of text xs ++ faces_of more ys
join [] more [] ys h = refl
join (b ∷ text) more [] ys h = absurd (omega arith)
join text more (s ∷ xs) ys h =
    let le : s.len ≤ length text = omega arith in
    let p = take-append-le s.len text more le in
    let q = drop-append-le s.len text more le in
    let cell = cell_faces s.is_wide (take s.len text) in
    let rest : bytes_of xs ≡ length (drop s.len text) = omega (arith, length-drop s.len text) in
    (λ i. cell_faces s.is_wide (p i) ++ faces_of (q i) (xs ++ ys))
    ∙ ap (λ fs. cell ++ fs) (join (drop s.len text) more xs ys rest)
    ∙ sym (append_assoc cell (faces_of (drop s.len text) xs) (faces_of more ys))

pub cut_join : (text more : List ℕ) (xs ys : List CellSize) → bytes_of xs ≡ length text → is_cut (text ++ more) (xs ++ ys) ≡ (is_cut text xs && is_cut more ys)
cut_join [] more [] ys h = refl
cut_join (b ∷ text) more [] ys h = absurd (omega arith)
cut_join text more (s ∷ xs) ys h =
    let le : s.len ≤ length text = omega arith in
    let p = take-append-le s.len text more le in
    let q = drop-append-le s.len text more le in
    let rest : bytes_of xs ≡ length (drop s.len text) = omega (arith, length-drop s.len text) in
    (λ i. is_text s (p i) && is_cut (q i) (xs ++ ys))
    ∙ ap (λ b. is_text s (take s.len text) && b) (cut_join (drop s.len text) more xs ys rest)
    ∙ sym (and_assoc (is_text s (take s.len text)) (is_cut (drop s.len text) xs) (is_cut more ys))

-- bytes after all cells
pub faces_more : (text more : List ℕ) (sizes : List CellSize) → bytes_of sizes ≤ length text → faces_of (text ++ more) sizes ≡ faces_of text sizes ++ plain_faces more
faces_more text more [] h = map-append (λ byte. Own (byte ∷ [])) text more
faces_more text more (s ∷ sizes) h =
    let le : s.len ≤ length text = omega arith in
    let p = take-append-le s.len text more le in
    let q = drop-append-le s.len text more le in
    let cell = cell_faces s.is_wide (take s.len text) in
    let rest : bytes_of sizes ≤ length (drop s.len text) = omega (arith, length-drop s.len text) in
    (λ i. cell_faces s.is_wide (p i) ++ faces_of (q i) sizes)
    ∙ ap (λ fs. cell ++ fs) (faces_more (drop s.len text) more sizes rest)
    ∙ sym (append_assoc cell (faces_of (drop s.len text) sizes) (plain_faces more))

pub cut_more : (text more : List ℕ) (sizes : List CellSize) → bytes_of sizes ≤ length text → is_cut (text ++ more) sizes ≡ (is_cut text sizes && list_all is_printable more)
cut_more text more [] h = list_all-append is_printable text more
cut_more text more (s ∷ sizes) h =
    let le : s.len ≤ length text = omega arith in
    let p = take-append-le s.len text more le in
    let q = drop-append-le s.len text more le in
    let rest : bytes_of sizes ≤ length (drop s.len text) = omega (arith, length-drop s.len text) in
    (λ i. is_text s (p i) && is_cut (q i) sizes)
    ∙ ap (λ b. is_text s (take s.len text) && b) (cut_more (drop s.len text) more sizes rest)
    ∙ sym (and_assoc (is_text s (take s.len text)) (is_cut (drop s.len text) sizes) (list_all is_printable more))

-- cells are whole
pub closed_end-faces : (text : List ℕ) (sizes : List CellSize) → closed_end (faces_of text sizes) ≡ faces_of text sizes
closed_end-faces text [] = closed_end-plain text
closed_end-faces text (s ∷ sizes) =
    closed_end-cell s.is_wide (take s.len text) (faces_of (drop s.len text) sizes)
    ∙ ap (λ fs. cell_faces s.is_wide (take s.len text) ++ fs) (closed_end-faces (drop s.len text) sizes)

pub closed_start-faces : (text : List ℕ) (sizes : List CellSize) → closed_start (faces_of text sizes) ≡ faces_of text sizes
closed_start-faces text [] = closed_start-plain text
closed_start-faces text (s ∷ sizes) = closed_start-cell s.is_wide (take s.len text) (faces_of (drop s.len text) sizes)

-- ---- sizes of plain cells

pub plain_narrow : (wide : Bool) (len : ℕ) → (not wide && (len == 1)) ≡ true → (wide ≡ false) × (len ≡ 1)
plain_narrow true len h = absurd cc
plain_narrow false len h = (refl, eqb-true len 1 h)

pub plain_cell : (s : CellSize) (b : ℕ) (text : List ℕ) → is_plain s ≡ true
    → (cell_faces s.is_wide (take s.len (b ∷ text)) ≡ Own (b ∷ []) ∷ []) × (is_text s (take s.len (b ∷ text)) ≡ is_printable b) × (drop s.len (b ∷ text) ≡ text)
plain_cell s b text h =
    let p = plain_narrow s.is_wide s.len h in
    let one : s.len ≡ suc zero = p.1 ∙ omega arith in
    let taken : take s.len (b ∷ text) ≡ b ∷ [] = ap (λ n. take n (b ∷ text)) one in (
      (λ i. cell_faces (p.0 i) (taken i)),
      (λ i. if h i then list_all is_printable (taken i) else is_utf8 (taken i) && not (shows_as_space (taken i))) ∙ and_true (is_printable b),
      ap (λ n. drop n (b ∷ text)) one,
    )

plain_none : (text : List ℕ) (ys : List CellSize) → list_all is_plain ys ≡ true → length ys ≤ length text
    → (faces_of text ys ≡ plain_faces text) × (is_cut text ys ≡ list_all is_printable text)
plain_none text [] h n = (refl, refl)
plain_none [] (s ∷ ys) h n = absurd (omega arith)
plain_none (b ∷ text) (s ∷ ys) h n =
    let p = and_parts (is_plain s) (list_all is_plain ys) h in
    let c = plain_cell s b text p.0 in
    let ih = plain_none text ys p.1 (omega arith) in (
      (λ i. c.0 i ++ faces_of (c.2 i) ys) ∙ ap (λ fs. Own (b ∷ []) ∷ fs) ih.0,
      (λ i. c.1 i && is_cut (c.2 i) ys) ∙ ap (λ t. is_printable b && t) ih.1,
    )

-- the sizes of plain cells at the end change no face
pub plain_sizes : (text : List ℕ) (xs ys : List CellSize) → list_all is_plain ys ≡ true → bytes_of xs + length ys ≤ length text
    → (faces_of text (xs ++ ys) ≡ faces_of text xs) × (is_cut text (xs ++ ys) ≡ is_cut text xs)
plain_sizes text [] ys h n = plain_none text ys h (omega arith)
plain_sizes text (s ∷ xs) ys h n =
    let ih = plain_sizes (drop s.len text) xs ys h (omega (arith, length-drop s.len text)) in
    (ap (λ fs. cell_faces s.is_wide (take s.len text) ++ fs) ih.0, ap (λ t. is_text s (take s.len text) && t) ih.1)

pub plain_sums : (ys : List CellSize) → list_all is_plain ys ≡ true → (bytes_of ys ≡ length ys) × (columns_of ys ≡ length ys)
plain_sums [] h = (refl, refl)
plain_sums (s ∷ ys) h =
    let p = and_parts (is_plain s) (list_all is_plain ys) h in
    let q = plain_narrow s.is_wide s.len p.0 in
    let ih = plain_sums ys p.1 in
    let w : width_of s.is_wide ≡ 1 = ap width_of q.0 in
    (omega (arith, q.1, ih.0), omega (arith, w, ih.1))

pub plain_copies : (n : ℕ) (s : CellSize) → is_plain s ≡ true → list_all is_plain (replicate n s) ≡ true
plain_copies zero s h = refl
plain_copies (suc n) s h = and_from (is_plain s) (list_all is_plain (replicate n s)) h (plain_copies n s h)

pub ends_plain-push : (xs : List CellSize) (s : CellSize) → ends_plain (xs ++ s ∷ []) ≡ is_plain s
ends_plain-push [] s = refl
ends_plain-push (x ∷ []) s = refl
ends_plain-push (x ∷ y ∷ xs) s = ends_plain-push (y ∷ xs) s

-- ---- UTF-8

printable_ascii : (b : ℕ) → is_printable b ≡ true → b < 128
printable_ascii b h = grind (arith, nat_tests)

IsAscii-printable : (text : List ℕ) → list_all is_printable text ≡ true → IsAscii text
IsAscii-printable [] h = IsAscii-nil
IsAscii-printable (b ∷ text) h =
    let p = and_parts (is_printable b) (list_all is_printable text) h in
    IsAscii-cons b text (printable_ascii b p.0) (IsAscii-printable text p.1)

utf8_either : (plain : Bool) (text : List ℕ) → (if plain then list_all is_printable text else is_utf8 text && not (shows_as_space text)) ≡ true → IsUtf8 text
utf8_either true text h = IsUtf8-from_ascii text (IsAscii-printable text h)
utf8_either false text h = IsUtf8-from_is_utf8 text (and_parts (is_utf8 text) (not (shows_as_space text)) h).0

pub IsUtf8-cell : (s : CellSize) (text : List ℕ) → is_text s text ≡ true → IsUtf8 text
IsUtf8-cell s text h = utf8_either (is_plain s) text h

pub IsUtf8-cut : (text : List ℕ) (sizes : List CellSize) → is_cut text sizes ≡ true → IsUtf8 text
IsUtf8-cut text [] h = IsUtf8-from_ascii text (IsAscii-printable text h)
IsUtf8-cut text (s ∷ sizes) h =
    let p = and_parts (is_text s (take s.len text)) (is_cut (drop s.len text) sizes) h in
    subst IsUtf8 (take-append-drop s.len text)
    (IsUtf8-append (take s.len text) (drop s.len text) (IsUtf8-cell s (take s.len text) p.0) (IsUtf8-cut (drop s.len text) sizes p.1))

-- ---- texts that cells hold unchanged

not_it : (b : Bool) → not b ≡ true → b ≡ false
not_it true h = absurd cc
not_it false h = refl

not_control : (b : ℕ) → is_printable b ≡ true → is_ascii_control b ≡ false
not_control b h = grind (arith, nat_tests)

not_return : (b c : ℕ) → is_printable b ≡ true → (b == 13 && c == 10) ≡ false
not_return b c h = grind (arith, nat_tests)

pub kept_plain : (text : List ℕ) → list_all is_printable text ≡ true → 0 < length text → shows_as_space text ≡ false
kept_plain [] h l = absurd (omega (arith, l))
kept_plain (b ∷ []) h l = not_control b (and_parts (is_printable b) true h).0
kept_plain (b ∷ c ∷ []) h l = not_return b c (and_parts (is_printable b) (list_all is_printable (c ∷ [])) h).0
kept_plain (b ∷ c ∷ d ∷ text) h l = refl

kept_either : (plain : Bool) (text : List ℕ) → 0 < length text → (if plain then list_all is_printable text else is_utf8 text && not (shows_as_space text)) ≡ true → shows_as_space text ≡ false
kept_either true text l h = kept_plain text h l
kept_either false text l h = not_it (shows_as_space text) (and_parts (is_utf8 text) (not (shows_as_space text)) h).1

pub kept_first : (s : CellSize) (text : List ℕ) (sizes : List CellSize) → bytes_of (s ∷ sizes) ≤ length text → is_cut text (s ∷ sizes) ≡ true → shows_as_space (take s.len text) ≡ false
kept_first s text sizes l h =
    let some = s.some in
    let long = length-take-le s.len text (omega (arith, l)) in
    kept_either (is_plain s) (take s.len text) (omega (arith, some, long)) (and_parts (is_text s (take s.len text)) (is_cut (drop s.len text) sizes) h).0

-- ---- the cell that takes a column

pub second_column : (wide : Bool) (c at : ℕ) → c < at → at < c + width_of wide → (wide ≡ true) × (at ≡ c + 1)
second_column true c at l h = (refl, omega arith)
second_column false c at l h = absurd (omega arith)

-- each cell has a column at least
pub columns_many : (xs : List CellSize) → length xs ≤ columns_of xs
columns_many [] = omega arith
columns_many (s ∷ xs) = let some = (width_bounds s.is_wide).0 in omega (arith, some, columns_many xs)
