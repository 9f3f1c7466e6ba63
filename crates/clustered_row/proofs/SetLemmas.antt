-- Cells of sizes, single cells and blanks that are set on a row.
use Rattle.std.proofs.Common.{◌≡◌, ℕ, zero, suc, ◌+◌, ◌-◌, ◌≤◌, ◌<◌, ◌⊎◌, Bool, true, false, List, [], ◌∷◌, ◌++◌, IsAscii, IsCharBoundary, IsUtf8, length, take, drop, replicate, refl, sym, ap, subst, ◌∙◌, append-nil, length-append, arith, inl, inr}
use Rattle.std.specs.Prelude.{◌&&◌, ◌==◌, max, not, nat_lt, if◌then◌else◌}
use Rattle.std.specs.Char.{encode_utf8, is_ascii_control}
use Rattle.std.specs.List.{flat_map, list_all}
use Rattle.std.specs.Str.{encode_utf8_all, is_utf8}
use Rattle.std.proofs.lemmas.Bool.{and_from, and_parts, eqb-true}
use Rattle.std.proofs.lemmas.Bool.Decides.{eqb_tells, leb_tells, nat_tests}
use Rattle.std.proofs.lemmas.List.{length-replicate, replicate-append-replicate, take_at}
use Rattle.std.proofs.lemmas.Str.{IsCharBoundary-from_ascii, IsCharBoundary-from_take, is_utf8-from_IsUtf8}
use Rattle.std.proofs.lemmas.Str.Ascii.{IsAscii-nil, IsAscii-cons}
use Rattle.text_clusters.specs.Plain.{is_printable}
use Rattle.cell_base.specs.Attributes.{Attributes}
use Rattle.cell_base.specs.CellContent.{CellContent, cell_of, shows_as_space}
use Rattle.cell_base.specs.Row.{Row, Narrow, blank, set_columns}
use Rattle.cell_base.proofs.RowLemmas.{set_columns-again, whole-blanks}
use Rattle.cell_edits.specs.CellList.{cell_columns}
use Rattle.cell_edits.specs.RowEdits.{overlaid}
use Rattle.cell_edits.specs.TextRuns.{Leads, plain_cells}
use Rattle.cell_edits.proofs.CellLemmas.{by_test}
use Rattle.cell_edits.proofs.CutLemmas.{columns_narrow, columns_wide}
use Rattle.cell_edits.proofs.RowLaws.{overlaid_within}
use Rattle.cell_edits.proofs.RunLemmas.{plain_count, plain_length, plain_narrow}
use Rattle.clustered_row.specs.declared.cell_size.CellSize.{CellSize}
use Rattle.clustered_row.specs.Faces.{Face, cell_faces, plain_faces, row_of}
use Rattle.clustered_row.specs.Sizes.{bytes_of, columns_of, faces_of, is_cut, is_plain, width_of}
use Rattle.clustered_row.specs.Walk.{cells_of, IsWalked}
use Rattle.clustered_row.proofs.ColumnLemmas.{plain_are}
use Rattle.clustered_row.proofs.RowLemmas.{length-row_of}
use Rattle.clustered_row.proofs.SizeLemmas.{IsUtf8-cut, plain_narrow as plain_narrow_size}
use Rattle.clustered_row.proofs.StepLemmas.{length-cells}
use Rattle.clustered_row.proofs.WalkLemmas.{following_bytes, one_cut, take_all}

-- ---- cells of sizes

first_row : (wide : Bool) (text : List ℕ) (faces : List Face) (n : ℕ) (a : Attributes)
    → cell_columns (record { text = text; width = width_of wide; attributes = a }) ++ row_of faces (replicate n a) ≡ row_of (cell_faces wide text ++ faces) (replicate (width_of wide + n) a)
first_row true text faces n a = let two : suc (suc n) ≡ 2 + n = omega arith in ap (λ k. row_of (cell_faces true text ++ faces) (replicate k a)) two
first_row false text faces n a = let one : suc n ≡ 1 + n = omega arith in ap (λ k. row_of (cell_faces false text ++ faces) (replicate k a)) one

-- their columns are their faces with the attributes
pub cells_row : (prefix : List ℕ) (sizes : List CellSize) (a : Attributes) → bytes_of sizes ≡ length prefix
    → flat_map cell_columns (cells_of prefix sizes a) ≡ row_of (faces_of prefix sizes) (replicate (columns_of sizes) a)
cells_row [] [] a e = refl
cells_row (b ∷ prefix) [] a e = absurd (omega (arith, e))
cells_row prefix (size ∷ rest) a e =
    ap (λ (r : Row). cell_columns (record { text = take size.len prefix; width = width_of size.is_wide; attributes = a }) ++ r) (cells_row (drop size.len prefix) rest a (following_bytes size rest prefix e))
    ∙ first_row size.is_wide (take size.len prefix) (faces_of (drop size.len prefix) rest) (columns_of rest) a

some_cells : (prefix : List ℕ) (sizes : List CellSize) (a : Attributes) → 0 < columns_of sizes → 0 < length (cells_of prefix sizes a)
some_cells prefix [] a h = absurd (omega (arith, h))
some_cells prefix (size ∷ rest) a h = omega arith

-- so they are set at once
pub cells_set : (row : Row) (at : ℕ) (prefix : List ℕ) (sizes : List CellSize) (n : ℕ) (a : Attributes) → bytes_of sizes ≡ length prefix → columns_of sizes ≡ n → 0 < n → length (row_of (faces_of prefix sizes) (replicate n a)) ≡ n
    → at + n ≤ length row → overlaid row at (cells_of prefix sizes a) ≡ set_columns row at (row_of (faces_of prefix sizes) (replicate n a))
cells_set row at prefix sizes n a e f some count h =
    let columns : flat_map cell_columns (cells_of prefix sizes a) ≡ row_of (faces_of prefix sizes) (replicate n a)
    = cells_row prefix sizes a e ∙ ap (λ k. row_of (faces_of prefix sizes) (replicate k a)) f in
    let long : length (flat_map cell_columns (cells_of prefix sizes a)) ≡ n = ap length columns ∙ count in
    overlaid_within row at (cells_of prefix sizes a) (some_cells prefix sizes a (omega (arith, f, some))) (omega (arith, long, h)) ∙ ap (set_columns row at) columns

-- ---- printable characters

printable_kept : (b : ℕ) → is_printable b ≡ true → is_ascii_control b ≡ false
printable_kept b h = grind (arith, nat_tests)

plain_column : (b : ℕ) (a : Attributes) → is_printable b ≡ true → cell_columns (cell_of (b ∷ []) 1 a) ≡ Narrow (b ∷ []) a ∷ []
plain_column b a p = columns_narrow (cell_of (b ∷ []) 1 a) (plain_narrow b a) ∙ ap (λ t. Narrow (if t then 32 ∷ [] else b ∷ []) a ∷ []) (printable_kept b p)

plain_cells_row : (bytes : List ℕ) (a : Attributes) → list_all is_printable bytes ≡ true → flat_map cell_columns (plain_cells bytes a) ≡ row_of (plain_faces bytes) (replicate (length bytes) a)
plain_cells_row [] a p = refl
plain_cells_row (b ∷ bytes) a p =
    let parts = and_parts (is_printable b) (list_all is_printable bytes) p in
    λ i. plain_column b a parts.0 i ++ plain_cells_row bytes a parts.1 i

pub plain_cells_set : (row : Row) (at : ℕ) (bytes : List ℕ) (a : Attributes) → list_all is_printable bytes ≡ true → 0 < length bytes → at + length bytes ≤ length row
    → set_columns row at (row_of (plain_faces bytes) (replicate (length bytes) a)) ≡ overlaid row at (plain_cells bytes a)
plain_cells_set row at bytes a p some h =
    let count = plain_count bytes a in
    let long = plain_length bytes a in
    sym (overlaid_within row at (plain_cells bytes a) (omega (arith, long, some)) (omega (arith, count, h)) ∙ ap (set_columns row at) (plain_cells_row bytes a p))

-- ---- one cell

count_columns : (cell : CellContent) → 1 ≤ cell.width → cell.width ≤ 2 → length (cell_columns cell) ≡ cell.width
count_columns cell some most = elim (leb_tells 2 cell.width) [
  | inl p ↦ ap length (columns_wide cell p.0) ∙ omega (arith, p.1, most)
  | inr p ↦ ap length (columns_narrow cell p.0) ∙ omega (arith, p.1, some)
]

-- how many columns the cell of a text takes
pub count_cell : (text : List ℕ) (width n : ℕ) (a : Attributes) → n ≡ (cell_of text width a).width → 1 ≤ n → n ≤ 2 → length (cell_columns (cell_of text width a)) ≡ n
count_cell text width n a e some most = count_columns (cell_of text width a) (omega (arith, e, some)) (omega (arith, e, most)) ∙ sym e

low_is : (c : ℕ) → nat_lt c 128 ≡ true → encode_utf8 c ≡ c ∷ []
unfolding encode_utf8
low_is c t = rw t refl

high_has : (c : ℕ) → nat_lt c 128 ≡ false → 2 ≤ length (encode_utf8 c)
unfolding encode_utf8
high_has c t = by_test (nat_lt c 2048) (λ u. rw (t, u) (omega arith)) (λ u. by_test (nat_lt c 65536) (λ v. rw (t, u, v) (omega arith)) (λ v. rw (t, u, v) (omega arith)))

kept_printable : (b : ℕ) → nat_lt b 128 ≡ true → is_ascii_control b ≡ false → is_printable b ≡ true
kept_printable b l k = grind (arith, nat_tests)

first_low : (c b : ℕ) (rest : List ℕ) → encode_utf8 c ++ rest ≡ b ∷ [] → nat_lt b 128 ≡ true
first_low c b rest e = by_test (nat_lt c 128)
    (λ t. let head : c ∷ rest ≡ b ∷ [] = ap (λ (bs : List ℕ). bs ++ rest) (sym (low_is c t)) ∙ e in let same : c ≡ b = cc in ap (λ n. nat_lt n 128) (sym same) ∙ t)
    (λ t. absurd (omega (arith, high_has c t, ap length e, length-append (encode_utf8 c) rest)))

byte_low : (b : ℕ) (cs : List ℕ) → encode_utf8_all cs ≡ b ∷ [] → nat_lt b 128 ≡ true
byte_low b [] e = absurd cc
byte_low b (c ∷ cs) e = first_low c b (encode_utf8_all cs) e

-- a text of one byte that a cell holds unchanged is printable
one_printable : (text : List ℕ) → length text ≡ 1 → IsUtf8 text → shows_as_space text ≡ false → list_all is_printable text ≡ true
one_printable [] l u k = absurd (omega (arith, l))
one_printable (b ∷ []) l u k = ap (λ t. t && true) (kept_printable b (byte_low b u.0 u.1.1) k)
one_printable (b ∷ c ∷ text) l u k = absurd (omega (arith, l))

-- the size of a cell, with how many columns it takes
pub record IsCellOf (text : List ℕ) (width count : ℕ) (size : CellSize) (a : Attributes) : Type 0 where
  pub kept : shows_as_space text ≡ false
  pub len : size.len ≡ length text
  pub wide : size.is_wide ≡ (count == 2)
  pub columns : count ≡ (cell_of text width a).width
  pub some : 1 ≤ count
  pub most : count ≤ 2

pub is_cell : (text : List ℕ) (width n : ℕ) (size : CellSize) (a : Attributes) (space : Bool) → space ≡ shows_as_space text → space ≡ false → size.len ≡ length text → size.is_wide ≡ (n == 2)
    → n ≡ (cell_of text width a).width → 1 ≤ n → n ≤ 2 → IsCellOf text width n size a
is_cell text width n size a space is not_is len wide columns some most = record { kept = sym is ∙ not_is; len = len; wide = wide; columns = columns; some = some; most = most }

module _ (text : List ℕ) (width n : ℕ) (size : CellSize) (a : Attributes) (is : IsCellOf text width n size a) where
  pub cell_takes : width_of size.is_wide ≡ n
  cell_takes = ap width_of is.wide ∙ by_two (eqb_tells n 2)
    where
      by_two : (((n == 2) ≡ true) × (n ≡ 2)) ⊎ (((n == 2) ≡ false) × (n ≡ 2 → ⊥)) → width_of (n == 2) ≡ n
      by_two (inl p) = ap width_of p.0 ∙ sym p.1
      by_two (inr p) = let some = is.some in let most = is.most in ap width_of p.0 ∙ omega (arith, p.1, some, most)

  pub cell_is_cut : IsUtf8 text → is_cut text (size ∷ []) ≡ true
  cell_is_cut u = one_cut text size is.len (by_plain (is_plain size) refl)
    where
      by_plain : (b : Bool) → is_plain size ≡ b → (if b then list_all is_printable text else is_utf8 text && not (shows_as_space text)) ≡ true
      by_plain false e = and_from (is_utf8 text) (not (shows_as_space text)) (is_utf8-from_IsUtf8 text u) (ap not is.kept)
      by_plain true e =
          let one = eqb-true size.len 1 (and_parts (not size.is_wide) (size.len == 1) e).1 in
          let len = is.len in
          one_printable text (omega (arith, one, len)) u is.kept

  cell_is : record { text = take size.len text; width = width_of size.is_wide; attributes = a } ≡ cell_of text width a
  cell_is =
      let taken : take size.len text ≡ text = ap (λ k. take k text) is.len ∙ take_all text in
      λ i. record { text = (taken ∙ ap (λ b. if b then 32 ∷ [] else text) (sym is.kept)) i; width = (cell_takes ∙ is.columns) i; attributes = a }

  pub cell_count : length (cell_columns (cell_of text width a)) ≡ n
  cell_count = count_cell text width n a is.columns is.some is.most

  -- its columns
  pub cell_row : row_of (faces_of text (size ∷ [])) (replicate n a) ≡ cell_columns (cell_of text width a)
  cell_row =
      let len = is.len in
      let all : columns_of (size ∷ []) ≡ n = omega (arith, cell_takes) in
      ap (λ k. row_of (faces_of text (size ∷ [])) (replicate k a)) (sym all) ∙ sym (cells_row text (size ∷ []) a (omega (arith, len)))
      ∙ append-nil (cell_columns (record { text = take size.len text; width = width_of size.is_wide; attributes = a })) ∙ ap cell_columns cell_is

  -- where it is a plain cell
  module _ (plain : is_plain size ≡ true) where
    one : length text ≡ 1
    one = let len = is.len in omega (arith, len, (plain_narrow_size size.is_wide size.len plain).1)

    pub cell_takes_one : n ≡ 1
    cell_takes_one = sym cell_takes ∙ ap width_of (plain_narrow_size size.is_wide size.len plain).0

    pub cell_fits : length text ≡ n
    cell_fits = one ∙ sym cell_takes_one

    module _ (u : IsUtf8 text) where
      pub cell_printable : list_all is_printable text ≡ true
      cell_printable = one_printable text one u is.kept

      pub cell_plain_row : row_of (plain_faces text) (replicate (length text) a) ≡ cell_columns (cell_of text width a)
      cell_plain_row =
          let len = is.len in
          let shown = (plain_are text (size ∷ []) cell_printable (ap (λ b. b && true) plain) (sym one)).shown in
          (λ i. row_of (sym shown i) (replicate (cell_fits i) a)) ∙ cell_row

-- ---- blanks

spaces_row : (n : ℕ) (a : Attributes) → row_of (plain_faces (replicate n 32)) (replicate n a) ≡ replicate n (blank a)
spaces_row zero a = refl
spaces_row (suc n) a = ap (λ (r : Row). blank a ∷ r) (spaces_row n a)

pub spaces_printable : (n : ℕ) → list_all is_printable (replicate n 32) ≡ true
spaces_printable zero = refl
spaces_printable (suc n) = spaces_printable n

-- spaces that are set are blanks
pub spaces_set : (row : Row) (at n : ℕ) (text : List ℕ) (a : Attributes) → text ≡ replicate n 32 → set_columns row at (row_of (plain_faces text) (replicate (length text) a)) ≡ set_columns row at (replicate n (blank a))
spaces_set row at n text a e =
    ap (λ t. set_columns row at (row_of (plain_faces t) (replicate (length t) a))) e
    ∙ ap (λ k. set_columns row at (row_of (plain_faces (replicate n 32)) (replicate k a))) (length-replicate n 32)
    ∙ ap (set_columns row at) (spaces_row n a)

-- blanks after blanks
pub blanks_on : (row now : Row) (at n m : ℕ) (a : Attributes) → now ≡ set_columns row at (replicate n (blank a)) → at + n ≤ length row → set_columns now (at + n) (replicate m (blank a)) ≡ set_columns row at (replicate (n + m) (blank a))
blanks_on row now at n m a e h =
    let count = length-replicate n (blank a) in
    (λ i. set_columns (e i) (at + sym count i) (replicate m (blank a)))
    ∙ set_columns-again row at (replicate n (blank a)) (replicate m (blank a)) (omega (arith, count, h)) (whole-blanks n a)
    ∙ ap (set_columns row at) (replicate-append-replicate n m (blank a))

-- a text may be cut between spaces
spaces_ascii : (n : ℕ) → IsAscii (replicate n 32)
spaces_ascii zero = IsAscii-nil
spaces_ascii (suc n) = IsAscii-cons 32 (replicate n 32) (omega arith) (spaces_ascii n)

pub spaces_cut : (n : ℕ) → n ≤ 64 → IsCharBoundary (replicate 64 32) n
spaces_cut n h = IsCharBoundary-from_ascii (replicate 64 32) n (spaces_ascii 64) h

-- the cell of a text of two columns takes one column exactly where a space replaces the text
pub two_or_space : (text : List ℕ) → ((if shows_as_space text then 1 else max 1 2) == 1) ≡ shows_as_space text
two_or_space text = by_cases (shows_as_space text)
  where
    by_cases : (b : Bool) → ((if b then 1 else max 1 2) == 1) ≡ b
    by_cases true = refl
    by_cases false = refl

-- ---- the start of a walk

module _ (f : List ℕ → ℕ) (room : ℕ) (text : List ℕ) (sizes : List CellSize) (n : ℕ) (rest : List ℕ) (w : IsWalked f room text sizes n rest) where
  -- the part of the text that the cells are cut from
  pub walk_prefix : take (length text - length rest) text ≡ w.prefix
  walk_prefix =
      let whole = w.whole in
      let long = length-append w.prefix rest in
      let count : length w.prefix ≡ length text - length rest = omega (arith, ap length whole, long) in
      ap (take (length text - length rest)) whole ∙ take_at w.prefix rest (length text - length rest) count

  pub walk_boundary : IsUtf8 text → IsCharBoundary text (length text - length rest)
  walk_boundary u = IsCharBoundary-from_take text (length text - length rest) u (omega arith) (subst IsUtf8 (sym walk_prefix) (IsUtf8-cut w.prefix sizes w.cut))

  module _ (row : Row) (at end : ℕ) (a : Attributes) (order : at ≤ end) (within : end ≤ length row) (rooms : room ≡ end - at) where
    leads_to : (next : Row) → next ≡ overlaid row at (cells_of w.prefix sizes a) → Leads f end a row at text next (at + n) rest
    leads_to next e =
        let on : at + room ≡ end = omega (arith, order, rooms) in
        subst (λ (r : Row). Leads f end a row at text r (at + n) rest) (sym e)
        (subst (λ k. Leads f k a row at text (overlaid row at (cells_of w.prefix sizes a)) (at + n) rest) on (w.leads a row at (omega (arith, on, within))))

    -- the cells are set
    pub walk_set : (prefix : List ℕ) (next : Row) → prefix ≡ take (length text - length rest) text → 0 < n → next ≡ set_columns row at (row_of (faces_of prefix sizes) (replicate n a))
        → Leads f end a row at text next (at + n) rest
    walk_set prefix next e some is =
        let bytes = w.bytes in
        let columns = w.columns in
        let fits = w.within in
        let faced : length (faces_of w.prefix sizes) ≡ n = length-cells w.prefix sizes bytes ∙ columns in
        let count : length (row_of (faces_of w.prefix sizes) (replicate n a)) ≡ n = length-row_of (faces_of w.prefix sizes) (replicate n a) (faced ∙ sym (length-replicate n a)) ∙ faced in
        leads_to next (is ∙ ap (λ t. set_columns row at (row_of (faces_of t sizes) (replicate n a))) (e ∙ walk_prefix)
        ∙ sym (cells_set row at w.prefix sizes n a bytes columns some count (omega (arith, order, within, rooms, fits))))
