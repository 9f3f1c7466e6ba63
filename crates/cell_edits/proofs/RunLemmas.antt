-- Blanks and texts that are set on a row at once.
use Rattle.std.proofs.Common.{◌≡◌, ℕ, zero, suc, ◌+◌, ◌-◌, ◌<◌, ◌≤◌, true, false, List, [], ◌∷◌, ◌++◌, length, take, drop, set, get_or, map, replicate, refl, sym, ap, ◌∙◌, append_assoc, length-append, arith, inl, inr}
use Rattle.std.specs.Prelude.{nat_le, if◌then◌else◌}
use Rattle.std.specs.List.{flat_map, concat, list_all}
use Rattle.std.specs.Char.{is_ascii_control}
use Rattle.std.proofs.lemmas.Bool.{and_parts, le-leb}
use Rattle.std.proofs.lemmas.Bool.Decides.{leb_tells}
use Rattle.std.proofs.lemmas.List.{append-nil, take_at, drop_all, drop_at, drop-drop, length-drop, length-take-le, length-replicate, replicate-append-replicate}
use Rattle.std.proofs.Math.Seq.{drop-append-add}
use Rattle.unicode_segmentation.specs.Grapheme.{graphemes}
use Rattle.text_clusters.specs.Plain.{is_printable, each}
use Rattle.cell_base.specs.Attributes.{Attributes}
use Rattle.cell_base.specs.CellContent.{CellContent, blank_cell, cell_of, row_of_cells}
use Rattle.cell_base.specs.Cluster.{read_cluster, clusters}
use Rattle.cell_base.specs.Row.{Row, blank, set_columns}
use Rattle.cell_base.proofs.PlainClusters.{read_alone, read_each}
use Rattle.cell_edits.specs.CellList.{ends_split, cell_columns, text_cells}
use Rattle.cell_edits.specs.RowEdits.{cut, cut_prefix, with_cell, overlaid}
use Rattle.cell_edits.specs.TextRuns.{fitting, text_after, plain_cells, Leads, Stops}
use Rattle.cell_edits.proofs.CellLemmas.{by_test, length-row, row_joined}
use Rattle.cell_edits.proofs.CutLemmas.{row_narrow_any, columns_narrow, length-cell_columns, set_one}
use Rattle.cell_edits.proofs.RowLaws.{overlaid_next, overlaid_within}

-- ---- positions written one after another

pub written_more : {X : Type 0} (first now done : List X) (at : ℕ) (x : X) → now ≡ done ++ drop at first → length done ≡ at → at < length first
    → set now at x ≡ (done ++ x ∷ []) ++ drop (at + 1) first
written_more {X} first now done at x e n h =
    let long : length now ≡ length done + length (drop at first) = ap length e ∙ length-append done (drop at first) in
    let rest = length-drop at first in
    let prefix : take at now ≡ done = ap (take at) e ∙ take_at done (drop at first) at n in
    let on : length done + 1 ≡ at + 1 = omega arith in
    let after : drop (at + 1) now ≡ drop (at + 1) first =
    ap (drop (at + 1)) e ∙ ap (λ m. drop m (done ++ drop at first)) (sym on) ∙ drop-append-add done (drop at first) 1 ∙ drop-drop 1 at first in
    set_one now at x (omega arith) ∙ (λ i. prefix i ++ x ∷ after i) ∙ sym (append_assoc done (x ∷ []) (drop (at + 1) first))

one_more : {X : Type 0} (n : ℕ) (x : X) → replicate n x ++ x ∷ [] ≡ replicate (suc n) x
one_more zero x = refl
one_more {X} (suc n) x = ap (λ (xs : List X). x ∷ xs) (one_more n x)

pub blanks_more : {X : Type 0} (first now : List X) (start at : ℕ) (x : X) → start ≤ at → at < length first → now ≡ take start first ++ replicate (at - start) x ++ drop at first
    → set now at x ≡ take start first ++ replicate (at + 1 - start) x ++ drop (at + 1) first
blanks_more {X} first now start at x o h e =
    let prefix = length-take-le start first (omega arith) in
    let count = length-replicate (at - start) x in
    let long = length-append (take start first) (replicate (at - start) x) in
    let on : suc (at - start) ≡ at + 1 - start = omega arith in
    written_more first now (take start first ++ replicate (at - start) x) at x e (omega arith) h
    ∙ ap (λ (xs : List X). xs ++ drop (at + 1) first) (append_assoc (take start first) (replicate (at - start) x) (x ∷ []) ∙ ap (λ (xs : List X). take start first ++ xs) (one_more (at - start) x ∙ ap (λ n. replicate n x) on))

-- blanks over all items, and after them up to the width: the row is all blanks
pub blanks_after : {X : Type 0} (first now new : List X) (len width : ℕ) (x : X) → len ≡ length first → len ≤ width → now ≡ take 0 first ++ replicate (len - 0) x ++ drop len first → new ≡ now ++ replicate (width - len) x → new ≡ replicate width x
blanks_after {X} first now new len width x e h n m =
    let all : len - 0 ≡ len = omega arith in
    let none : drop len first ≡ [] = drop_all len first (omega arith) in
    let on : len + (width - len) ≡ width = omega arith in
    m
    ∙ ap (λ (xs : List X). xs ++ replicate (width - len) x) (n ∙ (λ i. replicate (all i) x ++ none i) ∙ append-nil (replicate len x))
    ∙ replicate-append-replicate len (width - len) x
    ∙ ap (λ k. replicate k x) on

pub plain_at : (bytes : List ℕ) (i d : ℕ) → list_all is_printable bytes ≡ true → i < length bytes → is_printable (get_or bytes i d) ≡ true
plain_at [] i d p h = absurd (omega arith)
plain_at (b ∷ bytes) zero d p h = (and_parts (is_printable b) (list_all is_printable bytes) p).0
plain_at (b ∷ bytes) (suc i) d p h = plain_at bytes i d (and_parts (is_printable b) (list_all is_printable bytes) p).1 (omega arith)

pub plain_length : (bytes : List ℕ) (a : Attributes) → length (plain_cells bytes a) ≡ length bytes
plain_length [] a = refl
plain_length (b ∷ bytes) a = ap suc (plain_length bytes a)

pub each_length : (bytes : List ℕ) → length (each bytes) ≡ length bytes
each_length [] = refl
each_length (b ∷ bytes) = ap suc (each_length bytes)

plain_taken : (bytes : List ℕ) (i d : ℕ) (a : Attributes) → i < length bytes → plain_cells (take i bytes) a ++ cell_of (get_or bytes i d ∷ []) 1 a ∷ [] ≡ plain_cells (take (suc i) bytes) a
plain_taken [] i d a h = absurd (omega arith)
plain_taken (b ∷ bytes) zero d a h = refl
plain_taken (b ∷ bytes) (suc i) d a h = ap (λ (cs : List CellContent). cell_of (b ∷ []) 1 a ∷ cs) (plain_taken bytes i d a (omega arith))

pub plain_more : (first now : List CellContent) (start i d : ℕ) (bytes : List ℕ) (a : Attributes) → i < length bytes → start + length bytes ≤ length first
    → now ≡ take start first ++ plain_cells (take i bytes) a ++ drop (start + i) first
    → set now (start + i) (cell_of (get_or bytes i d ∷ []) 1 a) ≡ take start first ++ plain_cells (take (i + 1) bytes) a ++ drop (start + (i + 1)) first
plain_more first now start i d bytes a h l e =
    let prefix = length-take-le start first (omega arith) in
    let taken = length-take-le i bytes (omega arith) in
    let count = plain_length (take i bytes) a in
    let long = length-append (take start first) (plain_cells (take i bytes) a) in
    let on : suc i ≡ i + 1 = omega arith in
    let next : start + i + 1 ≡ start + (i + 1) = omega arith in
    written_more first now (take start first ++ plain_cells (take i bytes) a) (start + i) _ e (omega arith) (omega arith)
    ∙ (λ j. (append_assoc (take start first) (plain_cells (take i bytes) a) (cell_of (get_or bytes i d ∷ []) 1 a ∷ [])
    ∙ ap (λ (cs : List CellContent). take start first ++ cs) (plain_taken bytes i d a h ∙ ap (λ n. plain_cells (take n bytes) a) on)) j ++ drop (next j) first)

-- ---- their rows

blanks_row : (n : ℕ) (a : Attributes) (cells : List CellContent) → row_of_cells (replicate n (blank_cell a) ++ cells) ≡ replicate n (blank a) ++ row_of_cells cells
blanks_row zero a cells = refl
blanks_row (suc n) a cells = row_narrow_any (blank_cell a) (replicate n (blank_cell a) ++ cells) refl ∙ ap (λ (r : Row). blank a ∷ r) (blanks_row n a cells)

-- cells between those before and after them
between : (before after mid : List CellContent) (b d m : Row) → ends_split before ≡ false → row_of_cells before ≡ b → row_of_cells after ≡ d
    → ((cells : List CellContent) → row_of_cells (mid ++ cells) ≡ m ++ row_of_cells cells) → row_of_cells (before ++ mid ++ after) ≡ b ++ m ++ d
between before after mid b d m w p q t =
    ap row_of_cells (append_assoc before mid after) ∙ row_joined before (mid ++ after) w
    ∙ (λ i. p i ++ (t after ∙ ap (λ (r : Row). m ++ r) q) i) ∙ sym (append_assoc b m d)

pub blanks_set : (cells opened now : List CellContent) (start end : ℕ) (a : Attributes) → start ≤ end → ends_split (take start opened) ≡ false
    → row_of_cells (take start opened) ≡ cut start (row_of_cells cells) → row_of_cells (drop end opened) ≡ cut_prefix end (row_of_cells cells)
    → now ≡ take start opened ++ replicate (end - start) (blank_cell a) ++ drop end opened
    → row_of_cells now ≡ set_columns (row_of_cells cells) start (replicate (end - start) (blank a))
blanks_set cells opened now start end a o w p q e =
    let count = length-replicate (end - start) (blank a) in
    let last : end ≡ start + length (replicate (end - start) (blank a)) = omega arith in
    ap row_of_cells e
    ∙ between (take start opened) (drop end opened) (replicate (end - start) (blank_cell a)) _ _ (replicate (end - start) (blank a)) w p q (blanks_row (end - start) a)
    ∙ ap (λ n. cut start (row_of_cells cells) ++ replicate (end - start) (blank a) ++ cut_prefix n (row_of_cells cells)) last

pub plain_narrow : (byte : ℕ) (a : Attributes) → nat_le 2 (cell_of (byte ∷ []) 1 a).width ≡ false
plain_narrow byte a = by_test (is_ascii_control byte) (λ e. rw e refl) (λ e. rw e refl)

plain_columns : (bytes : List ℕ) (a : Attributes) (cells : List CellContent) → row_of_cells (plain_cells bytes a ++ cells) ≡ flat_map cell_columns (plain_cells bytes a) ++ row_of_cells cells
plain_columns [] a cells = refl
plain_columns (b ∷ bytes) a cells =
    row_narrow_any (cell_of (b ∷ []) 1 a) (plain_cells bytes a ++ cells) (plain_narrow b a)
    ∙ (λ i. sym (columns_narrow (cell_of (b ∷ []) 1 a) (plain_narrow b a)) i ++ plain_columns bytes a cells i)
    ∙ sym (append_assoc (cell_columns (cell_of (b ∷ []) 1 a)) (flat_map cell_columns (plain_cells bytes a)) (row_of_cells cells))

pub plain_count : (bytes : List ℕ) (a : Attributes) → length (flat_map cell_columns (plain_cells bytes a)) ≡ length bytes
plain_count [] a = refl
plain_count (b ∷ bytes) a =
    let one = ap length (columns_narrow (cell_of (b ∷ []) 1 a) (plain_narrow b a)) in
    let both = length-append (cell_columns (cell_of (b ∷ []) 1 a)) (flat_map cell_columns (plain_cells bytes a)) in
    let rest = plain_count bytes a in
    omega arith

pub plain_set : (cells opened now : List CellContent) (at : ℕ) (bytes : List ℕ) (a : Attributes) → 0 < length bytes → at + length bytes ≤ length cells → ends_split (take at opened) ≡ false
    → row_of_cells (take at opened) ≡ cut at (row_of_cells cells) → row_of_cells (drop (at + length bytes) opened) ≡ cut_prefix (at + length bytes) (row_of_cells cells)
    → now ≡ take at opened ++ plain_cells bytes a ++ drop (at + length bytes) opened
    → row_of_cells now ≡ overlaid (row_of_cells cells) at (plain_cells bytes a)
plain_set cells opened now at bytes a some l w p q e =
    let count = plain_count bytes a in
    let n = length-row cells in
    let m = plain_length bytes a in
    let last : at + length bytes ≡ at + length (flat_map cell_columns (plain_cells bytes a)) = omega arith in
    ap row_of_cells e
    ∙ between (take at opened) (drop (at + length bytes) opened) (plain_cells bytes a) _ _ (flat_map cell_columns (plain_cells bytes a)) w p q (plain_columns bytes a)
    ∙ ap (λ k. cut at (row_of_cells cells) ++ flat_map cell_columns (plain_cells bytes a) ++ cut_prefix k (row_of_cells cells)) last
    ∙ sym (overlaid_within (row_of_cells cells) at (plain_cells bytes a) (omega arith) (omega arith))

-- ---- cells that fit

leb_false : (m n : ℕ) → n < m → nat_le m n ≡ false
leb_false m n h = elim (leb_tells m n) [ inl p ↦ absurd (omega arith) | inr p ↦ p.0 ]

pub fitting_cell : (room : ℕ) (cell : CellContent) (cells : List CellContent) → length (cell_columns cell) ≤ room → fitting room (cell ∷ cells) ≡ cell ∷ fitting (room - length (cell_columns cell)) cells
fitting_cell room cell cells h = ap (λ t. if t then cell ∷ fitting (room - length (cell_columns cell)) cells else []) (le-leb (length (cell_columns cell)) room h)

pub fitting_stops : (room : ℕ) (cell : CellContent) (cells : List CellContent) → room < length (cell_columns cell) → fitting room (cell ∷ cells) ≡ []
fitting_stops room cell cells h = ap (λ t. if t then cell ∷ fitting (room - length (cell_columns cell)) cells else []) (leb_false (length (cell_columns cell)) room h)

pub fitting_none : (cells : List CellContent) → fitting 0 cells ≡ []
fitting_none [] = refl
fitting_none (cell ∷ cells) = fitting_stops 0 cell cells (elim (length-cell_columns cell) [ inl e ↦ omega arith | inr e ↦ omega arith ])

pub fitting_prefix : (room : ℕ) (bytes : List ℕ) (a : Attributes) (cells : List CellContent) → length bytes ≤ room → fitting room (plain_cells bytes a ++ cells) ≡ plain_cells bytes a ++ fitting (room - length bytes) cells
fitting_prefix room [] a cells h = let e : room ≡ room - 0 = omega arith in ap (λ n. fitting n cells) e
fitting_prefix room (b ∷ bytes) a cells h =
    let one = ap length (columns_narrow (cell_of (b ∷ []) 1 a) (plain_narrow b a)) in
    let less : room - length (cell_columns (cell_of (b ∷ []) 1 a)) ≡ room - 1 = ap (λ n. room - n) one in
    let on : room - 1 - length bytes ≡ room - suc (length bytes) = omega arith in
    fitting_cell room (cell_of (b ∷ []) 1 a) (plain_cells bytes a ++ cells) (omega arith)
    ∙ ap (λ (cs : List CellContent). cell_of (b ∷ []) 1 a ∷ cs) (ap (λ n. fitting n (plain_cells bytes a ++ cells)) less ∙ fitting_prefix (room - 1) bytes a cells (omega arith) ∙ ap (λ n. plain_cells bytes a ++ fitting n cells) on)

pub overlaid-append : (row : Row) (at : ℕ) (xs ys : List CellContent) → overlaid row at (xs ++ ys) ≡ overlaid (overlaid row at xs) (at + length (flat_map cell_columns xs)) ys
overlaid-append row at [] ys = let e : at ≡ at + 0 = omega arith in ap (λ n. overlaid row n ys) e
overlaid-append row at (x ∷ xs) ys =
    let both = length-append (cell_columns x) (flat_map cell_columns xs) in
    let on : at + length (cell_columns x) + length (flat_map cell_columns xs) ≡ at + length (cell_columns x ++ flat_map cell_columns xs) = omega arith in
    overlaid-append (with_cell row at x) (at + length (cell_columns x)) xs ys ∙ ap (λ n. overlaid (overlaid row at (x ∷ xs)) n ys) on

-- the columns of two lists of cells
columns-append : (xs ys : List CellContent) → length (flat_map cell_columns (xs ++ ys)) ≡ length (flat_map cell_columns xs) + length (flat_map cell_columns ys)
columns-append [] ys = omega arith
columns-append (x ∷ xs) ys =
    let first = length-append (cell_columns x) (flat_map cell_columns (xs ++ ys)) in
    let both = length-append (cell_columns x) (flat_map cell_columns xs) in
    let rest = columns-append xs ys in
    omega (arith, first, both, rest)

-- ---- the cells of a text

module _ (width_of : List ℕ → ℕ) (a : Attributes) where
  abbrev made : List ℕ → CellContent
  made cluster = cell_of cluster (width_of cluster) a

  made_each : (prefix : List ℕ) (gs : List (List ℕ)) → list_all is_printable prefix ≡ true → ((byte : ℕ) → is_printable byte ≡ true → width_of (byte ∷ []) ≡ 1) → map made (each prefix ++ gs) ≡ plain_cells prefix a ++ map made gs
  made_each [] gs p n = refl
  made_each (b ∷ prefix) gs p n =
      let parts = and_parts (is_printable b) (list_all is_printable prefix) p in
      λ i. cell_of (b ∷ []) (n b parts.0 i) a ∷ made_each prefix gs parts.1 n i

  pub cells_prefix : (text prefix rest : List ℕ) → graphemes true text ≡ each prefix ++ graphemes true rest → list_all is_printable prefix ≡ true → ((byte : ℕ) → is_printable byte ≡ true → width_of (byte ∷ []) ≡ 1)
      → text_cells width_of text a ≡ plain_cells prefix a ++ text_cells width_of rest a
  cells_prefix text prefix rest e p n =
      ap (λ gs. map made (map read_cluster gs)) e ∙ ap (map made) (read_each prefix (graphemes true rest) p) ∙ made_each prefix (clusters rest) p n

  pub cells_first : (text g rest : List ℕ) → graphemes true text ≡ g ∷ graphemes true rest → graphemes true g ≡ g ∷ [] → text_cells width_of text a ≡ cell_of g (width_of g) a ∷ text_cells width_of rest a
  cells_first text g rest e alone = ap (λ gs. map made (map read_cluster gs)) e ∙ ap (λ c. made c ∷ text_cells width_of rest a) (read_alone g alone)

  -- ---- steps

  pub leads_prefix : (row next : Row) (at end : ℕ) (text prefix rest : List ℕ) → at ≤ end → length prefix ≤ end - at → graphemes true text ≡ each prefix ++ graphemes true rest → list_all is_printable prefix ≡ true
      → ((byte : ℕ) → is_printable byte ≡ true → width_of (byte ∷ []) ≡ 1) → next ≡ overlaid row at (plain_cells prefix a) → concat (graphemes true rest) ≡ rest → Leads width_of end a row at text next (at + length prefix) rest
  leads_prefix row next at end text prefix rest o l e p n is whole =
      let cells = cells_prefix text prefix rest e p n in
      let room : end - at - length prefix ≡ end - (at + length prefix) = omega arith in
      let fit : fitting (end - at) (text_cells width_of text a) ≡ plain_cells prefix a ++ fitting (end - (at + length prefix)) (text_cells width_of rest a) =
      ap (fitting (end - at)) cells ∙ fitting_prefix (end - at) prefix a (text_cells width_of rest a) l ∙ ap (λ k. plain_cells prefix a ++ fitting k (text_cells width_of rest a)) room in
      let count = plain_count prefix a in
      let on : at + length (flat_map cell_columns (plain_cells prefix a)) ≡ at + length prefix = omega arith in
      let more = length-append (plain_cells prefix a) (fitting (end - (at + length prefix)) (text_cells width_of rest a)) in
      let plain = plain_length prefix a in
      let bytes = each_length prefix in
      let fits = ap length fit in
      let rest_cells = fitting (end - (at + length prefix)) (text_cells width_of rest a) in
      let wide : length (flat_map cell_columns (fitting (end - at) (text_cells width_of text a))) ≡ length (flat_map cell_columns (plain_cells prefix a)) + length (flat_map cell_columns rest_cells) =
      ap (λ (cs : List CellContent). length (flat_map cell_columns cs)) fit ∙ columns-append (plain_cells prefix a) rest_cells in
      let drops : length (each prefix) + length (fitting (end - (at + length prefix)) (text_cells width_of rest a)) ≡ length (fitting (end - at) (text_cells width_of text a)) = omega arith in
      record {
        columns = sym (ap (overlaid row at) fit ∙ overlaid-append row at (plain_cells prefix a) _ ∙ (λ i. overlaid (sym is i) (on i) (fitting (end - (at + length prefix)) (text_cells width_of rest a))));
        after = omega (arith, wide, count);
        left = ap concat (sym (drop-append-add (each prefix) (graphemes true rest) (length (fitting (end - (at + length prefix)) (text_cells width_of rest a)))) ∙ (λ i. drop (drops i) (sym e i)));
        order = omega arith;
        within = omega arith;
        whole = whole;
      }

  pub leads_first : (row next : Row) (at end : ℕ) (text g rest : List ℕ) (cell : CellContent) → at ≤ end → end ≤ length row → length (cell_columns cell) ≤ end - at → graphemes true text ≡ g ∷ graphemes true rest
      → graphemes true g ≡ g ∷ [] → cell ≡ cell_of g (width_of g) a → next ≡ set_columns row at (cell_columns cell) → concat (graphemes true rest) ≡ rest → Leads width_of end a row at text next (at + length (cell_columns cell)) rest
  leads_first row next at end text g rest cell o l k e alone is step whole =
      let cells : text_cells width_of text a ≡ cell ∷ text_cells width_of rest a = cells_first text g rest e alone ∙ ap (λ c. c ∷ text_cells width_of rest a) (sym is) in
      let room : end - at - length (cell_columns cell) ≡ end - (at + length (cell_columns cell)) = omega arith in
      let fit : fitting (end - at) (text_cells width_of text a) ≡ cell ∷ fitting (end - (at + length (cell_columns cell))) (text_cells width_of rest a) =
      ap (fitting (end - at)) cells ∙ fitting_cell (end - at) cell (text_cells width_of rest a) k ∙ ap (λ n. cell ∷ fitting n (text_cells width_of rest a)) room in
      let rest_cells = fitting (end - (at + length (cell_columns cell))) (text_cells width_of rest a) in
      let wide : length (flat_map cell_columns (fitting (end - at) (text_cells width_of text a))) ≡ length (cell_columns cell) + length (flat_map cell_columns rest_cells) =
      ap (λ (cs : List CellContent). length (flat_map cell_columns cs)) fit ∙ length-append (cell_columns cell) (flat_map cell_columns rest_cells) in
      record {
        columns = sym (ap (overlaid row at) fit ∙ overlaid_next row at cell (fitting (end - (at + length (cell_columns cell))) (text_cells width_of rest a)) (omega arith) ∙ ap (λ (r : Row). overlaid r (at + length (cell_columns cell)) (fitting (end - (at + length (cell_columns cell))) (text_cells width_of rest a))) (sym step));
        left = sym (λ i. concat (drop (length (fit i)) (e i)));
        after = omega (arith, wide);
        order = omega arith;
        within = omega arith;
        whole = whole;
      }

  stopped : (row : Row) (at end : ℕ) (text : List ℕ) → concat (graphemes true text) ≡ text → fitting (end - at) (text_cells width_of text a) ≡ [] → Stops width_of end a row at text
  stopped row at end text whole e = record {
    columns = ap (overlaid row at) e;
    left = ap (λ (cs : List CellContent). text_after (length cs) text) e ∙ whole;
    after = let none = ap (λ (cs : List CellContent). length (flat_map cell_columns cs)) e in omega (arith, none);
  }

  pub stops_full : (row : Row) (at end : ℕ) (text : List ℕ) → concat (graphemes true text) ≡ text → end ≤ at → Stops width_of end a row at text
  stops_full row at end text whole h =
      let none : end - at ≡ 0 = omega arith in
      stopped row at end text whole (ap (λ n. fitting n (text_cells width_of text a)) none ∙ fitting_none (text_cells width_of text a))

  pub stops_empty : (row : Row) (at end : ℕ) (text : List ℕ) → concat (graphemes true text) ≡ text → graphemes true text ≡ [] → Stops width_of end a row at text
  stops_empty row at end text whole e = stopped row at end text whole (ap (λ gs. fitting (end - at) (map made (map read_cluster gs))) e)

  pub stops_wide : (row : Row) (at end : ℕ) (text g rest : List ℕ) (cell : CellContent) → concat (graphemes true text) ≡ text → end - at < length (cell_columns cell) → graphemes true text ≡ g ∷ graphemes true rest → graphemes true g ≡ g ∷ []
      → cell ≡ cell_of g (width_of g) a → Stops width_of end a row at text
  stops_wide row at end text g rest cell whole h e alone is =
      stopped row at end text whole (ap (fitting (end - at)) (cells_first text g rest e alone ∙ ap (λ c. c ∷ text_cells width_of rest a) (sym is)) ∙ fitting_stops (end - at) cell (text_cells width_of rest a) h)

  pub leads_same : (row : Row) (at end : ℕ) (text : List ℕ) → at ≤ end → concat (graphemes true text) ≡ text → Leads width_of end a row at text row at text
  leads_same row at end text o whole = record { columns = refl; left = refl; after = refl; order = omega arith; within = o; whole = whole }

-- ---- the rest of a text

joined_each : (prefix : List ℕ) (gs : List (List ℕ)) → concat (each prefix ++ gs) ≡ prefix ++ concat gs
joined_each [] gs = refl
joined_each (b ∷ prefix) gs = ap (λ (bs : List ℕ). b ∷ bs) (joined_each prefix gs)

same_after : (prefix xs ys : List ℕ) → prefix ++ xs ≡ prefix ++ ys → xs ≡ ys
same_after prefix xs ys e = sym (drop_at prefix xs (length prefix) refl) ∙ ap (drop (length prefix)) e ∙ drop_at prefix ys (length prefix) refl

pub rest_prefix : (text prefix rest : List ℕ) → concat (graphemes true text) ≡ text → text ≡ prefix ++ rest → graphemes true text ≡ each prefix ++ graphemes true rest → concat (graphemes true rest) ≡ rest
rest_prefix text prefix rest whole parts e = same_after prefix _ rest (sym (joined_each prefix (graphemes true rest)) ∙ ap concat (sym e) ∙ whole ∙ parts)

pub rest_first : (text g rest : List ℕ) → concat (graphemes true text) ≡ text → text ≡ g ++ rest → graphemes true text ≡ g ∷ graphemes true rest → concat (graphemes true rest) ≡ rest
rest_first text g rest whole parts e = same_after g _ rest (ap concat (sym e) ∙ whole ∙ parts)
