-- A walk over the cells at the start of a text.
use Rattle.std.proofs.Common.{◌≡◌, ℕ, zero, suc, ◌+◌, ◌≤◌, ◌≢◌, ◌⊎◌, Bool, true, false, List, [], ◌∷◌, ◌++◌, IsUtf8, length, take, drop, refl, sym, ap, subst, ◌∙◌, append_assoc, length-append, arith, inl, inr}
use Rattle.std.specs.Prelude.{◌&&◌, ◌==◌, max, not, nat_lt, if◌then◌else◌}
use Rattle.std.specs.Char.{encode_utf8}
use Rattle.std.specs.List.{flat_map, list_all}
use Rattle.std.specs.Str.{is_utf8}
use Rattle.std.proofs.lemmas.Bool.{and_from, and_parts, eqb-true}
use Rattle.std.proofs.lemmas.Bool.Decides.{eqb_tells, nat_tests}
use Rattle.std.proofs.lemmas.Str.{is_utf8-from_IsUtf8}
use Rattle.std.proofs.lemmas.List.{take-append-drop, drop_all, length-drop, length-take-le}
use Rattle.text_clusters.specs.Independent.{is_independent}
use Rattle.text_clusters.specs.Plain.{is_printable}
use Rattle.text_clusters.proofs.TextLemmas.{first_alone, joined_clusters}
use Rattle.cell_base.specs.Attributes.{Attributes, plain}
use Rattle.cell_base.specs.CellContent.{CellContent, cell_of, shows_as_space}
use Rattle.cell_base.specs.Row.{Row}
use Rattle.cell_edits.specs.CellList.{cell_columns}
use Rattle.clustered_row.specs.SingleText.{begins_alone, stands_alone, BeginsSingle}
use Rattle.clustered_row.proofs.AloneLemmas.{cut_before}
use Rattle.cell_edits.specs.RowEdits.{overlaid}
use Rattle.cell_edits.specs.TextRuns.{Leads}
use Rattle.cell_edits.proofs.CellLemmas.{by_test}
use Rattle.clustered_row.proofs.SingleLemmas.{first_bytes, first_inside, first_kept, first_utf8, single_cell, single_count}
use Rattle.cell_edits.proofs.RowLaws.{length-overlaid, set_within}
use Rattle.cell_edits.proofs.RunLemmas.{leads_first, leads_same, overlaid-append, rest_first}
use Rattle.clustered_row.specs.declared.cell_size.CellSize.{CellSize}
use Rattle.clustered_row.specs.Sizes.{bytes_of, columns_of, is_cut, is_plain, is_text, width_of}
use Rattle.clustered_row.specs.Walk.{cells_of, IsWalked}
use Rattle.clustered_row.proofs.SizeLemmas.{bytes_of-append, columns_of-append, cut_join}

-- one leads to another, which leads on
pub leads_on : (f : List ℕ → ℕ) (end : ℕ) (a : Attributes) (row middle last : Row) (at between after : ℕ) (text left rest : List ℕ)
    → Leads f end a row at text middle between left → Leads f end a middle between left last after rest → Leads f end a row at text last after rest
leads_on f end a row middle last at between after text left rest p q =
    let first = p.order in
    let second = q.order in
    record {
      columns = q.columns ∙ p.columns;
      left = q.left ∙ p.left;
      after = q.after ∙ p.after;
      order = omega (arith, first, second);
      within = q.within;
      whole = q.whole;
    }

-- ---- one size more

-- the start of a text with a prefix of its own
prefix_of : (n : ℕ) (prefix more : List ℕ) → n ≤ length prefix → take n (prefix ++ more) ≡ take n prefix
prefix_of zero prefix more h = refl
prefix_of (suc n) [] more h = absurd (omega (arith, h))
prefix_of (suc n) (b ∷ prefix) more h = ap (λ (bs : List ℕ). b ∷ bs) (prefix_of n prefix more (omega (arith, h)))

after_of : (n : ℕ) (prefix more : List ℕ) → n ≤ length prefix → drop n (prefix ++ more) ≡ drop n prefix ++ more
after_of zero prefix more h = refl
after_of (suc n) [] more h = absurd (omega (arith, h))
after_of (suc n) (b ∷ prefix) more h = after_of n prefix more (omega (arith, h))

pub following_bytes : (size : CellSize) (sizes : List CellSize) (prefix : List ℕ) → bytes_of (size ∷ sizes) ≡ length prefix → bytes_of sizes ≡ length (drop size.len prefix)
following_bytes size sizes prefix e = omega (arith, e, length-drop size.len prefix)

pub take_all : (bs : List ℕ) → take (length bs) bs ≡ bs
take_all [] = refl
take_all (b ∷ bs) = ap (λ (cs : List ℕ). b ∷ cs) (take_all bs)

cells-more : (prefix more : List ℕ) (sizes : List CellSize) (size : CellSize) (a : Attributes) → bytes_of sizes ≡ length prefix → size.len ≡ length more
    → cells_of (prefix ++ more) (sizes ++ size ∷ []) a ≡ cells_of prefix sizes a ++ record { text = more; width = width_of size.is_wide; attributes = a } ∷ []
cells-more [] more [] size a e l = ap (λ (t : List ℕ). record { text = t; width = width_of size.is_wide; attributes = a } ∷ []) (ap (λ n. take n more) l ∙ take_all more)
cells-more (b ∷ prefix) more [] size a e l = absurd (omega (arith, e))
cells-more prefix more (first ∷ sizes) size a e l =
    (λ i. record { text = prefix_of first.len prefix more (omega (arith, e)) i; width = width_of first.is_wide; attributes = a }
    ∷ (ap (λ t. cells_of t (sizes ++ size ∷ []) a) (after_of first.len prefix more (omega (arith, e))) ∙ cells-more (drop first.len prefix) more sizes size a (following_bytes first sizes prefix e) l) i)

-- one cell
pub one_cut : (more : List ℕ) (size : CellSize) → size.len ≡ length more → is_text size more ≡ true → is_cut more (size ∷ []) ≡ true
one_cut more size l t = (λ i. is_text size ((ap (λ n. take n more) l ∙ take_all more) i) && list_all is_printable (drop_all size.len more (omega (arith, l)) i)) ∙ ap (λ b. b && true) t

-- ---- a character by itself

-- it has a byte
pub some_bytes : (c : ℕ) → 1 ≤ length (encode_utf8 c)
unfolding encode_utf8
some_bytes c = by_test (nat_lt c 128) (λ t. rw t (omega arith))
    (λ t. by_test (nat_lt c 2048) (λ u. rw (t, u) (omega arith)) (λ u. by_test (nat_lt c 65536) (λ v. rw (t, u, v) (omega arith)) (λ v. rw (t, u, v) (omega arith))))

-- of one byte it is printable ASCII
one_byte : (c : ℕ) → length (encode_utf8 c) ≡ 1 → stands_alone c ≡ true → list_all is_printable (encode_utf8 c) ≡ true
unfolding encode_utf8 is_independent
one_byte c l h = grind (arith, nat_tests)

-- the size of a character of n bytes and `width` columns
pub record IsSizeOf (n width : ℕ) (size : CellSize) : Type 0 where
  len : size.len ≡ n
  wide : size.is_wide ≡ (width == 2)

module _ (f : List ℕ → ℕ) (text : List ℕ) (n width : ℕ) (single : BeginsSingle f text n width) (u : IsUtf8 text) (size : CellSize) (is : IsSizeOf n width size) where
  single_text : is_text size (take n text) ≡ true
  single_text = by_plain (is_plain size) refl
    where
      by_plain : (b : Bool) → is_plain size ≡ b → (if b then list_all is_printable (take n text) else is_utf8 (take n text) && not (shows_as_space (take n text))) ≡ true
      by_plain false e =
          and_from (is_utf8 (take n text)) (not (shows_as_space (take n text))) (is_utf8-from_IsUtf8 (take n text) (first_utf8 text single.character n single.first u))
          (ap not (first_kept text single.character n single.first single.stands))
      by_plain true e =
          let one = eqb-true size.len 1 (and_parts (not size.is_wide) (size.len == 1) e).1 in
          let long : size.len ≡ n = is.len in
          let bytes = single.first.bytes in
          ap (list_all is_printable) (first_bytes text single.character n single.first) ∙ one_byte single.character (omega (arith, one, long, bytes)) single.stands

  module _ (a : Attributes) where
    single_is : record { text = take n text; width = width_of size.is_wide; attributes = a } ≡ cell_of (take n text) width a
    single_is =
        let kept : shows_as_space (take n text) ≡ false = first_kept text single.character n single.first single.stands in
        let some = single.some in
        let most = single.most in
        let columns : width_of size.is_wide ≡ max 1 width = ap width_of is.wide ∙ by_two (eqb_tells width 2) in
        λ i. record { text = (if sym kept i then 32 ∷ [] else take n text); width = (if sym kept i then 1 else columns i); attributes = a }
      where
        by_two : (((width == 2) ≡ true) × (width ≡ 2)) ⊎ (((width == 2) ≡ false) × (width ≢ 2)) → width_of (width == 2) ≡ max 1 width
        by_two (inl p) = let most = single.most in ap width_of p.0 ∙ omega (arith, p.1, most)
        by_two (inr p) = let some = single.some in let most = single.most in ap width_of p.0 ∙ omega (arith, p.1, some, most)

    -- it is set where it fits
    single_leads : (row : Row) (at end : ℕ) → at + width ≤ end → end ≤ length row → begins_alone (drop n text) ≡ true
        → Leads f end a row at text (overlaid row at (cell_of (take n text) width a ∷ [])) (at + width) (drop n text)
    single_leads row at end fits within alone =
        let cluster = take n text in
        let rest = drop n text in
        let cell = cell_of cluster width a in
        let is = first_bytes text single.character n single.first in
        let columns : width ≡ max 1 (f cluster) = single.columns ∙ ap (λ k. max 1 (f k)) (sym is) in
        let made : cell ≡ cell_of cluster (f cluster) a = ap (λ k. cell_of cluster k a) columns ∙ single_cell cluster (f cluster) a in
        let kept : shows_as_space cluster ≡ false = first_kept text single.character n single.first single.stands in
        let count = single_count cluster width a kept single.some single.most in
        let cut = cut_before text cluster rest single.character n u single.first single.stands refl refl alone in
        subst (λ k. Leads f end a row at text (overlaid row at (cell ∷ [])) (at + k) rest) count
        (leads_first f a row (overlaid row at (cell ∷ [])) at end text cluster rest cell (omega arith) within (omega (arith, count))
        cut (first_alone text cluster _ u cut) made (set_within row at cell (omega (arith, count)))
        (rest_first text cluster rest (joined_clusters text u) (sym (take-append-drop n text)) cut))

-- ---- the walk

pub walk_none : (f : List ℕ → ℕ) (room : ℕ) (text : List ℕ) → IsUtf8 text → IsWalked f room text [] 0 text
walk_none f room text u = record {
  prefix = [];
  whole = refl;
  cut = refl;
  bytes = refl;
  columns = refl;
  within = omega arith;
  leads = λ a row at h. subst (λ k. Leads f (at + room) a row at text row k text) (omega arith) (leads_same f a row at (at + room) text (omega arith) (joined_clusters text u));
}

-- one character more
pub walk_more : (f : List ℕ → ℕ) (room : ℕ) (text : List ℕ) (sizes : List CellSize) (count : ℕ) (left : List ℕ) (n width : ℕ) (size : CellSize) → IsWalked f room text sizes count left → BeginsSingle f left n width → IsUtf8 left
    → size.len ≡ n → size.is_wide ≡ (width == 2) → begins_alone (drop n left) ≡ true → count + width ≤ room → IsWalked f room text (sizes ++ size ∷ []) (count + width) (drop n left)
walk_more f room text sizes count left n width size w single u len wide alone fits =
    let is : IsSizeOf n width size = record { len = len; wide = wide } in
    let bytes = w.bytes in
    let columns = w.columns in
    let inside = first_inside left single.character n single.first in
    let long : size.len ≡ length (take n left) = len ∙ sym (length-take-le n left inside) in
    let two : width_of size.is_wide ≡ width = ap (λ (c : CellContent). c.width) (single_is f left n width single u size is plain) ∙ width_kept in
    record {
      prefix = w.prefix ++ take n left;
      whole = w.whole ∙ ap (λ l. w.prefix ++ l) (sym (take-append-drop n left)) ∙ sym (append_assoc w.prefix (take n left) (drop n left));
      cut = cut_join w.prefix (take n left) sizes (size ∷ []) bytes ∙ (λ i. w.cut i && one_cut (take n left) size long (single_text f left n width single u size is) i);
      bytes = bytes_of-append sizes (size ∷ []) ∙ omega (arith, bytes, long, length-append w.prefix (take n left));
      columns = columns_of-append sizes (size ∷ []) ∙ omega (arith, columns, two);
      within = fits;
      leads = λ a row at h.
          let cells = cells_of w.prefix sizes a in
          let middle = overlaid row at cells in
          let count_of : length (flat_map cell_columns cells) ≡ count = count_cells w.prefix sizes a ∙ columns in
          let wide_as : length middle ≡ length row = length-overlaid row at cells (omega (arith, count_of, fits, h)) in
          let all : overlaid row at (cells_of (w.prefix ++ take n left) (sizes ++ size ∷ []) a) ≡ overlaid middle (at + count) (cell_of (take n left) width a ∷ [])
          = ap (overlaid row at) (cells-more w.prefix (take n left) sizes size a bytes long ∙ ap (λ c. cells ++ c ∷ []) (single_is f left n width single u size is a))
          ∙ overlaid-append row at cells (cell_of (take n left) width a ∷ []) ∙ ap (λ k. overlaid middle (at + k) (cell_of (take n left) width a ∷ [])) count_of in
          let on : at + count + width ≡ at + (count + width) = omega arith in
          subst (λ (r : Row). Leads f (at + room) a row at text r (at + (count + width)) (drop n left)) (sym all)
          (subst (λ k. Leads f (at + room) a row at text (overlaid middle (at + count) (cell_of (take n left) width a ∷ [])) k (drop n left)) on
          (leads_on f (at + room) a row middle (overlaid middle (at + count) (cell_of (take n left) width a ∷ [])) at (at + count) (at + count + width) text left (drop n left) (w.leads a row at h)
          (single_leads f left n width single u size is a middle (at + count) (at + room) (omega (arith, fits)) (omega (arith, wide_as, h)) alone)));
    }
  where
    width_kept : (cell_of (take n left) width plain).width ≡ width
    width_kept =
        let kept : shows_as_space (take n left) ≡ false = first_kept left single.character n single.first single.stands in
        let some = single.some in
        ap (λ b. if b then 1 else max 1 width) kept ∙ omega (arith, some)

    count_one : (wide : Bool) (text : List ℕ) (a : Attributes) → length (cell_columns (record { text = text; width = width_of wide; attributes = a })) ≡ width_of wide
    count_one true text a = refl
    count_one false text a = refl

    count_cells : (prefix : List ℕ) (sizes : List CellSize) (a : Attributes) → length (flat_map cell_columns (cells_of prefix sizes a)) ≡ columns_of sizes
    count_cells prefix [] a = refl
    count_cells prefix (size ∷ sizes) a =
        let rest = count_cells (drop size.len prefix) sizes a in
        let first = count_one size.is_wide (take size.len prefix) a in
        length-append (cell_columns (record { text = take size.len prefix; width = width_of size.is_wide; attributes = a })) (flat_map cell_columns (cells_of (drop size.len prefix) sizes a)) ∙ omega (arith, rest, first)

pub single_some : (f : List ℕ → ℕ) (text : List ℕ) (n width : ℕ) → BeginsSingle f text n width → 1 ≤ n
single_some f text n width single = let bytes = single.first.bytes in let some = some_bytes single.character in omega (arith, bytes, some)
