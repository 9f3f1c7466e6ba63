-- Runs of clusters that are put on a grid, as far as they fit in the cursor's row.
use Rattle.std.proofs.Common.{◌≡◌, ℕ, zero, suc, ◌+◌, ◌-◌, ◌<◌, ◌≤◌, Bool, true, false, List, [], ◌∷◌, ◌++◌, length, take, drop, set, map, refl, sym, ap, subst, ◌∙◌, arith, inl, inr, ◌⊎◌, length-append, length-drop}
use Rattle.std.specs.Prelude.{◌==◌, ◌&&◌, not, nat_lt, nat_le, max, if◌then◌else◌}
use Rattle.std.specs.List.{concat, flat_map, list_all}
use Rattle.std.proofs.lemmas.Bool.{and_parts}
use Rattle.std.proofs.lemmas.Bool.Decides.{leb_tells, nat_tests}
use Rattle.std.proofs.lemmas.List.{append-nil, drop_all, set-get_or, get_or-set_same}
use Rattle.unicode_segmentation.specs.Grapheme.{graphemes}
use Rattle.text_clusters.specs.Plain.{each, is_printable}
use Rattle.text_clusters.proofs.PlainLemmas.{graphemes-nil, whole_run}
use Rattle.cell_base.specs.Cluster.{clusters, read_cluster}
use Rattle.cell_base.proofs.PlainClusters.{plain_alone}
use Rattle.cell_base.specs.Attributes.{Attributes}
use Rattle.cell_base.specs.CellContent.{CellContent, cell_of, shows_as_space}
use Rattle.cell_base.specs.Row.{Row, space, columns_of}
use Rattle.cell_line.specs.LineContent.{LineContent, line_of}
use Rattle.cell_edits.specs.CellList.{cell_columns, text_cells}
use Rattle.cell_edits.specs.RowEdits.{overlaid}
use Rattle.cell_edits.specs.TextRuns.{fitting, plain_cells}
use Rattle.cell_edits.proofs.RowLaws.{overlaid_next}
use Rattle.cell_edits.proofs.RunLemmas.{cells_prefix, each_length, fitting_cell, fitting_prefix, fitting_stops, plain_count, plain_length}
use Rattle.cell_line.specs.LineCalls.{set_plain as plain_set}
use Rattle.screen_grid.specs.Grid.{Grid, IsDrawn, Shows, LeadsOn, clusters_done, grid_with, display_of, line_at, line_with}
use Rattle.screen_effects.specs.Parts.{stand}
use Rattle.screen_grid.proofs.LineLemmas.{line_width, row_in}
use Rattle.screen_grid.proofs.PartLemmas.{prefix_leads}
use Rattle.screen_grid.proofs.PutLemmas.{put_here}
use Rattle.screen_effects.proofs.TextLemmas.{plain_parts, plain_stands, printable_all}
use Rattle.screen_effects.specs.Display.{Display}
use Rattle.screen_effects.specs.Strokes.{Cluster, stroke_done, text_done}

-- the cells of printable characters of one column each
cells_of_plain : (width_of : List ℕ → ℕ) (text : List ℕ) (a : Attributes) → list_all is_printable text ≡ true → ((byte : ℕ) → is_printable byte ≡ true → width_of (byte ∷ []) ≡ 1) → text_cells width_of text a ≡ plain_cells text a
cells_of_plain width_of text a p narrow =
    let none : text_cells width_of [] a ≡ [] = ap (λ xs. map (λ cluster. cell_of cluster (width_of cluster) a) (map read_cluster xs)) graphemes-nil in
    let each_one : graphemes true text ≡ each text ++ graphemes true [] = whole_run text (printable_all text p) ∙ sym (append-nil (each text)) ∙ ap (λ (xs : List (List ℕ)). each text ++ xs) (sym graphemes-nil) in
    cells_prefix width_of a text text [] each_one p narrow ∙ ap (λ (xs : List CellContent). plain_cells text a ++ xs) none ∙ append-nil (plain_cells text a)

set_set : {A : Type 0} (xs : List A) (i : ℕ) (x y : A) → set (set xs i x) i y ≡ set xs i y
set_set [] i x y = refl
set_set (z ∷ xs) zero x y = refl
set_set {A} (z ∷ xs) (suc i) x y = ap (λ (l : List A). z ∷ l) (set_set xs i x y)

pub not_true : (b : Bool) → not b ≡ true → b ≡ false
not_true true e = sym e
not_true false e = refl

-- the columns of a cluster that a cell can hold, where they fit on the screen
pub same_columns : (width_of : List ℕ → ℕ) (cluster : List ℕ) (width : ℕ) (a : Attributes) → shows_as_space cluster ≡ false → length (cell_columns (cell_of cluster (width_of cluster) a)) ≤ width
    → columns_of (if nat_le 2 (width_of cluster) && width == 1 then space else cluster) (nat_le 2 (width_of cluster) && nat_lt 1 width) a ≡ cell_columns (cell_of cluster (width_of cluster) a)
same_columns width_of cluster width a s h =
    let n = width_of cluster in
    let plain : cell_columns (cell_of cluster n a) ≡ columns_of cluster (nat_le 2 (max 1 n)) a = ap (λ b. columns_of (if b then space else cluster) (nat_le 2 (if b then 1 else max 1 n)) a) s in
    let same : nat_le 2 (max 1 n) ≡ nat_le 2 n = grind (arith, nat_tests) in
    let columns : cell_columns (cell_of cluster n a) ≡ columns_of cluster (nat_le 2 n) a = plain ∙ ap (λ b. columns_of cluster b a) same in
    by_cases (nat_le 2 n) (let e = ap length columns in omega arith) ∙ sym columns
  where
    by_cases : (b : Bool) → length (columns_of cluster b a) ≤ width → columns_of (if b && width == 1 then space else cluster) (b && nat_lt 1 width) a ≡ columns_of cluster b a
    by_cases false k = refl
    by_cases true k =
        let one : (width == 1) ≡ false = grind (arith, nat_tests) in
        let more : nat_lt 1 width ≡ true = grind (arith, nat_tests) in
        (λ i. columns_of (if one i then space else cluster) (more i) a)

abbrev made : (List ℕ → ℕ) → Attributes → List ℕ → CellContent
made width_of a cluster = cell_of cluster (width_of cluster) a

stand-drop : (n : ℕ) (gs : List (List ℕ)) → stand gs ≡ true → stand (drop n gs) ≡ true
stand-drop zero gs s = s
stand-drop (suc n) [] s = refl
stand-drop (suc n) (g ∷ gs) s = stand-drop n gs (and_parts (not (shows_as_space g)) (stand gs) s).1

done-append : (width_of : List ℕ → ℕ) (d : Display) (n : ℕ) (gs : List (List ℕ)) → clusters_done width_of (clusters_done width_of d (take n gs)) (drop n gs) ≡ clusters_done width_of d gs
done-append width_of d zero gs = refl
done-append width_of d (suc n) [] = refl
done-append width_of d (suc n) (g ∷ gs) = done-append width_of (stroke_done width_of d (Cluster g)) n gs

module _ {W : Type 0} (width_of : List ℕ → ℕ) where
  -- the cells of some clusters that fit after the cursor
  abbrev pub fitting_here : Grid W → List (List ℕ) → List CellContent
  fitting_here c gs = fitting (c.width - c.column) (map (made width_of c.pen) gs)

  -- the grid with cells set from the cursor on, which goes after them
  abbrev pub grid_on : Grid W → List CellContent → Grid W
  grid_on c cells = record c { lines = set c.lines c.row (record (line_at c.lines c.row) { columns = overlaid (line_at c.lines c.row).columns c.column cells }); column = c.column + length (flat_map cell_columns cells) }

  nothing_on : (c : Grid W) → grid_on c [] ≡ c
  nothing_on c = let zero_more : c.column + 0 ≡ c.column = omega arith in λ i. record c { lines = set-get_or c.lines c.row (line_of 0 []) i; column = zero_more i }

  -- one cell, and then the remaining ones
  next_on : (c : Grid W) (cell : CellContent) (cells : List CellContent) → IsDrawn c → c.column + length (cell_columns cell) ≤ c.width
      → grid_on (grid_with c (cell_columns cell) (length (cell_columns cell))) cells ≡ grid_on c (cell ∷ cells)
  next_on c cell cells h k =
      let first = line_with c (cell_columns cell) in
      let inside = row_in c h in
      let line : line_at (set c.lines c.row first) c.row ≡ first = get_or-set_same c.lines c.row first (line_of 0 []) inside in
      let n = length (cell_columns cell) in
      let both = length-append (cell_columns cell) (flat_map cell_columns cells) in
      let on : c.column + n + length (flat_map cell_columns cells) ≡ c.column + length (cell_columns cell ++ flat_map cell_columns cells) = omega arith in
      let fits : c.column + n ≤ length (line_at c.lines c.row).columns = let w = line_width c c.row h inside in omega arith in
      let row = overlaid_next (line_at c.lines c.row).columns c.column cell cells fits in
      let lines : set (set c.lines c.row first) c.row (record (line_at (set c.lines c.row first) c.row) { columns = overlaid (line_at (set c.lines c.row first) c.row).columns (c.column + n) cells })
      ≡ set c.lines c.row (record (line_at c.lines c.row) { columns = overlaid (line_at c.lines c.row).columns c.column (cell ∷ cells) }) =
      set_set c.lines c.row first _ ∙ ap (λ (l : LineContent). set c.lines c.row (record l { columns = overlaid l.columns (c.column + n) cells })) line
      ∙ ap (λ (r : Row). set c.lines c.row (record (line_at c.lines c.row) { columns = r })) (sym row) in
      λ i. record c { lines = lines i; column = on i }

  -- the clusters that fit are put one after another
  abbrev RunOn : List (List ℕ) → Grid W → Type 0
  RunOn gs c = Shows c (grid_on c (fitting_here c gs)) (clusters_done width_of (display_of c) (take (length (fitting_here c gs)) gs))

  first_on : (g : List ℕ) (gs : List (List ℕ)) (c : Grid W) → IsDrawn c → stand (g ∷ gs) ≡ true → ((here : Grid W) → IsDrawn here → stand gs ≡ true → RunOn gs here) → RunOn (g ∷ gs) c
  first_on g gs c h s remaining = by_test (leb_tells n room)
    where
      cell : CellContent
      cell = made width_of c.pen g

      n : ℕ
      n = length (cell_columns cell)

      room : ℕ
      room = c.width - c.column

      Holds : List CellContent → Type 0
      Holds cells = Shows c (grid_on c cells) (clusters_done width_of (display_of c) (take (length cells) (g ∷ gs)))

      parts : (not (shows_as_space g) ≡ true) × (stand gs ≡ true)
      parts = and_parts (not (shows_as_space g)) (stand gs) s

      fits : n ≤ room → Holds (fitting_here c (g ∷ gs))
      fits k =
          let position = h.lawful.lawful.column_in in
          let here = grid_with c (cell_columns cell) n in
          let step = put_here width_of c g (cell_columns cell) n h (same_columns width_of g c.width c.pen (not_true (shows_as_space g) parts.0) (omega arith)) refl (omega arith) in
          let rest = remaining here step.drawn parts.1 in
          let less : room - n ≡ c.width - (c.column + n) = omega arith in
          let all : fitting_here c (g ∷ gs) ≡ cell ∷ fitting_here here gs = fitting_cell room cell (map (made width_of c.pen) gs) k ∙ ap (λ m. cell ∷ fitting m (map (made width_of c.pen) gs)) less in
          let same : display_of (grid_on here (fitting_here here gs)) ≡ clusters_done width_of (stroke_done width_of (display_of c) (Cluster g)) (take (length (fitting_here here gs)) gs) =
          rest.same ∙ ap (λ (x : Display). clusters_done width_of x (take (length (fitting_here here gs)) gs)) step.same in
          subst Holds (sym all)
          (subst (λ (x : Grid W). Shows c x (clusters_done width_of (stroke_done width_of (display_of c) (Cluster g)) (take (length (fitting_here here gs)) gs))) (next_on c cell (fitting_here here gs) h (omega arith))
          (record { same = same; widths = rest.widths ∙ step.widths; drawn = rest.drawn }))

      stops : room < n → Holds (fitting_here c (g ∷ gs))
      stops k =
          let none : fitting_here c (g ∷ gs) ≡ [] = fitting_stops room cell (map (made width_of c.pen) gs) k in
          subst Holds (sym none) (subst (λ (x : Grid W). Shows c x (display_of c)) (sym (nothing_on c)) (record { same = refl; widths = refl; drawn = h }))

      by_test : ((nat_le n room ≡ true) × (n ≤ room)) ⊎ ((nat_le n room ≡ false) × (room < n)) → Holds (fitting_here c (g ∷ gs))
      by_test t = elim t [ inl p ↦ fits p.1 | inr p ↦ stops p.1 ]

  pub run_on : (gs : List (List ℕ)) (c : Grid W) → IsDrawn c → stand gs ≡ true → RunOn gs c
  run_on [] c h s = subst (λ (x : Grid W). Shows c x (display_of c)) (sym (nothing_on c)) (record { same = refl; widths = refl; drawn = h })
  run_on (g ∷ gs) c h s = first_on g gs c h s (run_on gs)

  -- after the clusters that fit, the remaining ones give the same display as all of them before
  pub leads_on : (c : Grid W) (gs left : List (List ℕ)) → IsDrawn c → stand gs ≡ true → left ≡ drop (length (fitting_here c gs)) gs → LeadsOn width_of c (grid_on c (fitting_here c gs)) gs left
  leads_on c gs left h s e =
      let run = run_on gs c h s in
      let n = length (fitting_here c gs) in record {
        same = (λ i. clusters_done width_of (run.same i) (e i)) ∙ done-append width_of (display_of c) n gs;
        widths = run.widths;
        drawn = run.drawn;
        stands = ap stand e ∙ stand-drop n gs s;
        fewer = let less = length-drop n gs in let l = ap length e in omega arith;
      }

  -- ---- characters of one column each

  pub plain_on : (c new : Grid W) (text : List ℕ) → IsDrawn c → list_all is_printable text ≡ true → ((byte : ℕ) → is_printable byte ≡ true → width_of (byte ∷ []) ≡ 1) → c.column + length text ≤ c.width → concat (graphemes true text) ≡ text
      → new ≡ record c { lines = set c.lines c.row (plain_set (line_at c.lines c.row) c.column text c.pen); column = c.column + length text } → Shows c new (text_done width_of (display_of c) text)
  plain_on c new text h p narrow fits whole is =
      let gs = clusters text in
      let cells = plain_cells text c.pen in
      let made_of : map (made width_of c.pen) gs ≡ cells ++ [] = cells_of_plain width_of text c.pen p narrow ∙ sym (append-nil cells) in
      let room : length text ≤ c.width - c.column = omega arith in
      let fit : fitting_here c gs ≡ cells = ap (fitting (c.width - c.column)) made_of ∙ fitting_prefix (c.width - c.column) text c.pen [] room ∙ append-nil cells in
      let count = plain_count text c.pen in
      let same : grid_on c (fitting_here c gs) ≡ new = ap (grid_on c) fit ∙ (λ i. record c { lines = set c.lines c.row (plain_set (line_at c.lines c.row) c.column text c.pen); column = c.column + count i }) ∙ sym is in
      let many : length (fitting_here c gs) ≡ length gs = ap length fit ∙ plain_length text c.pen ∙ sym (each_length text) ∙ ap length (sym (plain_alone text (printable_all text p))) in
      let left : [] ≡ drop (length (fitting_here c gs)) gs = sym (drop_all (length (fitting_here c gs)) gs (omega arith)) in
      let leads = subst (λ (x : Grid W). LeadsOn width_of c x gs []) same (leads_on c gs [] h (plain_stands text p whole) left) in
      let parts = prefix_leads width_of c new text text [] (record { same = leads.same; widths = leads.widths; drawn = leads.drawn }) (plain_parts text p) tt in
      record { same = parts.same; widths = parts.widths; drawn = parts.drawn }
