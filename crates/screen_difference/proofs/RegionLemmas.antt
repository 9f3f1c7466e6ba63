-- Rows on which fresh cells are drawn.
use Rattle.std.proofs.Common.{◌≡◌, ℕ, zero, suc, ◌+◌, ◌-◌, ◌≤◌, ◌∙◌, false, List, [], ◌∷◌, ◌++◌, length, take, drop, get_or, set, refl, sym, ap, subst, arith, append_assoc, append-nil, length-append}
use Rattle.std.specs.Prelude.{nat_le, fold, All}
use Rattle.std.proofs.lemmas.Bool.Decides.{nat_tests}
use Rattle.std.proofs.lemmas.List.{length-drop, length-take-le, length-take, take_all, drop_all, drop-drop, take_at, drop_at, take-append-drop}
use Rattle.std.proofs.lemmas.List.Elements.{All-drop, All-take}
use Rattle.std.proofs.lemmas.List.Sums.{fold-append}
use Rattle.std.proofs.Math.Seq.{get_or-append_seam, set-append_seam}
use Rattle.cell_base.specs.Row.{Row, space, closed_end, set_columns}
use Rattle.cell_base.specs.Screen.{Screen, IsScreen, height}
use Rattle.screen_change.proofs.TextLemmas.{by_test}
use Rattle.cell_edits.specs.CellList.{cell_columns}
use Rattle.cell_edits.specs.VisibleCells.{VisibleCell, visible_from}
use Rattle.cell_base.specs.WholeRow.{IsWhole}
use Rattle.cell_base.proofs.RowLemmas.{whole_ends, whole_starts}
use Rattle.screen_difference.specs.Difference.{difference}
use Rattle.screen_difference.specs.DrawnCells.{drawn, all_drawn, HavePositions}
use Rattle.screen_difference.specs.FreshCells.{PlacedCell, columns_from, fresh, lines_fresh, placed, region_fresh, row_fresh, rows_fresh, screen_fresh, shared_width}
use Rattle.screen_difference.specs.Redrawn.{KeepsRest, RowsShow, ShowsLines, ShowsRegion, ShowsRow}
use Rattle.screen_difference.proofs.DrawnLemmas.{difference_is_drawn}
use Rattle.screen_difference.proofs.PositionLemmas.{row_shown, row_positions, set_visible}
use Rattle.screen_difference.proofs.RowLemmas.{fresh_drawn}
use Rattle.screen_effects.specs.Display.{Display, IsDisplay}
use Rattle.screen_effects.specs.Effect.{on_screen, replay}
use Rattle.screen_effects.specs.WrittenCells.{IsSoundText, IsSoundRow}

-- ---- rows of which each becomes its own

abbrev row_drawn : List Row → PlacedCell → List Row
row_drawn rows c = set rows c.row (set_columns (get_or rows c.row []) c.column (cell_columns c.cell))

rows_of_drawn : (cells : List PlacedCell) (s : Screen) → (all_drawn cells s).rows ≡ fold row_drawn s.rows cells
rows_of_drawn [] s = refl
rows_of_drawn (c ∷ cells) s = rows_of_drawn cells (drawn s c)

one_row : (cells : List VisibleCell) (above below : List Row) (row : Row) (k : ℕ) → length above ≡ k → fold row_drawn (above ++ row ∷ below) (placed k cells) ≡ above ++ fold set_visible row cells ∷ below
one_row [] above below row k e = refl
one_row (v ∷ cells) above below row k e =
    let rows : List Row = above ++ row ∷ below in
    let cols : Row = cell_columns v.cell in
    let first : set rows k (set_columns (get_or rows k []) v.column cols) ≡ above ++ set_visible row v ∷ below =
    ap (λ n. set rows n (set_columns (get_or rows n []) v.column cols)) (sym e)
    ∙ ap (λ (r : Row). set rows (length above) (set_columns r v.column cols)) (get_or-append_seam above row below [])
    ∙ set-append_seam above row below (set_visible row v) in
    ap (λ (rs : List Row). fold row_drawn rs (placed k cells)) first ∙ one_row cells above below (set_visible row v) k e

-- the old rows with their fresh cells
redrawn : (Row → Row → List VisibleCell) → List Row → List Row → List Row
redrawn compare [] news = []
redrawn compare (old ∷ olds) [] = old ∷ olds
redrawn compare (old ∷ olds) (new ∷ news) = fold set_visible old (compare old new) ∷ redrawn compare olds news

many_rows : (compare : Row → Row → List VisibleCell) (olds news above below : List Row) (k : ℕ) → length above ≡ k → fold row_drawn (above ++ (olds ++ below)) (rows_fresh compare k olds news) ≡ above ++ (redrawn compare olds news ++ below)
unfolding redrawn
many_rows compare [] news above below k e = refl
many_rows compare (old ∷ olds) [] above below k e = refl
many_rows compare (old ∷ olds) (new ∷ news) above below k e =
    let cells : List VisibleCell = compare old new in
    let after : Row = fold set_visible old cells in
    let count : length (above ++ after ∷ []) ≡ k + 1 = length-append above (after ∷ []) ∙ ap (λ n. n + 1) e in
    fold-append row_drawn (above ++ old ∷ (olds ++ below)) (placed k cells) (rows_fresh compare (k + 1) olds news)
    ∙ ap (λ (rs : List Row). fold row_drawn rs (rows_fresh compare (k + 1) olds news)) (one_row cells above (olds ++ below) old k e ∙ sym (append_assoc above (after ∷ []) (olds ++ below)))
    ∙ many_rows compare olds news (above ++ after ∷ []) below (k + 1) count
    ∙ append_assoc above (after ∷ []) (redrawn compare olds news ++ below)

redrawn_count : (compare : Row → Row → List VisibleCell) (olds news : List Row) → length (redrawn compare olds news) ≡ length olds
unfolding redrawn
redrawn_count compare [] news = refl
redrawn_count compare (old ∷ olds) [] = refl
redrawn_count compare (old ∷ olds) (new ∷ news) = ap suc (redrawn_count compare olds news)

-- ---- lists that are cut

take_back : (n : ℕ) (xs ys : List Row) → length ys ≡ length (take n xs) → take n (ys ++ drop n xs) ≡ ys
take_back zero xs [] e = refl
take_back zero xs (y ∷ ys) e = absurd (omega arith)
take_back (suc n) [] [] e = refl
take_back (suc n) [] (y ∷ ys) e = absurd (omega arith)
take_back (suc n) (x ∷ xs) [] e = absurd (omega arith)
take_back (suc n) (x ∷ xs) (y ∷ ys) e = ap (λ (rs : List Row). y ∷ rs) (take_back n xs ys (omega arith))

drop_back : (n : ℕ) (xs ys : List Row) → length ys ≡ length (take n xs) → drop n (ys ++ drop n xs) ≡ drop n xs
drop_back zero xs [] e = refl
drop_back zero xs (y ∷ ys) e = absurd (omega arith)
drop_back (suc n) [] [] e = refl
drop_back (suc n) [] (y ∷ ys) e = absurd (omega arith)
drop_back (suc n) (x ∷ xs) [] e = absurd (omega arith)
drop_back (suc n) (x ∷ xs) (y ∷ ys) e = drop_back n xs ys (omega arith)

-- ---- each row shows its own

module _ (width_of : List ℕ → ℕ) (blank_is : IsSoundText width_of space false) (x other_x : ℕ) (width : Row → ℕ) where
  abbrev compared : Row → Row → List VisibleCell
  compared old new = row_fresh x other_x (width new) old new

  abbrev shows : Row → Row → Row → Type 0
  shows new = ShowsRow x other_x (width new) new

  stay_shown : (olds : List Row) → RowsShow shows [] olds olds
  stay_shown [] = tt
  stay_shown (old ∷ olds) = (refl, stay_shown olds)

  rows_shown : (olds news : List Row) → All IsWhole olds → All IsWhole news → All (IsSoundRow width_of) news → RowsShow shows news olds (redrawn compared olds news)
  unfolding redrawn
  rows_shown [] news o w s = tt
  rows_shown (old ∷ olds) [] o w s = (refl, stay_shown olds)
  rows_shown (old ∷ olds) (new ∷ news) o w s = (
    row_shown width_of blank_is x other_x (width new) old new (o zero [] (omega arith)) (w zero [] (omega arith)) (s zero [] (omega arith)),
    rows_shown olds news (λ k d h. o (suc k) d (omega arith)) (λ k d h. w (suc k) d (omega arith)) (λ k d h. s (suc k) d (omega arith)),
  )

  positions_append : (stop rows : ℕ) (a b : List PlacedCell) → HavePositions width_of stop rows a → HavePositions width_of stop rows b → HavePositions width_of stop rows (a ++ b)
  positions_append stop rows [] b p q = q
  positions_append stop rows (c ∷ a) b p q = (p.0, positions_append stop rows a b p.1 q)

  rows_positions : (stop rows k : ℕ) (olds news : List Row) → k + length olds ≤ rows → All (λ row. length row ≡ stop) olds → All IsWhole news → All (IsSoundRow width_of) news → HavePositions width_of stop rows (rows_fresh compared k olds news)
  rows_positions stop rows k [] news h e w s = tt
  rows_positions stop rows k (old ∷ olds) [] h e w s = tt
  rows_positions stop rows k (old ∷ olds) (new ∷ news) h e w s =
      positions_append stop rows (placed k (compared old new)) (rows_fresh compared (k + 1) olds news)
      (row_positions width_of blank_is x other_x (width new) stop rows k old new (e zero [] (omega arith)) (omega arith) (w zero [] (omega arith)) (s zero [] (omega arith)))
      (rows_positions stop rows (k + 1) olds news (omega arith) (λ i d l. e (suc i) d (omega arith)) (λ i d l. w (suc i) d (omega arith)) (λ i d l. s (suc i) d (omega arith)))

  -- ---- the replay of the changes

  take_none : (m : ℕ) → take {A = Row} m [] ≡ []
  take_none zero = refl
  take_none (suc m) = refl

  drop_none : (m : ℕ) → drop {A = Row} m [] ≡ []
  drop_none zero = refl
  drop_none (suc m) = refl

  none_after : (y n : ℕ) (rows : List Row) → length rows ≤ y → take n (drop y rows) ≡ []
  none_after y n rows l = ap (take n) (drop_all y rows l) ∙ take_none n

  -- the fresh cells of rows within a screen have positions
  pub cells_positions : (s : Screen) (h : IsScreen s) (news : List Row) (y n : ℕ) → All IsWhole news → All (IsSoundRow width_of) news → HavePositions width_of s.width (height s) (rows_fresh compared y (take n (drop y s.rows)) news)
  cells_positions s h news y n w p =
      by_test (nat_le y (length s.rows))
      (λ e.
      let l : y ≤ length s.rows = grind (arith, nat_tests) in
      let a = length-take n (drop y s.rows) in
      let b = length-drop y s.rows in
      rows_positions s.width (height s) y (take n (drop y s.rows)) news (omega arith) (All-take (λ row. length row ≡ s.width) n (drop y s.rows) (All-drop (λ row. length row ≡ s.width) y s.rows h.even)) w p)
      (λ e.
      let l : length s.rows ≤ y = grind (arith, nat_tests) in
      subst (λ (rs : List Row). HavePositions width_of s.width (height s) (rows_fresh compared y rs news)) (sym (none_after y n s.rows l)) tt)

  -- the rows above stay, and those after are redrawn
  record Redraws (y n : ℕ) (news before after : List Row) : Type 0 where
    above : take y after ≡ take y before
    rest : drop y after ≡ redrawn compared (take n (drop y before)) news ++ drop n (drop y before)

  cells_redraw : (rows news : List Row) (y n : ℕ) → Redraws y n news rows (fold row_drawn rows (rows_fresh compared y (take n (drop y rows)) news))
  unfolding redrawn
  cells_redraw rows news y n =
      let olds : List Row = take n (drop y rows) in
      let below : List Row = drop n (drop y rows) in
      let cells : List PlacedCell = rows_fresh compared y olds news in
      by_test (nat_le y (length rows))
      (λ e.
      let l : y ≤ length rows = grind (arith, nat_tests) in
      let count : length (take y rows) ≡ y = length-take-le y rows l in
      let split : rows ≡ take y rows ++ (olds ++ below) = sym (ap (λ (rs : List Row). take y rows ++ rs) (take-append-drop n (drop y rows)) ∙ take-append-drop y rows) in
      let is : fold row_drawn rows cells ≡ take y rows ++ (redrawn compared olds news ++ below) =
      ap (λ (rs : List Row). fold row_drawn rs cells) split ∙ many_rows compared olds news (take y rows) below y count in record {
        above = ap (take y) is ∙ take_at (take y rows) (redrawn compared olds news ++ below) y count;
        rest = ap (drop y) is ∙ drop_at (take y rows) (redrawn compared olds news ++ below) y count;
      })
      (λ e.
      let l : length rows ≤ y = grind (arith, nat_tests) in
      let none : olds ≡ [] = none_after y n rows l in
      let is : fold row_drawn rows cells ≡ rows = ap (λ (rs : List Row). fold row_drawn rows (rows_fresh compared y rs news)) none in record {
        above = ap (take y) is;
        rest = ap (drop y) is ∙ drop_all y rows l ∙ sym (ap (λ (rs : List Row). redrawn compared rs news ++ below) none ∙ ap (drop n) (drop_all y rows l) ∙ drop_none n);
      })

  replay_redraws : (d : Display) (news : List Row) (y n : ℕ) → IsDisplay d → All IsWhole news → All (IsSoundRow width_of) news
      → Redraws y n news d.screen.rows (replay width_of d (difference (rows_fresh compared y (take n (drop y d.screen.rows)) news))).screen.rows
  replay_redraws d news y n h w p =
      let cells : List PlacedCell = rows_fresh compared y (take n (drop y d.screen.rows)) news in
      let is : (replay width_of d (difference cells)).screen.rows ≡ fold row_drawn d.screen.rows cells =
      ap (λ (x : Display). x.screen.rows) (difference_is_drawn width_of d cells h (cells_positions d.screen h.lawful news y n w p)) ∙ rows_of_drawn cells d.screen in
      subst (Redraws y n news d.screen.rows) (sym is) (cells_redraw d.screen.rows news y n)

  -- the rows in question show the new ones, and those below stay
  record Shown (y n : ℕ) (news before after : List Row) : Type 0 where
    above : take y after ≡ take y before
    within : RowsShow shows news (take n (drop y before)) (take n (drop y after))
    below : drop (y + n) after ≡ drop (y + n) before

  are_shown : (d : Display) (news : List Row) (y n : ℕ) → IsDisplay d → All IsWhole news → All (IsSoundRow width_of) news
      → Shown y n news d.screen.rows (replay width_of d (difference (rows_fresh compared y (take n (drop y d.screen.rows)) news))).screen.rows
  are_shown d news y n h w p =
      let rows : List Row = d.screen.rows in
      let olds : List Row = take n (drop y rows) in
      let after : List Row = (replay width_of d (difference (rows_fresh compared y olds news))).screen.rows in
      let new : List Row = redrawn compared olds news in
      let count : length new ≡ length olds = redrawn_count compared olds news in
      let r = replay_redraws d news y n h w p in
      let whole : All IsWhole olds = All-take IsWhole n (drop y rows) (All-drop IsWhole y rows h.whole) in record {
        above = r.above;
        within = subst (RowsShow shows news olds) (sym (ap (take n) r.rest ∙ take_back n (drop y rows) new count)) (rows_shown olds news whole w p);
        below = sym (drop-drop n y after) ∙ ap (drop n) r.rest ∙ drop_back n (drop y rows) new count ∙ drop-drop n y rows;
      }

pub region_is_shown : (width_of : List ℕ → ℕ) (d : Display) (x y width height : ℕ) (news : List Row) (other_x other_y : ℕ) → IsSoundText width_of space false → IsDisplay d → All IsWhole news → All (IsSoundRow width_of) news
    → ShowsRegion x y width height news other_x other_y d.screen.rows (replay width_of d (difference (region_fresh d.screen.rows x y width height news other_x other_y))).screen.rows
region_is_shown width_of d x y width height news other_x other_y b h w p =
    let s = are_shown width_of b x other_x (λ _. width) d (drop other_y news) y height h (All-drop IsWhole other_y news w) (All-drop (IsSoundRow width_of) other_y news p) in
    record { above = s.above; within = s.within; below = s.below }

pub lines_are_shown : (width_of : List ℕ → ℕ) (d : Display) (y : ℕ) (news : List Row) → IsSoundText width_of space false → IsDisplay d → All IsWhole news → All (IsSoundRow width_of) news
    → ShowsLines y news d.screen.rows (replay width_of d (difference (lines_fresh d.screen.rows y news))).screen.rows
lines_are_shown width_of d y news b h w p =
    let rows : List Row = d.screen.rows in
    let n = length rows in
    let all : take n (drop y rows) ≡ drop y rows = take_all n (drop y rows) (omega (arith, length-drop y rows)) in
    let r = replay_redraws width_of b 0 0 length d news y n h w p in
    let none : drop n (drop y rows) ≡ [] = drop_all n (drop y rows) (omega (arith, length-drop y rows)) in
    let lines : Row → Row → List VisibleCell = λ old new. row_fresh 0 0 (length new) old new in
    let whole : All IsWhole (drop y rows) = All-drop IsWhole y rows h.whole in
    let above : take y (replay width_of d (difference (rows_fresh lines y (drop y rows) news))).screen.rows ≡ take y rows =
    subst (λ (olds : List Row). take y (replay width_of d (difference (rows_fresh lines y olds news))).screen.rows ≡ take y rows) all r.above in
    let rest : drop y (replay width_of d (difference (rows_fresh lines y (drop y rows) news))).screen.rows ≡ redrawn lines (drop y rows) news =
    subst (λ (olds : List Row). drop y (replay width_of d (difference (rows_fresh lines y olds news))).screen.rows ≡ redrawn lines olds news ++ drop n (drop y rows)) all r.rest
    ∙ ap (λ (rs : List Row). redrawn lines (drop y rows) news ++ rs) none
    ∙ append-nil (redrawn lines (drop y rows) news) in
    record {
      above = above;
      within = subst (RowsShow (λ new. ShowsRow 0 0 (length new) new) news (drop y rows)) (sym rest) (rows_shown width_of b 0 0 length (drop y rows) news whole w p);
    }

pub region_positions : (width_of : List ℕ → ℕ) (s : Screen) (x y width rows : ℕ) (news : List Row) (other_x other_y : ℕ) → IsSoundText width_of space false → IsScreen s → All IsWhole news → All (IsSoundRow width_of) news
    → HavePositions width_of s.width (height s) (region_fresh s.rows x y width rows news other_x other_y)
region_positions width_of s x y width rows news other_x other_y b h w p =
    cells_positions width_of b x other_x (λ _. width) s h (drop other_y news) y rows (All-drop IsWhole other_y news w) (All-drop (IsSoundRow width_of) other_y news p)

pub lines_positions : (width_of : List ℕ → ℕ) (s : Screen) (y : ℕ) (news : List Row) → IsSoundText width_of space false → IsScreen s → All IsWhole news → All (IsSoundRow width_of) news
    → HavePositions width_of s.width (height s) (lines_fresh s.rows y news)
lines_positions width_of s y news b h w p =
    let rows : List Row = s.rows in
    let all : take (length rows) (drop y rows) ≡ drop y rows = take_all (length rows) (drop y rows) (omega (arith, length-drop y rows)) in
    subst (λ (olds : List Row). HavePositions width_of s.width (height s) (rows_fresh (λ old new. row_fresh 0 0 (length new) old new) y olds news)) all (cells_positions width_of b 0 0 length s h news y (length rows) w p)

-- ---- screens of one size

whole_row : (width : ℕ) (row : Row) → length row ≡ width → IsWhole row → columns_from 0 width row ≡ row
whole_row width row e w = ap (λ (r : Row). closed_end (take width r)) (whole_starts row w) ∙ ap closed_end (take_all width row (omega arith)) ∙ whole_ends row w

row_becomes : (width : ℕ) (old new : Row) → length old ≡ width → length new ≡ width → IsWhole old → IsWhole new → fold set_visible old (row_fresh 0 0 width old new) ≡ new
row_becomes width old new e f o w =
    let all : shared_width width 0 old 0 new ≡ width = omega arith in
    let here : (n : ℕ) → n ≡ n - 0 = λ n. omega arith in
    (λ i. fold (λ r v. set_columns r (here v.column i) (cell_columns v.cell)) old (fresh (visible_from 0 (columns_from 0 (all i) old)) (visible_from 0 (columns_from 0 (all i) new))))
    ∙ (λ i. fold (λ r v. set_columns r (v.column - 0) (cell_columns v.cell)) old (fresh (visible_from 0 (whole_row width old e o i)) (visible_from 0 (whole_row width new f w i))))
    ∙ fresh_drawn 0 old new o w (f ∙ sym e)

rows_become : (width : ℕ) (olds news : List Row) → length olds ≡ length news → All (λ row. length row ≡ width) olds → All (λ row. length row ≡ width) news → All IsWhole olds → All IsWhole news
    → redrawn (λ old new. row_fresh 0 0 width old new) olds news ≡ news
unfolding redrawn
rows_become width [] [] c e f o w = refl
rows_become width [] (new ∷ news) c e f o w = absurd (omega arith)
rows_become width (old ∷ olds) [] c e f o w = absurd (omega arith)
rows_become width (old ∷ olds) (new ∷ news) c e f o w =
    (λ i. row_becomes width old new (e zero [] (omega arith)) (f zero [] (omega arith)) (o zero [] (omega arith)) (w zero [] (omega arith)) i
    ∷ rows_become width olds news (omega arith) (λ k d h. e (suc k) d (omega arith)) (λ k d h. f (suc k) d (omega arith)) (λ k d h. o (suc k) d (omega arith)) (λ k d h. w (suc k) d (omega arith)) i)

pub screen_is_shown : (width_of : List ℕ → ℕ) (d : Display) (new : Screen) → IsSoundText width_of space false → IsDisplay d → IsScreen new → new.width ≡ d.screen.width → height new ≡ height d.screen → All IsWhole new.rows → All (IsSoundRow width_of) new.rows
    → (replay width_of d (difference (screen_fresh d.screen new))).screen.rows ≡ new.rows
screen_is_shown width_of d new b h g e f w p =
    let rows : List Row = d.screen.rows in
    let n = length rows in
    let r = replay_redraws width_of b 0 0 (λ _. d.screen.width) d new.rows 0 n h w p in
    let lines : Row → Row → List VisibleCell = λ old row. row_fresh 0 0 d.screen.width old row in
    let even : All (λ row. length row ≡ d.screen.width) new.rows = subst (λ m. All (λ row. length row ≡ m) new.rows) e g.even in
    r.rest
    ∙ (λ i. redrawn lines (take_all n rows (omega arith) i) new.rows ++ drop_all n rows (omega arith) i)
    ∙ append-nil (redrawn lines rows new.rows)
    ∙ rows_become d.screen.width rows new.rows (sym f) h.lawful.even even h.whole w

-- ---- the rest of the screen stays

width_stays : (cells : List PlacedCell) (s : Screen) → (all_drawn cells s).width ≡ s.width
width_stays [] s = refl
width_stays (c ∷ cells) s = width_stays cells (drawn s c)

visible_stays : (cells : List PlacedCell) (s : Screen) → (all_drawn cells s).visible ≡ s.visible
visible_stays [] s = refl
visible_stays (c ∷ cells) s = visible_stays cells (drawn s c)

title_stays : (cells : List PlacedCell) (s : Screen) → (all_drawn cells s).title ≡ s.title
title_stays [] s = refl
title_stays (c ∷ cells) s = title_stays cells (drawn s c)

pub rest_stay : (width_of : List ℕ → ℕ) (d : Display) (cells : List PlacedCell) → IsDisplay d → HavePositions width_of d.screen.width (height d.screen) cells → KeepsRest d (replay width_of d (difference cells))
rest_stay width_of d cells h p =
    let kept : KeepsRest d (on_screen (all_drawn cells) d) = record { width = width_stays cells d.screen; visible = visible_stays cells d.screen; title = title_stays cells d.screen; sizes = refl; shape = refl } in
    subst (KeepsRest d) (sym (difference_is_drawn width_of d cells h p)) kept
