-- Fresh cells of rows that are the same outside of some columns.
use Rattle.std.proofs.Common.{◌≡◌, ℕ, zero, suc, ◌+◌, ◌-◌, ◌<◌, ◌≤◌, ◌∙◌, true, false, List, [], ◌∷◌, ◌++◌, append-nil, length, take, drop, refl, sym, ap, subst, inl, inr, arith}
use Rattle.std.specs.Prelude.{◌&&◌, ◌||◌, ◌==◌, not, min, if◌then◌else◌}
use Rattle.std.proofs.lemmas.Bool.{cases_lt}
use Rattle.std.proofs.lemmas.List.{drop-append-le, drop-drop, drop-take, length-drop, length-take-le, take-append-drop, take-take}
use Rattle.std.proofs.Math.Seq.{take-append-add}
use Rattle.cell_base.specs.Row.{Narrow, LeftHalf, RightHalf, Row, closed_end, closed_start}
use Rattle.cell_base.specs.SameCell.{same_cell}
use Rattle.cell_edits.specs.VisibleCells.{VisibleCell, visible_at, visible_from}
use Rattle.cell_edits.proofs.RowLaws.{visible-append}
use Rattle.cell_base.proofs.RowLemmas.{length-closed_start}
use Rattle.cell_views.proofs.KeptLemmas.{AreInOrder, in_order}
use Rattle.clustered_row.specs.EqualColumns.{AreEqualAround, IsWholeAt}
use Rattle.screen_difference.specs.FreshCells.{columns_from, fresh, is_shown}
use Rattle.screen_difference.specs.ShownCells.{columns_fresh}
use Rattle.screen_difference.proofs.FreshLemmas.{all_shown, from_lower, none_later, not_here}

-- ---- a part of a row in two, cut where no cell is

ends_after : (a : ℕ) (f : Row) → closed_end f ≡ f → closed_end (drop a f) ≡ drop a f
ends_after zero f e = e
ends_after (suc a) [] e = refl
ends_after (suc a) (x ∷ []) e = ends_after a [] refl
ends_after (suc a) (x ∷ y ∷ f) e = ends_after a (y ∷ f) (ap (drop 1) e)

ends_started : (f : Row) → closed_end f ≡ f → closed_end (closed_start f) ≡ closed_start f
ends_started [] e = refl
ends_started (Narrow t a ∷ f) e = e
ends_started (LeftHalf t a ∷ f) e = e
ends_started (RightHalf a ∷ []) e = refl
ends_started (RightHalf a ∷ y ∷ f) e = ap (λ (r : Row). Narrow (32 ∷ []) a ∷ r) (ap (drop 1) e)

end_joined : (h k : Row) → closed_end h ≡ h → closed_end (h ++ k) ≡ h ++ closed_end k
end_joined [] k e = refl
end_joined (x ∷ []) [] e = e
end_joined (x ∷ []) (y ∷ k) e = refl
end_joined (x ∷ y ∷ h) k e = ap (λ (r : Row). x ∷ r) (end_joined (y ∷ h) k (ap (drop 1) e))

start_joined : (f g : Row) → closed_start g ≡ g → closed_start (f ++ g) ≡ closed_start f ++ g
start_joined [] g e = e
start_joined (x ∷ f) g e = refl

after_all : (f g : Row) (m : ℕ) → length f ≡ m → drop m (f ++ g) ≡ g
after_all f g m e = ap (λ n. drop n (f ++ g)) (sym e) ∙ at f
  where
    at : (f : Row) → drop (length f) (f ++ g) ≡ g
    at [] = refl
    at (x ∷ f) = at f

-- the columns from one before the seam on and before one after it
across : (a b : ℕ) (f g : Row) → a ≤ length f → length f ≤ b → closed_end f ≡ f → closed_start g ≡ g → columns_from a (b - a) (f ++ g) ≡ closed_start (drop a f) ++ closed_end (take (b - length f) g)
across a b f g h k e s =
    let long = length-closed_start (drop a f) in
    let prefix = length-drop a f in
    let count : b - a ≡ length (closed_start (drop a f)) + (b - length f) = omega (arith, h, k, long, prefix) in
    ap (λ (r : Row). closed_end (take (b - a) (closed_start r))) (drop-append-le a f g h)
    ∙ ap (λ (r : Row). closed_end (take (b - a) r)) (start_joined (drop a f) g s)
    ∙ ap (λ n. closed_end (take n (closed_start (drop a f) ++ g))) count
    ∙ ap closed_end (take-append-add (closed_start (drop a f)) g (b - length f))
    ∙ end_joined (closed_start (drop a f)) (take (b - length f) g) (ends_started (drop a f) (ends_after a f e))

-- those before the seam, and those after it
before_seam : (a m : ℕ) (f g : Row) → length f ≡ m → a ≤ m → closed_end f ≡ f → closed_start g ≡ g → columns_from a (m - a) (f ++ g) ≡ closed_start (drop a f)
before_seam a m f g l h e s =
    let none : m - length f ≡ 0 = omega (arith, l) in
    across a m f g (omega (arith, l, h)) (omega (arith, l)) e s
    ∙ ap (λ n. closed_start (drop a f) ++ closed_end (take n g)) none
    ∙ append-nil (closed_start (drop a f))

after_seam : (m b : ℕ) (f g : Row) → length f ≡ m → closed_start g ≡ g → columns_from m (b - m) (f ++ g) ≡ closed_end (take (b - m) g)
after_seam m b f g l s = ap (λ (r : Row). closed_end (take (b - m) (closed_start r))) (after_all f g m l) ∙ ap (λ (r : Row). closed_end (take (b - m) r)) s

-- columns before one are those of the row's prefix
start_taken : (n : ℕ) (r : Row) → take n (closed_start r) ≡ closed_start (take n r)
start_taken zero r = refl
start_taken (suc n) [] = refl
start_taken (suc n) (x ∷ r) = refl

prefix_alone : (a b : ℕ) (row : Row) → a ≤ b → columns_from a (b - a) row ≡ closed_end (closed_start (take (b - a) (drop a row)))
prefix_alone a b row h = ap closed_end (start_taken (b - a) (drop a row))

taken_prefix : (a n : ℕ) (row : Row) → take n (drop a row) ≡ drop a (take (a + n) row)
taken_prefix a n row = sym (drop-take a n row)

-- ---- fresh cells

fresh-append : (olds xs ys : List VisibleCell) → fresh olds (xs ++ ys) ≡ fresh olds xs ++ fresh olds ys
fresh-append olds [] ys = refl
fresh-append olds (v ∷ xs) ys =
    elim (is_shown olds v) as (λ b. (if not b then v ∷ fresh olds (xs ++ ys) else fresh olds (xs ++ ys)) ≡ (if not b then v ∷ fresh olds xs else fresh olds xs) ++ fresh olds ys) [
      | true ↦ fresh-append olds xs ys
      | false ↦ ap (λ (vs : List VisibleCell). v ∷ vs) (fresh-append olds xs ys)
    ]

none_of_same : (cells : List VisibleCell) → fresh cells cells ≡ []
none_of_same cells = ap (λ (olds : List VisibleCell). fresh olds cells) (sym (append-nil cells)) ∙ all_shown [] cells []

-- old cells before all new ones are of no concern
skip_old : (o : VisibleCell) (olds news : List VisibleCell) → AreInOrder (o.column + 1) news → fresh (o ∷ olds) news ≡ fresh olds news
skip_old o olds [] p = refl
skip_old o olds (v ∷ news) p =
    let q = p.0 in
    let rest : fresh (o ∷ olds) news ≡ fresh olds news = skip_old o olds news (from_lower (o.column + 1) (v.column + 1) news (omega (arith, q)) p.1) in
    (λ i. if not (not_here o olds v (inl (omega (arith, q))) i) then v ∷ rest i else rest i)

prefix_old : (a : ℕ) (prefix olds : Row) (news : List VisibleCell) → AreInOrder (a + length prefix) news → fresh (visible_from a (prefix ++ olds)) news ≡ fresh (visible_from (a + length prefix) olds) news
prefix_old a [] olds news p = let e : a ≡ a + 0 = omega arith in ap (λ n. fresh (visible_from n olds) news) e
prefix_old a (Narrow t b ∷ prefix) olds news p =
    let e : a + 1 + length prefix ≡ a + suc (length prefix) = omega arith in
    skip_old (visible_at a t 1 b) (visible_from (a + 1) (prefix ++ olds)) news (from_lower (a + 1) (a + suc (length prefix)) news (omega arith) p)
    ∙ prefix_old (a + 1) prefix olds news (subst (λ n. AreInOrder n news) (sym e) p) ∙ ap (λ n. fresh (visible_from n olds) news) e
prefix_old a (LeftHalf t b ∷ prefix) olds news p =
    let e : a + 1 + length prefix ≡ a + suc (length prefix) = omega arith in
    skip_old (visible_at a t 2 b) (visible_from (a + 1) (prefix ++ olds)) news (from_lower (a + 1) (a + suc (length prefix)) news (omega arith) p)
    ∙ prefix_old (a + 1) prefix olds news (subst (λ n. AreInOrder n news) (sym e) p) ∙ ap (λ n. fresh (visible_from n olds) news) e
prefix_old a (RightHalf b ∷ prefix) olds news p =
    let e : a + 1 + length prefix ≡ a + suc (length prefix) = omega arith in
    prefix_old (a + 1) prefix olds news (subst (λ n. AreInOrder n news) (sym e) p) ∙ ap (λ n. fresh (visible_from n olds) news) e

-- cells before that both rows have aren't fresh
fresh_prefix : (a m : ℕ) (prefix olds news : Row) → a + length prefix ≡ m → fresh (visible_from a (prefix ++ olds)) (visible_from a (prefix ++ news)) ≡ fresh (visible_from m olds) (visible_from m news)
fresh_prefix a m prefix olds news e =
    let n = a + length prefix in
    let all : List VisibleCell = visible_from a (prefix ++ olds) in
    ap (fresh all) (visible-append a prefix news)
    ∙ fresh-append all (visible_from a prefix) (visible_from n news)
    ∙ ap (λ (vs : List VisibleCell). vs ++ fresh all (visible_from n news)) (ap (λ (cells : List VisibleCell). fresh cells (visible_from a prefix)) (visible-append a prefix olds) ∙ all_shown [] (visible_from a prefix) (visible_from n olds))
    ∙ prefix_old a prefix olds (visible_from n news) (in_order n news)
    ∙ ap (λ k. fresh (visible_from k olds) (visible_from k news)) e

-- old cells after all new ones are of no concern
shown_before : (olds after : List VisibleCell) (v : VisibleCell) → is_shown after v ≡ false → is_shown (olds ++ after) v ≡ is_shown olds v
shown_before [] after v e = e
shown_before (o ∷ olds) after v e = ap (λ b. (o.column == v.column && same_cell o.cell v.cell) || b) (shown_before olds after v e)

after_old : (olds after : List VisibleCell) (at : ℕ) (news : Row) → ((v : VisibleCell) → v.column < at + length news → is_shown (olds ++ after) v ≡ is_shown olds v) → fresh (olds ++ after) (visible_from at news) ≡ fresh olds (visible_from at news)
after_old olds after at [] same = refl
after_old olds after at (Narrow t a ∷ news) same =
    let v : VisibleCell = visible_at at t 1 a in
    let rest : fresh (olds ++ after) (visible_from (at + 1) news) ≡ fresh olds (visible_from (at + 1) news) = after_old olds after (at + 1) news (λ w h. same w (omega (arith, h))) in
    (λ i. if not (same v (omega arith) i) then v ∷ rest i else rest i)
after_old olds after at (LeftHalf t a ∷ news) same =
    let v : VisibleCell = visible_at at t 2 a in
    let rest : fresh (olds ++ after) (visible_from (at + 1) news) ≡ fresh olds (visible_from (at + 1) news) = after_old olds after (at + 1) news (λ w h. same w (omega (arith, h))) in
    (λ i. if not (same v (omega arith) i) then v ∷ rest i else rest i)
after_old olds after at (RightHalf a ∷ news) same = after_old olds after (at + 1) news (λ w h. same w (omega (arith, h)))

-- cells after that both rows have aren't fresh
fresh_back : (a : ℕ) (olds news back : Row) → length olds ≡ length news → fresh (visible_from a (olds ++ back)) (visible_from a (news ++ back)) ≡ fresh (visible_from a olds) (visible_from a news)
fresh_back a olds news back e =
    let n = a + length olds in
    let first : List VisibleCell = visible_from a olds in
    let after : List VisibleCell = visible_from n back in
    let seam : a + length news ≡ n = omega (arith, e) in
    (λ i. fresh (visible-append a olds back i) ((visible-append a news back ∙ ap (λ k. visible_from a news ++ visible_from k back) seam) i))
    ∙ fresh-append (first ++ after) (visible_from a news) after
    ∙ (λ i. after_old first after a news (λ v h. shown_before first after v (none_later n after v (omega (arith, h, e)) (in_order n back))) i ++ (ap (λ (olds : List VisibleCell). fresh olds after) (ap (λ (vs : List VisibleCell). first ++ vs) (sym (append-nil after))) ∙ all_shown first after []) i)
    ∙ append-nil (fresh first (visible_from a news))

-- ---- parts of rows that are the same around some columns

-- the part between two columns
abbrev between : ℕ → ℕ → Row → Row → List VisibleCell
between a b old new = columns_fresh a a (b - a) old new

none_between : (a : ℕ) (old new : Row) → between a a old new ≡ []
none_between a old new = let none : a - a ≡ 0 = omega arith in ap (λ n. columns_fresh a a n old new) none

-- a part that is the same in both rows has no fresh cells
same_between : (a b : ℕ) (old new : Row) → columns_from a (b - a) old ≡ columns_from a (b - a) new → between a b old new ≡ []
same_between a b old new e = ap (λ (r : Row). fresh (visible_from a r) (visible_from a (columns_from a (b - a) new))) e ∙ none_of_same (visible_from a (columns_from a (b - a) new))

fewer : (old new : Row) (i n : ℕ) → i ≤ n → take n old ≡ take n new → take i old ≡ take i new
fewer old new i n h e = sym (take-take i n old h) ∙ ap (take i) e ∙ take-take i n new h

same_in_prefix : (a b m : ℕ) (old new : Row) → a ≤ b → b ≤ m → take m old ≡ take m new → between a b old new ≡ []
same_in_prefix a b m old new h k e =
    let seam : a + (b - a) ≡ b = omega (arith, h) in
    let same : take (b - a) (drop a old) ≡ take (b - a) (drop a new) =
    taken_prefix a (b - a) old ∙ ap (λ n. drop a (take n old)) seam ∙ ap (drop a) (fewer old new b m k e) ∙ ap (λ n. drop a (take n new)) (sym seam) ∙ sym (taken_prefix a (b - a) new) in
    same_between a b old new (prefix_alone a b old h ∙ ap (λ (r : Row). closed_end (closed_start r)) same ∙ sym (prefix_alone a b new h))

more : (old new : Row) (m a : ℕ) → m ≤ a → drop m old ≡ drop m new → drop a old ≡ drop a new
more old new m a h e =
    let on : a ≡ m + (a - m) = omega (arith, h) in
    ap (λ n. drop n old) on ∙ sym (drop-drop (a - m) m old) ∙ ap (drop (a - m)) e ∙ drop-drop (a - m) m new ∙ ap (λ n. drop n new) (sym on)

same_after : (a b m : ℕ) (old new : Row) → m ≤ a → drop m old ≡ drop m new → between a b old new ≡ []
same_after a b m old new h e = same_between a b old new (ap (λ (r : Row). closed_end (take (b - a) (closed_start r))) (more old new m a h e))

-- a row in two, whose parts no cell joins
module _ (m : ℕ) (row : Row) (w : IsWholeAt m row) where
  in_two : take m row ++ drop m row ≡ row
  in_two = take-append-drop m row

  row_across : (a b : ℕ) → a ≤ m → m ≤ b → m ≤ length row → columns_from a (b - a) row ≡ closed_start (drop a (take m row)) ++ columns_from m (b - m) row
  row_across a b h k l =
      let long : length (take m row) ≡ m = length-take-le m row l in
      ap (λ (r : Row). columns_from a (b - a) r) (sym in_two)
      ∙ across a b (take m row) (drop m row) (omega (arith, long, h)) (omega (arith, long, k)) w.ending w.beginning
      ∙ ap (λ n. closed_start (drop a (take m row)) ++ closed_end (take (b - n) (drop m row))) long
      ∙ ap (λ (r : Row). closed_start (drop a (take m row)) ++ r) (sym (after_seam m b (take m row) (drop m row) long w.beginning) ∙ ap (λ (r : Row). columns_from m (b - m) r) in_two)

  row_before : (a : ℕ) → a ≤ m → m ≤ length row → columns_from a (m - a) row ≡ closed_start (drop a (take m row))
  row_before a h l = ap (λ (r : Row). columns_from a (m - a) r) (sym in_two) ∙ before_seam a m (take m row) (drop m row) (length-take-le m row l) h w.ending w.beginning

  row_after : (b : ℕ) → m ≤ length row → columns_from m (b - m) row ≡ closed_end (take (b - m) (drop m row))
  row_after b l = ap (λ (r : Row). columns_from m (b - m) r) (sym in_two) ∙ after_seam m b (take m row) (drop m row) (length-take-le m row l) w.beginning

-- columns before the first one that differs may be left out
less_prefix : (a m b : ℕ) (old new : Row) → a ≤ m → m ≤ b → m ≤ length old → m ≤ length new → IsWholeAt m old → IsWholeAt m new → take m old ≡ take m new → between m b old new ≡ between a b old new
less_prefix a m b old new h k l g w v e =
    let prefix : Row = closed_start (drop a (take m old)) in
    let long : length prefix ≡ m - a = length-closed_start (drop a (take m old)) ∙ length-drop a (take m old) ∙ ap (λ n. n - a) (length-take-le m old l) in
    let other : columns_from a (b - a) new ≡ prefix ++ columns_from m (b - m) new = row_across m new v a b h k g ∙ ap (λ (r : Row). closed_start (drop a r) ++ columns_from m (b - m) new) (sym e) in
    sym ((λ i. fresh (visible_from a (row_across m old w a b h k l i)) (visible_from a (other i))) ∙ fresh_prefix a m prefix (columns_from m (b - m) old) (columns_from m (b - m) new) (omega (arith, long, h)))

-- and so may those after the last one
less_back : (a m b : ℕ) (old new : Row) → a ≤ m → m ≤ b → m ≤ length old → m ≤ length new → IsWholeAt m old → IsWholeAt m new → drop m old ≡ drop m new → between a m old new ≡ between a b old new
less_back a m b old new h k l g w v e =
    let first : Row = closed_start (drop a (take m old)) in
    let second : Row = closed_start (drop a (take m new)) in
    let back : Row = closed_end (take (b - m) (drop m old)) in
    let one : length first ≡ m - a = length-closed_start (drop a (take m old)) ∙ length-drop a (take m old) ∙ ap (λ n. n - a) (length-take-le m old l) in
    let two : length second ≡ m - a = length-closed_start (drop a (take m new)) ∙ length-drop a (take m new) ∙ ap (λ n. n - a) (length-take-le m new g) in
    let olds : columns_from a (b - a) old ≡ first ++ back = row_across m old w a b h k l ∙ ap (λ (r : Row). first ++ r) (row_after m old w b l) in
    let news : columns_from a (b - a) new ≡ second ++ back = row_across m new v a b h k g ∙ ap (λ (r : Row). second ++ r) (row_after m new v b g ∙ ap (λ (r : Row). closed_end (take (b - m) r)) (sym e)) in
    (λ i. fresh (visible_from a (row_before m old w a h l i)) (visible_from a (row_before m new v a h g i)))
    ∙ sym (fresh_back a first second back (one ∙ sym two))
    ∙ sym (λ i. fresh (visible_from a (olds i)) (visible_from a (news i)))

-- of a part no other columns need to be looked at than those in which rows may differ
module _ (x close start stop from to : ℕ) (old new : Row) (p : AreEqualAround start stop old new) (o : x ≤ close) (l : close ≤ length old) (g : close ≤ length new) (f : from ≡ x + min (start - x) (close - x)) (t : to ≡ x + min (stop - x) (close - x)) where
  from_first : between from close old new ≡ between x close old new
  from_first = elim (cases_lt start close) [
    | inl less ↦ elim (cases_lt x start) [
      | inl inside ↦ (
          let is : from ≡ start = omega (arith, f, o, less, inside) in
          ap (λ n. between n close old new) is ∙ less_prefix x start close old new (omega (arith, inside)) (omega (arith, less)) (omega (arith, less, l)) (omega (arith, less, g)) p.first p.other_first p.prefix)
      | inr before ↦ (
          let is : from ≡ x = omega (arith, f, o, before) in
          ap (λ n. between n close old new) is)
    ]
    | inr past ↦ (
        let is : from ≡ close = omega (arith, f, o, past) in
        ap (λ n. between n close old new) is ∙ none_between close old new ∙ sym (same_in_prefix x close start old new o past p.prefix))
  ]

  to_last : between from to old new ≡ between from close old new
  to_last = elim (cases_lt from stop) [
    | inl inside ↦ elim (cases_lt stop close) [
      | inl less ↦ (
          let is : to ≡ stop = omega (arith, t, f, o, less, inside) in
          ap (λ n. between from n old new) is ∙ less_back from stop close old new (omega (arith, inside)) (omega (arith, less)) (omega (arith, less, l)) (omega (arith, less, g)) p.last p.other_last p.suffix)
      | inr past ↦ (
          let is : to ≡ close = omega (arith, t, f, o, past, inside) in
          ap (λ n. between from n old new) is)
    ]
    | inr after ↦ (
        let order = p.order in
        let is : to ≡ from = omega (arith, t, f, o, after, order) in
        ap (λ n. between from n old new) is ∙ none_between from old new ∙ sym (same_after from close stop old new after p.suffix))
  ]

-- after the first `skipped` columns of a part, the next n columns have all of its fresh cells
pub part_is_fresh : (x other_x count start stop skipped n : ℕ) (old new : Row) → x ≡ other_x → AreEqualAround start stop old new → x + count ≤ length old → other_x + count ≤ length new
    → skipped ≡ min (start - x) count → skipped + n ≡ min (stop - x) count → columns_fresh (x + skipped) (other_x + skipped) n old new ≡ columns_fresh x other_x count old new
part_is_fresh x other_x count start stop skipped n old new same p l g s e =
    let all : x + count - x ≡ count = omega arith in
    let some : x + skipped + n - (x + skipped) ≡ n = omega arith in
    let walked : between (x + skipped) (x + skipped + n) old new ≡ between x (x + count) old new =
    to_last x (x + count) start stop (x + skipped) (x + skipped + n) old new p (omega arith) l (omega (arith, g, same)) (omega (arith, s)) (omega (arith, e))
    ∙ from_first x (x + count) start stop (x + skipped) (x + skipped + n) old new p (omega arith) l (omega (arith, g, same)) (omega (arith, s)) (omega (arith, e)) in
    (λ i. columns_fresh (x + skipped) (sym same i + skipped) (sym some i) old new) ∙ walked ∙ (λ i. columns_fresh x (same i) (all i) old new)
