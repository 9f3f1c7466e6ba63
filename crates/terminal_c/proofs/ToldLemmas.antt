-- Cells that are told in turn, side by side.
use Rattle.std.proofs.Common.{◌≡◌, ℕ, zero, suc, ◌+◌, ◌<◌, ◌^◌, ◌∙◌, Bool, true, false, List, [], ◌∷◌, ◌++◌, length, fold, if◌then◌else◌, refl, sym, ap, subst, append_assoc, append-nil, length-append, arith}
use Rattle.std.proofs.lemmas.List.Sums.{fold-append}
use Rattle.cell_base.specs.Attributes.{Attributes}
use Rattle.cell_base.specs.Row.{Row}
use Rattle.cell_base.specs.SameAttributes.{same_attributes_decides}
use Rattle.cell_base.specs.WholeRow.{IsWhole}
use Rattle.cell_edits.specs.VisibleCells.{VisibleCell, texts_joined, visible_at, visible_cells, visible_each}
use Rattle.screen_change.proofs.TextLemmas.{by_test}
use Rattle.screen_difference.specs.ShownCells.{side_by_side, HaveRoom}
use Rattle.screen_difference.proofs.SideLemmas.{fewer_each, room_each, room_end, room_visible, side_each, side_visible}
use Rattle.terminal_c.specs.Told.{goes_on, nothing_told, told, Told, with_cell, with_face, with_text}
use Rattle.terminal_c.specs.ToldCells.{byte_told, each_told, with_each, TellsNext}
use Rattle.terminal_c.specs.declared.told.Cell.{Cell}
use Rattle.terminal_c.specs.declared.told.Face.{Face}

-- ---- cells of a text

-- one cell more follows the others
pub each_more : (column at count : ℕ) (face : Face) → each_told column at (suc count) face ≡ each_told column at count face ++ byte_told (column + count) (at + count) face ∷ []
each_more column at zero face =
    let e : column ≡ column + 0 = omega arith in
    let f : at ≡ at + 0 = omega arith in
    λ i. byte_told (e i) (f i) face ∷ []
each_more column at (suc count) face =
    let e : column + 1 + count ≡ column + suc count = omega arith in
    let f : at + 1 + count ≡ at + suc count = omega arith in
    ap (λ (cells : List Cell). byte_told column at face ∷ cells) (each_more (column + 1) (at + 1) count face ∙ (λ i. each_told (column + 1) (at + 1) count face ++ byte_told (e i) (f i) face ∷ []))

-- ---- the face of neighbors

taken : (b : Bool) (x y : Told) → b ≡ true → (if b then x else y) ≡ x
taken b x y e = ap (λ t. if t then x else y) e

left_out : (b : Bool) (x y : Told) → b ≡ false → (if b then x else y) ≡ y
left_out b x y e = ap (λ t. if t then x else y) e

face_stays : (t : Told) (a : Attributes) → goes_on t.last a ≡ true → with_face t a ≡ t
face_stays t a e = taken (goes_on t.last a) t _ e

face_goes_on : (t : Told) (a : Attributes) → goes_on (with_face t a).last a ≡ true
face_goes_on t a =
    by_test (goes_on t.last a)
    (λ e. ap (λ (u : Told). goes_on u.last a) (face_stays t a e) ∙ e)
    (λ e. ap (λ (u : Told). goes_on u.last a) (left_out (goes_on t.last a) t _ e) ∙ (same_attributes_decides a a).1 refl)

-- cells of the last cell's attributes
each_goes_on : (t : Told) (column : ℕ) (text : List ℕ) (a : Attributes) → goes_on t.last a ≡ true → fold with_cell t (visible_each column text a) ≡ with_each t column text
each_goes_on t column [] a e = λ i. record t { cells = sym (append-nil t.cells) i; text = sym (append-nil t.text) i }
each_goes_on t column (b ∷ text) a e =
    let v : VisibleCell = visible_at column (b ∷ []) 1 a in
    let at = length t.text in
    let rest : ℕ → List Cell = λ from. each_told (column + 1) from (length text) t.face in
    let cells = ap (λ from. (t.cells ++ byte_told column at t.face ∷ []) ++ rest from) (length-append t.text (b ∷ [])) ∙ append_assoc t.cells (byte_told column at t.face ∷ []) (rest (at + 1)) in
    ap (λ (s : Told). fold with_cell (with_text s v) (visible_each (column + 1) text a)) (face_stays t a e)
    ∙ each_goes_on (with_text t v) (column + 1) text a e
    ∙ (λ i. record t { cells = cells i; text = append_assoc t.text (b ∷ []) text i })

-- cells of any attributes: their face, and then these cells
pub each_with_face : (before between after : Told) (column : ℕ) (text : List ℕ) (a : Attributes) → 0 < length text → between ≡ with_face before a → after ≡ with_each between column text → after ≡ fold with_cell before (visible_each column text a)
each_with_face before between after column [] a h f e = absurd (omega arith)
each_with_face before between after column (b ∷ text) a h f e =
    let v : VisibleCell = visible_at column (b ∷ []) 1 a in
    let on = face_goes_on before a in
    e
    ∙ ap (λ (s : Told). with_each s column (b ∷ text)) f
    ∙ sym (each_goes_on (with_face before a) column (b ∷ text) a on)
    ∙ ap (λ (s : Told). fold with_cell (with_text s v) (visible_each (column + 1) text a)) (face_stays (with_face before a) a on)

-- ---- the next cells of those that are left

pub text_told : (before after : Told) (column from : ℕ) (text : List ℕ) (a : Attributes) (cells left : List VisibleCell) → HaveRoom column cells → cells ≡ visible_each from text a ++ left → 0 < length text → after ≡ fold with_cell before (visible_each column text a) → TellsNext column (length text) before after cells left
text_told before after column from text a cells left room e some is =
    let rest : List VisibleCell = side_by_side (column + length text) left in
    let has : HaveRoom column (visible_each from text a ++ left) = subst (HaveRoom column) e room in
    record {
      told =
          ap (λ (t : Told). fold with_cell t rest) is
          ∙ sym (fold-append with_cell before (visible_each column text a) rest)
          ∙ ap (fold with_cell before) (sym (side_each column from text a left) ∙ ap (side_by_side column) (sym e));
      room = room_each column from text a left has;
      small = room_end column from text a left some has;
      fewer = fewer_each from text a cells left e some;
    }

pub cell_told : (before after : Told) (column count : ℕ) (v : VisibleCell) (cells left : List VisibleCell) → HaveRoom column cells → cells ≡ v ∷ left → count ≡ v.cell.width → after ≡ with_cell before (record v { column = column }) → TellsNext column count before after cells left
cell_told before after column count v cells left room e w is =
    let has : HaveRoom column (v ∷ left) = subst (HaveRoom column) e room in
    let more = ap length e in
    record {
      told =
          (λ i. fold with_cell (is i) (side_by_side (column + w i) left))
          ∙ ap (λ (cs : List VisibleCell). fold with_cell before (side_by_side column cs)) (sym e);
      room = subst (λ n. HaveRoom (column + n) left) (sym w) has.1;
      small = subst (λ n. column + n < 2 ^ 64) (sym w) has.0;
      fewer = omega arith;
    }

-- ---- all cells of a line

pub line_room : (row : Row) (cells : List VisibleCell) → IsWhole row → length row < 2 ^ 64 → cells ≡ visible_cells row → HaveRoom 0 cells
line_room row cells whole small e = subst (HaveRoom 0) (sym e) (room_visible 0 0 row whole (omega arith))

pub line_begun : (telling : Told) (row : Row) (cells : List VisibleCell) → IsWhole row → telling ≡ nothing_told → cells ≡ visible_cells row → fold with_cell telling (side_by_side 0 cells) ≡ told (visible_cells row)
line_begun telling row cells whole is e =
    (λ i. fold with_cell (is i) (side_by_side 0 (e i)))
    ∙ ap (fold with_cell nothing_told) (side_visible 0 0 row whole)

pub line_ended : (before after wanted : Told) (column : ℕ) (cells : List VisibleCell) → fold with_cell before (side_by_side column cells) ≡ wanted → cells ≡ [] → after ≡ before → after ≡ wanted
line_ended before after wanted column cells is none same =
    same ∙ ap (λ (vs : List VisibleCell). fold with_cell before (side_by_side column vs)) (sym none) ∙ is

-- ---- the texts of all cells

text_of_cell : (t : Told) (v : VisibleCell) → (with_cell t v).text ≡ t.text ++ v.cell.text
text_of_cell t v =
    let a = v.cell.attributes in
    let on = goes_on t.last a in
    by_test on
    (λ e. ap (λ (u : Told). u.text ++ v.cell.text) (face_stays t a e))
    (λ e. ap (λ (u : Told). u.text ++ v.cell.text) (left_out on t _ e))

texts_from : (t : Told) (cells : List VisibleCell) → (fold with_cell t cells).text ≡ t.text ++ texts_joined cells
texts_from t [] = sym (append-nil t.text)
texts_from t (v ∷ cells) =
    texts_from (with_cell t v) cells
    ∙ ap (λ (text : List ℕ). text ++ texts_joined cells) (text_of_cell t v)
    ∙ append_assoc t.text v.cell.text (texts_joined cells)

pub texts_told : (cells : List VisibleCell) (text : List ℕ) → text ≡ (told cells).text → text ≡ texts_joined cells
texts_told cells text e = e ∙ texts_from nothing_told cells
