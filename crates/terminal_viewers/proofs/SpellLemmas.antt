-- The changes of an update have an encoding.
use Rattle.std.proofs.Common.{◌≡◌, ℕ, ◌<◌, inl, List, [], ◌∷◌, ◌++◌, length, sym, subst, arith}
use Rattle.std.specs.Prelude.{◌==◌, IfSome, Option, Some, None}
use Rattle.std.specs.List.{flat_map}
use Rattle.std.proofs.lemmas.Bool.Decides.{nat_tests}
use Rattle.cell_base.specs.declared.attributes.CursorVisibility.TheVariants.{Hidden}
use Rattle.cell_base.specs.declared.attributes.Position.TheVariants.{Absolute}
use Rattle.cell_base.specs.declared.color.ColorAttribute.TheVariants as attribute
use Rattle.cell_base.specs.Attributes.{plain}
use Rattle.cell_base.specs.Row.{Row}
use Rattle.cell_base.specs.Screen.{Screen, IsScreen, height}
use Rattle.screen_change.specs.ChangeValue.{ChangeValue, AllAttributes, ClearScreen, CursorPosition, CursorVisibility, Text, Title}
use Rattle.screen_change.proofs.TextLemmas.{by_test}
use Rattle.cell_edits.specs.VisibleCells.{VisibleCell}
use Rattle.screen_log.specs.Log.{due}
use Rattle.screen_log.specs.LogSteps.{Sized}
use Rattle.screen_effects.specs.Display.{IsDisplay}
use Rattle.screen_effects.specs.Effect.{cursor_row}
use Rattle.screen_repaint.specs.Repaint.{are_some, cursor_shown, pen_left}
use Rattle.terminal_render.specs.Spelling.{HaveEncodings, IsSpelledScreen}
use Rattle.terminal_render.proofs.ChangeLemmas.{is_encoded, coordinate_some, encodings_append}
use Rattle.terminal_render.proofs.LedLemmas.{IsSpelledLast, last_from}
use Rattle.terminal_render.proofs.LogLemmas.{due_has}
use Rattle.terminal_viewers.proofs.RepaintLemmas.{due_encoded, placed_encoded, rows_encoded, shown_encoded}
use Rattle.terminal_table.specs.Led.{last_cell, written_again}
use Rattle.terminal_viewers.specs.Update.{display_on, due_or, painted_anew, as_encoded, update_changes}
use Rattle.terminal_viewers.proofs.PaintLemmas.{due_of, prefix_of, painted_rows, position_of, encoded_here, encoded_is, encoded_there}

-- ---- the last cell of a row

written_encoded : (s : Screen) → IsSpelledScreen s → (o : Option VisibleCell) → IsSpelledLast s.width o → HaveEncodings s.width (height s) (written_again s o)
written_encoded s p None q = tt
written_encoded s p (Some v) q =
    let w = s.width in
    let n = height s in (
      is_encoded w n (CursorPosition (Absolute v.column) (Absolute s.row)) tt (coordinate_some w n v.column (Absolute s.row) q.2) tt,
      (is_encoded w n (AllAttributes v.cell.attributes) q.1 tt tt, (is_encoded w n (Text v.cell.text) q.0.spelled tt (inl q.0.printed), (is_encoded w n (AllAttributes s.pen) p.pen tt tt, tt))),
    )

-- ---- the screen painted anew

position_encoded : (s : Screen) → IsScreen s → IsSpelledScreen s → HaveEncodings s.width (height s) (flat_map (as_encoded s) (position_of s))
position_encoded s h p =
    by_test (s.column == s.width)
    (λ e.
    let row : Row = cursor_row s in
    let even : length row ≡ s.width = h.even s.row [] h.row_in in
    subst (HaveEncodings s.width (height s)) (sym (encoded_there s h.wide_enough e))
    (written_encoded s p (last_cell row) (last_from s.width 0 row None (omega (arith, even)) (p.rows s.row [] h.row_in) tt)))
    (λ e.
    let in_columns = h.column_in in
    let before : s.column < s.width = grind (arith, nat_tests) in
    subst (HaveEncodings s.width (height s)) (sym (encoded_here s e)) (placed_encoded s.width (height s) (are_some (painted_rows s)) s.column s.row before))

pub painted_has : (s : Screen) → IsDisplay (display_on s) → IsSpelledScreen s → HaveEncodings s.width (height s) (painted_anew s)
painted_has s d p =
    let w = s.width in
    let n = height s in
    let h : IsScreen s = d.lawful in
    let position : List ChangeValue = flat_map (as_encoded s) (position_of s) in
    let begin : HaveEncodings w n ((CursorVisibility Hidden ∷ ClearScreen attribute.Default ∷ []) ++ (Title s.title ∷ [])) =
    (is_encoded w n (CursorVisibility Hidden) tt tt tt, (is_encoded w n (ClearScreen attribute.Default) tt tt tt, (is_encoded w n (Title s.title) p.title tt tt, tt))) in
    let prefix : HaveEncodings w n (prefix_of s) =
    encodings_append w n ((CursorVisibility Hidden ∷ ClearScreen attribute.Default ∷ []) ++ (Title s.title ∷ [])) (painted_rows s) begin (rows_encoded w n h.wide_enough plain s.rows p.rows) in
    subst (HaveEncodings w n) (sym (encoded_is s h.wide_enough))
    (encodings_append w n (prefix_of s ++ position ++ due_of s) (cursor_shown s.visible None)
    (encodings_append w n (prefix_of s ++ position) (due_of s)
    (encodings_append w n (prefix_of s) position prefix (position_encoded s h p))
    (due_encoded w n h.wide_enough (pen_left plain (painted_rows s)) s.pen p.pen))
    (shown_encoded w n s.visible))

-- ---- an update

due_or_has : (w n : ℕ) (painted : List ChangeValue) (o : Option (List ChangeValue)) → HaveEncodings w n painted → IfSome o (HaveEncodings w n) → HaveEncodings w n (due_or painted o)
due_or_has w n painted None p q = p
due_or_has w n painted (Some changes) p q = q

pub update_has : (s : Screen) (log : Sized) (number : ℕ) → IsDisplay (display_on s) → IsSpelledScreen s → HaveEncodings s.width (height s) log.log.entries → HaveEncodings s.width (height s) (update_changes s log number)
update_has s log number d p kept = due_or_has s.width (height s) (painted_anew s) (due log.most log.log number) (painted_has s d p) (due_has s.width (height s) log.most log.log number kept)
