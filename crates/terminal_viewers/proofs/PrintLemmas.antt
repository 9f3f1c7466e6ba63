-- The texts that a patch prints: the fresh cells, and where a wrap is pending the last cell of the cursor's row once more.
use Rattle.std.proofs.Common.{◌≡◌, ℕ, ◌+◌, ◌-◌, ◌<◌, ◌^◌, Bool, true, false, List, [], ◌∷◌, ◌++◌, length, map, refl, sym, ap, subst, ◌∙◌, arith, append-nil, length-append}
use Rattle.std.specs.Prelude.{⊤, ◌==◌, ◌||◌, min, nat_le, Option, Some, None, IfSome, option_map, if◌then◌else◌}
use Rattle.std.specs.List.{AllByRecursion, flat_map}
use Rattle.std.specs.Str.{IsUtf8}
use Rattle.text_clusters.specs.Controls.{holds_c1}
use Rattle.cell_base.specs.declared.attributes.CursorVisibility.{CursorVisibility as Visibility}
use Rattle.cell_base.specs.declared.attributes.CursorVisibility.TheVariants.{Hidden, Visible}
use Rattle.cell_base.specs.declared.attributes.Position.TheVariants.{Absolute}
use Rattle.cell_base.specs.Attributes.{Attributes}
use Rattle.cell_base.specs.Cluster.{clusters}
use Rattle.cell_base.specs.Row.{Row, space}
use Rattle.cell_base.specs.Screen.{Screen, height}
use Rattle.screen_change.specs.ChangeValue.{ChangeValue, AllAttributes, CursorPosition, CursorVisibility, Text, Title}
use Rattle.screen_change.specs.CellChanges.{attributes_due}
use Rattle.screen_change.specs.Texts.{texts}
use Rattle.screen_change.proofs.TextLemmas.{by_test}
use Rattle.cell_edits.specs.VisibleCells.{VisibleCell}
use Rattle.screen_effects.proofs.SizeLemmas.{effect_size}
use Rattle.csi_codec.specs.declared.cursors.Cursor.TheVariants as cursor
use Rattle.csi_codec.specs.declared.rendition.Sgr.{Sgr}
use Rattle.cell_base.specs.Link.{Link}
use Rattle.escape_osc.specs.Command.{set_window_title}
use Rattle.escape_stream.specs.StreamAction.{StreamAction, command}
use Rattle.screen_difference.specs.Difference.{difference, position}
use Rattle.screen_difference.specs.DrawnCells.{HavePositions}
use Rattle.screen_difference.specs.FreshCells.{PlacedCell, screen_fresh}
use Rattle.screen_effects.specs.Display.{Display, IsDisplay}
use Rattle.screen_effects.specs.Effect.{cursor_row, effect, replay}
use Rattle.screen_effects.specs.Strokes.{Cluster, Stroke, TextPart, strokes, text_parts}
use Rattle.screen_effects.proofs.EffectLaws.{effect_is}
use Rattle.screen_difference.specs.Prints.{change_strokes, changes_print, strokes_print, strokes_scroll, text_of, texts_scroll}
use Rattle.screen_effects.specs.WrittenCells.{IsSoundDisplay}
use Rattle.terminal_table.specs.Led.{last_cell, position_and_pen, written_again}
use Rattle.terminal_viewers.specs.Patch.{patch_changes, position_prints, print_again}
use Rattle.terminal_viewers.proofs.ActionLemmas.{AreQuiet, IsBare, IsQuiet, Sends, both_send, none_sends, quiet_append, quiet_sends, reset_quiet, run_sends, settings_quiet}
use Rattle.terminal_viewers.proofs.LeadLemmas as lead
use Rattle.terminal_table.proofs.LedLemmas.{DifferencesKeepRest, RegionsHavePositions, ScreensAreShown}
use Rattle.terminal_viewers.proofs.PatchSpellLemmas.{each_of_patch}
use Rattle.terminal_render.specs.Effects.{IsReady, actions_done, with_change}
use Rattle.terminal_render.specs.Links.{is_plain_text}
use Rattle.terminal_render.specs.Lists.{all_rendered}
use Rattle.terminal_render.specs.Pen.{lacks_encoding, link_action, pen_actions, pen_rendering, pen_settings, set}
use Rattle.terminal_render.specs.Positions.{moves, position_moves}
use Rattle.terminal_render.specs.Rendering.{moved, rendering}
use Rattle.terminal_render.specs.Texts.{part_actions, run_actions, text_rendering, title_rendering}
use Rattle.terminal_render.proofs.ListLemmas.{parts}
use Rattle.terminal_render.proofs.WholeLemmas.{have_the_effect}
use Rattle.terminal_render.specs.Spelling.{IsSpelledScreen}
use Rattle.terminal_table.specs.Changes.{visibility}
use Rattle.terminal_table.specs.Functions.{function_of}
use Rattle.terminal_table.specs.Meaning.{View}
use Rattle.terminal_table.specs.RunText.{IsPrinted}
use Rattle.terminal_table.proofs.RunLemmas.{one_part, printed_strokes}
use Rattle.terminal_viewers.specs.Update.{display_on}
use Rattle.terminal_table.proofs.PositionLemmas.{LastCell, cell_columns, last_cell_is, none_due, one_text_is}

-- ---- the kinds of changes of a patch

-- texts without controls, attributes, positions, titles, and whether the cursor is visible
abbrev pub IsOfPatch : ChangeValue → Type 0
IsOfPatch (Text text) = IsPrinted text × IsUtf8 text
IsOfPatch (AllAttributes pen) = ⊤
IsOfPatch (CursorPosition (Absolute column) (Absolute row)) = ⊤
IsOfPatch (Title title) = ⊤
IsOfPatch (CursorVisibility sight) = ⊤
IsOfPatch _ = ⊥

abbrev pub AreOfPatch : List ChangeValue → Type 0
AreOfPatch = AllByRecursion IsOfPatch

pub patch_is : (old new : Screen) → IsDisplay (display_on old) → IsDisplay (display_on new) → old.width ≡ new.width → IsSpelledScreen new → AreOfPatch (patch_changes old new)
patch_is old new g h wide p =
    each_of_patch new.width IsOfPatch (λ text q. (q.printed, q.spelled.utf8)) (λ pen q. tt) (λ column row lt. tt) (λ title q. tt) (λ visible. tt) old new refl g h wide p

-- ---- the texts that the rendering of each kind prints

abbrev IfQuiet : Option (List StreamAction) → Type 0
IfQuiet found = IfSome found AreQuiet

title_quiet : (text : List ℕ) → IfQuiet (title_rendering text)
unfolding title_rendering function_of
title_quiet text = choose (is_plain_text text)
  where
    choose : (b : Bool) → IfQuiet (if b then Some (command (set_window_title text) ∷ []) else None)
    choose true = (record { separate = refl; rows = λ width_of state. refl; still = λ state. refl }, tt)
    choose false = tt

link_quiet : (link : Option Link) → IsQuiet (link_action link)
unfolding function_of
link_quiet link = record { separate = refl; rows = λ width_of state. refl; still = λ state. refl }

pen_quiet : (a : Attributes) → IfQuiet (pen_rendering a)
unfolding pen_rendering
pen_quiet a = choose (lacks_encoding a)
  where
    set_all : (found : Option (List (Option Sgr))) → IfQuiet (option_map (λ values. pen_actions values a.hyperlink) found)
    set_all None = tt
    set_all (Some values) = (reset_quiet, quiet_append (flat_map set values) (link_action a.hyperlink ∷ []) (settings_quiet values) (link_quiet a.hyperlink, tt))

    choose : (b : Bool) → IfQuiet (if b then None else option_map (λ values. pen_actions values a.hyperlink) (pen_settings a))
    choose true = tt
    choose false = set_all (pen_settings a)

position_quiet : (width tall column row : ℕ) → IfQuiet (option_map (map moved) (position_moves width tall (Absolute column) (Absolute row)))
unfolding position_moves moves function_of
position_quiet width tall column row = choose (nat_le width column)
  where
    choose : (b : Bool) → IfQuiet (option_map (map moved) (if b then None else Some (cursor.Position (min row (tall - 1) + 1) (min column (width - 1) + 1) ∷ [])))
    choose true = tt
    choose false = (record { separate = refl; rows = λ width_of state. refl; still = λ state. refl }, tt)

sight_quiet : (sight : Visibility) (width tall : ℕ) → IfQuiet (rendering (CursorVisibility sight) width tall)
unfolding function_of
sight_quiet Visible width tall = (record { separate = refl; rows = λ width_of state. refl; still = λ state. refl }, tt)
sight_quiet Hidden width tall = (record { separate = refl; rows = λ width_of state. refl; still = λ state. refl }, tt)

of_some : {A : Type 0} (P : A → Type 0) (found : Option A) (x : A) → found ≡ Some x → IfSome found P → P x
of_some P found x e h = subst (λ o. IfSome o P) e h

module _ (f : List ℕ → ℕ) where
  -- a text without controls is printed as it is
  abbrev SendsText : List ℕ → List StreamAction → Type 0
  SendsText text actions = (v : View) → IsBare v → IsUtf8 text → strokes_scroll f v.state.screen (strokes text) ≡ false → Sends f v actions (strokes_print f v.state.screen (strokes text))

  whole_sends : (text : List ℕ) → IsPrinted text → SendsText text (flat_map part_actions (text_parts text))
  whole_sends [] h = λ v none u still. none_sends f v
  whole_sends (b ∷ text) h = λ v none u still.
      let are : strokes (b ∷ text) ≡ map Cluster (clusters (b ∷ text)) = printed_strokes (b ∷ text) h in
      let calm : strokes_scroll f v.state.screen (map Cluster (clusters (b ∷ text))) ≡ false = ap (strokes_scroll f v.state.screen) (sym are) ∙ still in
      subst (λ (ps : List TextPart). Sends f v (flat_map part_actions ps) (strokes_print f v.state.screen (strokes (b ∷ text)))) (sym (one_part b text h))
      (subst (λ (ss : List Stroke). Sends f v (run_actions (b ∷ text)) (strokes_print f v.state.screen ss)) (sym are) (run_sends f v (b ∷ text) none u calm))

  text_sends : (text : List ℕ) → IsPrinted text → IfSome (text_rendering text) (SendsText text)
  unfolding text_rendering
  text_sends text h = choose (holds_c1 text)
    where
      choose : (b : Bool) → IfSome (if b then None else Some (flat_map part_actions (text_parts text))) (SendsText text)
      choose true = tt
      choose false = whole_sends text h

  -- each change of a patch prints its text
  change_sends : (v : View) (change : ChangeValue) (width tall : ℕ) (actions : List StreamAction) → IsBare v → IsOfPatch change → strokes_scroll f v.state.screen (change_strokes change) ≡ false → rendering change width tall ≡ Some actions
      → Sends f v actions (strokes_print f v.state.screen (change_strokes change))
  change_sends v (Text text) width tall actions none p still e =
      of_some (SendsText text) (text_rendering text) actions e (text_sends text p.0) v none p.1 still
  change_sends v (AllAttributes pen) width tall actions none p still e = quiet_sends f v actions none (of_some AreQuiet (pen_rendering pen) actions e (pen_quiet pen))
  change_sends v (Title title) width tall actions none p still e = quiet_sends f v actions none (of_some AreQuiet (title_rendering title) actions e (title_quiet title))
  change_sends v (CursorPosition (Absolute column) (Absolute row)) width tall actions none p still e =
      quiet_sends f v actions none (of_some AreQuiet (option_map (map moved) (position_moves width tall (Absolute column) (Absolute row))) actions e (position_quiet width tall column row))
  change_sends v (CursorVisibility sight) width tall actions none p still e = quiet_sends f v actions none (of_some AreQuiet (rendering (CursorVisibility sight) width tall) actions e (sight_quiet sight width tall))
  change_sends v _ width tall actions none p still e = absurd p

  no_first : (a b : Bool) → (a || b) ≡ false → a ≡ false
  no_first false b e = refl
  no_first true b e = e

  no_second : (a b : Bool) → (a || b) ≡ false → b ≡ false
  no_second false b e = e
  no_second true b e = cc

  -- a terminal that is ready for an encoding is ready after the change's effect as well
  ready_after : (v : View) (d : Display) (change : ChangeValue) → IsReady v → IsDisplay d → d.screen ≡ v.state.screen → IsReady (with_change f v d change)
  ready_after v d change ready h same =
      let lawful = effect_is f d change h in
      let size = effect_size f d change h in
      let width : (effect f d change).screen.width ≡ v.state.screen.width = size.width ∙ ap (λ (s : Screen). s.width) same in
      let tall : height (effect f d change).screen ≡ height v.state.screen = size.tall ∙ ap (λ (s : Screen). height s) same in
      record { lawful = lawful.lawful; whole = lawful.whole; width = subst (λ n. n < 2 ^ 32) (sym width) ready.width; height = subst (λ n. n < 2 ^ 32) (sym tall) ready.height; run = ready.run; plain = ready.plain }

  -- the changes of a patch, in turn, print their texts
  pub changes_send : (v : View) (d : Display) (changes : List ChangeValue) (actions : List StreamAction) → IsReady v → IsDisplay d → d.screen ≡ v.state.screen → AreOfPatch changes → texts_scroll f d changes ≡ false
      → all_rendered changes v.state.screen.width (height v.state.screen) ≡ Some actions → Sends f v actions (changes_print f d changes)
  changes_send v d [] actions ready h same p still e = let none : [] ≡ actions = cc in subst (λ xs. Sends f v xs []) none (none_sends f v)
  changes_send v d (change ∷ changes) actions ready h same p still e =
      let size = effect_size f d change h in
      let width : (effect f d change).screen.width ≡ v.state.screen.width = size.width ∙ ap (λ (s : Screen). s.width) same in
      let tall : height (effect f d change).screen ≡ height v.state.screen = size.tall ∙ ap (λ (s : Screen). height s) same in
      let here : Bool = strokes_scroll f d.screen (change_strokes change) in
      let later : Bool = texts_scroll f (effect f d change) changes in
      let found = parts (rendering change v.state.screen.width (height v.state.screen)) (all_rendered changes v.state.screen.width (height v.state.screen)) actions e in
      let rest : all_rendered changes (effect f d change).screen.width (height (effect f d change).screen) ≡ Some found.remaining = (λ i. all_rendered changes (width i) (tall i)) ∙ found.rest_is in
      let calm : strokes_scroll f v.state.screen (change_strokes change) ≡ false = ap (λ s. strokes_scroll f s (change_strokes change)) (sym same) ∙ no_first here later still in
      let own : Sends f v found.first (strokes_print f d.screen (change_strokes change)) =
      subst (λ s. Sends f v found.first (strokes_print f s (change_strokes change))) (sym same) (change_sends v change v.state.screen.width (height v.state.screen) found.first (record { run = ready.run; plain = ready.plain }) p.0 calm found.found_is) in
      let remaining : Sends f (actions_done f v found.first) found.remaining (changes_print f (effect f d change) changes) =
      subst (λ w. Sends f w found.remaining (changes_print f (effect f d change) changes)) (sym (have_the_effect f v d change found.first ready same found.found_is))
      (changes_send (with_change f v d change) (effect f d change) changes found.remaining (ready_after v d change ready h same) (effect_is f d change h) refl p.1 (no_second here later still) rest) in
      subst (λ xs. Sends f v xs (changes_print f d (change ∷ changes))) (sym found.are)
      (both_send f v found.first found.remaining (strokes_print f d.screen (change_strokes change)) (changes_print f (effect f d change) changes) own remaining)

-- ---- the texts that the changes of a patch print

-- premises: laws of the texts that differences print
abbrev pub DifferencesPrintCells : Type 0
DifferencesPrintCells = (width_of : List ℕ → ℕ) (display : Display) (cells : List PlacedCell) → IsDisplay display → HavePositions width_of display.screen.width (height display.screen) cells → changes_print width_of display (difference cells) ≡ map text_of cells

abbrev pub DifferencesAreStill : Type 0
DifferencesAreStill = (width_of : List ℕ → ℕ) (display : Display) (cells : List PlacedCell) → IsDisplay display → HavePositions width_of display.screen.width (height display.screen) cells → texts_scroll width_of display (difference cells) ≡ false

abbrev pub PrintsJoin : Type 0
PrintsJoin = (width_of : List ℕ → ℕ) (display : Display) (first : List ChangeValue) (second : List ChangeValue) → changes_print width_of display (first ++ second) ≡ changes_print width_of display first ++ changes_print width_of (replay width_of display first) second

abbrev pub StillJoin : Type 0
StillJoin = (width_of : List ℕ → ℕ) (display : Display) (first : List ChangeValue) (second : List ChangeValue) → texts_scroll width_of display first ≡ false → texts_scroll width_of (replay width_of display first) second ≡ false → texts_scroll width_of display (first ++ second) ≡ false

-- the cell that is written once more, at its position
abbrev again_at : ℕ → VisibleCell → PlacedCell
again_at row v = record { row = row; column = v.column; cell = v.cell }

-- and the changes that write it
one_written : (row : ℕ) (v : VisibleCell) → difference (again_at row v ∷ []) ≡ position v.column row ∷ AllAttributes v.cell.attributes ∷ Text v.cell.text ∷ []
one_written row v =
    let a : Attributes = v.cell.attributes in
    let text : List ℕ = v.cell.text in
    ap (λ (cs : List ChangeValue). position v.column row ∷ AllAttributes a ∷ cs)
    (append-nil ((attributes_due a a ++ map Text (texts (text ∷ []))) ++ [])
    ∙ append-nil (attributes_due a a ++ map Text (texts (text ∷ [])))
    ∙ (λ i. none_due a i ++ map Text (one_text_is text i)))

module _ (keeps : DifferencesKeepRest) (positions : RegionsHavePositions) (shows : ScreensAreShown) (print : DifferencesPrintCells) (calm : DifferencesAreStill) (join : PrintsJoin) (still_join : StillJoin) where
  module _ (f : List ℕ → ℕ) (old new : Screen) (narrow : f space ≡ 1) (g : IsDisplay (display_on old)) (h : IsDisplay (display_on new)) (sound : IsSoundDisplay f (display_on new))
      (wide : old.width ≡ new.width) (tall : height old ≡ height new) where
    abbrev titled : Display
    titled = lead.titled keeps positions shows f old new narrow g h sound wide tall

    abbrev drawn : Display
    drawn = lead.drawn keeps positions shows f old new narrow g h sound wide tall

    drawn_is : IsDisplay drawn
    drawn_is = lead.drawn_is keeps positions shows f old new narrow g h sound wide tall

    drawn_rows : drawn.screen.rows ≡ new.rows
    drawn_rows = lead.drawn_rows keeps positions shows f old new narrow g h sound wide tall

    -- the changes for the cursor's position print its text, and don't scroll
    record Placed : Type 0 where
      prints : changes_print f drawn (position_and_pen new) ≡ position_prints new
      still : texts_scroll f drawn (position_and_pen new) ≡ false

    abbrev position_alone : List ChangeValue
    position_alone = CursorPosition (Absolute new.column) (Absolute new.row) ∷ AllAttributes new.pen ∷ []

    abbrev again : Option VisibleCell → List ChangeValue
    again o = written_again new o

    written_prints : LastCell f 0 (cursor_row new) → (changes_print f drawn (again (last_cell (cursor_row new))) ≡ print_again new (last_cell (cursor_row new))) × (texts_scroll f drawn (again (last_cell (cursor_row new))) ≡ false)
    written_prints end =
        let v : VisibleCell = end.cell in
        let c : PlacedCell = again_at new.row v in
        let row : Row = cursor_row new in
        let in_rows : new.row < length new.rows = h.lawful.row_in in
        let even : length row ≡ new.width = h.lawful.even new.row [] in_rows in
        let width : drawn.screen.width ≡ new.width = lead.drawn_wide keeps positions shows f old new narrow g h sound wide tall in
        let count : length row ≡ length end.before + length (cell_columns v) = ap length end.same ∙ length-append end.before (cell_columns v) in
        let at = end.column in
        let fills = end.fills in
        let placed : HavePositions f drawn.screen.width (height drawn.screen) (c ∷ []) = (
          record {
            some = end.some;
            most = end.most;
            sound = end.sound;
            in_columns = omega (arith, even, width, count, at, fills);
            in_rows = subst (λ (rows : List Row). new.row < length rows) (sym drawn_rows) in_rows;
          },
          tt,
        ) in
        let is : again (Some v) ≡ difference (c ∷ []) ++ AllAttributes new.pen ∷ [] = ap (λ (cs : List ChangeValue). cs ++ AllAttributes new.pen ∷ []) (sym (one_written new.row v)) in
        let last : last_cell row ≡ Some v = end.last None in (
          ap (λ o. changes_print f drawn (again o)) last
              ∙ ap (changes_print f drawn) is
              ∙ join f drawn (difference (c ∷ [])) (AllAttributes new.pen ∷ [])
              ∙ append-nil (changes_print f drawn (difference (c ∷ [])))
              ∙ print f drawn (c ∷ []) drawn_is placed
              ∙ sym (ap (print_again new) last),
          ap (λ o. texts_scroll f drawn (again o)) last
              ∙ ap (texts_scroll f drawn) is
              ∙ still_join f drawn (difference (c ∷ [])) (AllAttributes new.pen ∷ []) (calm f drawn (c ∷ []) drawn_is placed) refl,
        )

    position_printed : Placed
    position_printed =
        let there : List ChangeValue = again (last_cell (cursor_row new)) in
        by_test (new.column == new.width)
        (λ e.
        let in_rows : new.row < length new.rows = h.lawful.row_in in
        let even : length (cursor_row new) ≡ new.width = h.lawful.even new.row [] in_rows in
        let some = h.lawful.wide_enough in
        let p = written_prints (last_cell_is f 0 (cursor_row new) (omega (arith, even, some)) (h.whole new.row [] in_rows) (sound new.row [] in_rows)) in
        record {
          prints = ap (λ b. changes_print f drawn (if b then there else position_alone)) e ∙ p.0 ∙ sym (ap (λ b. if b then print_again new (last_cell (cursor_row new)) else []) e);
          still = ap (λ b. texts_scroll f drawn (if b then there else position_alone)) e ∙ p.1;
        })
        (λ e. record {
          prints = ap (λ b. changes_print f drawn (if b then there else position_alone)) e ∙ sym (ap (λ b. if b then print_again new (last_cell (cursor_row new)) else []) e);
          still = ap (λ b. texts_scroll f drawn (if b then there else position_alone)) e;
        })

    abbrev cells : List PlacedCell
    cells = screen_fresh old new

    abbrev seen_last : List ChangeValue
    seen_last = CursorVisibility (visibility new.visible) ∷ []

    fresh_positions : HavePositions f titled.screen.width (height titled.screen) cells
    fresh_positions = lead.fresh_positions keeps positions shows f old new narrow g h sound wide tall

    titled_is : IsDisplay titled
    titled_is = lead.titled_is keeps positions shows f old new narrow g h sound wide tall

    pub patch_prints : changes_print f (display_on old) (patch_changes old new) ≡ map text_of cells ++ position_prints new
    patch_prints =
        join f titled (difference cells ++ position_and_pen new) seen_last
        ∙ append-nil (changes_print f titled (difference cells ++ position_and_pen new))
        ∙ join f titled (difference cells) (position_and_pen new)
        ∙ (λ i. print f titled cells titled_is fresh_positions i ++ position_printed.prints i)

    pub patch_still : texts_scroll f (display_on old) (patch_changes old new) ≡ false
    patch_still =
        still_join f titled (difference cells ++ position_and_pen new) seen_last
        (still_join f titled (difference cells) (position_and_pen new) (calm f titled cells titled_is fresh_positions) position_printed.still) refl
