-- The encodings of clears.
use Rattle.std.proofs.Common.{◌≡◌, ℕ, ◌-◌, List, [], ◌∷◌, ◌++◌, length, replicate, refl, sym, ap, ◌∙◌, arith}
use Rattle.std.specs.Prelude.{min, All, Option, None, IfSome, slice_index_or, slice_set}
use Rattle.std.proofs.lemmas.List.{length-replicate}
use Rattle.cell_base.specs.declared.attributes.LineAttribute.TheVariants.{SingleWidthLine}
use Rattle.cell_base.specs.declared.color.ColorAttribute.{ColorAttribute}
use Rattle.cell_base.specs.declared.color.ColorAttribute.TheVariants as attribute
use Rattle.cell_base.specs.declared.color.ColorSpec.{ColorSpec}
use Rattle.cell_base.specs.declared.color.ColorSpec.TheVariants as spec
use Rattle.cell_base.specs.Attributes.{blank_of}
use Rattle.cell_base.specs.Color.{attribute_of}
use Rattle.cell_base.specs.Screen.{Screen, IsScreen, height}
use Rattle.cell_base.specs.WholeRow.{IsWhole}
use Rattle.csi_codec.specs.declared.cursors.Cursor.TheVariants as cursor
use Rattle.csi_codec.specs.declared.edits.Edit.TheVariants as edit
use Rattle.csi_codec.specs.declared.edits.EraseInDisplay.TheVariants as display
use Rattle.csi_codec.specs.declared.edits.EraseInLine.TheVariants as line
use Rattle.escape_stream.specs.StreamAction.{StreamAction}
use Rattle.screen_effects.specs.Display.{Display, IsDisplay}
use Rattle.screen_effects.specs.Effect.{with_pen, cleared_screen, cleared_line, cleared_below}
use Rattle.terminal_table.specs.Modes.{SavedCursor}
use Rattle.terminal_table.specs.Functions.{function_of, EraseToEndOfDisplay}
use Rattle.terminal_table.proofs.TurnLemmas.{erased_is, function_turns}
use Rattle.terminal_render.specs.Effects.{actions_done}
use Rattle.terminal_render.specs.Pen.{plain_pen, clear_rendering}
use Rattle.terminal_render.specs.Rendering.{edited, moved}
use Rattle.terminal_render.proofs.DoneLemmas.{on, done_append}

-- a display that shows a screen
abbrev display_on : Screen → Display
display_on s = record { screen = s; sizes = replicate (height s) SingleWidthLine; shape = None }

module _ (f : List ℕ → ℕ) (saved : Option SavedCursor) (replies : List ℕ) (stream : List ℕ) (s : Screen) where
  -- a plain pen on a background
  plain_pen_does : (c : ColorSpec) → actions_done f (on f saved replies stream s) (plain_pen c) ≡ on f saved replies stream (with_pen (blank_of (attribute_of c)) s)
  unfolding function_of
  plain_pen_does spec.Default = refl
  plain_pen_does (spec.PaletteIndex n) = refl
  plain_pen_does (spec.TrueColor c) = refl

  -- from the screen with this blank pen the actions `erasure` lead to the screen `after`
  abbrev Erases : ColorAttribute → List StreamAction → Screen → Type 0
  Erases color erasure after = actions_done f (on f saved replies stream (with_pen (blank_of color) s)) erasure ≡ on f saved replies stream after

  erases : (c : ColorSpec) (erasure : List StreamAction) (after : Screen) → Erases (attribute_of c) erasure after → actions_done f (on f saved replies stream s) (plain_pen c ++ erasure) ≡ on f saved replies stream after
  erases c erasure after h =
      done_append f saved replies stream (plain_pen c) erasure (on f saved replies stream s) ∙ ap (λ view. actions_done f view erasure) (plain_pen_does c) ∙ h

  clears : (color : ColorAttribute) (erasure : List StreamAction) (after : Screen) → Erases color erasure after → IfSome (clear_rendering color erasure) (λ actions. actions_done f (on f saved replies stream s) actions ≡ on f saved replies stream after)
  unfolding clear_rendering
  clears (attribute.TrueColorWithPaletteFallback color index) erasure after h = tt
  clears (attribute.TrueColorWithDefaultFallback color) erasure after h = erases (spec.TrueColor color) erasure after h
  clears (attribute.PaletteIndex index) erasure after h = erases (spec.PaletteIndex index) erasure after h
  clears attribute.Default erasure after h = erases spec.Default erasure after h

  line_erased : (color : ColorAttribute) → Erases color (edited (edit.EraseInLine line.EraseToEndOfLine) ∷ []) (cleared_line color s)
  unfolding function_of
  line_erased color = ap (λ row. on f saved replies stream (record s { rows = slice_set s.rows s.row row; pen = blank_of color })) (sym (erased_is s.column color (slice_index_or s.rows s.row [])))

  screen_erased : (color : ColorAttribute) → Erases color (edited (edit.EraseInDisplay display.EraseDisplay) ∷ moved (cursor.Position 1 1) ∷ []) (cleared_screen color s)
  unfolding function_of
  screen_erased color = λ i. on f saved replies stream (record (cleared_screen color s) { column = home s.width i; row = home (length (cleared_screen color s).rows) i })
    where
      home : (size : ℕ) → min 0 (size - 1) ≡ 0
      home size = omega arith

  below_erased : (color : ColorAttribute) → IsScreen s → All IsWhole s.rows → Erases color (edited (edit.EraseInDisplay display.EraseToEndOfDisplay) ∷ []) (cleared_below color s)
  unfolding function_of
  below_erased color h w = ap (on f saved replies stream) (sym (function_turns f EraseToEndOfDisplay None (display_on (with_pen (blank_of color) s)) lawful).screen)
    where
      lawful : IsDisplay (display_on (with_pen (blank_of color) s))
      lawful = record {
        lawful = record { wide_enough = h.wide_enough; even = h.even; column_in = h.column_in; row_in = h.row_in };
        whole = w;
        sized = length-replicate (height s) SingleWidthLine;
      }

  pub line_does : (color : ColorAttribute) → IfSome (clear_rendering color (edited (edit.EraseInLine line.EraseToEndOfLine) ∷ [])) (λ actions. actions_done f (on f saved replies stream s) actions ≡ on f saved replies stream (cleared_line color s))
  line_does color = clears color (edited (edit.EraseInLine line.EraseToEndOfLine) ∷ []) (cleared_line color s) (line_erased color)

  pub screen_does : (color : ColorAttribute) → IfSome (clear_rendering color (edited (edit.EraseInDisplay display.EraseDisplay) ∷ moved (cursor.Position 1 1) ∷ [])) (λ actions. actions_done f (on f saved replies stream s) actions ≡ on f saved replies stream (cleared_screen color s))
  screen_does color = clears color (edited (edit.EraseInDisplay display.EraseDisplay) ∷ moved (cursor.Position 1 1) ∷ []) (cleared_screen color s) (screen_erased color)

  pub below_does : (color : ColorAttribute) → IsScreen s → All IsWhole s.rows → IfSome (clear_rendering color (edited (edit.EraseInDisplay display.EraseToEndOfDisplay) ∷ [])) (λ actions. actions_done f (on f saved replies stream s) actions ≡ on f saved replies stream (cleared_below color s))
  below_does color h w = clears color (edited (edit.EraseInDisplay display.EraseToEndOfDisplay) ∷ []) (cleared_below color s) (below_erased color h w)
