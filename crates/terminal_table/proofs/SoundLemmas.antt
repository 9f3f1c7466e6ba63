-- The changes of control functions keep the cells of screens sound: the texts among them are UTF-8.
use Rattle.std.proofs.Common.{◌≡◌, ℕ, Bool, true, false, List, [], ◌∷◌, arith}
use Rattle.std.specs.Prelude.{◌==◌, Option, if◌then◌else◌}
use Rattle.std.specs.List.{AllByRecursion}
use Rattle.std.specs.Str.{IsUtf8}
use Rattle.std.proofs.lemmas.Str.{IsUtf8-append, IsUtf8-from_ascii, IsUtf8-nil}
use Rattle.std.proofs.lemmas.Str.Ascii.{IsAscii-cons, IsAscii-nil}
use Rattle.cell_base.specs.Attributes.{Attributes}
use Rattle.cell_base.specs.Row.{space}
use Rattle.cell_base.specs.Screen.{Screen, height}
use Rattle.screen_change.specs.ChangeValue.{ChangeValue, ScrollRegionDown}
use Rattle.csi_codec.specs.declared.rendition.Sgr.{Sgr}
use Rattle.csi_codec.specs.declared.rendition.Sgr.TheVariants as sgr
use Rattle.screen_effects.specs.Display.{Display, IsDisplay}
use Rattle.screen_effects.specs.Effect.{effect, replay}
use Rattle.screen_effects.specs.WrittenCells.{HasUtf8, IsSoundDisplay}
use Rattle.screen_effects.proofs.EffectLaws.{effect_is}
use Rattle.screen_effects.proofs.SoundLemmas.{effect_is_sound}
use Rattle.terminal_table.specs.Modes.{SavedCursor}
use Rattle.terminal_table.specs.Functions as table
use Rattle.terminal_table.specs.Functions.{ControlFunction}
use Rattle.terminal_table.specs.Changes.{changes, move_change, rendition_changes}

abbrev HaveUtf8 : List ChangeValue → Type 0
HaveUtf8 = AllByRecursion HasUtf8

feed_utf8 : IsUtf8 (10 ∷ [])
feed_utf8 = IsUtf8-from_ascii (10 ∷ []) (IsAscii-cons 10 [] (omega arith) IsAscii-nil)

return_utf8 : (rest : List ℕ) → IsUtf8 rest → IsUtf8 (13 ∷ rest)
return_utf8 rest h = IsUtf8-append (13 ∷ []) rest (IsUtf8-from_ascii (13 ∷ []) (IsAscii-cons 13 [] (omega arith) IsAscii-nil)) h

either : (b : Bool) (x y : ChangeValue) → HasUtf8 x → HasUtf8 y → HasUtf8 (if b then x else y)
either true x y h k = h
either false x y h k = k

rendition_utf8 : (value : Sgr) (pen : Attributes) → HaveUtf8 (rendition_changes value pen)
rendition_utf8 (sgr.Font value) pen = tt
rendition_utf8 (sgr.Intensity value) pen = (tt, tt)
rendition_utf8 (sgr.Underline value) pen = (tt, tt)
rendition_utf8 (sgr.Blink value) pen = (tt, tt)
rendition_utf8 (sgr.Italic value) pen = (tt, tt)
rendition_utf8 (sgr.Inverse value) pen = (tt, tt)
rendition_utf8 (sgr.Invisible value) pen = (tt, tt)
rendition_utf8 (sgr.StrikeThrough value) pen = (tt, tt)
rendition_utf8 (sgr.Foreground value) pen = (tt, tt)
rendition_utf8 (sgr.Background value) pen = (tt, tt)
rendition_utf8 sgr.Reset pen = (tt, tt)
rendition_utf8 (sgr.UnderlineColor value) pen = (tt, tt)
rendition_utf8 (sgr.Overline value) pen = (tt, tt)
rendition_utf8 (sgr.VerticalAlign value) pen = (tt, tt)

pub changes_utf8 : (function : ControlFunction) (saved : Option SavedCursor) (s : Screen) → HaveUtf8 (changes function saved s)
changes_utf8 (table.Moves move) saved s = (tt, tt)
changes_utf8 table.LineFeed saved s = (feed_utf8, tt)
changes_utf8 table.CarriageReturn saved s = (return_utf8 [] IsUtf8-nil, tt)
changes_utf8 table.NextRow saved s = (return_utf8 (10 ∷ []) feed_utf8, tt)
changes_utf8 table.ReverseIndex saved s = (either (s.row == 0) (ScrollRegionDown 0 (height s) 1) (move_change (table.Up 1) s) tt tt, tt)
changes_utf8 table.EraseToEndOfDisplay saved s = (tt, (tt, tt))
changes_utf8 table.EraseDisplay saved s = (tt, (tt, (tt, tt)))
changes_utf8 table.EraseToEndOfLine saved s = (tt, (tt, tt))
changes_utf8 table.EraseLine saved s = (tt, (tt, (tt, (tt, tt))))
changes_utf8 (table.ScrollUp n) saved s = (tt, tt)
changes_utf8 (table.ScrollDown n) saved s = (tt, tt)
changes_utf8 (table.Rendition value) saved s = rendition_utf8 value s.pen
changes_utf8 (table.Hyperlink link) saved s = (tt, tt)
changes_utf8 (table.Title text) saved s = (tt, tt)
changes_utf8 (table.ShowCursor shown) saved s = (tt, tt)
changes_utf8 table.SaveCursor saved s = tt
changes_utf8 table.RestoreCursor saved s = (tt, (tt, tt))
changes_utf8 table.FullReset saved s = (tt, (tt, tt))
changes_utf8 table.ReportStatus saved s = tt
changes_utf8 table.ReportPosition saved s = tt

pub replay_sound : (width_of : List ℕ → ℕ) → width_of space ≡ 1 → (changes : List ChangeValue) (d : Display) → IsDisplay d → HaveUtf8 changes → IsSoundDisplay width_of d → IsSoundDisplay width_of (replay width_of d changes)
replay_sound width_of narrow [] d h u p = p
replay_sound width_of narrow (change ∷ changes) d h u p =
    replay_sound width_of narrow changes (effect width_of d change) (effect_is width_of d change h) u.1 (effect_is_sound width_of d change narrow h u.0 p)
