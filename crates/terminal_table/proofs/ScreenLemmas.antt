-- The screen that is not shown can be shown.
use Rattle.std.proofs.Common.{◌≡◌, ℕ, ◌<◌, List, [], ◌∷◌, length, replicate, refl, sym, ap, subst, ◌∙◌, arith}
use Rattle.std.specs.Prelude.{All, Option, Some, None}
use Rattle.std.proofs.lemmas.List.{length-replicate}
use Rattle.cell_base.specs.Row.{Row, plain_row, space}
use Rattle.cell_base.specs.Screen.{Screen, IsScreen, height}
use Rattle.cell_base.specs.WholeRow.{IsWhole}
use Rattle.screen_effects.specs.Display.{IsDisplay, new_display}
use Rattle.screen_effects.specs.WrittenCells.{IsSoundRow}
use Rattle.screen_effects.proofs.SoundLemmas.{new_is_sound}
use Rattle.screen_effects.proofs.StrokeLaws.{new_display_is}
use Rattle.xterm_table.specs.Follows.{Follows}
use Rattle.terminal_table.specs.Modes.{AreNew, Modes, other_rows, other_screen}
use Rattle.terminal_table.specs.Request.{Setting, ToReset, ToRegion, ToOrigin, ToInsert, ToAutowrap, ToNewline, ToStop, ToNoStops, ToFirst, ToSecond, ToShift, ToFlag, ToMouse, ToEncoding, WithoutEncoding, ToStyle, modes_set}
use Rattle.terminal_table.specs.RunText.{IsRunText}
use Rattle.terminal_table.specs.State.{CanBeShown, HasLast}
use Rattle.terminal_table.proofs.RunLemmas.{no_text}

-- ---- the other screen

-- as plain blanks
pub plain_follows : (width_of : List ℕ → ℕ) (s : Screen) → width_of space ≡ 1 → IsScreen s → Follows width_of s (other_screen s [])
plain_follows width_of s narrow h =
    let wide = h.wide_enough in
    let inside = h.row_in in
    let same : length (replicate (height s) (plain_row s.width)) ≡ height s = length-replicate (height s) (plain_row s.width) in
    let new : IsDisplay (new_display s.width (height s)) = new_display_is s.width (height s) wide (omega (arith, inside)) in
    record {
      wide = refl;
      tall = same;
      lawful = record { wide_enough = wide; even = new.lawful.even; column_in = omega arith; row_in = omega (arith, inside, same) };
      whole = new.whole;
      sound = new_is_sound width_of s.width (height s) narrow;
    }

-- rows that are some
rows_stay : (s : Screen) (rows : List Row) → 0 < length rows → other_rows s rows ≡ rows
rows_stay s [] h = absurd (omega arith)
rows_stay s (row ∷ rows) h = refl

pub some_follow : (width_of : List ℕ → ℕ) (s : Screen) (rows : List Row) → IsScreen s → length rows ≡ height s → All (λ row. length row ≡ s.width) rows → All IsWhole rows → All (IsSoundRow width_of) rows → Follows width_of s (other_screen s rows)
some_follow width_of s rows h tall even whole sound =
    let inside = h.row_in in
    let some : 0 < length rows = omega (arith, inside, tall) in
    let stay = rows_stay s rows some in
    record {
      wide = refl;
      tall = ap (λ (rs : List Row). length rs) stay ∙ tall;
      lawful = record {
        wide_enough = h.wide_enough;
        even = subst (λ (rs : List Row). All (λ row. length row ≡ s.width) rs) (sym stay) even;
        column_in = omega arith;
        row_in = subst (λ (rs : List Row). 0 < length rs) (sym stay) some;
      };
      whole = subst (All IsWhole) (sym stay) whole;
      sound = subst (All (IsSoundRow width_of)) (sym stay) sound;
    }

-- on a screen of the same size
rows_same : (s t : Screen) (rows : List Row) → t.width ≡ s.width → height t ≡ height s → other_rows t rows ≡ other_rows s rows
rows_same s t [] w h = λ i. replicate (h i) (plain_row (w i))
rows_same s t (row ∷ rows) w h = refl

pub can_still : (width_of : List ℕ → ℕ) (s t : Screen) (rows : List Row) → t.width ≡ s.width → height t ≡ height s → 0 < height t → Follows width_of s (other_screen s rows) → Follows width_of t (other_screen t rows)
can_still width_of s t rows w h some f =
    let same = rows_same s t rows w h in
    let tall : length (other_rows t rows) ≡ height t = ap (λ (rs : List Row). length rs) same ∙ f.tall ∙ sym h in
    record {
      wide = refl;
      tall = tall;
      lawful = record {
        wide_enough = subst (λ n. 0 < n) (sym w) f.lawful.wide_enough;
        even = subst (λ (rs : List Row). All (λ row. length row ≡ t.width) rs) (sym same) (subst (λ n. All (λ row. length row ≡ n) (other_rows s rows)) (sym w) f.lawful.even);
        column_in = omega arith;
        row_in = omega (arith, some, tall);
      };
      whole = subst (All IsWhole) (sym same) f.whole;
      sound = subst (All (IsSoundRow width_of)) (sym same) f.sound;
    }

pub modes_still : (width_of : List ℕ → ℕ) (s t : Screen) (modes : Option Modes) → t.width ≡ s.width → height t ≡ height s → 0 < height t → CanBeShown width_of s modes → CanBeShown width_of t modes
modes_still width_of s t None w h some f = tt
modes_still width_of s t (Some modes) w h some f = can_still width_of s t modes.other.rows w h some f

-- of new modes
pub new_can : (width_of : List ℕ → ℕ) (s : Screen) (modes : Option Modes) → width_of space ≡ 1 → IsScreen s → AreNew modes → CanBeShown width_of s modes
new_can width_of s None narrow h new = tt
new_can width_of s (Some modes) narrow h new = subst (λ (m : Modes). Follows width_of s (other_screen s m.other.rows)) (sym new) (plain_follows width_of s narrow h)

pub set_can : (width_of : List ℕ → ℕ) (s : Screen) (setting : Setting) (modes : Modes) → width_of space ≡ 1 → IsScreen s → CanBeShown width_of s (Some modes) → CanBeShown width_of s (Some (modes_set setting modes))
set_can width_of s ToReset modes narrow h f = plain_follows width_of s narrow h
set_can width_of s (ToRegion region) modes narrow h f = f
set_can width_of s (ToOrigin origin) modes narrow h f = f
set_can width_of s (ToInsert insert) modes narrow h f = f
set_can width_of s (ToAutowrap autowrap) modes narrow h f = f
set_can width_of s (ToNewline newline) modes narrow h f = f
set_can width_of s (ToStop column stop) modes narrow h f = f
set_can width_of s (ToNoStops width) modes narrow h f = f
set_can width_of s (ToFirst set) modes narrow h f = f
set_can width_of s (ToSecond set) modes narrow h f = f
set_can width_of s (ToShift shifted) modes narrow h f = f
set_can width_of s (ToFlag flag on) modes narrow h f = f
set_can width_of s (ToMouse protocol) modes narrow h f = f
set_can width_of s (ToEncoding encoding) modes narrow h f = f
set_can width_of s (WithoutEncoding reset) modes narrow h f = f
set_can width_of s (ToStyle style) modes narrow h f = f

-- the run before is a text still
pub set_last : (setting : Setting) (modes : Modes) → HasLast (Some modes) → HasLast (Some (modes_set setting modes))
set_last ToReset modes h = no_text
set_last (ToRegion region) modes h = h
set_last (ToOrigin origin) modes h = h
set_last (ToInsert insert) modes h = h
set_last (ToAutowrap autowrap) modes h = h
set_last (ToNewline newline) modes h = h
set_last (ToStop column stop) modes h = h
set_last (ToNoStops width) modes h = h
set_last (ToFirst set) modes h = h
set_last (ToSecond set) modes h = h
set_last (ToShift shifted) modes h = h
set_last (ToFlag flag on) modes h = h
set_last (ToMouse protocol) modes h = h
set_last (ToEncoding encoding) modes h = h
set_last (WithoutEncoding reset) modes h = h
set_last (ToStyle style) modes h = h

-- of new modes
pub new_last : (modes : Option Modes) → AreNew modes → HasLast modes
new_last None new = tt
new_last (Some modes) new = subst (λ (m : Modes). IsRunText m.last) (sym new) no_text
