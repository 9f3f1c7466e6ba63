-- The alignment display is a screen that can follow, and what is logged for it leads there.
use Rattle.std.proofs.Common.{◌≡◌, ℕ, zero, suc, ◌<◌, Bool, true, false, List, [], ◌∷◌, length, replicate, refl, sym, subst, ◌∙◌, arith}
use Rattle.std.specs.Prelude.{All, nat_le, Option, Some, None, option_map, if◌then◌else◌}
use Rattle.std.specs.Str.{chars}
use Rattle.std.proofs.lemmas.List.{length-replicate}
use Rattle.std.proofs.lemmas.List.Elements.{All-replicate}
use Rattle.unicode_segmentation.specs.Grapheme.{graphemes}
use Rattle.unicode_segmentation.proofs.Computing.{unicode_segmentation}
use Rattle.cell_base.specs.Attributes.{Attributes, plain}
use Rattle.cell_base.specs.Row.{Row, Narrow, space}
use Rattle.cell_base.specs.Screen.{Screen, IsScreen, height}
use Rattle.cell_base.specs.WholeRow.{IsWhole}
use Rattle.screen_difference.proofs.SpaceLemmas.{sound_space}
use Rattle.screen_effects.specs.Display.{Display, IsDisplay}
use Rattle.screen_effects.specs.Effect.{replay}
use Rattle.screen_effects.specs.WrittenCells.{IsSoundRow, IsSoundText}
use Rattle.xterm_table.specs.Follows.{Follows}
use Rattle.terminal_table.specs.Alignment.{alignment_letter, alignment_row, modes_aligned, screen_aligned}
use Rattle.terminal_table.specs.Led.{led}
use Rattle.terminal_table.specs.Modes.{Modes}
use Rattle.terminal_table.specs.State.{CanBeShown, HasLast, IsState, State}
use Rattle.terminal_table.specs.Turns.{Turns}
use Rattle.terminal_table.proofs.ScreenLemmas.{modes_still}
use Rattle.terminal_table.proofs.XtermLemmas.{led_turns}

letter_alone : graphemes true (69 ∷ []) ≡ (69 ∷ []) ∷ []
unfolding unicode_segmentation chars
letter_alone = refl

letter_sound : (width_of : List ℕ → ℕ) → width_of space ≡ 1 → IsSoundText width_of (alignment_letter width_of) false
letter_sound width_of narrow = by_test (nat_le 2 (width_of (69 ∷ []))) refl
  where
    by_test : (b : Bool) → nat_le 2 (width_of (69 ∷ [])) ≡ b → IsSoundText width_of (if b then space else 69 ∷ []) false
    by_test true e = sound_space width_of narrow
    by_test false e = record { stands = record { alone = letter_alone; printed = refl }; width = e }

row_whole : (n : ℕ) (text : List ℕ) (a : Attributes) → IsWhole (replicate n (Narrow text a))
row_whole zero text a = tt
row_whole (suc n) text a = row_whole n text a

row_sound : (width_of : List ℕ → ℕ) (n : ℕ) (text : List ℕ) (a : Attributes) → IsSoundText width_of text false → IsSoundRow width_of (replicate n (Narrow text a))
row_sound width_of zero text a h = tt
row_sound width_of (suc n) text a h = (h, row_sound width_of n text a h)

pub aligned_follows : (width_of : List ℕ → ℕ) (s : Screen) → width_of space ≡ 1 → IsScreen s → Follows width_of s (screen_aligned width_of s)
aligned_follows width_of s narrow h =
    let row : Row = alignment_row width_of s.width in
    let inside = h.row_in in
    let tall : length (replicate (height s) row) ≡ height s = length-replicate (height s) row in
    record {
      wide = refl;
      tall = tall;
      lawful = record {
        wide_enough = h.wide_enough;
        even = All-replicate (λ x. length x ≡ s.width) (height s) row (length-replicate s.width (Narrow (alignment_letter width_of) plain));
        column_in = omega arith;
        row_in = omega (arith, inside, tall);
      };
      whole = All-replicate IsWhole (height s) row (row_whole s.width (alignment_letter width_of) plain);
      sound = All-replicate (IsSoundRow width_of) (height s) row (row_sound width_of s.width (alignment_letter width_of) plain (letter_sound width_of narrow));
    }

pub aligned_turns : (width_of : List ℕ → ℕ) (state : State) (d : Display) → IsState width_of state → IsDisplay d → d.screen ≡ state.screen
    → Turns d (replay width_of d (led state.screen (screen_aligned width_of state.screen))) (screen_aligned width_of state.screen)
aligned_turns width_of state d h g e =
    subst (λ (s : Screen). Turns d (replay width_of d (led s (screen_aligned width_of s))) (screen_aligned width_of s)) e
    (led_turns width_of d (screen_aligned width_of d.screen) h.narrow g
    (subst (λ (s : Screen). Follows width_of s (screen_aligned width_of s)) (sym e) (aligned_follows width_of state.screen h.narrow h.lawful)) refl)

pub aligned_is : (width_of : List ℕ → ℕ) (state : State) → IsState width_of state → IsState width_of (record state { screen = screen_aligned width_of state.screen; modes = option_map modes_aligned state.modes })
aligned_is width_of state h =
    let f = aligned_follows width_of state.screen h.narrow h.lawful in
    let inside = h.lawful.row_in in
    let tall = f.tall in
    record {
      lawful = f.lawful;
      whole = f.whole;
      narrow = h.narrow;
      sound = f.sound;
      other = by_modes state.modes (modes_still width_of state.screen (screen_aligned width_of state.screen) state.modes f.wide tall (omega (arith, inside, tall)) h.other);
      last = last_still state.modes h.last;
    }
  where
    by_modes : (modes : Option Modes) → CanBeShown width_of (screen_aligned width_of state.screen) modes → CanBeShown width_of (screen_aligned width_of state.screen) (option_map modes_aligned modes)
    by_modes None c = tt
    by_modes (Some modes) c = c

    last_still : (modes : Option Modes) → HasLast modes → HasLast (option_map modes_aligned modes)
    last_still None l = tt
    last_still (Some modes) l = l
