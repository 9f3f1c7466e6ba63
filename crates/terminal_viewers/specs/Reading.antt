-- What the laws of patches say.
use Rattle.std.specs.Prelude.{◌≡◌, ℕ, List, [], ◌∷◌, ◌++◌, map}
use Rattle.cell_base.specs.Row.{space}
use Rattle.cell_base.specs.Screen.{Screen, height}
use Rattle.screen_difference.specs.FreshCells.{screen_fresh}
use Rattle.screen_effects.specs.Display.{IsDisplay}
use Rattle.screen_difference.specs.Prints.{text_of}
use Rattle.screen_effects.specs.WrittenCells.{IsSoundDisplay}
use Rattle.terminal_viewers.specs.Patch.{patch_of, position_prints}
use Rattle.terminal_table.specs.Prints.{IsPlain, prints}
use Rattle.terminal_render.specs.Effects.{IsReady}
use Rattle.terminal_render.specs.Spelling.{IsSpelledScreen}
use Rattle.terminal_table.specs.Alone.{IsIdle}
use Rattle.terminal_table.specs.History.{Piece}
use Rattle.terminal_table.specs.Meaning.{View, after}
use Rattle.terminal_viewers.specs.Update.{display_on}

-- A viewer can read the patch of a screen: the viewer is ready for changes and has nothing unfinished; and the screen
-- has the viewer's size, and its cells are sound and have an encoding.
pub record CanReadPatch (width_of : List ℕ → ℕ) (viewer : View) (screen : Screen) : Type 0 where
  pub narrow : width_of space ≡ 1
  pub ready : IsReady viewer
  pub idle : IsIdle viewer
  pub display : IsDisplay (display_on screen)
  pub sound : IsSoundDisplay width_of (display_on screen)
  pub spelled : IsSpelledScreen screen
  pub wide : viewer.state.screen.width ≡ screen.width
  pub tall : height viewer.state.screen ≡ height screen

-- the patch from the screen that the viewer shows
abbrev pub patch_for : View → Screen → List ℕ
patch_for viewer screen = patch_of viewer.state.screen screen

-- after the patch the viewer shows the screen, and nothing else of its state is changed
abbrev pub PatchesAreShown : Type 0
PatchesAreShown = (width_of : List ℕ → ℕ) (viewer : View) (screen : Screen) → CanReadPatch width_of viewer screen
    → (after width_of viewer (Piece (patch_for viewer screen) ∷ [])).state ≡ record viewer.state { screen = screen }

-- after the patch the viewer has nothing unfinished and holds no run
abbrev pub PatchesLeaveIdle : Type 0
PatchesLeaveIdle = (width_of : List ℕ → ℕ) (viewer : View) (screen : Screen) → CanReadPatch width_of viewer screen
    → IsIdle (after width_of viewer (Piece (patch_for viewer screen) ∷ []))

-- the patch prints the cells that the viewer doesn't show, each once and in turn, and after them, where a wrap is
-- pending, the last cell of the cursor's row
abbrev pub PatchesPrintFreshCells : Type 0
PatchesPrintFreshCells = (width_of : List ℕ → ℕ) (viewer : View) (screen : Screen) → CanReadPatch width_of viewer screen
    → prints width_of viewer (patch_for viewer screen)
    ≡ map text_of (screen_fresh viewer.state.screen screen) ++ position_prints screen

-- only the texts that the patch prints change rows, and nothing scrolls
abbrev pub PatchesArePlain : Type 0
PatchesArePlain =
    (width_of : List ℕ → ℕ) (viewer : View) (screen : Screen) → CanReadPatch width_of viewer screen
    → IsPlain width_of viewer (patch_for viewer screen)
