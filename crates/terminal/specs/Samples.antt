-- Updates and patches of worked examples.
use Rattle.std.specs.Prelude.{ℕ, List, [], ◌∷◌, ◌++◌, codes}
use Rattle.cell_base.specs.Cluster.{program_width}
use Rattle.screen_difference.specs.Prints.{PlacedText}
use Rattle.terminal_viewers.specs.Patch.{patch_of}
use Rattle.terminal_render.specs.Samples.{plain_pen}
use Rattle.terminal_table.specs.History.{History}
use Rattle.terminal_table.specs.Logged.{log_of}
use Rattle.terminal_table.specs.Samples.{screen_after, csi, osc}
use Rattle.terminal_viewers.specs.Update.{update_of}

-- the update of a new terminal after a history, for a number
abbrev pub update_after : ℕ → ℕ → History → ℕ → List ℕ
update_after width height history number =
    update_of (screen_after width height history) (log_of program_width width height history) number

-- the patch from the screen that one history leads to, to that of another
abbrev pub patch_between : ℕ → ℕ → History → History → List ℕ
patch_between width height old new = patch_of (screen_after width height old) (screen_after width height new)

-- characters that are printed, and the NUL that ends them
abbrev pub printed : List ℕ → List ℕ
printed text = text ++ 0 ∷ []

-- The bytes that paint a screen without a title anew: the cursor is hidden and the screen cleared; after the bytes of
-- the rows and of the position the cursor is shown.
abbrev pub painted : List ℕ → List ℕ
painted rows =
    csi (codes "?25l") ++ plain_pen ++ csi (codes "2J") ++ csi (codes "1;1H") ++ osc (codes "2;") ++ rows
    ++ csi (codes "?25h")

abbrev pub text_at : ℕ → ℕ → List ℕ → PlacedText
text_at row column text = record { row = row; column = column; text = text }
