-- Worked screens, and the changes that paint them or lead from one to another.
use Rattle.std.proofs.Common.{◌≡◌, ℕ, Bool, true, false, List, [], ◌∷◌, ◌++◌, get_or, map, refl, ap, ◌∙◌, arith}
use Rattle.std.specs.Prelude.{codes, pos}
use Rattle.cell_base.specs.declared.attributes.CursorVisibility.TheVariants.{Hidden, Visible}
use Rattle.cell_base.specs.declared.attributes.Position.TheVariants.{Absolute, Relative}
use Rattle.cell_base.specs.declared.color.ColorAttribute.TheVariants.{Default}
use Rattle.cell_base.specs.Attributes.{Attributes, plain}
use Rattle.cell_base.specs.CellContent.{CellContent}
use Rattle.cell_base.specs.Cluster.{program_width}
use Rattle.cell_base.specs.Row.{Row, Narrow}
use Rattle.cell_base.specs.SameAttributes.{same_attributes, same_attributes_decides}
use Rattle.cell_base.specs.SameCell.{same_cell, same_cell_decides}
use Rattle.cell_base.specs.Screen as grid
use Rattle.cell_base.specs.Screen.{Screen}
use Rattle.screen_change.specs.ChangeValue.{ChangeValue, AllAttributes, ClearScreen, CursorPosition, CursorVisibility, Text, Title}
use Rattle.screen_change.specs.CellRuns.{is_blank_of}
use Rattle.screen_change.specs.Texts.{texts}
use Rattle.screen_log.specs.LogSteps.{Sized}
use Rattle.terminal.specs.Samples.{painted, patch_between, printed, update_after}
use Rattle.terminal_viewers.specs.Patch.{patch_changes, patch_of}
use Rattle.terminal_render.proofs.Computing.{sending}
use Rattle.terminal_render.specs.Lists.{all_rendered}
use Rattle.terminal_render.specs.Samples.{plain_pen}
use Rattle.terminal_table.proofs.Computing.{table}
use Rattle.terminal_table.specs.History.{History}
use Rattle.terminal_table.specs.Logged.{log_of}
use Rattle.terminal_table.specs.Samples.{csi, osc, screen_after, shown}
use Rattle.terminal_viewers.specs.Update.{bytes_of, update_changes, update_of}
use Rattle.terminal_viewers.specs.Updates.{Standing, looks, new_standing, standing_after, updates}

-- ---- values that are compared

-- attributes, and cells, are equal to themselves
pub attributes_alike : (a : Attributes) → same_attributes a a ≡ true
attributes_alike a = (same_attributes_decides a a).1 refl

pub cells_alike : (a : CellContent) → same_cell a a ≡ true
cells_alike a = (same_cell_decides a a).1 refl

cells_differ : (x y : CellContent) → (x.text ≡ y.text → ⊥) → same_cell x y ≡ false
cells_differ x y n = by_test (same_cell x y) refl
  where
    by_test : (b : Bool) → same_cell x y ≡ b → same_cell x y ≡ false
    by_test true e = absurd (n (ap (λ (c : CellContent). c.text) ((same_cell_decides x y).0 e)))
    by_test false e = e

-- plain letters, each in a column, and the screen that has them in rows
abbrev pub letters : List ℕ → Row
letters text = map (λ c. Narrow (c ∷ []) plain) text

abbrev pub screen_of : ℕ → List Row → ℕ → ℕ → Screen
screen_of width rows column row = record { width = width; rows = rows; column = column; row = row; visible = true; pen = plain; title = [] }

abbrev letter_cell : ℕ → CellContent
letter_cell c = record { text = c ∷ []; width = 1; attributes = plain }

letters_differ : (a b : ℕ) → (a ≡ b → ⊥) → same_cell (letter_cell a) (letter_cell b) ≡ false
letters_differ a b n = cells_differ (letter_cell a) (letter_cell b) (λ e. n (ap (λ (text : List ℕ). get_or text 0 0) e))

-- the changes that paint a worked screen, given those of its rows
abbrev pub painted_changes : List ChangeValue → List ChangeValue
painted_changes rows = (CursorVisibility Hidden ∷ ClearScreen Default ∷ Title [] ∷ []) ++ rows ++ CursorVisibility Visible ∷ []

-- ---- texts of cells

text_ab : texts ((97 ∷ []) ∷ (98 ∷ []) ∷ []) ≡ codes "ab" ∷ []
unfolding table texts
text_ab = refl

text_a : texts ((97 ∷ []) ∷ []) ≡ codes "a" ∷ []
unfolding table texts
text_a = refl

text_b : texts ((98 ∷ []) ∷ []) ≡ codes "b" ∷ []
unfolding table texts
text_b = refl

text_c : texts ((99 ∷ []) ∷ []) ≡ codes "c" ∷ []
unfolding table texts
text_c = refl

text_x : texts ((120 ∷ []) ∷ []) ≡ codes "x" ∷ []
unfolding table texts
text_x = refl

-- ---- updates

update_bytes : (width height : ℕ) (history : History) (screen : Screen) (changes : List ChangeValue) (bytes : List ℕ) → screen_after width height history ≡ screen
    → ((log : Sized) → update_changes screen log 0 ≡ changes) → bytes_of (all_rendered changes screen.width (grid.height screen)) ≡ bytes
    → update_after width height history 0 ≡ bytes
update_bytes width height history screen changes bytes shows due sent =
    ap (λ (s : Screen). update_of s (log_of program_width width height history) 0) shows
    ∙ ap (λ (cs : List ChangeValue). bytes_of (all_rendered cs screen.width (grid.height screen))) (due (log_of program_width width height history)) ∙ sent

abbrev full_painted : List ChangeValue
full_painted = painted_changes (Text (codes "ab") ∷ CursorPosition (Absolute 1) (Absolute 0) ∷ AllAttributes plain ∷ Text (codes "b") ∷ AllAttributes plain ∷ [])

full_changes : (log : Sized) → update_changes (screen_of 2 (letters (codes "ab") ∷ []) 2 0) log 0 ≡ full_painted
unfolding is_blank_of
full_changes log = simp (attributes_alike, text_ab)

full_screen : screen_after 2 1 (shown (codes "ab")) ≡ screen_of 2 (letters (codes "ab") ∷ []) 2 0
unfolding table
full_screen = refl

full_encoded : bytes_of (all_rendered full_painted 2 1) ≡ painted (printed (codes "ab") ++ csi (codes "1;2H") ++ plain_pen ++ printed (codes "b") ++ plain_pen)
unfolding sending
full_encoded = refl

pub full_bytes : update_after 2 1 (shown (codes "ab")) 0 ≡ painted (printed (codes "ab") ++ csi (codes "1;2H") ++ plain_pen ++ printed (codes "b") ++ plain_pen)
full_bytes = update_bytes 2 1 (shown (codes "ab")) (screen_of 2 (letters (codes "ab") ∷ []) 2 0) full_painted _ full_screen full_changes full_encoded

abbrev short_painted : List ChangeValue
short_painted = painted_changes (Text (codes "a") ∷ CursorPosition (Absolute 0) (Relative (pos 1)) ∷ Text (codes "b") ∷ CursorPosition (Absolute 1) (Absolute 1) ∷ [])

short_changes : (log : Sized) → update_changes (screen_of 2 (letters (codes "a ") ∷ letters (codes "b ") ∷ []) 1 1) log 0 ≡ short_painted
unfolding is_blank_of
short_changes log = simp (attributes_alike, text_a, text_b)

short_screen : screen_after 2 2 (shown (codes "a\r\nb")) ≡ screen_of 2 (letters (codes "a ") ∷ letters (codes "b ") ∷ []) 1 1
unfolding table
short_screen = refl

short_encoded : bytes_of (all_rendered short_painted 2 2) ≡ painted (printed (codes "a") ++ csi (codes "B") ++ csi (codes "1G") ++ printed (codes "b") ++ csi (codes "2;2H"))
unfolding sending
short_encoded = refl

pub short_bytes : update_after 2 2 (shown (codes "a\r\nb")) 0 ≡ painted (printed (codes "a") ++ csi (codes "B") ++ csi (codes "1G") ++ printed (codes "b") ++ csi (codes "2;2H"))
short_bytes = update_bytes 2 2 (shown (codes "a\r\nb")) (screen_of 2 (letters (codes "a ") ∷ letters (codes "b ") ∷ []) 1 1) short_painted _ short_screen short_changes short_encoded

-- ---- the updates for three letters

abbrev two_painted : List ChangeValue
two_painted = painted_changes (Text (codes "ab") ∷ CursorPosition (Absolute 2) (Absolute 0) ∷ [])

two_changes : (log : Sized) → update_changes (screen_of 3 (letters (codes "ab ") ∷ []) 2 0) log 0 ≡ two_painted
unfolding is_blank_of
two_changes log = simp (attributes_alike, text_ab)

two_encoded : bytes_of (all_rendered two_painted 3 1) ≡ painted (printed (codes "ab") ++ csi (codes "1;3H"))
unfolding sending
two_encoded = refl

abbrev two : Standing
two = standing_after program_width (new_standing 3 1) (looks (codes "ab" ∷ []))

abbrev three : Standing
three = standing_after program_width two (looks (codes "c" ∷ []))

two_screen : two.view.state.screen ≡ screen_of 3 (letters (codes "ab ") ∷ []) 2 0
unfolding table
two_screen = refl

two_bytes : update_of two.view.state.screen two.log 0 ≡ painted (printed (codes "ab") ++ csi (codes "1;3H"))
two_bytes =
    ap (λ (s : Screen). update_of s two.log 0) two_screen
    ∙ ap (λ (cs : List ChangeValue). bytes_of (all_rendered cs 3 1)) (two_changes two.log) ∙ two_encoded

third_bytes : update_of three.view.state.screen three.log two.log.log.number ++ [] ≡ printed (codes "c")
unfolding table sending
third_bytes = refl

pub three_letters : updates program_width 3 1 2 (codes "abc") ≡ painted (printed (codes "ab") ++ csi (codes "1;3H")) ++ printed (codes "c")
three_letters = λ i. two_bytes i ++ third_bytes i

-- ---- patches

patch_bytes : (width height : ℕ) (old new : History) (old_screen new_screen : Screen) (changes : List ChangeValue) (bytes : List ℕ)
    → screen_after width height old ≡ old_screen → screen_after width height new ≡ new_screen → patch_changes old_screen new_screen ≡ changes
    → bytes_of (all_rendered changes new_screen.width (grid.height new_screen)) ≡ bytes → patch_between width height old new ≡ bytes
patch_bytes width height old new old_screen new_screen changes bytes shows shows_new differ sent =
    (λ i. patch_of (shows i) (shows_new i))
    ∙ ap (λ (cs : List ChangeValue). bytes_of (all_rendered cs new_screen.width (grid.height new_screen))) differ ∙ sent

abbrev patched_changes : List ChangeValue → List ChangeValue
patched_changes changes = Title [] ∷ changes ++ CursorVisibility Visible ∷ []

abbrev middle_patched : List ChangeValue
middle_patched = patched_changes (CursorPosition (Absolute 1) (Absolute 0) ∷ AllAttributes plain ∷ Text (codes "x") ∷ CursorPosition (Absolute 1) (Absolute 0) ∷ AllAttributes plain ∷ [])

middle_changes : patch_changes (screen_of 3 (letters (codes "abc") ∷ []) 3 0) (screen_of 3 (letters (codes "axc") ∷ []) 1 0) ≡ middle_patched
middle_changes =
    let differ = letters_differ 98 120 (λ e. absurd (omega (arith, e))) in
    simp (attributes_alike, cells_alike, differ, text_x)

middle_old : screen_after 3 1 (shown (codes "abc")) ≡ screen_of 3 (letters (codes "abc") ∷ []) 3 0
unfolding table
middle_old = refl

middle_new : screen_after 3 1 (shown (codes "axc" ++ csi (codes "1;2H"))) ≡ screen_of 3 (letters (codes "axc") ∷ []) 1 0
unfolding table
middle_new = refl

middle_encoded : bytes_of (all_rendered middle_patched 3 1) ≡ osc (codes "2;") ++ csi (codes "1;2H") ++ plain_pen ++ printed (codes "x") ++ csi (codes "1;2H") ++ plain_pen ++ csi (codes "?25h")
unfolding sending
middle_encoded = refl

pub middle_bytes : patch_between 3 1 (shown (codes "abc")) (shown (codes "axc" ++ csi (codes "1;2H")))
    ≡ osc (codes "2;") ++ csi (codes "1;2H") ++ plain_pen ++ printed (codes "x") ++ csi (codes "1;2H") ++ plain_pen ++ csi (codes "?25h")
middle_bytes = patch_bytes 3 1 (shown (codes "abc")) (shown (codes "axc" ++ csi (codes "1;2H"))) (screen_of 3 (letters (codes "abc") ∷ []) 3 0) (screen_of 3 (letters (codes "axc") ∷ []) 1 0)
    middle_patched _ middle_old middle_new middle_changes middle_encoded

abbrev pending_patched : List ChangeValue
pending_patched = patched_changes
    (CursorPosition (Absolute 2) (Absolute 0) ∷ AllAttributes plain ∷ Text (codes "c") ∷ CursorPosition (Absolute 2) (Absolute 0) ∷ AllAttributes plain ∷ Text (codes "c") ∷ AllAttributes plain ∷ [])

pending_changes : patch_changes (screen_of 3 (letters (codes "ab ") ∷ []) 2 0) (screen_of 3 (letters (codes "abc") ∷ []) 3 0) ≡ pending_patched
pending_changes =
    let differ = letters_differ 32 99 (λ e. absurd (omega (arith, e))) in
    simp (attributes_alike, cells_alike, differ, text_c)

pending_old : screen_after 3 1 (shown (codes "ab")) ≡ screen_of 3 (letters (codes "ab ") ∷ []) 2 0
unfolding table
pending_old = refl

pending_encoded : bytes_of (all_rendered pending_patched 3 1)
    ≡ osc (codes "2;") ++ csi (codes "1;3H") ++ plain_pen ++ printed (codes "c") ++ csi (codes "1;3H") ++ plain_pen ++ printed (codes "c") ++ plain_pen ++ csi (codes "?25h")
unfolding sending
pending_encoded = refl

pub pending_bytes : patch_between 3 1 (shown (codes "ab")) (shown (codes "abc"))
    ≡ osc (codes "2;") ++ csi (codes "1;3H") ++ plain_pen ++ printed (codes "c") ++ csi (codes "1;3H") ++ plain_pen ++ printed (codes "c") ++ plain_pen ++ csi (codes "?25h")
pending_bytes = patch_bytes 3 1 (shown (codes "ab")) (shown (codes "abc")) (screen_of 3 (letters (codes "ab ") ∷ []) 2 0) (screen_of 3 (letters (codes "abc") ∷ []) 3 0)
    pending_patched _ pending_old middle_old pending_changes pending_encoded
