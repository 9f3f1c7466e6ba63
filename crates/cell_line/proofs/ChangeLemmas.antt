-- Changes that write the cells of a line, less the blanks at its end.
use Rattle.std.proofs.Common.{◌≡◌, ℕ, suc, ◌<◌, ◌∙◌, Bool, List, [], ◌∷◌, ◌++◌, length, Option, Some, None, refl, sym, ap, subst, arith}
use Rattle.std.specs.Prelude.{not, ◌||◌, filter, if◌then◌else◌}
use Rattle.std.specs.List.{list_all, list_any}
use Rattle.cell_base.specs.declared.color.ColorAttribute.{ColorAttribute}
use Rattle.cell_base.specs.declared.color.ColorAttribute.TheVariants.{TrueColorWithPaletteFallback, TrueColorWithDefaultFallback, PaletteIndex, Default}
use Rattle.cell_base.specs.Attributes.{Attributes, blank_of}
use Rattle.cell_base.specs.CellContent.{CellContent}
use Rattle.screen_change.specs.CellChanges.{attributes_due, cells_written, last_pen, clear_due, cleared_written, row_written}
use Rattle.screen_change.specs.CellRuns.{is_blank_of, background_at_end, less_blanks}
use Rattle.screen_change.specs.ChangeValue.{ChangeValue, ClearToEndOfLine}
use Rattle.cell_base.specs.UpToLast.{up_to_last}
use Rattle.screen_change.specs.Written.{Written, begun, finished, with_attributes, with_cells}
use Rattle.screen_change.proofs.RunLemmas.{cells_are_written, pen_is_after, attributes_written}
use Rattle.cell_line.specs.OpenChanges.{last_non_blank, written_with_clear}
use Rattle.cell_views.specs.OpenZones.{is_kept_by}
use Rattle.cell_edits.specs.VisibleCells.{VisibleCell, contents}
use Rattle.cell_edits.proofs.CellLemmas.{by_test}
use Rattle.cell_views.proofs.KeptLemmas.{AreInOrder, kept, kept_some, some_up_to, up_to_none, last_of_none, all_pass}

pub clear_of : (color : ColorAttribute) → (color ≡ Default → ⊥) → clear_due color ≡ ClearToEndOfLine color ∷ []
clear_of (TrueColorWithPaletteFallback color index) other = refl
clear_of (TrueColorWithDefaultFallback color) other = refl
clear_of (PaletteIndex index) other = refl
clear_of Default other = absurd (other refl)

pub all_kept : (cells : List VisibleCell) → contents (filter (λ v. is_kept_by None v.column) cells) ≡ contents cells
all_kept cells = ap contents (all_pass cells)

-- a clear after cells, with its attributes
pub with_clear : (start : Attributes) (cells : List CellContent) (color : ColorAttribute) (cs : List ChangeValue) (w : Written)
    → cs ≡ finished (with_attributes (blank_of color) w) ++ clear_due color → w ≡ with_cells (begun start) cells → cs ≡ written_with_clear start cells color
with_clear start cells color cs w e is =
    e
    ∙ ap (λ (ds : List ChangeValue). ds ++ clear_due color) (attributes_written (blank_of color) w)
    ∙ ap (λ (v : Written). (finished v ++ attributes_due v.pen (blank_of color)) ++ clear_due color) is
    ∙ ap (λ (p : Attributes). (finished (with_cells (begun start) cells) ++ attributes_due p (blank_of color)) ++ clear_due color) (pen_is_after (begun start) cells)
    ∙ ap (λ (ds : List ChangeValue). (ds ++ attributes_due (last_pen start cells) (blank_of color)) ++ clear_due color) (cells_are_written (begun start) cells refl)

-- ---- the cells before the blanks

any_content : (passes : CellContent → Bool) (cells : List VisibleCell) → list_any (λ v. passes v.cell) cells ≡ list_any passes (contents cells)
any_content passes [] = refl
any_content passes (v ∷ cells) = ap (λ b. passes v.cell || b) (any_content passes cells)

contents_up_to : (passes : CellContent → Bool) (cells : List VisibleCell) → contents (up_to_last (λ v. passes v.cell) cells) ≡ up_to_last passes (contents cells)
contents_up_to passes [] = refl
contents_up_to passes (v ∷ cells) =
    by_test (passes v.cell || list_any (λ w. passes w.cell) cells)
    (λ e.
    ap (λ b. contents (if b then v ∷ up_to_last (λ w. passes w.cell) cells else [])) e
    ∙ ap (λ (cs : List CellContent). v.cell ∷ cs) (contents_up_to passes cells)
    ∙ sym (ap (λ b. if passes v.cell || b then v.cell ∷ up_to_last passes (contents cells) else []) (sym (any_content passes cells)) ∙ ap (λ b. if b then v.cell ∷ up_to_last passes (contents cells) else []) e))
    (λ e.
    ap (λ b. contents (if b then v ∷ up_to_last (λ w. passes w.cell) cells else [])) e
    ∙ sym (ap (λ b. if passes v.cell || b then v.cell ∷ up_to_last passes (contents cells) else []) (sym (any_content passes cells)) ∙ ap (λ b. if b then v.cell ∷ up_to_last passes (contents cells) else []) e))

some_is : (a b : ℕ) → Some a ≡ Some b → a ≡ b
some_is a b e = cc

none_some : (a : ℕ) → None ≡ Some a → ⊥
none_some a e = cc

row_with : (start : Attributes) (cells : List CellContent) (background : Option ColorAttribute) → background_at_end cells ≡ background → row_written start cells ≡ cleared_written start (less_blanks background cells) background
row_with start cells background e = ap (λ (o : Option ColorAttribute). cleared_written start (less_blanks o cells) o) e

pub row_without_blanks : (start : Attributes) (cells : List CellContent) → background_at_end cells ≡ None → row_written start cells ≡ cells_written start cells
row_without_blanks start cells e = row_with start cells None e

-- all cells are blanks
pub row_of_blanks : (start : Attributes) (color : ColorAttribute) (cells : List VisibleCell) → AreInOrder 0 cells → background_at_end (contents cells) ≡ Some color → last_non_blank color cells ≡ None
    → row_written start (contents cells) ≡ clear_due color
row_of_blanks start color cells order e none =
    row_with start (contents cells) (Some color) e
    ∙ by_test (list_all (λ v. is_blank_of color v.cell) cells)
    (λ all. ap (λ (cs : List CellContent). cleared_written start cs (Some color)) (sym (contents_up_to (λ cell. not (is_blank_of color cell)) cells) ∙ ap contents (up_to_none (λ v. is_blank_of color v.cell) cells all)))
    (λ some. let k = kept (λ v. is_blank_of color v.cell) None 0 cells order some in absurd (none_some k.column (sym none ∙ k.is)))

clear_after_some : (start : Attributes) (color : ColorAttribute) (cells : List CellContent) → 0 < length cells → cleared_written start cells (Some color) ≡ written_with_clear start cells color
clear_after_some start color [] p = absurd (omega (arith, p))
clear_after_some start color (cell ∷ cells) p = refl

same_count : (cells : List VisibleCell) → length (contents cells) ≡ length cells
same_count [] = refl
same_count (v ∷ cells) = ap (λ n. suc n) (same_count cells)

-- cells before the blanks
pub row_before_blanks : (start : Attributes) (color : ColorAttribute) (last : ℕ) (cells : List VisibleCell) → AreInOrder 0 cells → background_at_end (contents cells) ≡ Some color → last_non_blank color cells ≡ Some last
    → row_written start (contents cells) ≡ written_with_clear start (contents (filter (λ v. is_kept_by (Some last) v.column) cells)) color
row_before_blanks start color last cells order e is =
    by_test (list_all (λ v. is_blank_of color v.cell) cells)
    (λ all. absurd (none_some last (sym (last_of_none (λ v. is_blank_of color v.cell) None cells all) ∙ is)))
    (λ some.
    let prefix : contents (filter (λ v. is_kept_by (Some last) v.column) cells) ≡ up_to_last (λ cell. not (is_blank_of color cell)) (contents cells) =
    ap (λ (o : Option ℕ). contents (filter (λ v. is_kept_by o v.column) cells)) (sym is)
    ∙ ap contents (kept_some (λ v. is_blank_of color v.cell) cells order some)
    ∙ contents_up_to (λ cell. not (is_blank_of color cell)) cells in
    let many : 0 < length (up_to_last (λ cell. not (is_blank_of color cell)) (contents cells)) =
    subst (λ (cs : List CellContent). 0 < length cs) (contents_up_to (λ cell. not (is_blank_of color cell)) cells)
    (subst (λ (n : ℕ). 0 < n) (sym (same_count (up_to_last (λ v. not (is_blank_of color v.cell)) cells))) (some_up_to (λ v. is_blank_of color v.cell) cells some)) in
    row_with start (contents cells) (Some color) e
    ∙ clear_after_some start color (up_to_last (λ cell. not (is_blank_of color cell)) (contents cells)) many
    ∙ ap (λ (cs : List CellContent). written_with_clear start cs color) (sym prefix))
