-- What a repaint leaves of another display.
use Rattle.std.specs.Prelude.{◌≡◌, ⊤, ℕ, Bool, List, [], ◌∷◌, length, Option, Some, None, if◌then◌else◌}
use Rattle.cell_base.specs.declared.attributes.CursorShape.{CursorShape as Shape}
use Rattle.cell_base.specs.Row.{space}
use Rattle.screen_change.specs.ChangeValue.{ChangeValue, Title}
use Rattle.screen_effects.specs.Display.{Display, IsDisplay}
use Rattle.screen_effects.specs.WrittenCells.{IsSoundDisplay}

abbrev pub IsTitle : ChangeValue → Type 0
IsTitle (Title title) = ⊤
IsTitle _ = ⊥

-- each change sets the title
abbrev pub AreTitles : List ChangeValue → Type 0
AreTitles [] = ⊤
AreTitles (change ∷ changes) = IsTitle change × AreTitles changes

-- the title that a change leaves, and that changes leave in turn
abbrev pub title_after : List ℕ → ChangeValue → List ℕ
title_after title (Title next) = next
title_after title _ = title

abbrev pub title_left : List ℕ → List ChangeValue → List ℕ
title_left title [] = title
title_left title (change ∷ changes) = title_left (title_after title change) changes

-- a title, or another where it is empty
abbrev pub title_or : List ℕ → List ℕ → List ℕ
title_or [] other = other
title_or (byte ∷ title) other = byte ∷ title

-- a cursor's shape, if it is shown and has one, and else another's
abbrev pub shape_or : Bool → Option Shape → Option Shape → Option Shape
shape_or visible None other = other
shape_or visible (Some shape) other = if visible then Some shape else other

-- the display's screen with a title; the sizes of rows stay the other's, and so does the shape where none was shown
abbrev pub shown_on : Display → List ℕ → Display → Display
shown_on other title display = record {
  screen = record display.screen { title = title };
  sizes = other.sizes;
  shape = shape_or display.screen.visible display.shape other.shape;
}

-- One display can be painted on another: they have one size, a space takes one column, and each cell of the one that is
-- painted has a text that is one cluster without controls, in as many columns as it takes.
pub record CanBePainted (width_of : List ℕ → ℕ) (other display : Display) : Type 0 where
  pub narrow : width_of space ≡ 1
  pub display_is : IsDisplay display
  pub sound : IsSoundDisplay width_of display
  pub other_is : IsDisplay other
  pub wide : other.screen.width ≡ display.screen.width
  pub tall : length other.screen.rows ≡ length display.screen.rows
