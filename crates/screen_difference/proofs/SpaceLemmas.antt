-- A space as a cell has it.
use Rattle.std.proofs.Common.{◌≡◌, ℕ, true, false, List, [], ◌∷◌, refl, ap}
use Rattle.std.specs.Prelude.{nat_le}
use Rattle.std.specs.Str.{chars}
use Rattle.unicode_segmentation.specs.Grapheme.{graphemes}
use Rattle.unicode_segmentation.proofs.Computing.{unicode_segmentation}
use Rattle.cell_base.specs.Row.{space}
use Rattle.screen_effects.specs.WrittenCells.{IsSoundText}

space_alone : graphemes true (32 ∷ []) ≡ (32 ∷ []) ∷ []
unfolding unicode_segmentation chars
space_alone = refl

pub sound_space : (width_of : List ℕ → ℕ) → width_of space ≡ 1 → IsSoundText width_of space false
sound_space width_of e = record { stands = record { alone = space_alone; printed = refl }; width = ap (λ n. nat_le 2 n) e }
