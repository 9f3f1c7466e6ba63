use Rattle.std.proofs.Common.{◌≡◌, ◌<◌, ℕ, zero, suc, List, [], ◌∷◌, length, refl, arith}
use Rattle.std.specs.Prelude.{slice_index_or}
use Rattle.terminal_table.specs.Charsets.{graphics}
use Rattle.terminal_steps.proofs.charsets.graphics_at.Goals as goal

-- an element doesn't depend on what stands for one that is missing
same_default : (xs : List ℕ) (i d e : ℕ) → i < length xs → slice_index_or xs i d ≡ slice_index_or xs i e
same_default [] i d e h = absurd (omega arith)
same_default (x ∷ xs) zero d e h = refl
same_default (x ∷ xs) (suc i) d e h = same_default xs i d e (omega arith)

pub returns : goal.returns
returns c = same_default graphics c.args.index 0 0x20 c.requires
