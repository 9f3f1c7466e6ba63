-- Texts that lie in a cell itself, and so take no memory.
use Rattle.std.specs.Prelude.{ℕ, ◌≤◌, List, length}

abbrev pub LiesInline : List ℕ → Type 0
LiesInline text = length text ≤ 15
