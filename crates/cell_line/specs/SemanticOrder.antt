-- The order of semantic types.
use Rattle.std.specs.Prelude.{ℕ}
use Rattle.cell_base.specs.declared.attributes.SemanticType.{SemanticType}
use Rattle.cell_base.specs.declared.attributes.SemanticType.TheVariants.{Output, Input, Prompt}

-- output comes first, and the prompt last
abbrev pub rank : SemanticType → ℕ
rank Output = 0
rank Input = 1
rank Prompt = 2
