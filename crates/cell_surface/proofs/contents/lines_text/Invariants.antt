use Rattle.std.proofs.Common.{◌≡◌, [], ◌∷◌, ◌++◌, map, take}
use Rattle.std.specs.String.{string_bytes}
use Rattle.std.specs.List.{flat_map}
use Rattle.cell_base.specs.Row.{row_text}
use Rattle.cell_surface.proofs.contents.lines_text.Given as goal

-- the texts of the lines so far
abbrev pub invariant-loop-line : goal.invariant-loop-line
invariant-loop-line l = string_bytes l.text ≡ flat_map (λ row. row_text row ++ 10 ∷ []) (map (λ line. line.columns) (take l.line-index l.lines))
