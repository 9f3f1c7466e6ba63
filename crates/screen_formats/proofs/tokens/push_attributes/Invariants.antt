use Rattle.std.proofs.Common.{◌≡◌, ◌++◌, map, take}
use Rattle.std.specs.String.{string_bytes}
use Rattle.std.specs.List.{flat_map}
use Rattle.screen_formats.specs.Tokens.{attribute_text}
use Rattle.screen_formats.proofs.tokens.push_attributes.Given as goal

-- the attributes so far are written
abbrev pub invariant-loop-name : goal.invariant-loop-name
invariant-loop-name l = string_bytes l.out ≡ string_bytes l.initial.out ++ flat_map (attribute_text l.markup) (map (λ a. (a.0.now, a.1.now)) (take l.name-index l.attributes))
