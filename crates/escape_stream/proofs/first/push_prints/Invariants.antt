use Rattle.std.proofs.Common.{◌≡◌, ◌++◌, map}
use Rattle.std.specs.Str.{IsUtf8, chars}
use Rattle.std.specs.Str.Iter.{chars_rest}
use Rattle.escape_stream.specs.StreamAction.{print}
use Rattle.escape_stream.specs.StreamActionView.{value_of}
use Rattle.escape_stream.proofs.first.push_prints.Given as goal

abbrev pub invariant-loop-character : goal.invariant-loop-character
invariant-loop-character l =
    IsUtf8 (chars_rest l.character-iterator)
    × (map value_of l.actions.items ++ map print (chars (chars_rest l.character-iterator)) ≡ map value_of l.fn.actions.items ++ map print (chars l.fn.text))
