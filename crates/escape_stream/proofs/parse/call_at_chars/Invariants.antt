use Rattle.std.proofs.Common.{map}
use Rattle.std.specs.Str.{IsUtf8, chars}
use Rattle.std.specs.Str.Iter.{chars_rest}
use Rattle.escape_stream.specs.StreamAction.{print}
use Rattle.escape_stream.specs.Parsing.{IsCalledAt}
use Rattle.escape_stream.proofs.parse.call_at_chars.Given as goal

abbrev pub invariant-loop-first : goal.invariant-loop-first
invariant-loop-first g l =
    goal.F-IsAlwaysCallable g l.callback
    × IsUtf8 (chars_rest l.characters)
    × ((last : _) → IsCalledAt (λ f a f'. goal.F-step g f a tt f') l.callback (map print (chars (chars_rest l.characters))) last → IsCalledAt (λ f a f'. goal.F-step g f a tt f') l.fn.callback (map print (chars l.fn.text)) last)

abbrev pub invariant-loop-character : goal.invariant-loop-character
invariant-loop-character g l =
    goal.F-IsAlwaysCallable g l.callback
    × IsUtf8 (chars_rest l.characters)
    × ((last : _) → IsCalledAt (λ f a f'. goal.F-step g f a tt f') l.callback (map print (chars (chars_rest l.characters))) last → IsCalledAt (λ f a f'. goal.F-step g f a tt f') l.fn.callback (map print (chars l.fn.text)) last)
