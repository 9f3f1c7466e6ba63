use Rattle.std.proofs.Common.{◌≡◌, ◌++◌}
use Rattle.std.specs.Str.{IsUtf8}
use Rattle.std.specs.Str.Iter.{chars_rest}
use Rattle.std.specs.String.{string_bytes}
use Rattle.screen_formats.specs.Escape.{escaped}
use Rattle.screen_formats.proofs.escape.push_escaped.Given as goal

-- the rest is UTF-8; the output so far, then the escaped rest, is the initial output, then the whole escaped text
abbrev pub invariant-loop-c : goal.invariant-loop-c
invariant-loop-c l =
    IsUtf8 (chars_rest l.c-iterator) × (string_bytes l.out ++ escaped l.markup (chars_rest l.c-iterator) ≡ string_bytes l.initial.out ++ escaped l.markup l.text)
