use Rattle.std.proofs.Common.{◌≡◌, ℕ, List, ◌++◌}
use Rattle.std.specs.Fmt.{HasWritten, IsPlainFormatter}
use Rattle.std.specs.Str.Chunks.{utf8_chunks_rest}
use Rattle.std.specs.Str.Lossy.{utf8_lossy}
use Rattle.escape_osc.specs.ShownParts.{shown_part}
use Rattle.escape_osc.proofs.show.LossyPartDisplay.fmt.Given as goal

abbrev pub invariant-loop-chunk : goal.invariant-loop-chunk
invariant-loop-chunk g l =
    (goal.iterator-loop-chunk g).can_next l.chunk-iterator
    × (goal.iterator-loop-chunk g).is_finite l.chunk-iterator
    × (IsPlainFormatter l.initial.f → (done : List ℕ) × HasWritten g.W.Write.write_str_gives l.initial.f done l.f
    × (done ++ utf8_lossy (utf8_chunks_rest l.chunk-iterator) ≡ shown_part l.fn.self))
