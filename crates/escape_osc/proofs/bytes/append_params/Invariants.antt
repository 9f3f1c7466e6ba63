use Rattle.std.proofs.Common.{◌≡◌, ◌++◌, map, length, eqb, cond, [], ◌∷◌}
use Rattle.std.specs.Map.Iter.{deref_pair}
use Rattle.cell_base.specs.Link.{texts_of}
use Rattle.cell_base.specs.LinkText.{params_text}
use Rattle.escape_osc.proofs.bytes.append_params.Given as goal

abbrev pub invariant-loop-key : goal.invariant-loop-key
invariant-loop-key l =
    (l.separator ≡ cond (eqb (length l.yielded) 0) [] (58 ∷ []))
    × (l.dest.items ≡ l.fn.dest.items ++ params_text (texts_of (map deref_pair l.yielded)))
