use Rattle.std.proofs.Common.{◌≡◌, map, length, eqb, cond, [], ◌∷◌}
use Rattle.std.specs.Fmt.{HasWritten, IsPlainFormatter}
use Rattle.std.specs.Map.Iter.{deref_pair}
use Rattle.cell_base.specs.Link.{texts_of}
use Rattle.cell_base.specs.LinkText.{params_text}
use Rattle.cell_base.proofs.hyperlink.ParamsTextDisplay.fmt.Given as goal

abbrev pub invariant-loop-key : goal.invariant-loop-key
invariant-loop-key g l =
    (l.separator ≡ cond (eqb (length l.yielded) 0) [] (58 ∷ [])) × (IsPlainFormatter l.initial.f → HasWritten g.W.Write.write_str_gives l.initial.f (params_text (texts_of (map deref_pair l.yielded))) l.f)
