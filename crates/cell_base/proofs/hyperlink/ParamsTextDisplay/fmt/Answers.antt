use Rattle.std.proofs.Common.{sym, refl, Bor, String, Global}
use Rattle.std.proofs.Output.{has_written_append, has_written_of_eq}
use Rattle.std.specs.String.{string_bytes}
use Rattle.std.specs.Map.Iter.{deref_pair}
use Rattle.cell_base.proofs.ReadingSteps.{params_more, separator_more}
use Rattle.cell_base.proofs.hyperlink.ParamsTextDisplay.fmt.Goals as goal

pub loop-key-preserved : goal.loop-key-preserved
loop-key-preserved g c =
    let items = c.loop-key.yielded in
    let item : Bor (String Global) × Bor (String Global) = (c.in-Some.key, c.in-Some.value) in
    let invariant = c.loop-key.invariant in (
      sym (separator_more items item),
      λ p. has_written_of_eq _ _ _ _ _ (params_more (λ e. (string_bytes e.0, string_bytes e.1)) deref_pair items item _ invariant.0) (has_written_append _ _ _ _ _ _ (invariant.1 p) (c.in_ok-write.ensures.writes (invariant.1 p).plain refl)),
    )
