use Rattle.std.proofs.Common.{◌≡◌, ◌+◌, ◌-◌, suc, sym, ap, ◌∙◌, arith}
use Rattle.std.specs.Prelude.{ℕ}
use Rattle.terminal_table.specs.TabStops.{next_stop, stops_on}
use Rattle.terminal_steps.proofs.TabLemmas.{on_more, on_stays}
use Rattle.terminal_steps.proofs.tab_stops.stops_on.Goals as goal

pub returns-then-next-at-clause-value : goal.returns-then-next-at-clause-value
returns-then-next-at-clause-value c =
    let same : next_stop c.args.stops.now c.args.width c.loop.at ≡ c.loop.at = sym c.next_stop-next.ensures.value ∙ c.if-next-at.true in
    sym (on_stays c.args.stops.now c.args.width c.loop.at (c.args.count - c.loop.counter) same) ∙ c.loop.invariant.0

pub loop-preserved : goal.loop-preserved
loop-preserved c =
    let test = c.loop-test.true in
    let more : c.args.count - c.loop.counter ≡ suc (c.args.count - (c.loop.counter + 1)) = omega (arith, test) in (
      ap (λ (at : ℕ). stops_on c.args.stops.now c.args.width at (c.args.count - (c.loop.counter + 1))) c.next_stop-next.ensures.value
          ∙ sym (on_more c.args.stops.now c.args.width c.loop.at (c.args.count - c.loop.counter) (c.args.count - (c.loop.counter + 1)) more)
          ∙ c.loop.invariant.0,
      c.next_stop-next.ensures.within,
    )
