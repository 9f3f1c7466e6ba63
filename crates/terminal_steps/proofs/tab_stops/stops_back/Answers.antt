use Rattle.std.proofs.Common.{◌≡◌, ◌+◌, ◌-◌, ◌≤◌, suc, sym, ap, ◌∙◌, arith}
use Rattle.std.specs.Prelude.{ℕ}
use Rattle.terminal_table.specs.TabStops.{stop_before, stops_back}
use Rattle.terminal_steps.proofs.TabLemmas.{back_more, back_stays}
use Rattle.terminal_steps.proofs.tab_stops.stops_back.Goals as goal

pub returns-then-at-eq0-clause-value : goal.returns-then-at-eq0-clause-value
returns-then-at-eq0-clause-value c =
    sym (back_stays c.args.stops.now c.loop.at (c.args.count - c.loop.counter) c.if-at-eq0.true) ∙ c.loop.invariant.0

pub loop-preserved : goal.loop-preserved
loop-preserved c =
    let test = c.loop-test.true in
    let more : c.args.count - c.loop.counter ≡ suc (c.args.count - (c.loop.counter + 1)) = omega (arith, test) in
    let within = c.stop_before-at.ensures.within in
    let before = c.loop.invariant.1 in (
      ap (λ (at : ℕ). stops_back c.args.stops.now at (c.args.count - (c.loop.counter + 1))) c.stop_before-at.ensures.value
          ∙ sym (back_more c.args.stops.now c.loop.at (c.args.count - c.loop.counter) (c.args.count - (c.loop.counter + 1)) more)
          ∙ c.loop.invariant.0,
      omega (arith, within, before),
    )
