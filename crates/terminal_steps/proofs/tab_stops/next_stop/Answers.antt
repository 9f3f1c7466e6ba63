use Rattle.std.proofs.Common.{◌≡◌, ◌+◌, ◌-◌, ◌≤◌, suc, true, false, List, sym, ap, ◌∙◌, arith}
use Rattle.std.specs.Prelude.{ℕ, min, not, Bool}
use Rattle.terminal_table.specs.TabStops.{first_stop, is_stop, next_stop}
use Rattle.terminal_steps.proofs.TabLemmas.{first_here, first_none, first_past}
use Rattle.terminal_steps.proofs.tab_stops.next_stop.Goals as goal

pub loop-next-preserved : goal.loop-next-preserved
loop-next-preserved c =
    let last : ℕ = c.args.width - 1 in
    let test = c.loop-next-test.true in
    let more : last - c.loop-next.next ≡ suc (last - (c.loop-next.next + 1)) = omega (arith, test) in
    sym (first_past c.args.stops.now c.loop-next.next (last - c.loop-next.next) (last - (c.loop-next.next + 1)) more (sym c.if-not-is_stop.ensures)) ∙ c.loop-next.invariant

pub returns-clause-value : goal.returns-clause-value
returns-clause-value c =
    let stops : List Bool = c.args.stops.now in
    let last : ℕ = c.args.width - 1 in
    let at : ℕ = c.loop-next.next in
    c.min.ensures ∙ ap (λ (n : ℕ). min n last) (elim c.loop-next-test.branch [
      | goal.then-loop-next-test+else-not-is_stop w ↦
          let test = w.loop-next-test.true in
          let more : last - at ≡ suc (last - (at + 1)) = omega (arith, test) in
          sym (first_here stops at (last - at) (last - (at + 1)) more (sym w.if-not-is_stop.ensures)) ∙ c.loop-next.invariant
      | goal.else-loop-next-test w ↦
          let test = w.loop-next-test.false in
          let none : last - at ≡ 0 = omega (arith, test) in
          sym (first_none stops at (last - at) none) ∙ c.loop-next.invariant
    ])
