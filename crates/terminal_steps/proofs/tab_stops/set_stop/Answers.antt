use Rattle.std.proofs.Common.{◌≡◌, ◌+◌, ◌-◌, ◌%◌, length, suc, Bool, List, [], ◌∷◌, ◌++◌, sym, ap, ◌∙◌, arith, length-append}
use Rattle.std.specs.Prelude.{ℕ, ◌==◌}
use Rattle.std.specs.Vec.{vec_len}
use Rattle.terminal_table.specs.TabStops.{extended, is_eighth}
use Rattle.terminal_steps.proofs.TabLemmas.{extended_more}
use Rattle.terminal_steps.proofs.tab_stops.set_stop.Goals as goal

pub loop-stops-preserved : goal.loop-stops-preserved
loop-stops-preserved c =
    let stops : List Bool = c.loop-stops.stops.items in
    let next : ℕ = c.args.column + 1 - (length stops + 1) in
    let test = c.loop-stops-test.true in
    let len = c.len.ensures in
    let count : vec_len c.loop-stops.stops ≡ length stops = c.loop-stops.stops.ok.0 in
    let more : c.args.column + 1 - length stops ≡ suc next = omega (arith, test, len, count) in
    let item : c.push.new.self.items ≡ stops ++ (is_eighth (length stops) ∷ []) = c.in_ok-push.ensures.items ∙ ap (λ (n : ℕ). stops ++ ((n % 8 == 0) ∷ [])) (c.len-in-loop-stops.ensures ∙ count) in
    let size = ap length item ∙ length-append stops (is_eighth (length stops) ∷ []) in
    let left : c.args.column + 1 - length c.push.new.self.items ≡ next = omega (arith, size) in
    ap (extended c.push.new.self.items) left ∙ ap (λ (bs : List Bool). extended bs next) item ∙ sym (extended_more stops (c.args.column + 1 - length stops) next more) ∙ c.loop-stops.invariant
