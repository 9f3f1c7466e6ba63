use Rattle.std.proofs.Common.{arith, ap, sym, subst, ◌∙◌, ◌≡◌, ◌∷◌, ◌++◌, ℕ, ◌+◌, ◌-◌, ◌<◌, length, List, take, drop, slice_index_or, slice_set}
use Rattle.clustered_row.specs.declared.run.Run.{Run}
use Rattle.clustered_row.specs.declared.run.Position.{Position}
use Rattle.clustered_row.specs.Runs.{spread}
use Rattle.clustered_row.specs.RunSteps.{counted, column_at, IsParted}
use Rattle.clustered_row.proofs.RunSteps.{below, in_two, two_first, parted_two}
use Rattle.clustered_row.proofs.run_steps.split.Goals as goal

pub returns-clause-parted : goal.returns-clause-parted
returns-clause-parted c =
    let runs = c.args.runs.now.items in
    let from = c.args.from in
    let to = c.args.to in
    let i = from.index in
    let k = from.offset in
    let m = to.offset in
    let run = c.index-run.result.now in
    let is : run ≡ slice_index_or runs i run = c.index-run.ensures in
    let position : Position = record { index = i + 1; offset = m - k } in
    let one : i ≡ to.index = c.requires.one in
    let there = below to.index (length runs) (λ past. let none = c.requires.to.after past in omega arith) in
    let within : i < length runs = omega arith in
    let inside : m < run.count = c.requires.to.inside run there (is ∙ ap (λ n. slice_index_or runs n run) one) in
    let rest : Run = record { count = run.count - k; attributes = c.in_ok-attributes.attributes } in
    let same : rest ≡ counted run (run.count - k) = ap (λ a. counted (record { count = 0; attributes = a }) (run.count - k)) c.in_ok-attributes.ensures.copy in
    let inserted : c.insert.new.self.items ≡ take (i + 1) runs ++ counted run (run.count - k) ∷ drop (i + 1) runs = c.in_ok-insert.ensures.items ∙ ap (λ (r : Run). take (i + 1) runs ++ r ∷ drop (i + 1) runs) same in
    let first : slice_index_or c.insert.new.self.items i run ≡ run = ap (λ ys. slice_index_or ys i run) inserted ∙ two_first runs i (counted run (run.count - k)) run within ∙ sym is in
    let e : c.set_count.new.runs.items ≡ in_two runs i run k = c.set_count.ensures.items run ∙ ap (λ (r : Run). slice_set c.insert.new.self.items i (counted r k)) first ∙ ap (λ ys. slice_set ys i (counted run k)) inserted in
    subst (λ (new : List Run). IsParted (column_at runs from) (column_at runs to) runs new (i + 1) position) (sym e)
    (subst (λ (j : ℕ). IsParted (column_at runs from) (length (spread (take j runs)) + m) runs (in_two runs i run k) (i + 1) position) one
    (parted_two runs i k m run within is c.requires.order.0 c.requires.order.1 inside c.requires.fits c.requires.maximal))
