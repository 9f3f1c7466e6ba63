use Rattle.std.proofs.Common.{arith, ap, ◌∙◌, ◌≡◌, ◌++◌, ◌+◌, ◌-◌, length, take, replicate}
use Rattle.std.proofs.lemmas.List.{append_assoc, replicate-append-replicate, take-append-le, length-take, length-append, length-replicate}
use Rattle.clustered_row.proofs.runs.Runs.push_more.Goals as goal

pub loop-left-preserved : goal.loop-left-preserved
loop-left-preserved c =
    let first = c.args.self.now in
    let now = c.loop-left.self in
    let a = c.args.attributes.now in
    let part = c.min-part.result in
    let left = c.loop-left.left in
    let e : c.push_some.new.self ≡ now ++ replicate part a = c.in_default.ensures.done in
    let sums : part + (left - part) ≡ left = omega arith in
    let prefix = c.loop-left.invariant.1 in
    let long = ap length prefix in
    let taken = length-take (length first) now in
    let more = ap length e in
    let both = length-append now (replicate part a) in
    let some = length-replicate part a in (
      ap (λ ys. ys ++ replicate (left - part) a) e ∙ append_assoc now (replicate part a) (replicate (left - part) a) ∙ ap (λ ys. now ++ ys) (replicate-append-replicate part (left - part) a ∙ ap (λ n. replicate n a) sums) ∙ c.loop-left.invariant.0,
      ap (λ ys. take (length first) ys) e ∙ take-append-le (length first) now (replicate part a) (omega arith) ∙ prefix,
      omega arith,
    )
