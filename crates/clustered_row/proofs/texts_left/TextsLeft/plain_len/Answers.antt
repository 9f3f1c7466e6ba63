use Rattle.std.proofs.Common.{◌∙◌, ap, arith, take}
use Rattle.std.specs.List.{list_all}
use Rattle.std.proofs.lemmas.List.{length-take-le}
use Rattle.clustered_row.specs.Sizes.{is_plain}
use Rattle.clustered_row.proofs.PlainLemmas.{sizes_bound, plain_prefix, plain_all}
use Rattle.clustered_row.proofs.texts_left.TextsLeft.plain_len.Goals as goal

pub returns-then-plain-sizes-clause-within : goal.returns-then-plain-sizes-clause-within
returns-then-plain-sizes-clause-within c =
    let left = c.args.self.now in
    let bound = sizes_bound left.sizes.now in
    let bytes = left.bytes in
    let long = length-take-le c.min.result left.sizes.now (omega (arith, c.min.ensures)) in
    omega (arith, bound, bytes, long)

pub returns-then-plain-sizes-clause-plain : goal.returns-then-plain-sizes-clause-plain
returns-then-plain-sizes-clause-plain c =
    let left = c.args.self.now in
    ap (λ n. list_all is_plain (take n left.sizes.now)) c.plain_sizes-plain.ensures ∙ plain_prefix c.min.result left.sizes.now

pub returns-clause-plain : goal.returns-clause-plain
returns-clause-plain c =
    let left = c.args.self.now in
    plain_all c.min.result c.args.most c.min-2.result left.sizes.now c.min.ensures (omega (arith, c.plain_sizes-plain.ensures)) (omega (arith, c.min-2.ensures))
