use Rattle.std.proofs.Common.{arith}
use Rattle.std.proofs.lemmas.List.Sums.{prefix_len-le-length}
use Rattle.escape_stream.specs.Sequences.{is_in_part}
use Rattle.escape_stream.proofs.PartLemmas.{part_and_rest, part_alone}
use Rattle.escape_stream.proofs.fast.parts.cut.Goals as goal

pub split_at-requires : goal.split_at-requires
split_at-requires c = let l = prefix_len-le-length is_in_part c.args.body.now in omega (arith, c.first_len-len.ensures)

pub returns-in_err-rest-clause-none : goal.returns-in_err-rest-clause-none
returns-in_err-rest-clause-none c = λ _. part_alone c.args.body.now c.split_at.result.1.now c.first_len-len.result c.first_len-len.ensures c.split_at.ensures.back c.in_err-rest.ensures.cases

pub returns-clause-some : goal.returns-clause-some
returns-clause-some c = part_and_rest c.args.body.now c.split_at.result.0.now c.split_at.result.1.now c.in_ok-rest.rest.now c.in_ok-rest.field-0-0.now c.first_len-len.result c.first_len-len.ensures c.split_at.ensures.front c.split_at.ensures.back c.in_ok-rest.ensures.cases.0
