use Rattle.std.proofs.Common.{◌==◌, length, ap, arith}
use Rattle.std.proofs.lemmas.List.{length-drop}
use Rattle.std.proofs.lemmas.List.Sums.{prefix_len-le-length}
use Rattle.screen_change.specs.Cuts.{bytes_of}
use Rattle.screen_change.proofs.CutLemmas.{ones_short, plain_count, plain_rest, bytes_prefix, cells_after}
use Rattle.screen_change.proofs.texts.after_plain.Goals as goal

pub split_at-requires : goal.split_at-requires
split_at-requires c =
    let lens = c.args.lens.now in
    let short = ones_short lens c.first_tested.result.now c.ones.result 32 c.first_tested.ensures c.ones.ensures in
    let prefix = plain_count c.args.text.now c.split_plain.result.0.now c.ones.result c.split_plain.ensures.prefix in
    omega (arith, prefix.0, short, prefix_len-le-length (λ n. n == 1) lens)

pub returns-clause-within : goal.returns-clause-within
returns-clause-within c =
    let lens = c.args.lens.now in
    let short = ones_short lens c.first_tested.result.now c.ones.result 32 c.first_tested.ensures c.ones.ensures in
    let prefix = c.split_plain.result.0.now in
    let counts = plain_count c.args.text.now prefix c.ones.result c.split_plain.ensures.prefix in
    let left = bytes_prefix (length prefix) lens (omega (arith, counts.0, short)) in
    let rest = ap length (plain_rest c.args.text.now prefix c.split_plain.result.1.now c.ones.result c.split_plain.ensures.prefix c.split_plain.ensures.rest) in
    omega (arith, left, counts.1.0, ap bytes_of c.split_at.ensures.back, rest, length-drop (length prefix) c.args.text.now, c.requires)

pub returns-clause-same : goal.returns-clause-same
returns-clause-same c =
    let lens = c.args.lens.now in
    let short = ones_short lens c.first_tested.result.now c.ones.result 32 c.first_tested.ensures c.ones.ensures in
    let prefix = c.split_plain.result.0.now in
    let rest = c.split_plain.result.1.now in
    let counts = plain_count c.args.text.now prefix c.ones.result c.split_plain.ensures.prefix in
    cells_after lens c.args.text.now prefix rest c.split_at.result.1.now (length prefix) (omega (arith, counts.0, short)) counts.1.0 counts.1.1
    (plain_rest c.args.text.now prefix rest c.ones.result c.split_plain.ensures.prefix c.split_plain.ensures.rest) c.split_at.ensures.back c.split_plain.ensures.clusters
