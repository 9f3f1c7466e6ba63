use Rattle.std.proofs.Common.{◌∙◌, sym, rules}
use Rattle.screen_change.proofs.CutLemmas.{following_bytes, bytes_end}
use Rattle.screen_change.proofs.texts.are_bytes.Goals as goal

pub loop-rest-init : goal.loop-rest-init
loop-rest-init c =
    (search rules, following_bytes c.args.text.now c.split_plain.result.0.now c.split_plain.result.1.now _ c.split_plain.ensures.prefix c.split_plain.ensures.rest c.split_plain.ensures.clusters)

pub returns : goal.returns
returns c = sym (bytes_end c.loop-rest.rest.now (search rules)) ∙ c.loop-rest.invariant.1
