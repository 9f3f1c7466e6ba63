use Rattle.std.proofs.Common.{◌∙◌, arith, rules}
use Rattle.screen_log.proofs.StoredLemmas.{swapped_block}
use Rattle.screen_log.proofs.change_log.swap_changes.Goals as goal

pub loop-prefix-preserved : goal.loop-prefix-preserved
loop-prefix-preserved c =
    let now = c.loop-prefix in
    let more = c.loop-prefix-test.true in
    let within = now.invariant.within in
    let prefix = now.auto.prefix in
    let after = now.auto.after in
    let same = c.requires in
    record {
      within = search rules;
      prefix = swapped_block _ now.at now.prefix now.after _ _ (omega arith) (omega arith) c.swap_blocks.ensures.prefix c.swap_blocks.ensures.after ∙ now.invariant.prefix;
      after = swapped_block _ now.at now.after now.prefix _ _ (omega arith) (omega arith) c.swap_blocks.ensures.after c.swap_blocks.ensures.prefix ∙ now.invariant.after;
    }
