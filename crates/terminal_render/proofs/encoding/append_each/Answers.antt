use Rattle.std.proofs.Common.{arith}
use Rattle.terminal_render.proofs.EncodedLemmas.{each_rendered, next_of_changes, still_prefix}
use Rattle.terminal_render.proofs.encoding.append_each.Goals as goal

pub push_change-requires-clause-encoded : goal.push_change-requires-clause-encoded
push_change-requires-clause-encoded c =
    each_rendered c.args.changes.now c.loop-change.change-index c.change-item.result c.args.width c.args.height (omega arith) c.change-item.is c.requires.encoded

pub loop-change-preserved : goal.loop-change-preserved
loop-change-preserved c = (
  next_of_changes c.args.bytes.now.items c.loop-change.bytes.items c.append_to.new.bytes.items c.args.changes.now c.loop-change.change-index c.change-item.result c.args.width c.args.height
      c.loop-change.actions c.push_change.new.actions (omega arith) c.change-item.is c.loop-change.invariant.0 c.loop-change.invariant.1 c.in_ok-push_change.ensures c.in_ok-append_to.ensures.ok,
  c.clear.ensures,
  still_prefix c.args.bytes.now.items c.loop-change.bytes.items c.append_to.new.bytes.items c.loop-change.invariant.2 c.append_to.ensures.prefix,
)
