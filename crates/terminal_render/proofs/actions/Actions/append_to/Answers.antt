use Rattle.std.proofs.Common.{ℕ, ◌+◌, List, ◌++◌, ap, ◌∙◌, drop, arith}
use Rattle.escape_stream.specs.StreamText.{stream_text}
use Rattle.terminal_render.specs.BorrowedActionView.{borrowed_values}
use Rattle.terminal_render.proofs.EncodedLemmas.{still_prefix, text_next}
use Rattle.terminal_render.proofs.actions.Actions.append_to.Goals as goal

pub loop-action-preserved : goal.loop-action-preserved
loop-action-preserved c =
    let items = c.deref-action-items.result.now in (
      ap (λ (bytes : List ℕ). bytes ++ stream_text (borrowed_values (drop (c.loop-action.action-index + 1) items))) c.in_ok-append_to.ensures.ok
          ∙ text_next c.loop-action.bytes.items items c.loop-action.action-index c.action-item.result (omega arith) c.action-item.is
          ∙ c.loop-action.invariant.0,
      still_prefix c.args.bytes.now.items c.loop-action.bytes.items c.append_to.new.bytes.items c.loop-action.invariant.1 c.append_to.ensures.prefix,
    )
