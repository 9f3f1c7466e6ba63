use Rattle.std.proofs.Common.{◌+◌, ◌<◌, ◌∙◌, length, sym, ap, rules}
use Rattle.screen_change.specs.Written.{Written, with_each}
use Rattle.screen_difference.specs.Drawing.{Drawing}
use Rattle.screen_difference.proofs.DrawingLemmas.{each_placed, ends_at}
use Rattle.screen_difference.proofs.difference_writer.DifferenceWriter.push_plain.Goals as goal

pub returns : goal.returns
returns c =
    let text = c.args.text.now in
    let attrs = c.args.attrs.now in
    let some : 0 < length text = search rules in
    ap (λ (w : Written). ends_at w c.args.row (c.args.column + length text)) (c.in_ok-push_plain.ensures ∙ ap (λ (d : Drawing). with_each text attrs d.written) (c.self.view_is ∙ c.in_ok-move_to.ensures))
    ∙ sym (each_placed c.args.self.now c.args.row c.args.column text attrs some)
