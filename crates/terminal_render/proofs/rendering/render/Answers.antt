use Rattle.screen_change.specs.ValueOf.{value_of as change_value}
use Rattle.std.proofs.Common.{map}
use Rattle.csi_codec.proofs.PrefixTrip.{writable_texts_are_sequences-lem}
use Rattle.csi_codec.proofs.RoundTrip.{writable_actions_read_back-lem}
use Rattle.escape_stream.specs.StreamActionView.{value_of}
use Rattle.terminal_render.specs.Rendering.{rendering}
use Rattle.terminal_render.proofs.EncodedLemmas.{first_rendered}
use Rattle.terminal_render.proofs.WritableLemmas.{are_writable}
use Rattle.terminal_render.proofs.rendering.render.Goals as goal

pub returns-clause-writable : goal.returns-clause-writable
returns-clause-writable c =
    let list = c.in_ok-to_vec.field-0 in
    are_writable writable_actions_read_back-lem writable_texts_are_sequences-lem (change_value c.args.change.now) c.args.width c.args.height (map value_of list.items) (c.has_encoding.ensures.change (cc)) c.requires.size
    (first_rendered (rendering (change_value c.args.change.now) c.args.width c.args.height) c.new-actions.result c.push_change.new.actions (map value_of list.items) c.in_ok-push_change.ensures c.new-actions.ensures c.in_ok-to_vec.ensures)
