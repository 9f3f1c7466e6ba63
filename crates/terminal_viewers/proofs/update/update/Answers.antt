use Rattle.cell_surface.specs.Surface.{shown_by}
use Rattle.terminal_viewers.proofs.SpellLemmas.{update_has}
use Rattle.terminal_viewers.proofs.UpdateLemmas.{on_display, encoded_bytes}
use Rattle.terminal_viewers.proofs.update.update.Goals as goal

pub returns : goal.returns
returns g c =
    let d = shown_by c.args.surface.now in
    let log = c.args.surface.now.log in
    encoded_bytes d log c.args.number c.encode_update.new.bytes.items c.new-bytes.result.items c.of-encoder.result.width c.of-encoder.result.height
    c.of-encoder.ensures.width c.of-encoder.ensures.height
    (update_has d.screen log c.args.number (on_display d c.of-encoder.ensures.lawful) c.requires.spelled c.requires.kept)
    c.new-bytes.ensures.items c.in_ok-encode_update.ensures
