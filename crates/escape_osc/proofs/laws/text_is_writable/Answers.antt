use Rattle.escape_osc.proofs.WritableBack.{text_writable}
use Rattle.escape_osc.proofs.laws.text_is_writable.Goals as goal

pub returns : goal.returns
returns c =
    let written = text_writable c.args.text.now c.utf8.text c.requires in
    record { icon_name_and_title = written.0; icon_name = written.1; title = written.2; directory = written.3 }
