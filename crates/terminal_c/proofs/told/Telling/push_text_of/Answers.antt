use Rattle.terminal_c.proofs.ToldLemmas.{each_with_face}
use Rattle.terminal_c.proofs.told.Telling.push_text_of.Goals as goal

pub returns : goal.returns
returns c =
    each_with_face c.args.self.now c.push_face.new.self c.push_each.new.self c.args.column c.args.text.now c.args.attrs.now
    c.requires.some c.in_ok-push_face.ensures c.in_ok-push_each.ensures
