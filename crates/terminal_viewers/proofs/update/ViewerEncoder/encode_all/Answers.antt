use Rattle.std.proofs.Common.{map}
use Rattle.std.proofs.lemmas.Result.{on_ok_weaker}
use Rattle.screen_change.specs.ValueOf.{value_of}
use Rattle.terminal_render.proofs.LogLemmas.{all_some}
use Rattle.terminal_viewers.proofs.EncodedLemmas.{appended_encoded}
use Rattle.terminal_viewers.proofs.update.ViewerEncoder.encode_all.Goals as goal

pub append_encodings-requires-clause-encoded : goal.append_encodings-requires-clause-encoded
append_encodings-requires-clause-encoded c = all_some c.args.self.now.width c.args.self.now.height (map value_of c.args.changes.now) c.requires

pub returns-clause-ok : goal.returns-clause-ok
returns-clause-ok c =
    on_ok_weaker c.append_encodings.result
    (appended_encoded c.args.self.now.width c.args.self.now.height (map value_of c.args.changes.now) c.args.bytes.now.items c.append_encodings.new.bytes.items c.requires) c.append_encodings.ensures.ok
