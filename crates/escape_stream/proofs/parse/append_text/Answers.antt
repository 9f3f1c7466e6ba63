use Rattle.std.proofs.Common.{◌≢◌, refl, [], map, fold, sym, ap, rules}
use Rattle.escape_stream.specs.StreamAction.{print, appended}
use Rattle.escape_stream.specs.StreamActionView.{value_of}
use Rattle.escape_stream.proofs.JoinLemmas.{no_chars, appended_text}
use Rattle.escape_stream.proofs.parse.append_text.Goals as goal

pub returns-then-is_empty : goal.returns-then-is_empty
returns-then-is_empty c = ap (λ l. fold appended (map value_of c.args.actions.now.items) (map print l)) (sym (no_chars c.args.text.now (search rules)))

pub returns-in_ok-copy-in-None : goal.returns-in_ok-copy-in-None
returns-in_ok-copy-in-None c =
    let n : c.args.text.now ≢ [] = search rules in
    rw (appended_text (map value_of c.args.actions.now.items) c.args.text.now c.utf8.text n (c.in-None.ensures.remaining refl), ← c.in_ok-copy-in-None.ensures.ok) c.append_to-in-None.ensures.ok
