use Rattle.std.proofs.Common.{◌≡◌, true, drop, sym, subst, arith}
use Rattle.std.specs.List.{list_all}
use Rattle.std.proofs.lemmas.Grind.{common_steps}
use Rattle.text_clusters.specs.Plain.{is_printable}
use Rattle.screen_difference.proofs.TextLemmas.{plain_dropped}
use Rattle.screen_difference.proofs.fast.plain_text.after.Goals as goal

pub returns-clause-printable : goal.returns-clause-printable
returns-clause-printable c =
    let part : c.range_from.result.now ≡ drop c.args.start c.args.text.now = grind (arith, common_steps) in
    subst (λ text. list_all is_printable text ≡ true) (sym part) (plain_dropped c.args.start c.args.text.now c.requires.printable)
