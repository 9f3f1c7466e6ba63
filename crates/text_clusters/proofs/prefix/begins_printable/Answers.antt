use Rattle.std.proofs.Common.{rules, ◌≡◌, ◌∙◌, sym}
use Rattle.std.specs.Prelude.{Some}
use Rattle.std.specs.List.{slice_get}
use Rattle.text_clusters.proofs.IndependentLemmas.{byte_begins}
use Rattle.text_clusters.proofs.prefix.begins_printable.Goals as goal

pub returns-in-Some-clause-first : goal.returns-in-Some-clause-first
returns-in-Some-clause-first c t =
    let e : slice_get c.args.text.now 0 ≡ Some c.in-Some.byte.now = search rules in
    byte_begins c.args.text.now c.in-Some.byte.now e (sym c.is_printable.ensures ∙ t)
