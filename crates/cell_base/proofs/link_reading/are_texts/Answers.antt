use Rattle.std.proofs.Common.{◌≡◌, ◌∙◌, rules}
use Rattle.std.specs.List.{list_all}
use Rattle.std.specs.Str.{is_utf8}
use Rattle.std.proofs.lemmas.Iterator.{YieldsList-from_slice}
use Rattle.std.proofs.lemmas.Iterator.Search.{all_from_yields_List}
use borrow.Author.Tests.{tests}
use Rattle.cell_base.proofs.ReadingSteps.{parts_utf8}
use Rattle.cell_base.proofs.link_reading.are_texts.Goals as goal

pub returns : goal.returns
returns c =
    let each : c.all.result ≡ list_all (λ p. is_utf8 p.now) c.args.parts.now = all_from_yields_List (λ p. is_utf8 p.now) _ _ _ c.all.ensures.ran (YieldsList-from_slice c.args.parts.now (cc)) (λ x b q k. search (rules, tests)) in
    each ∙ parts_utf8 (λ p. p.now) c.args.parts.now
