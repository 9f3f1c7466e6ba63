use Rattle.std.proofs.Common.{◌≡◌, ap, ◌∙◌, sym, rules, lit<}
use Rattle.std.specs.List.{list_all}
use Rattle.std.proofs.lemmas.Bool.{cond-false}
use Rattle.std.proofs.lemmas.Iterator.Search.{all_from_yields_List}
use Rattle.std.proofs.lemmas.Iterator.Splits.{YieldsList-from_str_split}
use Rattle.cell_base.specs.LinkText.{is_param, fields}
use borrow.Author.Tests.{tests}
use Rattle.cell_base.proofs.link_reading.are_params.Goals as goal

pub returns-else-is_empty : goal.returns-else-is_empty
returns-else-is_empty c =
    let text = c.args.text.now in
    let of_fields : c.all.result ≡ list_all is_param (fields 58 text) = all_from_yields_List is_param _ _ _ c.all.ensures.ran (YieldsList-from_str_split 58 text (lit< tt) c.split.ensures.text c.split.ensures.has_more c.split.ensures.pattern) (λ x b q k. search (rules, tests)) in
    of_fields ∙ ap (list_all is_param) (sym (cond-false _ _ _ (sym c.is_empty.ensures ∙ c.if-is_empty.false)))
