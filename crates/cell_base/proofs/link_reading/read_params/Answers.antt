use Rattle.std.proofs.Common.{◌≡◌, ◌∙◌, sym, ap, map, lit<}
use Rattle.std.proofs.lemmas.Bool.{cond-false}
use Rattle.std.proofs.lemmas.Iterator.Splits.{YieldsList-from_str_split}
use Rattle.std.proofs.lemmas.Iterator.Consumers.{YieldsList-end}
use Rattle.cell_base.specs.LinkText.{by_key, param_of, fields}
use Rattle.cell_base.proofs.ReadingSteps.{map_now}
use Rattle.cell_base.proofs.link_reading.read_params.Goals as goal

pub returns : goal.returns
returns c =
    let text = c.args.text.now in
    let all : map (λ t. t.now) c.loop-pair.yielded ≡ fields 58 text = (YieldsList-end (YieldsList-from_str_split 58 text (lit< tt) (cc) (cc) (cc)) c.loop-pair.yielded _ c.loop-pair.yielded_by _ _ c.in-None.is c.next.ensures.steps).0 in
    c.loop-pair.invariant
    ∙ ap by_key (map_now param_of (λ t. t.now) c.loop-pair.yielded ∙ ap (map param_of) (all ∙ sym (cond-false _ _ _ (sym c.is_empty.ensures ∙ c.if-is_empty.false))))
