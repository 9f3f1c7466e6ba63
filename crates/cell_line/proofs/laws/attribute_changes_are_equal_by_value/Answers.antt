use Rattle.std.proofs.Common.{◌≡◌, sym, ap, ◌∙◌}
use Rattle.cell_base.specs.AttributeValueOf.{attribute_value}
use Rattle.screen_change.specs.ChangeValue as to
use Rattle.screen_change.specs.contracts.change.ChangePartialEq.TheImpl as derived
use Rattle.screen_change.specs.declared.change.Change.TheVariants as of
use Rattle.screen_change.proofs.EqualChanges.{change_eq}
use Rattle.cell_line.proofs.laws.attribute_changes_are_equal_by_value.Goals as goal

pub returns : goal.returns
returns c =
    let one = c.args.one.now in
    let other = c.args.other.now in
    let d = change_eq (of.Attribute one) (of.Attribute other) in
    let e : c.eq.result ≡ derived.ghosts.eq (of.Attribute one) (of.Attribute other) = c.eq.ensures in
    let same : to.Attribute (attribute_value one) ≡ to.Attribute (attribute_value other) → attribute_value one ≡ attribute_value other = λ k. cc in
    (λ t. same (d.0 (sym e ∙ t)), λ k. e ∙ d.1 (ap to.Attribute k))
