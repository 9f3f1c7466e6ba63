use Rattle.std.proofs.Common.{◌≡◌, ◌∙◌, ap}
use Rattle.std.specs.String.{string_bytes}
use Rattle.cell_base.specs.Link.{texts_of}
use Rattle.cell_base.specs.LinkText.{put_param, param_of}
use Rattle.cell_base.proofs.ReadingSteps.{texts_put}
use Rattle.cell_base.proofs.link_reading.put_pair.Goals as goal

pub returns : goal.returns
returns c =
    let key : string_bytes c.in_ok-from_str.field-0 ≡ (param_of c.args.pair.now).0 = c.in_ok-from_str.ensures.ok ∙ c.cut_param.ensures.key in
    let value : string_bytes c.in_ok-from_str-2.field-0 ≡ (param_of c.args.pair.now).1 = c.in_ok-from_str-2.ensures.ok ∙ c.cut_param.ensures.value in
    ap texts_of c.in_ok-insert.ensures.entries ∙ texts_put c.args.params.now.entries _ _ ∙ (λ i. put_param (texts_of c.args.params.now.entries) (key i, value i))
