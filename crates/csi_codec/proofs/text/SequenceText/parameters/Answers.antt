use Rattle.std.proofs.Common.{IsUtf8, ap, drop, subst, sym, ◌∙◌}
use Rattle.std.proofs.lemmas.Slice.{between_is}
use Rattle.csi_codec.proofs.TextSteps.{parameters_text}
use Rattle.csi_codec.proofs.text.SequenceText.parameters.Goals as goal

pub from_utf8_unchecked-requires : goal.from_utf8_unchecked-requires
from_utf8_unchecked-requires c =
    subst IsUtf8 (sym (between_is c.self.inside.bytes 2 c.self.inside.len ∙ ap (λ it. drop 2 it) (c.self.view_is ∙ c.requires.1)))
    (parameters_text c.args.self.now c.requires.0 c.requires.1 (subst (λ it. ∥ IsUtf8 it ∥₁) c.self.view_is c.self.invariant.1))

pub returns : goal.returns
returns c = c.from_utf8_unchecked.ensures ∙ between_is c.self.inside.bytes 2 c.self.inside.len ∙ ap (λ it. drop 2 it) c.self.view_is
