use Rattle.std.proofs.Common.{◌∙◌, refl, sym, ap}
use Rattle.escape_framing.specs.Lending.{Lending}
use Rattle.escape_framing.proofs.framer.Framer.step.Goals as goal

pub in_character-requires : goal.in_character-requires
in_character-requires c = (c.self.inside.characters, sym (ap (λ (l : Lending). l.held.kept) c.self.view_is) ∙ rw c.in-Characters.is refl)
