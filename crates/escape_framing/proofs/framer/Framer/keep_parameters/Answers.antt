use Rattle.std.proofs.Common.{◌∙◌, ap}
use Rattle.csi_codec.specs.Tokens.{Parameters}
use Rattle.escape_framing.proofs.ReadEventLemmas.{keeps_list}
use Rattle.escape_framing.proofs.framer.Framer.keep_parameters.Goals as goal

pub returns : goal.returns
returns c =
    let d = c.self.inside in
    keeps_list c.args.self.now d.state d.waiting d.characters d.parameters c.set.new.self d.body.items c.self.view_is c.requires
    ∙ ap (λ (p : Parameters). record c.args.self.now { parameters = p }) c.set.ensures
