-- The laws of every reading, at this one.
use Rattle.std.proofs.Common.{◌<◌, ◌≤◌, max, List, length, sym, subst}
use Rattle.csi_codec.specs.Actions.{Action}
use Rattle.csi_codec.specs.Laws.{KeepsRests}
use Rattle.csi_codec.proofs.ReadingLemmas.{csi_reading-counted}
use Rattle.csi_codec.proofs.RoundTrip.{csi_reading-keeps}
use Rattle.csi_codec.proofs.sequences.CSI.parse.Goals as goal

pub returns-clause-some : goal.returns-clause-some
returns-clause-some c =
    let P : List Action → Type 0 = λ actions. 0 < length actions in
    subst P (sym (c.start.ensures c.args.params.now c.args.parameters_truncated c.args.control)) (csi_reading-counted c.args.params.now c.args.parameters_truncated c.args.control).some

pub returns-clause-bounded : goal.returns-clause-bounded
returns-clause-bounded c =
    let P : List Action → Type 0 = λ actions. length actions ≤ max 1 (length c.args.params.now) in
    subst P (sym (c.start.ensures c.args.params.now c.args.parameters_truncated c.args.control)) (csi_reading-counted c.args.params.now c.args.parameters_truncated c.args.control).bounded

pub returns-clause-rests : goal.returns-clause-rests
returns-clause-rests c =
    let P : List Action → Type 0 = λ actions. KeepsRests c.args.params.now c.args.parameters_truncated c.args.control actions in
    subst P (sym (c.start.ensures c.args.params.now c.args.parameters_truncated c.args.control)) (csi_reading-keeps c.args.params.now c.args.parameters_truncated c.args.control)
