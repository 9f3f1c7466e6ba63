-- each computes
use Rattle.std.proofs.Common.{refl}
use Rattle.unicode_segmentation.proofs.Computing.{unicode_segmentation}
use Rattle.unicode_width.proofs.Computing.{unicode_width}
use Rattle.std.specs.Str.{chars}
use Rattle.cell_base.specs.Cluster.{program_width}
use Rattle.screen_effects.proofs.examples.texts_in_rows.Goals as goal

pub returns-clause-moves : goal.returns-clause-moves
unfolding unicode_segmentation unicode_width program_width chars
returns-clause-moves c = refl

pub returns-clause-scrolls : goal.returns-clause-scrolls
unfolding unicode_segmentation unicode_width program_width chars
returns-clause-scrolls c = refl

pub returns-clause-pending : goal.returns-clause-pending
unfolding unicode_segmentation unicode_width program_width chars
returns-clause-pending c = refl

pub returns-clause-control : goal.returns-clause-control
unfolding unicode_segmentation unicode_width program_width chars
returns-clause-control c = refl

pub returns-clause-kept : goal.returns-clause-kept
unfolding unicode_segmentation unicode_width program_width chars
returns-clause-kept c = refl
