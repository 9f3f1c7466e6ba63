-- each computes
use Rattle.std.proofs.Common.{refl}
use Rattle.unicode_segmentation.proofs.Computing.{unicode_segmentation}
use Rattle.unicode_width.proofs.Computing.{unicode_width}
use Rattle.std.specs.Str.{chars}
use Rattle.cell_base.specs.Cluster.{program_width}
use Rattle.screen_effects.proofs.examples.resized_displays.Goals as goal

pub returns-clause-smaller : goal.returns-clause-smaller
unfolding unicode_segmentation unicode_width program_width chars
returns-clause-smaller c = refl

pub returns-clause-pending : goal.returns-clause-pending
unfolding unicode_segmentation unicode_width program_width chars
returns-clause-pending c = refl

pub returns-clause-cut : goal.returns-clause-cut
unfolding unicode_segmentation unicode_width program_width chars
returns-clause-cut c = refl

pub returns-clause-larger : goal.returns-clause-larger
unfolding unicode_segmentation unicode_width program_width chars
returns-clause-larger c = refl
