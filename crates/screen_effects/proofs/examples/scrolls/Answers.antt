-- each computes
use Rattle.std.proofs.Common.{refl}
use Rattle.unicode_segmentation.proofs.Computing.{unicode_segmentation}
use Rattle.unicode_width.proofs.Computing.{unicode_width}
use Rattle.std.specs.Str.{chars}
use Rattle.cell_base.specs.Cluster.{program_width}
use Rattle.screen_effects.proofs.examples.scrolls.Goals as goal

pub returns-clause-up : goal.returns-clause-up
unfolding unicode_segmentation unicode_width program_width chars
returns-clause-up c = refl

pub returns-clause-down : goal.returns-clause-down
unfolding unicode_segmentation unicode_width program_width chars
returns-clause-down c = refl

pub returns-clause-part_up : goal.returns-clause-part_up
unfolding unicode_segmentation unicode_width program_width chars
returns-clause-part_up c = refl

pub returns-clause-part_down : goal.returns-clause-part_down
unfolding unicode_segmentation unicode_width program_width chars
returns-clause-part_down c = refl

pub returns-clause-past : goal.returns-clause-past
unfolding unicode_segmentation unicode_width program_width chars
returns-clause-past c = refl
