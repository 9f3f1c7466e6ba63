-- each computes
use Rattle.std.proofs.Common.{refl}
use Rattle.unicode_segmentation.proofs.Computing.{unicode_segmentation}
use Rattle.unicode_width.proofs.Computing.{unicode_width}
use Rattle.std.specs.Str.{chars}
use Rattle.cell_base.specs.Cluster.{program_width}
use Rattle.screen_effects.proofs.examples.positions.Goals as goal

pub returns-clause-relative : goal.returns-clause-relative
unfolding unicode_segmentation unicode_width program_width chars
returns-clause-relative c = refl

pub returns-clause-pending : goal.returns-clause-pending
unfolding unicode_segmentation unicode_width program_width chars
returns-clause-pending c = refl

pub returns-clause-past : goal.returns-clause-past
unfolding unicode_segmentation unicode_width program_width chars
returns-clause-past c = refl

pub returns-clause-here : goal.returns-clause-here
unfolding unicode_segmentation unicode_width program_width chars
returns-clause-here c = refl

pub returns-clause-from_end : goal.returns-clause-from_end
unfolding unicode_segmentation unicode_width program_width chars
returns-clause-from_end c = refl

pub returns-clause-far : goal.returns-clause-far
unfolding unicode_segmentation unicode_width program_width chars
returns-clause-far c = refl
