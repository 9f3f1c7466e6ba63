-- each computes
use Rattle.std.proofs.Common.{refl}
use Rattle.unicode_segmentation.proofs.Computing.{unicode_segmentation}
use Rattle.unicode_width.proofs.Computing.{unicode_width}
use Rattle.std.specs.Str.{chars}
use Rattle.cell_base.specs.Cluster.{program_width}
use Rattle.screen_effects.proofs.examples.clears.Goals as goal

pub returns-clause-home : goal.returns-clause-home
unfolding unicode_segmentation unicode_width program_width chars
returns-clause-home c = refl

pub returns-clause-screen : goal.returns-clause-screen
unfolding unicode_segmentation unicode_width program_width chars
returns-clause-screen c = refl

pub returns-clause-pending : goal.returns-clause-pending
unfolding unicode_segmentation unicode_width program_width chars
returns-clause-pending c = refl

pub returns-clause-first : goal.returns-clause-first
unfolding unicode_segmentation unicode_width program_width chars
returns-clause-first c = refl

pub returns-clause-middle : goal.returns-clause-middle
unfolding unicode_segmentation unicode_width program_width chars
returns-clause-middle c = refl

pub returns-clause-below : goal.returns-clause-below
unfolding unicode_segmentation unicode_width program_width chars
returns-clause-below c = refl
