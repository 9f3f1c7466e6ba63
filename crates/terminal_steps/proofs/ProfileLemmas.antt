-- The modes of a profile are those of a new terminal.
use Rattle.std.proofs.Common.{refl}
use Rattle.terminal_table.specs.Modes.{AreNew}
use Rattle.terminal_steps.specs.ProfileView.{modes_of}
use Rattle.terminal_steps.specs.declared.profile.Profile.{Profile}
use Rattle.terminal_steps.specs.declared.profile.Profile.TheVariants as profile

pub profile_is_new : (kind : Profile) → AreNew (modes_of kind)
profile_is_new profile.Plain = tt
profile_is_new profile.Xterm = refl
