use Rattle.relay.proofs.SettingLemmas.{no_faults, options_given, width_is, height_is, profile_is, every_is, show_is, live_is}
use Rattle.relay.proofs.laws.settings.Goals as goal

pub returns-clause-taken : goal.returns-clause-taken
returns-clause-taken c = λ words. (options_given words, no_faults words)

pub returns-clause-width : goal.returns-clause-width
returns-clause-width c = width_is

pub returns-clause-height : goal.returns-clause-height
returns-clause-height c = height_is

pub returns-clause-profile : goal.returns-clause-profile
returns-clause-profile c = profile_is

pub returns-clause-every : goal.returns-clause-every
returns-clause-every c = every_is

pub returns-clause-show : goal.returns-clause-show
returns-clause-show c = show_is

pub returns-clause-live : goal.returns-clause-live
returns-clause-live c = live_is
