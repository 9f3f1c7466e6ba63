use Rattle.std.proofs.Common.{refl}
use Rattle.clap.proofs.OnLiterals.{clap_on_literals}
use Rattle.relay.specs.CommandLine.{command_line, faults_in, is_given, is_true, profile_named, terminal_in, text_in}
use Rattle.relay.proofs.laws.live.Goals as goal

pub returns-clause-taken : goal.returns-clause-taken
unfolding clap_on_literals command_line faults_in terminal_in profile_named text_in is_given is_true
returns-clause-taken c = refl

pub returns-clause-live : goal.returns-clause-live
unfolding clap_on_literals command_line text_in is_true
returns-clause-live c = refl

pub returns-clause-every : goal.returns-clause-every
unfolding clap_on_literals command_line faults_in terminal_in profile_named text_in is_given is_true
returns-clause-every c = refl

pub returns-clause-show : goal.returns-clause-show
unfolding clap_on_literals command_line faults_in terminal_in profile_named text_in is_given is_true
returns-clause-show c = refl
