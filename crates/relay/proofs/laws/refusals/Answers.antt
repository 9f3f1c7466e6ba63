use Rattle.std.proofs.Common.{refl}
use Rattle.clap.proofs.OnLiterals.{clap_on_literals}
use Rattle.relay.specs.CommandLine.{command_line, faults_in, is_given, is_true, profile_named, terminal_in, text_in}
use Rattle.relay.proofs.laws.refusals.Goals as goal

pub returns-clause-help : goal.returns-clause-help
unfolding clap_on_literals command_line faults_in terminal_in profile_named text_in is_given is_true
returns-clause-help c = refl

pub returns-clause-zero : goal.returns-clause-zero
unfolding clap_on_literals command_line faults_in terminal_in profile_named text_in is_given is_true
returns-clause-zero c = refl

pub returns-clause-wide : goal.returns-clause-wide
unfolding clap_on_literals command_line faults_in terminal_in profile_named text_in is_given is_true
returns-clause-wide c = refl

pub returns-clause-terminal : goal.returns-clause-terminal
unfolding clap_on_literals command_line faults_in terminal_in profile_named text_in is_given is_true
returns-clause-terminal c = refl

pub returns-clause-unknown : goal.returns-clause-unknown
unfolding clap_on_literals command_line faults_in terminal_in profile_named text_in is_given is_true
returns-clause-unknown c = refl
