use Rattle.std.proofs.Common.{refl}
use Rattle.clap.proofs.OnLiterals.{clap_on_literals}
use Rattle.relay.specs.CommandLine.{command_line, profile_named, terminal_in}
use Rattle.relay.proofs.laws.names.Goals as goal

pub returns-clause-plain : goal.returns-clause-plain
unfolding clap_on_literals command_line terminal_in profile_named
returns-clause-plain c = refl

pub returns-clause-xterm : goal.returns-clause-xterm
unfolding clap_on_literals command_line terminal_in profile_named
returns-clause-xterm c = refl
