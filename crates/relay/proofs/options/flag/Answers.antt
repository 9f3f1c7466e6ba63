use Rattle.std.proofs.Common.{◌∙◌}
use Rattle.std.specs.Str.Parse.{ParsesBool}
use Rattle.clap.specs.Words.{found_of, one_text}
use Rattle.relay.proofs.Flags.{flag_is}
use Rattle.relay.proofs.options.flag.Goals as goal

pub returns : goal.returns
returns c =
    c.unwrap_or.ensures
    ∙ flag_is (λ t r. ParsesBool t r) (λ t r gives. gives) (one_text (found_of c.args.matches.now) c.args.name.now) c.get_one.result c.get_one.ensures.none c.get_one.ensures.value
