use Rattle.std.proofs.Common.{◌∙◌, arith}
use Rattle.std.specs.Str.Parse.{ParsesUnsigned, ExplainsUnsignedError, HasUnsignedDigitsIfOk}
use Rattle.clap.specs.Words.{found_of, one_text}
use Rattle.relay.proofs.Numbers.{number_is}
use Rattle.relay.proofs.options.number.Goals as goal

pub returns-clause-read : goal.returns-clause-read
returns-clause-read c =
    c.chosen.ensures.choice
    ∙ number_is (λ t r. ParsesUnsigned 32 10 t r × ExplainsUnsignedError 10 t r × HasUnsignedDigitsIfOk t r) (λ t r gives. gives.0) c.args.default c.args.most (one_text (found_of c.args.matches.now) c.args.name.now) c.get_one.result
    (omega arith) c.get_one.ensures.none c.get_one.ensures.value
