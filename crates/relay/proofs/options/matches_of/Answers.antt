use Rattle.std.proofs.Common.{◌≡◌, ◌∙◌, List, ap, map, refl, subst, true}
use Rattle.std.proofs.lemmas.Result.{IfOk-weaker}
use Rattle.clap.specs.Simple.{HasMatchesOf}
use Rattle.clap.specs.Words.{App, FailsBy, Text, fault_of, found_of, is_simple, is_simple_and_free, matches_of, rows_of}
use Rattle.clap.specs.declared.parser.matches.ArgMatches.{ArgMatches}
use Rattle.relay.specs.CommandLine.{command_line}
use Rattle.relay.proofs.options.matches_of.Goals as goal

simple_and_free : is_simple_and_free command_line ≡ true
unfolding command_line
simple_and_free = refl

simple : is_simple command_line ≡ true
unfolding command_line
simple = refl

rows_are : (app : App) (words : List Text) (m : ArgMatches) → app ≡ command_line → HasMatchesOf app words m → rows_of (found_of m) ≡ matches_of command_line words
rows_are app words m is matches = (matches (ap is_simple is ∙ simple)).0 ∙ ap (λ a. matches_of a words) is

pub returns-clause-rows : goal.returns-clause-rows
returns-clause-rows g c =
    IfOk-weaker c.try_get_matches_from.result _ _ (λ m. rows_are _ (map g.S.AsStr.text c.args.words.now) m c.in_ok-command.ensures) c.try_get_matches_from.ensures.matches

pub returns-clause-faults : goal.returns-clause-faults
returns-clause-faults g c =
    subst (λ a. FailsBy (fault_of a (map g.S.AsStr.text c.args.words.now)) c.try_get_matches_from.result) c.in_ok-command.ensures
    (c.try_get_matches_from.ensures.kinds (ap is_simple_and_free c.in_ok-command.ensures ∙ simple_and_free))
