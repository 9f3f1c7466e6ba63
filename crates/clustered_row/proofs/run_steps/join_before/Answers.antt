use Rattle.std.proofs.Common.{rules, arith, ap, sym, subst, ◌∙◌, ◌≡◌, false, [], ◌∷◌, ◌++◌, ◌+◌, ◌-◌, take}
use Rattle.clustered_row.specs.Runs.{columns_of, spread, AreMaximal}
use Rattle.clustered_row.specs.RunSteps.{counted}
use Rattle.std.proofs.lemmas.Bool.{false≢true}
use Rattle.clustered_row.proofs.RunSteps.{joined_columns, joined_prefix, independent_prefix}
use Rattle.clustered_row.proofs.run_steps.join_before.Goals as goal

pub returns-then-not-has-clause-maximal : goal.returns-then-not-has-clause-maximal
returns-then-not-has-clause-maximal c =
    let runs = c.args.runs.now in
    let run = c.args.run.now in
    let last = c.index-runs-kept.result in
    let n = c.args.kept - 1 in
    let e : n + 1 ≡ c.args.kept = omega arith in
    let other : c.has.result ≡ false = search rules in
    subst (λ m. AreMaximal (take m runs ++ run ∷ [])) e
    (independent_prefix runs n last run (omega arith) c.index-runs-kept.is (λ same. absurd (false≢true (sym other ∙ c.has.ensures.1 same))) c.requires.some (subst (λ m. AreMaximal (take m runs)) (sym e) c.requires.maximal))

pub returns-clause-columns : goal.returns-clause-columns
returns-clause-columns c =
    let runs = c.args.runs.now in
    let run = c.args.run.now in
    let n = c.args.kept - 1 in
    let e : n + 1 ≡ c.args.kept = omega arith in
    let same : c.index-runs-kept.result.attributes ≡ run.attributes = search rules in
    joined_columns runs n c.index-runs-kept.result run (omega arith) c.index-runs-kept.is same ∙ ap (λ m. spread (take m runs) ++ columns_of run) e

pub returns-clause-maximal : goal.returns-clause-maximal
returns-clause-maximal c =
    let runs = c.args.runs.now in
    let run = c.args.run.now in
    let last = c.index-runs-kept.result in
    let n = c.args.kept - 1 in
    let e : n + 1 ≡ c.args.kept = omega arith in
    let same : last.attributes ≡ run.attributes = search rules in
    joined_prefix runs n last (counted run (run.count + last.count)) (omega arith) c.index-runs-kept.is same (omega arith) (subst (λ m. AreMaximal (take m runs)) (sym e) c.requires.maximal)
