use Rattle.std.proofs.Common.{arith, ap, sym, subst, ◌∙◌, ◌≡◌, ◌-◌, length, slice_index_or}
use Rattle.clustered_row.specs.declared.run.Run.{Run}
use Rattle.clustered_row.specs.Runs.{spread, AreMaximal}
use Rattle.std.proofs.lemmas.List.{get_or_default}
use Rattle.cell_base.specs.Attributes.{plain}
use Rattle.clustered_row.proofs.RunSteps.{grown_columns, grown_maximal}
use Rattle.clustered_row.proofs.run_steps.grow_last.Goals as goal

abbrev no_run : Run
no_run = record { count = 0; attributes = plain }

pub returns-clause-columns : goal.returns-clause-columns
returns-clause-columns c = λ last is.
    let runs = c.args.runs.now.items in
    let n = c.len-last.result - 1 in
    let here : length runs - 1 ≡ n = omega arith in
    let at : last ≡ slice_index_or runs n last = is.1 ∙ ap (λ m. slice_index_or runs m last) here in
    ap spread (c.grow.ensures last at) ∙ grown_columns runs n c.args.by last (omega arith) at

pub returns-clause-maximal : goal.returns-clause-maximal
returns-clause-maximal c =
    let runs = c.args.runs.now.items in
    let n = c.len-last.result - 1 in
    let last : Run = slice_index_or runs n no_run in
    let at : last ≡ slice_index_or runs n last = get_or_default runs n no_run last (omega arith) in
    subst AreMaximal (sym (c.grow.ensures last at)) (grown_maximal runs n c.args.by last (omega arith) at c.requires.maximal)
