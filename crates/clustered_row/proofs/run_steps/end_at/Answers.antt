use Rattle.std.proofs.Common.{arith, ap, sym, subst, ◌≡◌, ◌+◌, ◌<◌, length, List, slice_index_or, slice_set}
use Rattle.clustered_row.specs.declared.run.Run.{Run}
use Rattle.clustered_row.specs.RunSteps.{counted, column_at, IsParted}
use Rattle.std.proofs.lemmas.List.{get_or_default, length-set}
use Rattle.cell_base.specs.Attributes.{plain}
use Rattle.clustered_row.proofs.RunSteps.{count_fits, parted_whole, parted_run}
use Rattle.clustered_row.proofs.run_steps.end_at.Goals as goal

abbrev no_run : Run
no_run = record { count = 0; attributes = plain }

pub returns-then-from-eq0-clause-parted : goal.returns-then-from-eq0-clause-parted
returns-then-from-eq0-clause-parted c = parted_whole c.args.runs.now.items c.args.from c.args.to c.requires.to c.requires.order c.if-from-eq0.true c.requires.maximal

pub overflow_cast-from : goal.overflow_cast-from
overflow_cast-from c =
    let runs = c.args.runs.now.items in
    let i = c.args.from.index in
    let within : i < length runs = omega arith in
    let run : Run = slice_index_or runs i no_run in
    let is : run ≡ slice_index_or runs i run = get_or_default runs i no_run run within in
    let inside : c.args.from.offset < run.count = c.requires.from.inside run within is in
    let fits = count_fits runs i run within is in
    omega arith

pub returns-clause-parted : goal.returns-clause-parted
returns-clause-parted c =
    let runs = c.args.runs.now.items in
    let i = c.args.from.index in
    let within : i < length runs = omega arith in
    let run : Run = slice_index_or runs i no_run in
    let is : run ≡ slice_index_or runs i run = get_or_default runs i no_run run within in
    let e : c.set_count.new.runs.items ≡ slice_set runs i (counted run c.args.from.offset) = c.set_count.ensures.items no_run in
    subst (λ (new : List Run). IsParted (column_at runs c.args.from) (column_at runs c.args.to) runs new (i + 1) c.args.to) (sym e)
    (parted_run runs c.args.from c.args.to run c.requires.from c.requires.to (omega arith) (omega arith) within is c.requires.maximal)

pub returns-clause-room : goal.returns-clause-room
returns-clause-room c =
    let runs = c.args.runs.now.items in
    let i = c.args.from.index in
    let e = ap length (c.set_count.ensures.items no_run) in
    let f = length-set runs i (counted (slice_index_or runs i no_run) c.args.from.offset) in
    omega (arith, e, f)
