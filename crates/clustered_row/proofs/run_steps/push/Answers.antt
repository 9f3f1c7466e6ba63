use Rattle.std.proofs.Common.{arith, ap, sym, ◌∙◌, ◌≡◌, ◌++◌, ◌-◌, ◌<◌, length, replicate, slice_index_or}
use Rattle.clustered_row.specs.declared.run.Run.{Run}
use Rattle.clustered_row.specs.Runs.{spread}
use Rattle.std.proofs.lemmas.List.{get_or_default}
use Rattle.cell_base.specs.Attributes.{plain}
use Rattle.clustered_row.proofs.RunSteps.{below}
use Rattle.clustered_row.proofs.run_steps.push.Goals as goal

abbrev no_run : Run
no_run = record { count = 0; attributes = plain }

pub returns-then-count-room-clause-done : goal.returns-then-count-room-clause-done
returns-then-count-room-clause-done c =
    let runs = c.args.runs.now.items in
    let slice = c.deref.result.now in
    let same : slice ≡ runs = c.deref.ensures.value in
    let some = below 0 (length slice) (λ none. let e : length slice ≡ 0 = omega arith in let never = c.room_after-room.ensures.none e in omega arith) in
    let long : length slice ≡ length runs = ap length same in
    let nonempty : 0 < length runs = omega arith in
    let last : Run = slice_index_or runs (length runs - 1) no_run in
    let is : last ≡ slice_index_or runs (length runs - 1) last = get_or_default runs (length runs - 1) no_run last (omega arith) in
    let at : last ≡ slice_index_or slice (length slice - 1) last = is ∙ ap (λ ys. slice_index_or ys (length ys - 1) last) (sym same) in
    c.grow_last.ensures.columns last (nonempty, is) ∙ ap (λ a. spread runs ++ replicate c.args.count a) (c.room_after-room.ensures.joins last (some, at) (omega arith))
