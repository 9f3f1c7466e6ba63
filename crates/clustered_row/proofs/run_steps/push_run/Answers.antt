use Rattle.std.proofs.Common.{arith, ap, sym, subst, ◌∙◌, ◌≡◌, [], ◌∷◌, ◌++◌, ◌+◌, ◌-◌, length, replicate, slice_index_or, slice_set, List}
use Rattle.clustered_row.specs.declared.run.Run.{Run}
use Rattle.clustered_row.specs.Runs.{spread, AreMaximal}
use Rattle.clustered_row.specs.RunSteps.{counted}
use Rattle.std.proofs.lemmas.List.{get_or_default, get_or_append_left}
use Rattle.cell_base.specs.Attributes.{plain}
use Rattle.clustered_row.proofs.RunSteps.{below, pushed_maximal, filled_columns, filled_maximal}
use Rattle.clustered_row.proofs.run_steps.push_run.Goals as goal

abbrev no_run : Run
no_run = record { count = 0; attributes = plain }

pub returns-then-room-eq0-clause-maximal : goal.returns-then-room-eq0-clause-maximal
returns-then-room-eq0-clause-maximal c =
    let runs = c.args.runs.now.items in
    let run : Run = record { count = c.args.count; attributes = c.in_ok-attributes.attributes } in
    let copy : run.attributes ≡ c.args.attributes.now = c.in_ok-attributes.ensures.copy in
    subst AreMaximal (sym (c.push_reserved.ensures.items ∙ ap (λ (rs : List Run). rs ++ run ∷ []) c.in_ok-reserve.ensures.items))
    (pushed_maximal runs run c.requires.some (λ last some is same. let full = c.requires.room.full last (some, is) (same ∙ copy) in omega arith) c.requires.maximal)

pub returns-clause-done : goal.returns-clause-done
returns-clause-done c =
    let runs = c.args.runs.now.items in
    let run : Run = record { count = c.args.count; attributes = c.in_ok-attributes.attributes } in
    let copy : run.attributes ≡ c.args.attributes.now = c.in_ok-attributes.ensures.copy in
    let n = c.len-len.result - 1 in
    let some = below 0 (length runs) (λ none. let e : length runs ≡ 0 = omega arith in c.if-room-eq0.false (c.requires.room.none e)) in
    let here : n ≡ length runs - 1 = omega arith in
    let last : Run = slice_index_or runs n no_run in
    let at : last ≡ slice_index_or runs n last = get_or_default runs n no_run last (omega arith) in
    let is : last ≡ slice_index_or runs (length runs - 1) last = at ∙ ap (λ m. slice_index_or runs m last) here in
    let same : last.attributes ≡ run.attributes = c.requires.room.joins last (some, is) (omega arith) ∙ sym copy in
    let pushed : c.push_reserved.new.self.items ≡ runs ++ run ∷ [] = (c.push_reserved.ensures.items ∙ ap (λ (rs : List Run). rs ++ run ∷ []) c.in_ok-reserve.ensures.items) in
    let there : last ≡ slice_index_or c.push_reserved.new.self.items n last = at ∙ sym (get_or_append_left runs (run ∷ []) last n (omega arith)) ∙ ap (λ ys. slice_index_or ys n last) (sym pushed) in
    ap spread (c.grow.ensures last there ∙ ap (λ ys. slice_set ys n (counted last (last.count + c.args.room))) pushed) ∙ filled_columns runs n c.args.room last run (omega arith) at same ∙ ap (λ a. spread runs ++ replicate (c.args.room + c.args.count) a) copy

pub returns-clause-maximal : goal.returns-clause-maximal
returns-clause-maximal c =
    let runs = c.args.runs.now.items in
    let run : Run = record { count = c.args.count; attributes = c.in_ok-attributes.attributes } in
    let n = c.len-len.result - 1 in
    let some = below 0 (length runs) (λ none. let e : length runs ≡ 0 = omega arith in c.if-room-eq0.false (c.requires.room.none e)) in
    let here : n ≡ length runs - 1 = omega arith in
    let last : Run = slice_index_or runs n no_run in
    let at : last ≡ slice_index_or runs n last = get_or_default runs n no_run last (omega arith) in
    let is : last ≡ slice_index_or runs (length runs - 1) last = at ∙ ap (λ m. slice_index_or runs m last) here in
    let full = c.requires.room.full last (some, is) (c.requires.room.joins last (some, is) (omega arith)) in
    let pushed : c.push_reserved.new.self.items ≡ runs ++ run ∷ [] = (c.push_reserved.ensures.items ∙ ap (λ (rs : List Run). rs ++ run ∷ []) c.in_ok-reserve.ensures.items) in
    let there : last ≡ slice_index_or c.push_reserved.new.self.items n last = at ∙ sym (get_or_append_left runs (run ∷ []) last n (omega arith)) ∙ ap (λ ys. slice_index_or ys n last) (sym pushed) in
    subst AreMaximal (sym (c.grow.ensures last there ∙ ap (λ ys. slice_set ys n (counted last (last.count + c.args.room))) pushed)) (filled_maximal runs n c.args.room last run (omega arith) at full c.requires.some c.requires.maximal)

pub grow-requires-clause-fits : goal.grow-requires-clause-fits
grow-requires-clause-fits c run there =
    let runs = c.args.runs.now.items in
    let new : Run = record { count = c.args.count; attributes = c.in_ok-attributes.attributes } in
    let n = c.len-len.result - 1 in
    let some = below 0 (length runs) (λ none. let e : length runs ≡ 0 = omega arith in c.if-room-eq0.false (c.requires.room.none e)) in
    let here : n ≡ length runs - 1 = omega arith in
    let pushed : c.push_reserved.new.self.items ≡ runs ++ new ∷ [] = (c.push_reserved.ensures.items ∙ ap (λ (rs : List Run). rs ++ new ∷ []) c.in_ok-reserve.ensures.items) in
    let at : run ≡ slice_index_or runs n run = there ∙ ap (λ ys. slice_index_or ys n run) pushed ∙ get_or_append_left runs (new ∷ []) run n (omega arith) in
    c.requires.room.fits run (some, at ∙ ap (λ m. slice_index_or runs m run) here)
