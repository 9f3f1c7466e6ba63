use Rattle.std.proofs.Common.{arith, ap, sym, subst, ◌∙◌, ◌≡◌, [], ◌∷◌, ◌++◌, length, List, take, drop}
use Rattle.clustered_row.specs.declared.run.Run.{Run}
use Rattle.clustered_row.specs.Runs.{columns_of, spread, AreMaximal}
use Rattle.clustered_row.proofs.RunLists.{some_last, other_last, joined}
use Rattle.clustered_row.proofs.RunSteps.{put_columns, same_prefix, counts_of}
use Rattle.clustered_row.proofs.run_steps.put_between.Goals as goal

pub join_before-from-requires-clause-fits : goal.join_before-from-requires-clause-fits
join_before-from-requires-clause-fits c =
    let runs = c.args.runs.now.items in
    let now = c.begin_at.new.runs.items in
    let prefix : take c.args.kept c.deref.result.now ≡ take c.args.kept runs = ap (λ ys. take c.args.kept ys) c.deref.ensures.value ∙ same_prefix now runs c.args.kept c.args.position.index c.requires.order c.begin_at.ensures.prefix in
    let long = ap (λ ys. length (spread ys)) prefix in
    omega (arith, long)

pub join_before-from-requires-clause-maximal : goal.join_before-from-requires-clause-maximal
join_before-from-requires-clause-maximal c =
    let runs = c.args.runs.now.items in
    let now = c.begin_at.new.runs.items in
    let prefix : take c.args.kept c.deref.result.now ≡ take c.args.kept runs = ap (λ ys. take c.args.kept ys) c.deref.ensures.value ∙ same_prefix now runs c.args.kept c.args.position.index c.requires.order c.begin_at.ensures.prefix in
    subst AreMaximal (sym prefix) c.requires.prefix

pub join_after-to-requires-clause-some : goal.join_after-to-requires-clause-some
join_after-to-requires-clause-some c = some_last (take c.join_before-from.result c.deref.result.now) c.join_before-from.new.run c.join_before-from.ensures.maximal

pub join_after-to-requires-clause-fits : goal.join_after-to-requires-clause-fits
join_after-to-requires-clause-fits c =
    let runs = c.args.runs.now.items in
    let now = c.begin_at.new.runs.items in
    let at = c.args.position.index in
    let prefix : take c.args.kept c.deref.result.now ≡ take c.args.kept runs = ap (λ ys. take c.args.kept ys) c.deref.ensures.value ∙ same_prefix now runs c.args.kept at c.requires.order c.begin_at.ensures.prefix in
    let long = ap (λ ys. length (spread ys)) prefix in
    let sums = counts_of (spread (take c.join_before-from.result c.deref.result.now)) (spread (take c.args.kept c.deref.result.now)) c.join_before-from.new.run c.args.run c.join_before-from.ensures.columns in
    let after = ap (λ ys. length (spread (drop at ys))) c.deref-2.ensures.value ∙ ap length c.begin_at.ensures.columns in
    omega (arith, long, sums, after)

pub returns-clause-columns : goal.returns-clause-columns
returns-clause-columns c =
    let runs = c.args.runs.now.items in
    let now = c.begin_at.new.runs.items in
    let kept = c.args.kept in
    let at = c.args.position.index in
    let from = c.join_before-from.result in
    let to = c.join_after-to.result in
    let run = c.args.run in
    let first = c.join_before-from.new.run in
    let second = c.join_after-to.new.run in
    let p : spread (take from now) ++ columns_of first ≡ spread (take kept now) ++ columns_of run = subst (λ (ys : List Run). spread (take from ys) ++ columns_of first ≡ spread (take kept ys) ++ columns_of run) c.deref.ensures.value c.join_before-from.ensures.columns in
    let q : columns_of second ++ spread (drop to now) ≡ columns_of first ++ spread (drop at now) = subst (λ (ys : List Run). columns_of second ++ spread (drop to ys) ≡ columns_of first ++ spread (drop at ys)) c.deref-2.ensures.value c.join_after-to.ensures.columns in
    ap spread c.replace.ensures ∙ put_columns now kept from at to run first second p q ∙ ap (λ ys. spread ys ++ columns_of run ++ spread (drop at now)) (same_prefix now runs kept at c.requires.order c.begin_at.ensures.prefix) ∙
    ap (λ ys. spread (take kept runs) ++ columns_of run ++ ys) c.begin_at.ensures.columns

pub returns-clause-maximal : goal.returns-clause-maximal
returns-clause-maximal c =
    let now = c.begin_at.new.runs.items in
    let from = c.join_before-from.result in
    let to = c.join_after-to.result in
    let first = c.join_before-from.new.run in
    let second = c.join_after-to.new.run in
    let prefix = subst (λ (ys : List Run). AreMaximal (take from ys ++ first ∷ [])) c.deref.ensures.value c.join_before-from.ensures.maximal in
    let after = subst (λ (ys : List Run). AreMaximal (second ∷ drop to ys)) c.deref-2.ensures.value c.join_after-to.ensures.maximal in
    subst AreMaximal (sym c.replace.ensures) (joined (take from now) second (drop to now) (other_last (take from now) first second (sym c.join_after-to.ensures.attributes) c.join_after-to.ensures.some prefix) after)
