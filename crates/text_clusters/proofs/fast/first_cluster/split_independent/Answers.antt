use Rattle.std.proofs.Common.{rules, sym, true, ◌≡◌, ◌∙◌}
use Rattle.text_clusters.specs.Independent.{BeginsWith, is_independent}
use Rattle.text_clusters.proofs.IndependentLemmas.{cut_before, single_seam, with_stands}
use Rattle.text_clusters.proofs.TextLemmas.{first_alone}
use Rattle.text_clusters.proofs.fast.first_cluster.split_independent.Goals as goal

pub split_at-requires : goal.split_at-requires
split_at-requires c =
    let text = c.args.text.now in
    let stands : is_independent c.in_ok-first.first ≡ true = search rules in
    single_seam text text text c.in_ok-first.first c.in_ok-first.len c.utf8.text (with_stands text c.in_ok-first.first c.in_ok-first.len stands c.in_ok-first.ensures.begins)

pub returns-then-begins_independent-clause-clusters : goal.returns-then-begins_independent-clause-clusters
returns-then-begins_independent-clause-clusters c =
    let text = c.args.text.now in
    let stands : is_independent c.in_ok-first.first ≡ true = search rules in
    let begins : BeginsWith text c.in_ok-first.first c.in_ok-first.len = with_stands text c.in_ok-first.first c.in_ok-first.len stands c.in_ok-first.ensures.begins in
    cut_before text _ _ c.in_ok-first.first c.in_ok-first.len c.utf8.text begins c.split_at.ensures.front c.split_at.ensures.back (sym c.begins_independent.ensures ∙ c.if-begins_independent.true)

pub returns-then-begins_independent-clause-alone : goal.returns-then-begins_independent-clause-alone
returns-then-begins_independent-clause-alone c = first_alone c.args.text.now _ _ c.utf8.text (returns-then-begins_independent-clause-clusters c)
