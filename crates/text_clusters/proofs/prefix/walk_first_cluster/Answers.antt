use Rattle.std.proofs.Common.{rules, true, ◌≡◌, ◌∙◌, ◌++◌, ◌∷◌, [], ℕ, List, ap, sym, map, drop}
use Rattle.std.specs.List.{concat}
use Rattle.unicode_segmentation.specs.Grapheme.{graphemes}
use Rattle.unicode_segmentation.specs.Iter.{graphemes_left}
use Rattle.text_clusters.proofs.TextLemmas.{joined_clusters, clusters_after, same_at_clusters}
use Rattle.text_clusters.proofs.prefix.walk_first_cluster.Goals as goal

pub returns-in_err-first-clause-none : goal.returns-in_err-first-clause-none
returns-in_err-first-clause-none c = (
  λ _. sym (joined_clusters c.args.text.now c.utf8.text) ∙ ap concat (sym c.graphemes-clusters.ensures.left ∙ c.in_err-first.ensures.steps.0),
  λ _. search rules,
)

pub returns-clause-whole : goal.returns-clause-whole
returns-clause-whole c =
    let step : graphemes_left c.graphemes-clusters.result ≡ c.in_ok-first.first.now ∷ graphemes_left c.next.new.self = c.in_ok-first.ensures.steps in
    sym (joined_clusters c.args.text.now c.utf8.text) ∙ ap concat (sym c.graphemes-clusters.ensures.left ∙ step)
    ∙ ap (λ (xs : List ℕ). c.in_ok-first.first.now ++ xs) (sym c.as_str.ensures)

pub returns-clause-clusters : goal.returns-clause-clusters
returns-clause-clusters c =
    let text = c.args.text.now in
    let step : graphemes_left c.graphemes-clusters.result ≡ c.in_ok-first.first.now ∷ graphemes_left c.next.new.self = c.in_ok-first.ensures.steps in
    let all : graphemes true text ≡ c.in_ok-first.first.now ∷ graphemes_left c.next.new.self = sym c.graphemes-clusters.ensures.left ∙ step in
    let after : drop 1 (graphemes true text) ≡ graphemes_left c.next.new.self = ap (drop 1) all in
    all ∙ ap (λ (gs : List (List ℕ)). c.in_ok-first.first.now ∷ gs) (sym after ∙ sym (clusters_after 1 text c.utf8.text) ∙ ap (λ gs. graphemes true (concat gs)) after ∙ ap (graphemes true) (sym c.as_str.ensures))

pub returns-clause-alone : goal.returns-clause-alone
returns-clause-alone c =
    let text = c.args.text.now in
    let step : graphemes_left c.graphemes-clusters.result ≡ c.in_ok-first.first.now ∷ graphemes_left c.next.new.self = c.in_ok-first.ensures.steps in
    let all : graphemes true text ≡ c.in_ok-first.first.now ∷ graphemes_left c.next.new.self = sym c.graphemes-clusters.ensures.left ∙ step in
    let each_alone : map (graphemes true) (graphemes true text) ≡ map (λ cluster. cluster ∷ []) (graphemes true text) = same_at_clusters (graphemes true) (λ cluster. cluster ∷ []) (λ p e. e) text c.utf8.text in
    let at_first : map (graphemes true) (c.in_ok-first.first.now ∷ graphemes_left c.next.new.self) ≡ map (λ cluster. cluster ∷ []) (c.in_ok-first.first.now ∷ graphemes_left c.next.new.self) =
    sym (ap (map (graphemes true)) all) ∙ each_alone ∙ ap (map (λ cluster. cluster ∷ [])) all in
    cc
