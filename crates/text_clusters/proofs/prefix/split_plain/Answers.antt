use Rattle.std.proofs.Common.{◌∙◌, ◌++◌, true, ap, sym, subst, take, drop, IsCharBoundary}
use Rattle.std.specs.List.{list_all}
use Rattle.unicode_segmentation.specs.Grapheme.{graphemes}
use Rattle.text_clusters.specs.Plain.{is_printable, each}
use Rattle.text_clusters.proofs.PlainLemmas.{prefix_printable_all, prefix_cut, prefix_boundary}
use Rattle.text_clusters.proofs.prefix.split_plain.Goals as goal

pub split_at-requires : goal.split_at-requires
split_at-requires c = subst (IsCharBoundary c.args.text.now) (sym c.plain_len.ensures) (prefix_boundary c.args.text.now c.args.most c.utf8.text)

pub returns-clause-printable : goal.returns-clause-printable
returns-clause-printable c = ap (list_all is_printable) (c.split_at.ensures.front ∙ ap (λ n. take n c.args.text.now) c.plain_len.ensures) ∙ prefix_printable_all c.args.text.now c.args.most

pub returns-clause-clusters : goal.returns-clause-clusters
returns-clause-clusters c =
    let text = c.args.text.now in
    prefix_cut text c.args.most
    ∙ (λ i. each (sym (c.split_at.ensures.front ∙ ap (λ n. take n text) c.plain_len.ensures) i) ++ graphemes true (sym (c.split_at.ensures.back ∙ ap (λ n. drop n text) c.plain_len.ensures) i))
