use Rattle.std.proofs.Common.{refl, ◌∙◌, sym}
use Rattle.text_clusters.proofs.TextLemmas.{joined_clusters}
use Rattle.cell_edits.proofs.RunLemmas.{leads_same, stops_full}
use Rattle.clustered_row.proofs.row.ClusteredRow.set_text.Goals as goal

pub loop-at-init : goal.loop-at-init
loop-at-init g c = record {
  len = refl;
  leads = leads_same (g.W.Widths.width_of c.args.w.now) c.args.attrs.now c.args.self.now c.args.start c.args.end c.args.text.now c.requires.order (joined_clusters c.args.text.now c.utf8.text);
  text = c.utf8.text;
}

pub returns-clause-row : goal.returns-clause-row
returns-clause-row g c =
    let leads = c.loop-at.invariant.leads in
    sym (stops_full (g.W.Widths.width_of c.args.w.now) c.args.attrs.now c.loop-at.self c.loop-at.at c.args.end c.loop-at.left.now leads.whole c.loop-at-test.false).columns ∙ leads.columns

pub returns-clause-left : goal.returns-clause-left
returns-clause-left g c =
    let leads = c.loop-at.invariant.leads in
    sym (stops_full (g.W.Widths.width_of c.args.w.now) c.args.attrs.now c.loop-at.self c.loop-at.at c.args.end c.loop-at.left.now leads.whole c.loop-at-test.false).left ∙ leads.left

pub returns-clause-after : goal.returns-clause-after
returns-clause-after g c =
    let leads = c.loop-at.invariant.leads in
    sym (stops_full (g.W.Widths.width_of c.args.w.now) c.args.attrs.now c.loop-at.self c.loop-at.at c.args.end c.loop-at.left.now leads.whole c.loop-at-test.false).after ∙ leads.after
