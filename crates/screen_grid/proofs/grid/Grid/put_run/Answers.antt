use Rattle.std.proofs.Common.{◌≡◌, refl, [], ap, sym, ◌∙◌, map, length}
use Rattle.std.proofs.lemmas.List.{nil_from_length}
use Rattle.std.specs.Cmp.{unsigned_Decides}
use Rattle.text_clusters.proofs.PlainLemmas.{graphemes-nil}
use Rattle.cell_base.specs.Cluster.{clusters, read_cluster}
use Rattle.screen_grid.specs.Grid.{clusters_done, display_of}
use Rattle.screen_grid.proofs.PartLemmas.{plain_puts}
use Rattle.screen_grid.proofs.grid.Grid.put_run.Goals as goal

pub returns-then-is_empty : goal.returns-then-is_empty
returns-then-is_empty g c =
    let none : clusters c.args.text.now ≡ [] = ap clusters (nil_from_length c.args.text.now ((unsigned_Decides (length c.args.text.now) 0).0 (sym c.if-is_empty.ensures))) ∙ ap (map read_cluster) graphemes-nil in record {
      same = sym (ap (clusters_done (g.W.Widths.width_of c.args.self.now.widths) (display_of c.args.self.now)) none);
      widths = refl;
      drawn = c.requires.drawn;
    }

pub returns-then-takes_plainly : goal.returns-then-takes_plainly
returns-then-takes_plainly g c =
    let shown = c.in_ok-put_plain.ensures in record {
      same = shown.same ∙ plain_puts (g.W.Widths.width_of c.args.self.now.widths) (display_of c.args.self.now) c.args.text.now (c.if-takes_plainly.ensures.printable refl);
      widths = shown.widths;
      drawn = shown.drawn;
    }

pub returns : goal.returns
returns g c =
    let width_of = g.W.Widths.width_of c.args.self.now.widths in
    let leads = c.loop-cluster.invariant.leads in
    let empty : c.loop-cluster.left.now ≡ [] = c.in_default.ensures.none.0 refl in
    let none : clusters c.loop-cluster.left.now ≡ [] = ap clusters empty ∙ ap (map read_cluster) graphemes-nil in record {
      same = sym (ap (clusters_done width_of (display_of c.loop-cluster.self)) none) ∙ leads.same;
      widths = leads.widths;
      drawn = leads.drawn;
    }
