use Rattle.std.proofs.Common.{◌≡◌, ◌∙◌, ◌++◌, ◌-◌, ap, rules, sym, length, arith}
use Rattle.std.specs.Prelude.{min}
use Rattle.std.proofs.lemmas.List.{take-append-drop, length-take}
use Rattle.text_clusters.specs.Independent.{independent_len}
use Rattle.text_clusters.proofs.TextLemmas.{joined_clusters}
use Rattle.cell_edits.proofs.RunLemmas.{leads_prefix, rest_prefix}
use Rattle.clustered_row.proofs.row.ClusteredRow.set_plain_prefix.Goals as goal

pub returns-clause-leads : goal.returns-clause-leads
returns-clause-leads g c =
    let text = c.args.text.now in
    let prefix = c.split_printable.result.0.now in
    let rest = c.split_printable.result.1.now in
    let n = min (c.args.end - c.args.at) (independent_len text) in
    let parts : text ≡ prefix ++ rest = sym (take-append-drop n text) ∙ (λ i. sym c.split_printable.ensures.prefix i ++ sym c.split_printable.ensures.rest i) in
    let long = ap length c.split_printable.ensures.prefix in
    let cut = length-take n text in (
      search rules,
      leads_prefix (g.W.Widths.width_of c.args.w.now) c.args.attrs.now c.args.self.now c.set_ascii_text.new.self c.args.at c.args.end text prefix rest c.requires.order (omega arith)
          c.split_printable.ensures.clusters c.split_printable.ensures.printable (c.has_narrow_ascii.ensures c.if-not-has_narrow_ascii.false) c.in_ok-set_ascii_text.ensures.done
          (rest_prefix text prefix rest (joined_clusters text c.utf8.text) parts c.split_printable.ensures.clusters),
    )
