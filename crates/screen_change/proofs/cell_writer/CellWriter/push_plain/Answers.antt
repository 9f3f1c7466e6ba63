use Rattle.std.proofs.Common.{◌≡◌, ◌++◌, ◌∙◌, List, ℕ, ap, rules}
use Rattle.text_clusters.specs.Plain.{each}
use Rattle.screen_change.specs.WriterView.{written_of}
use Rattle.screen_change.specs.Written.{Written, with_attributes}
use Rattle.screen_change.proofs.RunLemmas.{each_written}
use Rattle.screen_change.proofs.StepLemmas.{printable_utf8}
use Rattle.screen_change.proofs.cell_writer.CellWriter.push_plain.Goals as goal

pub push_bytes-requires : goal.push_bytes-requires
push_bytes-requires c = printable_utf8 c.args.text.now c.requires

pub returns : goal.returns
returns c =
    let writer : Written = written_of c.self.inside in
    let now : writer ≡ with_attributes c.args.attrs.now c.args.self.now = c.self.view_is ∙ c.in_ok-set_attributes.ensures in
    ap (λ (cells : List (List ℕ)). record writer { cells = cells }) c.in_ok-push_bytes.ensures
    ∙ ap (λ (w : Written). record w { cells = w.cells ++ each c.args.text.now }) now
    ∙ each_written c.args.text.now c.args.attrs.now c.args.self.now (search rules)
