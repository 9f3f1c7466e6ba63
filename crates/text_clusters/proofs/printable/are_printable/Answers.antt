use Rattle.std.proofs.Common.{◌∙◌, ap, length}
use Rattle.std.specs.Prelude.{◌==◌}
use Rattle.text_clusters.specs.Plain.{is_printable}
use Rattle.text_clusters.proofs.LaneLemmas.{all_by_len}
use Rattle.text_clusters.proofs.printable.are_printable.Goals as goal

pub returns-else-bytes-lt-LANES : goal.returns-else-bytes-lt-LANES
returns-else-bytes-lt-LANES c = ap (λ n. n == length c.args.bytes.now) c.printable_len.ensures ∙ all_by_len is_printable c.args.bytes.now
