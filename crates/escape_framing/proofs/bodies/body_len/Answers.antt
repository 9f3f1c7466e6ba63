use Rattle.std.proofs.Common.{◌≡◌, ◌+◌, ◌∙◌, drop, ap, arith}
use Rattle.std.specs.List.{prefix_len}
use Rattle.std.proofs.lemmas.List.Sums.{prefix_len-le-length}
use Rattle.text_clusters.specs.Plain.{is_printable}
use Rattle.escape_framing.specs.Prefixes.{is_body_byte}
use Rattle.escape_framing.proofs.RunLemmas.{body_run}
use Rattle.escape_framing.proofs.bodies.body_len.Goals as goal

pub after-requires : goal.after-requires
after-requires c = let l = prefix_len-le-length is_printable c.args.bytes.now in omega (arith, c.printable_len-plain.ensures)

pub overflow_add-result : goal.overflow_add-result
overflow_add-result c =
    let l = prefix_len-le-length is_body_byte c.args.bytes.now in
    let r = body_run c.args.bytes.now in
    let e : c.short_len.result ≡ prefix_len is_body_byte (drop (prefix_len is_printable c.args.bytes.now) c.args.bytes.now) = c.short_len.ensures ∙ ap (prefix_len is_body_byte) (c.after.ensures ∙ ap (λ n. drop n c.args.bytes.now) c.printable_len-plain.ensures) in
    omega (arith, c.printable_len-plain.ensures)

pub returns : goal.returns
returns c =
    (λ i. c.printable_len-plain.ensures i + (c.short_len.ensures ∙ ap (prefix_len is_body_byte) (c.after.ensures ∙ ap (λ n. drop n c.args.bytes.now) c.printable_len-plain.ensures)) i)
    ∙ body_run c.args.bytes.now
