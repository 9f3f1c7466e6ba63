use Rattle.std.proofs.Common.{rules, ◌≡◌, ◌∙◌, sym, true, false}
use Rattle.std.proofs.lemmas.Bool.{false≢true}
use Rattle.std.proofs.lemmas.Result.{err_from_is_err_and}
use Rattle.csi_codec.proofs.PrefixLemmas.{no_final, other_final, read_prefix}
use Rattle.csi_codec.proofs.prefixes.read_csi.Goals as goal

pub returns-in_default-split_first-clause-none : goal.returns-in_default-split_first-clause-none
returns-in_default-split_first-clause-none c =
    no_final c.args.bytes.now c.in-Some.after.now c.push_all-len.result c.in-Some.ensures.some c.push_all-len.ensures.count c.in_default-split_first.ensures.cases

pub returns-then-not-is_final-clause-none : goal.returns-then-not-is_final-clause-none
returns-then-not-is_final-clause-none c =
    let other : c.is_final.result ≡ false = search rules in
    other_final c.args.bytes.now c.in-Some.after.now c.push_all-len.result c.in-Some.ensures.some c.push_all-len.ensures.count c.in-Some-split_first.control.now c.in-Some-split_first.rest.now
    c.in-Some-split_first.ensures.cases.0 (λ low high. absurd (false≢true (sym other ∙ c.is_final.ensures.1 (low, high))))

pub returns-in_err-params-clause-refused : goal.returns-in_err-params-clause-refused
returns-in_err-params-clause-refused c =
    let p = err_from_is_err_and c.from_residual.result c.from_residual.ensures.1 in
    let final : c.is_final.result ≡ true = search rules in
    rw p.1 (
      _,
      read_prefix c.args.bytes.now c.in-Some.after.now c.push_all-len.result c.in-Some.ensures.some c.push_all-len.ensures.count c.push_all-len.new.self c.new-parameters.result
          c.in-Some-split_first.control.now c.in-Some-split_first.rest.now c.in-Some-split_first.ensures.cases.0 (c.is_final.ensures.0 final) c.new-parameters.ensures c.push_all-len.ensures.tokens,
    )

pub returns-clause-some : goal.returns-clause-some
returns-clause-some c =
    let final : c.is_final.result ≡ true = search rules in
    rw (c.in_ok-params.ensures.items ∙ c.tokens.ensures, c.is_truncated.ensures, c.from.ensures)
    (read_prefix c.args.bytes.now c.in-Some.after.now c.push_all-len.result c.in-Some.ensures.some c.push_all-len.ensures.count c.push_all-len.new.self c.new-parameters.result
    c.in-Some-split_first.control.now c.in-Some-split_first.rest.now c.in-Some-split_first.ensures.cases.0 (c.is_final.ensures.0 final) c.new-parameters.ensures c.push_all-len.ensures.tokens)
