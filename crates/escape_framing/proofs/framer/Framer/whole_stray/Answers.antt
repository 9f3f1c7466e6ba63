use Rattle.std.proofs.Common.{◌≡◌, ◌≢◌, ◌<◌, ℕ, List, drop, take, sym, ap, subst, ◌∙◌, rules}
use Rattle.std.specs.Str.Lossy.{utf8_error_len}
use Rattle.escape_framing.proofs.BrokenLemmas.{reads_any_error}
use Rattle.escape_framing.proofs.framer.Framer.whole_stray.Goals as goal

pub returns-in-Err : goal.returns-in-Err
returns-in-Err c =
    let lead : c.in_ok-byte.byte.now ≢ 0xC2 = search rules in
    let none : c.in-Err.error.valid_up_to ≡ 0 = search rules in
    let xs : List ℕ = take c.min.result c.args.bytes.now in
    let error : c.error_len.result ≡ utf8_error_len xs = c.error_len.ensures ∙ c.in-Err.ensures.fault ∙ ap (λ (n : ℕ). utf8_error_len (drop n xs)) none in
    reads_any_error c.args.self.now c.args.bytes.now c.in_ok-byte.field-0-1.now c.in_ok-byte.byte.now c.min.result c.error_len.result c.requires c.in_ok-byte.ensures.cases.0 lead c.min.ensures error
    (λ m z. c.in-Err.ensures.cases.1.longest m (subst (λ (n : ℕ). n < m) (sym none) z))
