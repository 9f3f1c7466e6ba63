use Rattle.std.proofs.Common.{◌≡◌, ◌-◌, ◌∙◌, ℕ, List, ap, sym, length, drop, arith}
use Rattle.clustered_row.proofs.EqualAtEndLemmas.{same_plain_after, whole_after_plain}
use Rattle.clustered_row.proofs.StepLemmas.{sized_of}
use Rattle.clustered_row.proofs.cut_text.CutText.equal_plain_at_end.Goals as goal

pub returns-clause-equal : goal.returns-clause-equal
returns-clause-equal c =
    let cut = c.args.self.now in
    let other = c.args.other.now in
    let n = c.equal_bytes_at_end.result in
    let most = c.equal_bytes_at_end.ensures.most in
    let one = c.min.ensures in
    let two = c.min-2.ensures in
    let long = c.len.ensures in
    let other_long = c.len-2.ensures in
    let text : drop (length cut.text.items - n) cut.text.items ≡ drop (length other.text.items - n) other.text.items =
    ap (λ (t : List ℕ). drop (length t - n) t) (sym c.deref.ensures.value) ∙ c.equal_bytes_at_end.ensures.equal ∙ ap (λ (t : List ℕ). drop (length t - n) t) c.deref-2.ensures.value in
    same_plain_after cut.text.items other.text.items cut.sizes.items other.sizes.items cut.sized_bytes cut.sized_columns other.sized_bytes other.sized_columns n (sized_of cut) (sized_of other)
    (omega (arith, most, one, two, long, cut.text.ok.0)) (omega (arith, most, one, two, other_long, other.text.ok.0)) text

pub returns-clause-whole : goal.returns-clause-whole
returns-clause-whole c =
    let cut = c.args.self.now in
    let most = c.equal_bytes_at_end.ensures.most in
    let one = c.min.ensures in
    let two = c.min-2.ensures in
    let long = c.len.ensures in
    whole_after_plain cut.text.items cut.sizes.items cut.sized_bytes cut.sized_columns c.equal_bytes_at_end.result (sized_of cut) (omega (arith, most, one, two, long, cut.text.ok.0))

pub returns-clause-other_whole : goal.returns-clause-other_whole
returns-clause-other_whole c =
    let cut = c.args.other.now in
    let most = c.equal_bytes_at_end.ensures.most in
    let one = c.min.ensures in
    let two = c.min-2.ensures in
    let long = c.len-2.ensures in
    whole_after_plain cut.text.items cut.sizes.items cut.sized_bytes cut.sized_columns c.equal_bytes_at_end.result (sized_of cut) (omega (arith, most, one, two, long, cut.text.ok.0))
