use Rattle.std.proofs.Common.{◌≡◌, ◌-◌, ◌∙◌, length, drop, ap, sym, subst, arith}
use Rattle.cell_base.specs.Row.{Row}
use Rattle.clustered_row.specs.EqualColumns.{AreEqualAround}
use Rattle.clustered_row.specs.VisibleColumns.{is_split}
use Rattle.clustered_row.proofs.EqualLemmas.{around_columns, around_parts, none_after, same_after}
use Rattle.clustered_row.proofs.ShownLemmas.{shown}
use Rattle.clustered_row.proofs.row.ClusteredRow.unequal_columns.Goals as goal

pub returns-then-not-same_blanks : goal.returns-then-not-same_blanks
returns-then-not-same_blanks c =
    let r = c.self.inside in
    let s = c.other.inside in
    let n = c.equal_columns-start.result in
    let m = c.max.result in
    let prefix = c.equal_columns-start.ensures in
    let one = c.len-len.ensures in
    let two = c.len-other_len.ensures in
    let most = c.max.ensures in
    let within = c.self.invariant in
    let other_within = c.other.invariant in
    subst (λ (row : Row). AreEqualAround n m row c.args.other.now) c.self.view_is
    (subst (λ (row : Row). AreEqualAround n m (shown r.columns r.width r.rest) row) c.other.view_is
    (around_columns r.columns s.columns n m r.width s.width r.rest s.rest one.whole two.whole prefix.within prefix.other_within prefix.equal prefix.whole prefix.other_whole
    (omega (arith, most, within)) (omega (arith, most, other_within))
    (none_after r.columns s.columns m r.width s.width r.rest s.rest within other_within (omega (arith, most)) (omega (arith, most)))))

pub returns-then-start-len : goal.returns-then-start-len
returns-then-start-len c =
    let r = c.self.inside in
    let s = c.other.inside in
    let n = c.equal_columns-start.result in
    let m = c.max-then-start-len.result in
    let prefix = c.equal_columns-start.ensures in
    let one = c.len-len.ensures in
    let two = c.len-other_len.ensures in
    let most = c.max-then-start-len.ensures in
    let same = c.same_blanks.ensures c.if-not-same_blanks.false in
    subst (λ (row : Row). AreEqualAround n m row c.args.other.now) c.self.view_is
    (subst (λ (row : Row). AreEqualAround n m (shown r.columns r.width r.rest) row) c.other.view_is
    (around_columns r.columns s.columns n m r.width s.width r.rest s.rest one.whole two.whole prefix.within prefix.other_within prefix.equal prefix.whole prefix.other_whole
    (omega (arith, most, one.len)) (omega (arith, most, two.len))
    (same_after r.columns s.columns m r.width s.width r.rest s.rest (omega (arith, most, one.len)) (omega (arith, most, two.len)) same.0 same.1)))

pub returns : goal.returns
returns c =
    let r = c.self.inside in
    let s = c.other.inside in
    let n = c.equal_columns-start.result in
    let m = c.len-len.result - c.equal_columns_at_end-after.result in
    let prefix = c.equal_columns-start.ensures in
    let back = c.equal_columns_at_end-after.ensures in
    let one = c.len-len.ensures in
    let two = c.len-other_len.ensures in
    let most = back.most in
    let even = c.if-len-other_len.false in
    let same = c.same_blanks.ensures c.if-not-same_blanks.false in
    let seam : length r.columns - c.equal_columns_at_end-after.result ≡ m = ap (λ k. k - c.equal_columns_at_end-after.result) (sym one.len) in
    let other_seam : length s.columns - c.equal_columns_at_end-after.result ≡ m = ap (λ k. k - c.equal_columns_at_end-after.result) (sym (even ∙ two.len)) in
    let within = prefix.within in
    let other_within = prefix.other_within in
    subst (λ (row : Row). AreEqualAround n m row c.args.other.now) c.self.view_is
    (subst (λ (row : Row). AreEqualAround n m (shown r.columns r.width r.rest) row) c.other.view_is
    (around_parts r.columns s.columns n m r.width s.width r.rest s.rest one.whole two.whole (omega (arith, most, within, one.len)) prefix.other_within prefix.equal prefix.whole prefix.other_whole
    (omega (arith, one.len)) (sym one.len ∙ even ∙ two.len) (ap (λ k. drop k r.columns) (sym seam) ∙ back.equal ∙ ap (λ k. drop k s.columns) other_seam)
    (ap (λ k. is_split k r.columns) (sym seam) ∙ back.whole) (ap (λ k. is_split k s.columns) (sym other_seam) ∙ back.other_whole) same.0 same.1))
