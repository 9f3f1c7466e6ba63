use Rattle.std.proofs.Common.{◌≡◌, ◌∙◌, List, ap, sym, arith, take, length, ℕ, ◌+◌}
use Rattle.clustered_row.specs.declared.cell_size.CellSize.{CellSize}
use Rattle.clustered_row.specs.Position.{IsPosition}
use Rattle.clustered_row.proofs.BetweenLemmas.{before_sized}
use Rattle.clustered_row.proofs.EqualLemmas.{fewer, same_position}
use Rattle.clustered_row.proofs.StepLemmas.{sized_of}
use Rattle.clustered_row.proofs.cut_text.CutText.equal_position.Goals as goal

pub returns-then-position-max-clause-other_position : goal.returns-then-position-max-clause-other_position
returns-then-position-max-clause-other_position c =
    let cut = c.args.self.now in
    let other = c.args.other.now in
    let position = c.position_within-position.result in
    let found = c.position_within-position.ensures in
    let count = c.equal_sizes-count.result in
    let sizes : take count cut.sizes.items ≡ take count other.sizes.items =
    ap (λ (s : List CellSize). take count s) (sym c.deref-3.ensures.value) ∙ c.equal_sizes-count.ensures.equal ∙ ap (λ (s : List CellSize). take count s) c.deref-4.ensures.value in
    let here : IsPosition cut.sizes.items position = found.position in
    let long = ap (λ (s : List CellSize). length s) c.deref-4.ensures.value in
    let most = c.equal_sizes-count.ensures.other_within in
    before_sized other.text.items other.sizes.items other.sized_bytes other.sized_columns position (sized_of other)
    (same_position cut.sizes.items other.sizes.items position here (omega (arith, found.index, most, long)) (fewer cut.sizes.items other.sizes.items position.index count found.index sizes))

pub returns-then-position-max-clause-text : goal.returns-then-position-max-clause-text
returns-then-position-max-clause-text c =
    let cut = c.args.self.now in
    let other = c.args.other.now in
    let bytes = c.equal_bytes-bytes.result in
    let text : take bytes cut.text.items ≡ take bytes other.text.items =
    ap (λ (t : List ℕ). take bytes t) (sym c.deref.ensures.value) ∙ c.equal_bytes-bytes.ensures.equal ∙ ap (λ (t : List ℕ). take bytes t) c.deref-2.ensures.value in
    fewer cut.text.items other.text.items c.position_within-position.result.bytes bytes c.position_within-position.ensures.bytes text

pub returns-then-position-max-clause-sizes : goal.returns-then-position-max-clause-sizes
returns-then-position-max-clause-sizes c =
    let cut = c.args.self.now in
    let other = c.args.other.now in
    let count = c.equal_sizes-count.result in
    let sizes : take count cut.sizes.items ≡ take count other.sizes.items =
    ap (λ (s : List CellSize). take count s) (sym c.deref-3.ensures.value) ∙ c.equal_sizes-count.ensures.equal ∙ ap (λ (s : List CellSize). take count s) c.deref-4.ensures.value in
    fewer cut.sizes.items other.sizes.items c.position_within-position.result.index count c.position_within-position.ensures.index sizes

pub returns-clause-text : goal.returns-clause-text
returns-clause-text c =
    let cut = c.args.self.now in
    let other = c.args.other.now in
    let bytes = c.equal_bytes-bytes.result in
    let text : take bytes cut.text.items ≡ take bytes other.text.items =
    ap (λ (t : List ℕ). take bytes t) (sym c.deref.ensures.value) ∙ c.equal_bytes-bytes.ensures.equal ∙ ap (λ (t : List ℕ). take bytes t) c.deref-2.ensures.value in
    let less = c.position_within-position.ensures.bytes in
    fewer cut.text.items other.text.items (c.position_within-position.result.bytes + c.min-plain.result) bytes (omega (arith, c.min-plain.ensures, less)) text
