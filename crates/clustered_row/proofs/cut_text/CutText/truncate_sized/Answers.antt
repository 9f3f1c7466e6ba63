use Rattle.std.proofs.Common.{◌++◌, ◌∷◌, [], ℕ, List, arith, ap, ◌∙◌}
use Rattle.clustered_row.proofs.StepLemmas.{sized_of, a_size, half_bytes, cut_at_position_sized, cut_at_position_shown, cut_in_wide_sized, cut_in_wide_shown}
use Rattle.clustered_row.proofs.cut_text.CutText.truncate_sized.Goals as goal

pub push_reserved-requires : goal.push_reserved-requires
push_reserved-requires c =
    let t = c.args.self.now in
    let k = half_bytes t.sizes.items c.position-position.result c.args.at a_size c.position-position.ensures.position (c.position-position.ensures.cell a_size c.if-position-at.true) in
    omega (arith, k, t.bytes, t.within, t.text.ok.0, t.text.ok.1)

pub invariant_of-self : goal.invariant_of-self
invariant_of-self c =
    let t = c.args.self.now in
    let e = c.push_reserved.ensures.items ∙ ap (λ (xs : List ℕ). xs ++ 32 ∷ []) c.truncate.ensures.items in
    let k = cut_in_wide_sized t.text.items c.push_reserved.new.self.items t.sizes.items c.truncate-2.new.self.items t.sized_bytes t.sized_columns c.position-position.result e c.truncate-2.ensures.items (sized_of t) c.position-position.ensures.position in
    record { bytes = k.bytes_are; columns = k.columns_are; within = k.within; parts = k.parts }

pub invariant_of-self-else-position-at : goal.invariant_of-self-else-position-at
invariant_of-self-else-position-at c =
    let t = c.args.self.now in
    let k = cut_at_position_sized t.text.items c.truncate.new.self.items t.sizes.items c.truncate-2.new.self.items t.sized_bytes t.sized_columns c.position-position.result c.truncate.ensures.items c.truncate-2.ensures.items (sized_of t) c.position-position.ensures.position in
    record { bytes = k.bytes_are; columns = k.columns_are; within = k.within; parts = k.parts }

pub returns-then-position-at-clause-faces : goal.returns-then-position-at-clause-faces
returns-then-position-at-clause-faces c =
    let t = c.args.self.now in
    let e = c.push_reserved.ensures.items ∙ ap (λ (xs : List ℕ). xs ++ 32 ∷ []) c.truncate.ensures.items in
    cut_in_wide_shown t.text.items c.push_reserved.new.self.items t.sizes.items c.truncate-2.new.self.items t.sized_bytes t.sized_columns c.position-position.result c.args.at a_size e c.truncate-2.ensures.items (sized_of t) c.position-position.ensures.position (c.position-position.ensures.cell a_size c.if-position-at.true)

pub returns-then-position-at-clause-bytes_left : goal.returns-then-position-at-clause-bytes_left
returns-then-position-at-clause-bytes_left c =
    let t = c.args.self.now in
    let k = half_bytes t.sizes.items c.position-position.result c.args.at a_size c.position-position.ensures.position (c.position-position.ensures.cell a_size c.if-position-at.true) in
    omega (arith, k, t.bytes, t.within, t.text.ok.0, t.text.ok.1)

pub returns-else-position-at-clause-faces : goal.returns-else-position-at-clause-faces
returns-else-position-at-clause-faces c =
    let t = c.args.self.now in
    cut_at_position_shown t.text.items c.truncate.new.self.items t.sizes.items c.truncate-2.new.self.items t.sized_bytes t.sized_columns c.position-position.result c.args.at c.truncate.ensures.items c.truncate-2.ensures.items (sized_of t) c.position-position.ensures.position (omega arith)
