use Rattle.std.proofs.Common.{◌+◌, ℕ, List, length, arith, ap, ◌∙◌}
use Rattle.std.specs.List.{splice}
use Rattle.clustered_row.proofs.StepLemmas.{sized_of, after, plain_within, set_sized, set_shown}
use Rattle.clustered_row.proofs.cut_text.CutText.set_plain.Goals as goal

pub put-requires : goal.put-requires
put-requires c =
    let t = c.args.self.now in
    let k = plain_within t.text.items t.sizes.items t.sized_bytes t.sized_columns c.plain_byte-from.result c.args.at (length c.args.text.now) (sized_of t) c.plain_byte-from.ensures.column c.requires.within in
    let same = ap length c.as_bytes.ensures.value in
    omega (arith, k, same, t.text.ok.0)

pub invariant_of-self : goal.invariant_of-self
invariant_of-self c =
    let t = c.args.self.now in
    let m = c.plain_byte-from.result in
    let p = after t.text.items t.sizes.items t.sized_bytes t.sized_columns m c.args.at (sized_of t) c.plain_byte-from.ensures.after c.plain_byte-from.ensures.within c.plain_byte-from.ensures.column in
    let e = c.put.ensures.items ∙ ap (λ (u : List ℕ). splice t.text.items m (m + length u) u) c.as_bytes.ensures.value in
    let l = plain_within t.text.items t.sizes.items t.sized_bytes t.sized_columns m c.args.at (length c.args.text.now) (sized_of t) c.plain_byte-from.ensures.column c.requires.within in
    let k = set_sized t.text.items c.args.text.now c.put.new.items.items t.sizes.items t.sized_bytes t.sized_columns m c.args.at e (sized_of t) p l c.requires.text in
    record { bytes = k.bytes_are; columns = k.columns_are; within = k.within; parts = k.parts }

pub returns-clause-faces : goal.returns-clause-faces
returns-clause-faces c =
    let t = c.args.self.now in
    let m = c.plain_byte-from.result in
    let p = after t.text.items t.sizes.items t.sized_bytes t.sized_columns m c.args.at (sized_of t) c.plain_byte-from.ensures.after c.plain_byte-from.ensures.within c.plain_byte-from.ensures.column in
    let e = c.put.ensures.items ∙ ap (λ (u : List ℕ). splice t.text.items m (m + length u) u) c.as_bytes.ensures.value in
    set_shown t.text.items c.args.text.now c.put.new.items.items t.sizes.items m c.args.at e p
