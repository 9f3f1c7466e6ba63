use Rattle.clustered_row.proofs.StepLemmas.{sized_of, after, cut_sized, cut_shown}
use Rattle.clustered_row.proofs.cut_text.CutText.truncate.Goals as goal

pub invariant_of-self : goal.invariant_of-self
invariant_of-self c =
    let t = c.args.self.now in
    let m = c.plain_byte-end.result in
    let p = after t.text.items t.sizes.items t.sized_bytes t.sized_columns m c.args.at (sized_of t) c.plain_byte-end.ensures.after c.plain_byte-end.ensures.within c.plain_byte-end.ensures.column in
    let k = cut_sized t.text.items c.truncate.new.self.items t.sizes.items t.sized_bytes t.sized_columns m c.args.at c.truncate.ensures.items (sized_of t) p in
    record { bytes = k.bytes_are; columns = k.columns_are; within = k.within; parts = k.parts }

pub returns-then-self-at-clause-faces : goal.returns-then-self-at-clause-faces
returns-then-self-at-clause-faces c =
    let t = c.args.self.now in
    let m = c.plain_byte-end.result in
    let p = after t.text.items t.sizes.items t.sized_bytes t.sized_columns m c.args.at (sized_of t) c.plain_byte-end.ensures.after c.plain_byte-end.ensures.within c.plain_byte-end.ensures.column in
    cut_shown t.text.items c.truncate.new.self.items t.sizes.items m c.args.at c.truncate.ensures.items p
