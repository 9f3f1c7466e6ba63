use Rattle.clustered_row.proofs.StepLemmas.{sized_of, dropped_sized, dropped_shown}
use Rattle.clustered_row.proofs.cut_text.CutText.drop_plain.Goals as goal

pub overflow_sub-self : goal.overflow_sub-self
overflow_sub-self c =
    let t = c.args.self.now in
    (dropped_sized t.text.items t.sizes.items c.take_last-size.new.self.items t.sized_bytes t.sized_columns c.take_last-size.result c.take_last-size.ensures.items c.requires (sized_of t)).1

pub overflow_sub-self-2 : goal.overflow_sub-self-2
overflow_sub-self-2 c =
    let t = c.args.self.now in
    (dropped_sized t.text.items t.sizes.items c.take_last-size.new.self.items t.sized_bytes t.sized_columns c.take_last-size.result c.take_last-size.ensures.items c.requires (sized_of t)).2

pub invariant_of-self : goal.invariant_of-self
invariant_of-self c =
    let t = c.args.self.now in
    let k = (dropped_sized t.text.items t.sizes.items c.take_last-size.new.self.items t.sized_bytes t.sized_columns c.take_last-size.result c.take_last-size.ensures.items c.requires (sized_of t)).0 in
    record { bytes = k.bytes_are; columns = k.columns_are; within = k.within; parts = k.parts }

pub returns-clause-faces : goal.returns-clause-faces
returns-clause-faces c =
    let t = c.args.self.now in
    dropped_shown t.text.items t.sizes.items c.take_last-size.new.self.items t.sized_bytes t.sized_columns c.take_last-size.result c.take_last-size.ensures.items c.requires (sized_of t)
