use Rattle.std.proofs.Common.{arith}
use Rattle.clustered_row.proofs.SizeLemmas.{IsUtf8-cut}
use Rattle.clustered_row.proofs.StepLemmas.{sized_of, split_point, position_order, position_within, replaced_sized, replaced_shown}
use Rattle.clustered_row.proofs.cut_text.CutText.replace.Goals as goal

pub replace_text-requires-clause-utf8 : goal.replace_text-requires-clause-utf8
replace_text-requires-clause-utf8 c =
    let t = c.args.self.now in
    IsUtf8-cut t.text.items t.sizes.items t.parts

pub replace_text-requires-clause-order : goal.replace_text-requires-clause-order
replace_text-requires-clause-order c =
    let t = c.args.self.now in
    position_order t.sizes.items c.args.from c.args.to c.requires.from c.requires.to c.requires.order

pub replace_text-requires-clause-start : goal.replace_text-requires-clause-start
replace_text-requires-clause-start c =
    let t = c.args.self.now in
    split_point t.text.items t.sizes.items t.sized_bytes t.sized_columns c.args.from (sized_of t) c.requires.from

pub replace_text-requires-clause-cut : goal.replace_text-requires-clause-cut
replace_text-requires-clause-cut c =
    let t = c.args.self.now in
    split_point t.text.items t.sizes.items t.sized_bytes t.sized_columns c.args.to (sized_of t) c.requires.to

pub overflow_add-self : goal.overflow_add-self
overflow_add-self c =
    let t = c.args.self.now in
    let order = position_order t.sizes.items c.args.from c.args.to c.requires.from c.requires.to c.requires.order in
    let within = position_within t.text.items t.sizes.items t.sized_bytes t.sized_columns c.args.to (sized_of t) c.requires.to in
    omega (arith, order, within, t.within, t.text.ok.0, t.text.ok.1, t.text.small)

pub overflow_sub-self : goal.overflow_sub-self
overflow_sub-self c =
    let t = c.args.self.now in
    position_within t.text.items t.sizes.items t.sized_bytes t.sized_columns c.args.to (sized_of t) c.requires.to

pub overflow_add-self-2 : goal.overflow_add-self-2
overflow_add-self-2 c =
    let t = c.args.self.now in
    let order = position_order t.sizes.items c.args.from c.args.to c.requires.from c.requires.to c.requires.order in
    let within = position_within t.text.items t.sizes.items t.sized_bytes t.sized_columns c.args.to (sized_of t) c.requires.to in
    omega (arith, order, within, t.within, t.text.ok.0, t.text.ok.1, t.text.small)

pub invariant_of-self : goal.invariant_of-self
invariant_of-self c =
    let t = c.args.self.now in
    let k = replaced_sized t.text.items c.args.text.now c.replace_text.new.text.items t.sizes.items c.args.sizes.now c.replace_items.new.items.items t.sized_bytes t.sized_columns c.args.from c.args.to
    c.replace_text.ensures.items c.replace_items.ensures.items (sized_of t) c.requires.from c.requires.to c.requires.sizes.bytes c.requires.columns c.requires.sizes.parts in
    record { bytes = k.bytes_are; columns = k.columns_are; within = k.within; parts = k.parts }

pub returns-clause-row : goal.returns-clause-row
returns-clause-row c =
    let t = c.args.self.now in
    replaced_shown t.text.items c.args.text.now c.replace_text.new.text.items t.sizes.items c.args.sizes.now c.replace_items.new.items.items t.sized_bytes t.sized_columns c.args.from c.args.to
    c.replace_text.ensures.items c.replace_items.ensures.items (sized_of t) c.requires.from c.requires.to c.requires.sizes.bytes
