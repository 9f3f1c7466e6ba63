use Rattle.std.proofs.Common.{◌++◌, ℕ, List, length, arith, ap, ◌∙◌}
use Rattle.clustered_row.specs.Faces.{Face}
use Rattle.clustered_row.specs.Sizes.{faces_of}
use Rattle.clustered_row.proofs.SizeLemmas.{columns_bound}
use Rattle.clustered_row.proofs.StepLemmas.{sized_of, sized_columns_within, all_sized, appended_sized, appended_shown}
use Rattle.clustered_row.proofs.cut_text.CutText.push_cells.Goals as goal

pub push_all-requires-2 : goal.push_all-requires-2
push_all-requires-2 c =
    let old = c.args.self.now in
    let within = sized_columns_within old.text.items old.sizes.items old.sized_bytes old.sized_columns (sized_of old) in
    omega (arith, within, c.cover.ensures.sizes_left, c.columns.ensures, c.requires.kept, c.cover.new.self.sizes.ok.1)

pub overflow_add-self-2 : goal.overflow_add-self-2
overflow_add-self-2 c =
    let t = c.cover.new.self in
    let bound = columns_bound t.sizes.items in
    let more = columns_bound c.args.sizes.now in
    omega (arith, bound, more, c.requires.sizes.bytes, c.requires.columns, c.requires.room, c.cover.ensures.bytes_left, t.bytes, t.columns, t.within, t.text.ok.0, t.text.ok.1, t.text.small)

pub invariant_of-self : goal.invariant_of-self
invariant_of-self c =
    let t = c.cover.new.self in
    let same = ap length c.cover.ensures.faces in
    let all = all_sized t.text.items t.sizes.items t.sized_bytes t.sized_columns (sized_of t) (omega (arith, same, c.columns.ensures, c.cover.ensures.covered)) in
    let e = c.push_all.ensures.items ∙ ap (λ (u : List ℕ). t.text.items ++ u) c.as_bytes.ensures.value in
    let k = appended_sized t.text.items c.args.text.now c.push_all.new.items.items t.sizes.items c.args.sizes.now c.push_all-2.new.items.items t.sized_bytes t.sized_columns c.args.columns
    e c.push_all-2.ensures.items (sized_of t) all c.requires.sizes.bytes c.requires.columns c.requires.sizes.parts in
    record { bytes = k.bytes_are; columns = k.columns_are; within = k.within; parts = k.parts }

pub returns-clause-faces : goal.returns-clause-faces
returns-clause-faces c =
    let t = c.cover.new.self in
    let same = ap length c.cover.ensures.faces in
    let all = all_sized t.text.items t.sizes.items t.sized_bytes t.sized_columns (sized_of t) (omega (arith, same, c.columns.ensures, c.cover.ensures.covered)) in
    let e = c.push_all.ensures.items ∙ ap (λ (u : List ℕ). t.text.items ++ u) c.as_bytes.ensures.value in
    appended_shown t.text.items c.args.text.now c.push_all.new.items.items t.sizes.items c.args.sizes.now c.push_all-2.new.items.items e c.push_all-2.ensures.items all
    ∙ ap (λ (fs : List Face). fs ++ faces_of c.args.text.now c.args.sizes.now) c.cover.ensures.faces
