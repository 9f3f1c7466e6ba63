use Rattle.std.proofs.Common.{◌+◌, ◌∷◌, [], Bool, take, arith, refl, ap, ◌∙◌}
use Rattle.std.specs.List.{splice}
use Rattle.cell_base.specs.Row.{space}
use Rattle.clustered_row.specs.declared.cell_size.CellSize.{CellSize}
use Rattle.clustered_row.specs.CutTexts.{shown}
use Rattle.clustered_row.specs.Faces.{Own}
use Rattle.clustered_row.specs.Sizes.{width_of}
use Rattle.clustered_row.proofs.SizeLemmas.{columns_bound}
use Rattle.clustered_row.proofs.StepLemmas.{sized_of, a_size, next_read, next_position_read, split_shown, split_position, take_first}
use Rattle.clustered_row.proofs.cut_text.CutText.split_wide_cell.Goals as goal

pub index-requires : goal.index-requires
index-requires c =
    let t = c.args.self.now in
    let wide = c.requires.wide a_size in
    omega (arith, wide, t.sizes.ok.0)

pub after-next-requires-clause-bytes : goal.after-next-requires-clause-bytes
after-next-requires-clause-bytes c =
    let t = c.args.self.now in
    let wide = c.requires.wide a_size in
    let k = (next_read t.sizes.items c.args.position c.index.result.now c.requires.position wide.within c.index.ensures).0 in
    omega (arith, k, t.bytes, t.within, t.text.ok.0, t.text.ok.1, t.text.small)

pub after-next-requires-clause-columns : goal.after-next-requires-clause-columns
after-next-requires-clause-columns c =
    let t = c.args.self.now in
    let wide = c.requires.wide a_size in
    let k = (next_read t.sizes.items c.args.position c.index.result.now c.requires.position wide.within c.index.ensures).1 in
    let bound = columns_bound t.sizes.items in
    omega (arith, k, bound, t.bytes, t.within, t.text.ok.0, t.text.ok.1, t.text.small)

pub replace-requires-clause-to : goal.replace-requires-clause-to
replace-requires-clause-to c =
    let t = c.args.self.now in
    let wide = c.requires.wide a_size in
    next_position_read t.sizes.items c.args.position c.after-next.result c.index.result.now c.requires.position wide.within c.index.ensures
    c.after-next.ensures.index c.after-next.ensures.bytes c.after-next.ensures.columns

pub returns-clause-faces : goal.returns-clause-faces
returns-clause-faces c =
    let t = c.args.self.now in
    let wide = c.requires.wide c.index.result.now in
    let is_wide = ap (λ (x : CellSize). x.is_wide) c.index.ensures ∙ wide.wide in
    let columns = c.after-next.ensures.columns ∙ ap (λ (w : Bool). c.args.position.columns + width_of w) is_wide in
    c.replace.ensures.row ∙ ap (λ n. splice (shown t) c.args.position.columns n (Own space ∷ Own space ∷ [])) columns
    ∙ split_shown t.text.items t.sizes.items t.sized_bytes t.sized_columns c.args.position (c.args.position.columns + 1) c.index.result.now (sized_of t) c.requires.position wide

pub returns-clause-position : goal.returns-clause-position
returns-clause-position c q index bytes columns =
    let t = c.args.self.now in
    let wide = c.requires.wide a_size in
    let first = ap (take (c.args.position.index + 1)) c.replace.ensures.sizes ∙ take_first t.sizes.items c.args.position.index c.after-next.result.index _ _ c.requires.position.within in
    split_position t.sizes.items c.replace.new.self.sizes.items c.args.position q _ refl wide.within first c.requires.position index bytes columns
