use Rattle.std.proofs.Common.{◌∙◌, ap, sym, arith}
use Rattle.cell_base.specs.Row.{set_columns}
use Rattle.clustered_row.proofs.SetLemmas.{cell_count, cell_fits, cell_is_cut, cell_plain_row, cell_printable, cell_row, is_cell}
use Rattle.clustered_row.proofs.row.ClusteredRow.set_cell.Goals as goal

pub set_plain_elsewhere-requires-then-is_plain-clause-printable : goal.set_plain_elsewhere-requires-then-is_plain-clause-printable
set_plain_elsewhere-requires-then-is_plain-clause-printable c =
    let is = is_cell c.args.text.now c.args.width c.columns_for-count.result c.size_of-size.result c.args.attrs.now c.shows_as_space.result c.shows_as_space.ensures c.if-shows_as_space.false
    c.size_of-size.ensures.len c.size_of-size.ensures.wide (c.columns_for-count.ensures.value c.args.attrs.now) c.columns_for-count.ensures.some c.columns_for-count.ensures.most in
    cell_printable c.args.text.now c.args.width c.columns_for-count.result c.size_of-size.result c.args.attrs.now is (sym c.is_plain.ensures ∙ c.if-is_plain.true) c.utf8.text

pub set_plain_elsewhere-requires-then-is_plain-clause-within : goal.set_plain_elsewhere-requires-then-is_plain-clause-within
set_plain_elsewhere-requires-then-is_plain-clause-within c =
    let is = is_cell c.args.text.now c.args.width c.columns_for-count.result c.size_of-size.result c.args.attrs.now c.shows_as_space.result c.shows_as_space.ensures c.if-shows_as_space.false
    c.size_of-size.ensures.len c.size_of-size.ensures.wide (c.columns_for-count.ensures.value c.args.attrs.now) c.columns_for-count.ensures.some c.columns_for-count.ensures.most in
    let within = c.requires.within in
    omega (arith, cell_count c.args.text.now c.args.width c.columns_for-count.result c.size_of-size.result c.args.attrs.now is, cell_fits c.args.text.now c.args.width c.columns_for-count.result c.size_of-size.result c.args.attrs.now is (sym c.is_plain.ensures ∙ c.if-is_plain.true), within)

pub returns-then-is_plain-clause-done : goal.returns-then-is_plain-clause-done
returns-then-is_plain-clause-done c =
    let is = is_cell c.args.text.now c.args.width c.columns_for-count.result c.size_of-size.result c.args.attrs.now c.shows_as_space.result c.shows_as_space.ensures c.if-shows_as_space.false
    c.size_of-size.ensures.len c.size_of-size.ensures.wide (c.columns_for-count.ensures.value c.args.attrs.now) c.columns_for-count.ensures.some c.columns_for-count.ensures.most in
    c.in_ok-set_plain_elsewhere-2.ensures.done
    ∙ ap (set_columns c.args.self.now c.args.at) (cell_plain_row c.args.text.now c.args.width c.columns_for-count.result c.size_of-size.result c.args.attrs.now is (sym c.is_plain.ensures ∙ c.if-is_plain.true) c.utf8.text)

pub set-requires-clause-sizes : goal.set-requires-clause-sizes
set-requires-clause-sizes c =
    let is = is_cell c.args.text.now c.args.width c.columns_for-count.result c.size_of-size.result c.args.attrs.now c.shows_as_space.result c.shows_as_space.ensures c.if-shows_as_space.false
    c.size_of-size.ensures.len c.size_of-size.ensures.wide (c.columns_for-count.ensures.value c.args.attrs.now) c.columns_for-count.ensures.some c.columns_for-count.ensures.most in
    record { parts = cell_is_cut c.args.text.now c.args.width c.columns_for-count.result c.size_of-size.result c.args.attrs.now is c.utf8.text; bytes = omega (arith, c.size_of-size.ensures.len) }

pub set-requires-clause-within : goal.set-requires-clause-within
set-requires-clause-within c =
    let is = is_cell c.args.text.now c.args.width c.columns_for-count.result c.size_of-size.result c.args.attrs.now c.shows_as_space.result c.shows_as_space.ensures c.if-shows_as_space.false
    c.size_of-size.ensures.len c.size_of-size.ensures.wide (c.columns_for-count.ensures.value c.args.attrs.now) c.columns_for-count.ensures.some c.columns_for-count.ensures.most in
    let within = c.requires.within in
    omega (arith, cell_count c.args.text.now c.args.width c.columns_for-count.result c.size_of-size.result c.args.attrs.now is, within)

pub returns-clause-done : goal.returns-clause-done
returns-clause-done c =
    let is = is_cell c.args.text.now c.args.width c.columns_for-count.result c.size_of-size.result c.args.attrs.now c.shows_as_space.result c.shows_as_space.ensures c.if-shows_as_space.false
    c.size_of-size.ensures.len c.size_of-size.ensures.wide (c.columns_for-count.ensures.value c.args.attrs.now) c.columns_for-count.ensures.some c.columns_for-count.ensures.most in
    c.in_ok-set.ensures.done ∙ ap (set_columns c.args.self.now c.args.at) (cell_row c.args.text.now c.args.width c.columns_for-count.result c.size_of-size.result c.args.attrs.now is)
