use Rattle.std.proofs.Common.{rules, ◌≡◌, ◌∙◌, ◌+◌, ◌++◌, [], ◌∷◌, ap, sym, arith}
use Rattle.std.specs.Prelude.{length, replicate}
use Rattle.std.proofs.lemmas.Bool.Decides.{nat_tests}
use Rattle.std.specs.List.{range_with_len}
use Rattle.std.proofs.lemmas.List.{length-append}
use Rattle.cell_views.specs.ByteColumns.{columns_in}
use Rattle.cell_views.proofs.ByteColumnLemmas.{after_more, range_more, counted_more}
use Rattle.cell_views.proofs.byte_columns.ByteColumns.push.Goals as goal

pub returns-then-is_counted-clause-columns : goal.returns-then-is_counted-clause-columns
returns-then-is_counted-clause-columns c =
    let p = c.args.self.now in
    let prefix = range_with_len p.first p.counted in
    let none : length p.after.items ≡ 0 = grind (arith, nat_tests) in
    let one : length c.args.text.now ≡ 1 = search rules in
    let next : c.args.column ≡ p.first + p.counted = search rules in
    counted_more (λ b. b.column) prefix (range_with_len p.first (p.counted + 1)) p.after.items (length c.args.text.now) c.args.column none one (range_more p.first p.counted ∙ ap (λ m. prefix ++ m ∷ []) (sym next))

pub returns-then-is_counted-clause-column_count : goal.returns-then-is_counted-clause-column_count
returns-then-is_counted-clause-column_count c =
    omega (arith, ap length (returns-then-is_counted-clause-columns c), length-append (columns_in c.args.self.now) (replicate (length c.args.text.now) c.args.column))

pub returns-clause-columns : goal.returns-clause-columns
returns-clause-columns c =
    let p = c.args.self.now in
    after_more (λ b. b.column) (range_with_len p.first p.counted) p.after.items _ (length c.args.text.now) (record { column = c.args.column; width = c.args.width }) c.in_ok-push_copies.ensures.items

pub returns-clause-widths : goal.returns-clause-widths
returns-clause-widths c =
    let p = c.args.self.now in
    after_more (λ b. b.width) (replicate p.counted 1) p.after.items _ (length c.args.text.now) (record { column = c.args.column; width = c.args.width }) c.in_ok-push_copies.ensures.items
