use Rattle.std.proofs.Common.{◌∙◌, ◌-◌, ◌<◌, ap, sym, arith}
use Rattle.std.specs.Prelude.{length, map}
use Rattle.std.specs.List.{range_with_len}
use Rattle.std.proofs.lemmas.List.{length-append, length-map}
use Rattle.std.proofs.lemmas.List.FromFn.{length-range_with_len, get_or-range_with_len}
use Rattle.cell_views.specs.declared.byte_columns.ByteColumn.{ByteColumn}
use Rattle.cell_views.proofs.ByteColumnLemmas.{at_counted, at_after}
use Rattle.cell_views.proofs.byte_columns.ByteColumns.column.Goals as goal

pub index-requires : goal.index-requires
index-requires c =
    let p = c.args.self.now in
    let prefix = range_with_len p.first p.counted in
    omega (arith, c.requires, c.if-byte-self.false, length-append prefix (map (λ b. b.column) p.after.items), length-range_with_len p.first p.counted, length-map p.after.items (λ b. b.column), p.after.ok.0)

pub returns-then-byte-self : goal.returns-then-byte-self
returns-then-byte-self c =
    let p = c.args.self.now in
    let h = c.if-byte-self.true in
    sym (at_counted (range_with_len p.first p.counted) (map (λ b. b.column) p.after.items) c.args.byte (omega (arith, h, length-range_with_len p.first p.counted)) ∙ get_or-range_with_len p.first p.counted c.args.byte 0 h)

pub returns-else-byte-self : goal.returns-else-byte-self
returns-else-byte-self c =
    let p = c.args.self.now in
    let prefix = range_with_len p.first p.counted in
    let n = length-range_with_len p.first p.counted in
    let within : c.args.byte - p.counted < length p.after.items = omega (arith, c.requires, c.if-byte-self.false, length-append prefix (map (λ b. b.column) p.after.items), n, length-map p.after.items (λ b. b.column)) in
    ap (λ (b : ByteColumn). b.column) c.index.ensures ∙ sym (at_after (λ b. b.column) prefix p.after.items c.args.byte p.counted c.index.result.now n c.if-byte-self.false within)
