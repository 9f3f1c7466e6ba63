use Rattle.std.proofs.Common.{rules, ℕ, ◌<◌, ◌∙◌, ◌+◌, ◌++◌, List, ap, take, drop, length, arith}
use Rattle.cell_edits.specs.TextRuns.{plain_cells}
use Rattle.cell_edits.proofs.RunLemmas.{plain_set}
use Rattle.cell_edits.proofs.runs.set_plain.Goals as goal

pub returns-clause-row : goal.returns-clause-row
returns-clause-row c =
    let cells = c.args.cells.now.items in
    let opened = c.open.new.cells.items in
    let text = c.args.text.now in
    let some : 0 < length text = search rules in
    let v = c.args.cells.now.ok.0 in
    plain_set cells opened c.write_plain.new.cells.items c.args.at text c.args.attrs.now some (omega arith)
    c.in_ok-open.ensures.whole c.in_ok-open.ensures.before c.in_ok-open.ensures.after
    (c.in_ok-write_plain.ensures.items ∙ ap (λ (bytes : List ℕ). take c.args.at opened ++ plain_cells bytes c.args.attrs.now ++ drop (c.args.at + length bytes) opened) c.as_bytes.ensures.value)
