use Rattle.std.proofs.Common.{◌≡◌, ◌∙◌, ◌++◌, List, ap, sym}
use Rattle.std.proofs.lemmas.Bool.{false≢true}
use Rattle.cell_base.specs.Attributes.{Attributes}
use Rattle.cell_edits.specs.VisibleCells.{VisibleCell, visible_each}
use Rattle.screen_difference.specs.Drawing.{with_all}
use Rattle.screen_difference.specs.FreshCells.{placed}
use Rattle.screen_difference.specs.ShownCells.{passed_fresh}
use Rattle.screen_difference.proofs.SideLemmas.{text_on_other, text_on_text}
use Rattle.screen_difference.proofs.fast.plain_cells.write_run.Goals as goal

pub returns-then-eq : goal.returns-then-eq
returns-then-eq c = λ remaining.
    let at = c.args.column in
    let old = c.args.old.0.now in
    let text = c.args.text.now in
    let attrs = c.args.attrs.now in
    c.in_ok-write_differing.ensures
    ∙ sym (ap (λ (cells : List VisibleCell). with_all c.args.writer.now (placed c.args.row cells)) (
    ap (λ (a : Attributes). passed_fresh (visible_each at old a ++ remaining) (visible_each at text attrs)) (c.eq.ensures.by_value.0 c.if-eq.true)
    ∙ text_on_text at old text attrs remaining c.requires.same))

pub returns : goal.returns
returns c = λ remaining.
    let other : c.args.old.1.now ≡ c.args.attrs.now → ⊥ = λ e. false≢true (sym c.if-eq.false ∙ c.eq.ensures.by_value.1 e) in
    c.in_ok-push_plain.ensures
    ∙ sym (ap (λ (cells : List VisibleCell). with_all c.args.writer.now (placed c.args.row cells)) (
    text_on_other c.args.column c.args.old.0.now c.args.text.now c.args.old.1.now c.args.attrs.now remaining c.requires.same other))
