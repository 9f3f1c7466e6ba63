use Rattle.std.proofs.Common.{rules, ◌≡◌, true, false, ◌∙◌, sym}
use Rattle.cell_base.specs.Attributes.{blank_of}
use Rattle.cell_base.specs.SameAttributes.{same_attributes}
use Rattle.screen_repaint.proofs.StretchLemmas.{spaces_are, none_are, no_spaces}
use Rattle.screen_repaint.proofs.fast.plain_cells.blanks_at_end.Goals as goal
use Rattle.screen_repaint.proofs.fast.plain_cells.blanks_at_end.Goals.{then-spaces-eq0-via-then-spaces-eq0, then-spaces-eq0-via-else-spaces-eq0+then-not-is_plain}

pub returns-then-spaces-eq0 : goal.returns-then-spaces-eq0
returns-then-spaces-eq0 c =
    elim c.then-spaces-eq0.branch [
      | then-spaces-eq0-via-then-spaces-eq0 w ↦ sym (no_spaces c.args.text.now c.args.attrs.now (sym c.spaces_at_end-spaces.ensures ∙ w.if-spaces-eq0.true))
      | then-spaces-eq0-via-else-spaces-eq0+then-not-is_plain w ↦
          let other : same_attributes c.args.attrs.now (blank_of c.args.attrs.now.background) ≡ false = search rules in
          sym (none_are c.args.text.now c.args.attrs.now other)
    ]

pub returns : goal.returns
returns c =
    let plain : same_attributes c.args.attrs.now (blank_of c.args.attrs.now.background) ≡ true = search rules in
    c.spaces_at_end-spaces.ensures ∙ sym (spaces_are c.args.text.now c.args.attrs.now plain)
