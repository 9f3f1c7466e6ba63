use Rattle.std.proofs.Common.{◌∙◌, sym, ap}
use Rattle.std.proofs.lemmas.Bool.{false≢true}
use Rattle.std.specs.List.{list_all}
use Rattle.cell_base.specs.Link.{Link}
use Rattle.cell_base.specs.LinkText.{is_writable}
use Rattle.cell_base.proofs.LinkLaws.{link_written_back, back_is_given, back_is_some, back_is_writable}
use Rattle.cell_base.proofs.hyperlink.Hyperlink.reads_back.Goals as goal

pub returns-then-self : goal.returns-then-self
returns-then-self c = (λ e. absurd (false≢true e), λ back. absurd (false≢true (sym (back_is_given c.args.self.now back) ∙ sym (ap (λ (l : Link). l.implicit) c.self.view_is) ∙ c.if-self.true)))

pub returns-then-is_empty : goal.returns-then-is_empty
returns-then-is_empty c = (λ e. absurd (false≢true e), λ back. absurd (false≢true (sym (back_is_some c.args.self.now back) ∙ sym c.if-is_empty.ensures)))

pub returns : goal.returns
returns c = (
  λ e. link_written_back c.self.inside.params.entries c.self.inside.uri c.self.inside.implicit c.args.self.now c.self.view_is c.are_writable.ensures.order c.if-self.false c.if-is_empty.ensures (sym c.are_writable.ensures.value ∙ e),
  λ back. c.are_writable.ensures.value ∙ ap (λ (l : Link). list_all is_writable l.params) c.self.view_is ∙ back_is_writable c.args.self.now back,
)
