use Rattle.std.proofs.Common.{ap, sym, ◌∙◌}
use Rattle.escape_stream.specs.ParserShown.{Parsing, lending_in}
use Rattle.escape_stream.proofs.parser.Parser.action_of.Goals as goal

pub returns-clause-action : goal.returns-clause-action
returns-clause-action c = c.in_ok-action.ensures.action (lending_in c.args.self.now) (ap (λ (p : Parsing). p.body) (sym c.self.view_is) ∙ sym c.body.ensures)
