use Rattle.terminal.proofs.ViewLemmas.{input_shown, input_idle}
use Rattle.terminal.proofs.viewers.new_viewers_show_the_input.Goals as goal

pub returns-clause-shown : goal.returns-clause-shown
returns-clause-shown g c = λ widths width height every input new after. input_shown (λ w. g.W.Widths.width_of w) c.updates_show_the_input.ensures.shown widths width height every input new after (g.met.W.Widths.space_is_one widths)

pub returns-clause-idle : goal.returns-clause-idle
returns-clause-idle g c = λ widths width height every input new after. input_idle (λ w. g.W.Widths.width_of w) c.updates_show_the_input.ensures.idle widths width height every input new after (g.met.W.Widths.space_is_one widths)
