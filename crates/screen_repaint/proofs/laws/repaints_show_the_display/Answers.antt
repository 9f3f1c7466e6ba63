use Rattle.screen_repaint.proofs.WholeLemmas.{repaint_is_shown, titled_is_shown, repainted_is_shown}
use Rattle.screen_repaint.proofs.laws.repaints_show_the_display.Goals as goal

pub returns-clause-shown : goal.returns-clause-shown
returns-clause-shown c = λ width_of other display titles can.
    repaint_is_shown width_of other display titles can.narrow can.display_is can.sound can.other_is can.wide can.tall

pub returns-clause-titled : goal.returns-clause-titled
returns-clause-titled c = λ width_of other display title can.
    titled_is_shown width_of other display title can.narrow can.display_is can.sound can.other_is can.wide can.tall

pub returns-clause-repainted : goal.returns-clause-repainted
returns-clause-repainted c = λ width_of other display can.
    repainted_is_shown width_of other display can.narrow can.display_is can.sound can.other_is can.wide can.tall
