use Rattle.terminal_table.proofs.StreamLemmas.{prints_a_third, prints_as_many}
use Rattle.terminal_table.proofs.print_laws.plain_streams_print_what_is_fresh.Goals as goal

pub returns-clause-third : goal.returns-clause-third
returns-clause-third c = prints_a_third c.views_stay_lawful.ensures.event c.prints_hold_no_controls.ensures

pub returns-clause-narrow : goal.returns-clause-narrow
returns-clause-narrow c = prints_as_many c.views_stay_lawful.ensures.event c.prints_hold_no_controls.ensures
