use Rattle.terminal_table.proofs.LedLemmas.{led_leads, led_leads_with_title}
use Rattle.terminal_table.proofs.led_laws.logged_differences_lead_to_the_screen.Goals as goal

pub returns-clause-led : goal.returns-clause-led
returns-clause-led c = led_leads c.differences_draw_their_cells.ensures.remaining c.differences_draw_their_cells.ensures.region c.differences_show_the_new_side.ensures.screens

pub returns-clause-titled : goal.returns-clause-titled
returns-clause-titled c = led_leads_with_title c.differences_draw_their_cells.ensures.remaining c.differences_draw_their_cells.ensures.region c.differences_show_the_new_side.ensures.screens
