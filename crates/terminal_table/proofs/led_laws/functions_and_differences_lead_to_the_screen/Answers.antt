use Rattle.terminal_table.proofs.LedLemmas.{behind_leads}
use Rattle.terminal_table.proofs.led_laws.functions_and_differences_lead_to_the_screen.Goals as goal

pub returns : goal.returns
returns c = behind_leads c.differences_draw_their_cells.ensures.remaining c.differences_draw_their_cells.ensures.region c.differences_show_the_new_side.ensures.screens
