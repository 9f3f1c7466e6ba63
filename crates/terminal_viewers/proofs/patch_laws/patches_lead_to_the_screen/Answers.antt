use Rattle.terminal_viewers.proofs.LeadLemmas.{patch_leads}
use Rattle.terminal_viewers.proofs.patch_laws.patches_lead_to_the_screen.Goals as goal

pub returns : goal.returns
returns c = patch_leads c.differences_draw_their_cells.ensures.remaining c.differences_draw_their_cells.ensures.region c.differences_show_the_new_side.ensures.screens
