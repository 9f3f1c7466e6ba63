use Rattle.terminal_viewers.proofs.ReadLemmas.{patch_is_plain, patch_prints_fresh}
use Rattle.terminal_viewers.proofs.patch_laws.patches_print_the_fresh_cells.Goals as goal

pub returns-clause-prints : goal.returns-clause-prints
returns-clause-prints c =
    patch_prints_fresh c.patches_lead_to_the_screen.ensures c.patches_have_encodings.ensures c.spelled_changes_are_writable.ensures
    c.differences_draw_their_cells.ensures.remaining c.differences_draw_their_cells.ensures.region c.differences_show_the_new_side.ensures.screens
    c.differences_print_the_fresh_cells.ensures.cells c.differences_print_the_fresh_cells.ensures.still c.prints_join.ensures.prints c.prints_join.ensures.still
    c.idle_streams.ensures.idle c.writable_lists_read_on.ensures.actions c.viewers_read_patches.ensures.idle

pub returns-clause-plain : goal.returns-clause-plain
returns-clause-plain c =
    patch_is_plain c.patches_lead_to_the_screen.ensures c.patches_have_encodings.ensures c.spelled_changes_are_writable.ensures
    c.differences_draw_their_cells.ensures.remaining c.differences_draw_their_cells.ensures.region c.differences_show_the_new_side.ensures.screens
    c.differences_print_the_fresh_cells.ensures.cells c.differences_print_the_fresh_cells.ensures.still c.prints_join.ensures.prints c.prints_join.ensures.still
    c.idle_streams.ensures.idle c.writable_lists_read_on.ensures.actions c.viewers_read_patches.ensures.idle
