use Rattle.terminal_viewers.proofs.ViewerLemmas.{update_is_shown, update_leaves_idle}
use Rattle.terminal_viewers.proofs.viewers.viewers_read_updates.Goals as goal

pub returns-clause-shown : goal.returns-clause-shown
returns-clause-shown c =
    update_is_shown c.updates_paint_the_screen.ensures c.updates_have_encodings.ensures.update c.spelled_changes_are_writable.ensures c.lists_have_the_effect.ensures.texts

pub returns-clause-idle : goal.returns-clause-idle
returns-clause-idle c = update_leaves_idle c.updates_paint_the_screen.ensures c.updates_have_encodings.ensures.update c.spelled_changes_are_writable.ensures c.lists_have_the_effect.ensures.idle
