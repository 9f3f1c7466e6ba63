use Rattle.terminal_viewers.proofs.ReadLemmas.{patch_is_shown, patch_leaves_idle}
use Rattle.terminal_viewers.proofs.patch_laws.viewers_read_patches.Goals as goal

pub returns-clause-shown : goal.returns-clause-shown
returns-clause-shown c = patch_is_shown c.patches_lead_to_the_screen.ensures c.patches_have_encodings.ensures c.spelled_changes_are_writable.ensures c.lists_have_the_effect.ensures.texts

pub returns-clause-idle : goal.returns-clause-idle
returns-clause-idle c = patch_leaves_idle c.patches_lead_to_the_screen.ensures c.patches_have_encodings.ensures c.spelled_changes_are_writable.ensures c.lists_have_the_effect.ensures.idle
