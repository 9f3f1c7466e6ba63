use Rattle.terminal_viewers.proofs.PatchSpellLemmas.{patch_has}
use Rattle.terminal_viewers.proofs.patch_laws.patches_have_encodings.Goals as goal

pub returns : goal.returns
returns c = patch_has
