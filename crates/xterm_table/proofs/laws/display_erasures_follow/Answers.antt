use Rattle.xterm_table.proofs.ColumnLemmas.{IsSoundColumn, sound_kept}
use Rattle.xterm_table.proofs.FollowLemmas.{display_end_erased_follows, display_start_erased_follows, follows_with, with_follows}
use Rattle.xterm_table.proofs.laws.display_erasures_follow.Goals as goal

pub returns-clause-display_end : goal.returns-clause-display_end
returns-clause-display_end c = λ width_of before screen narrow f. with_follows width_of before _ (display_end_erased_follows (IsSoundColumn width_of) (sound_kept width_of narrow) before screen (follows_with width_of before screen narrow f))

pub returns-clause-display_start : goal.returns-clause-display_start
returns-clause-display_start c = λ width_of before screen narrow f. with_follows width_of before _ (display_start_erased_follows (IsSoundColumn width_of) (sound_kept width_of narrow) before screen (follows_with width_of before screen narrow f))
