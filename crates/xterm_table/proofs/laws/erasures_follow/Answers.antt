use Rattle.xterm_table.proofs.ColumnLemmas.{IsSoundColumn, sound_kept}
use Rattle.xterm_table.proofs.FollowLemmas.{characters_erased_follows, erased_follows, follows_with, line_end_erased_follows, line_start_erased_follows, with_follows}
use Rattle.xterm_table.proofs.laws.erasures_follow.Goals as goal

pub returns-clause-columns : goal.returns-clause-columns
returns-clause-columns c = λ width_of before screen start finish narrow order within f. with_follows width_of before _ (erased_follows (IsSoundColumn width_of) (sound_kept width_of narrow) before screen start finish order within (follows_with width_of before screen narrow f))

pub returns-clause-characters : goal.returns-clause-characters
returns-clause-characters c = λ width_of before screen count narrow f. with_follows width_of before _ (characters_erased_follows (IsSoundColumn width_of) (sound_kept width_of narrow) before screen count (follows_with width_of before screen narrow f))

pub returns-clause-line_end : goal.returns-clause-line_end
returns-clause-line_end c = λ width_of before screen narrow f. with_follows width_of before _ (line_end_erased_follows (IsSoundColumn width_of) (sound_kept width_of narrow) before screen (follows_with width_of before screen narrow f))

pub returns-clause-line_start : goal.returns-clause-line_start
returns-clause-line_start c = λ width_of before screen narrow f. with_follows width_of before _ (line_start_erased_follows (IsSoundColumn width_of) (sound_kept width_of narrow) before screen (follows_with width_of before screen narrow f))
