use Rattle.xterm_table.proofs.ColumnLemmas.{IsSoundColumn, sound_kept}
use Rattle.xterm_table.proofs.FollowLemmas.{characters_deleted_follows, characters_inserted_follows, follows_with, with_follows}
use Rattle.xterm_table.proofs.laws.column_moves_follow.Goals as goal

pub returns-clause-inserted : goal.returns-clause-inserted
returns-clause-inserted c = λ width_of before screen count narrow f. with_follows width_of before _ (characters_inserted_follows (IsSoundColumn width_of) (sound_kept width_of narrow) before screen count (follows_with width_of before screen narrow f))

pub returns-clause-deleted : goal.returns-clause-deleted
returns-clause-deleted c = λ width_of before screen count narrow f. with_follows width_of before _ (characters_deleted_follows (IsSoundColumn width_of) (sound_kept width_of narrow) before screen count (follows_with width_of before screen narrow f))
