use Rattle.xterm_table.proofs.ColumnLemmas.{IsSoundColumn, sound_kept}
use Rattle.xterm_table.proofs.FollowLemmas.{down_follows, follows_with, line_fed_follows, lines_deleted_follows, lines_inserted_follows, next_line_follows, reverse_line_fed_follows, up_follows, with_follows}
use Rattle.xterm_table.proofs.laws.row_moves_follow.Goals as goal

pub returns-clause-up : goal.returns-clause-up
returns-clause-up c = λ width_of before screen first size count narrow f. with_follows width_of before _ (up_follows (IsSoundColumn width_of) (sound_kept width_of narrow) before screen first size count (follows_with width_of before screen narrow f))

pub returns-clause-down : goal.returns-clause-down
returns-clause-down c = λ width_of before screen first size count narrow f. with_follows width_of before _ (down_follows (IsSoundColumn width_of) (sound_kept width_of narrow) before screen first size count (follows_with width_of before screen narrow f))

pub returns-clause-inserted : goal.returns-clause-inserted
returns-clause-inserted c = λ width_of before screen bottom count narrow f. with_follows width_of before _ (lines_inserted_follows (IsSoundColumn width_of) (sound_kept width_of narrow) before screen bottom count (follows_with width_of before screen narrow f))

pub returns-clause-deleted : goal.returns-clause-deleted
returns-clause-deleted c = λ width_of before screen bottom count narrow f. with_follows width_of before _ (lines_deleted_follows (IsSoundColumn width_of) (sound_kept width_of narrow) before screen bottom count (follows_with width_of before screen narrow f))

pub returns-clause-line_feed : goal.returns-clause-line_feed
returns-clause-line_feed c = λ width_of before screen top bottom narrow f. with_follows width_of before _ (line_fed_follows (IsSoundColumn width_of) (sound_kept width_of narrow) before screen top bottom (follows_with width_of before screen narrow f))

pub returns-clause-reverse : goal.returns-clause-reverse
returns-clause-reverse c = λ width_of before screen top bottom narrow f. with_follows width_of before _ (reverse_line_fed_follows (IsSoundColumn width_of) (sound_kept width_of narrow) before screen top bottom (follows_with width_of before screen narrow f))

pub returns-clause-next_line : goal.returns-clause-next_line
returns-clause-next_line c = λ width_of before screen top bottom narrow f. with_follows width_of before _ (next_line_follows (IsSoundColumn width_of) (sound_kept width_of narrow) before screen top bottom (follows_with width_of before screen narrow f))
