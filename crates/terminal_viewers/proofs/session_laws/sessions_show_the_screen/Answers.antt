use Rattle.terminal_viewers.proofs.SessionLemmas.{answers_are_shown, rounds_are_shown}
use Rattle.terminal_viewers.proofs.session_laws.sessions_show_the_screen.Goals as goal

pub returns-clause-answers : goal.returns-clause-answers
returns-clause-answers c =
    answers_are_shown c.one_cut.ensures.cut c.viewers_read_updates.ensures.shown c.viewers_read_updates.ensures.idle c.viewers_read_patches.ensures.shown c.viewers_read_patches.ensures.idle

pub returns-clause-rounds : goal.returns-clause-rounds
returns-clause-rounds c =
    rounds_are_shown c.one_cut.ensures.cut c.viewers_read_updates.ensures.shown c.viewers_read_updates.ensures.idle c.viewers_read_patches.ensures.shown c.viewers_read_patches.ensures.idle
