use Rattle.terminal_viewers.proofs.InputLemmas.{input_is_shown, input_leaves_idle}
use Rattle.terminal_viewers.proofs.viewers.updates_show_the_input.Goals as goal

pub returns-clause-shown : goal.returns-clause-shown
returns-clause-shown c = λ width_of width height every input narrow.
    input_is_shown c.one_cut.ensures.cut c.viewers_read_updates.ensures.shown c.viewers_read_updates.ensures.idle width_of narrow c.actions_of_chunks_join.ensures width height every input

pub returns-clause-idle : goal.returns-clause-idle
returns-clause-idle c = λ width_of width height every input narrow.
    input_leaves_idle c.one_cut.ensures.cut c.viewers_read_updates.ensures.shown c.viewers_read_updates.ensures.idle width_of narrow c.actions_of_chunks_join.ensures width height every input
