use Rattle.terminal_render.proofs.SizeLemmas.{renderings_are_short, texts_are_short, runs_are_short}
use Rattle.terminal_render.proofs.laws.renderings_are_short.Goals as goal

pub returns-clause-remaining : goal.returns-clause-remaining
returns-clause-remaining c = renderings_are_short c.writable_texts_are_short.ensures.action c.text_lengths.ensures.texts c.text_lengths.ensures.links c.text_lengths.ensures.end_of_link

pub returns-clause-texts : goal.returns-clause-texts
returns-clause-texts c = texts_are_short

pub returns-clause-runs : goal.returns-clause-runs
returns-clause-runs c = runs_are_short
