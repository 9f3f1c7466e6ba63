-- each computes
use Rattle.std.proofs.Common.{refl}
use Rattle.screen_change.specs.CellRuns.{is_blank_of}
use Rattle.terminal_render.proofs.Computing.{sending}
use Rattle.terminal_table.proofs.Computing.{table}
use Rattle.terminal.proofs.WorkedLemmas.{attributes_alike, full_bytes, short_bytes}
use Rattle.terminal.proofs.worked.encoded_updates.Goals as goal

pub returns-clause-blank : goal.returns-clause-blank
unfolding table sending is_blank_of
returns-clause-blank c = simp attributes_alike

pub returns-clause-full : goal.returns-clause-full
returns-clause-full c = full_bytes

pub returns-clause-next : goal.returns-clause-next
unfolding table sending
returns-clause-next c = refl

pub returns-clause-short : goal.returns-clause-short
returns-clause-short c = short_bytes
