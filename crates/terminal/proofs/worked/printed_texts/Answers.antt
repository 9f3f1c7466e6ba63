-- each computes
use Rattle.std.proofs.Common.{◌≡◌, true, false, refl}
use Rattle.terminal_table.proofs.Computing.{table}
use Rattle.terminal.proofs.worked.printed_texts.Goals as goal

pub returns-clause-wraps : goal.returns-clause-wraps
unfolding table
returns-clause-wraps c = refl

pub returns-clause-plain : goal.returns-clause-plain
unfolding table
returns-clause-plain c = (
  record { rows = refl; still = refl; run = λ ends. refl; put = λ ends. refl },
  (
    record { rows = refl; still = refl; run = λ ends. refl; put = λ ends. refl },
    (record { rows = refl; still = refl; run = λ ends. refl; put = λ ends. refl }, (record { rows = refl; still = refl; run = λ ends. refl; put = λ ends. refl }, tt)),
  ),
)

pub returns-clause-scrolls : goal.returns-clause-scrolls
unfolding table
returns-clause-scrolls c = refl

pub returns-clause-not_plain : goal.returns-clause-not_plain
unfolding table
returns-clause-not_plain c = λ plain. let e : true ≡ false = plain.1.1.1.0.run refl in cc
