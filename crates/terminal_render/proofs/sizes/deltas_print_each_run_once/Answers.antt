use Rattle.terminal_render.proofs.PrintedLemmas.{lists_print}
use Rattle.terminal_render.proofs.sizes.deltas_print_each_run_once.Goals as goal

pub returns : goal.returns
returns c = lists_print
