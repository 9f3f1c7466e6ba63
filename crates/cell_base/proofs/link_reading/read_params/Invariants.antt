use Rattle.std.proofs.Common.{◌≡◌, map}
use Rattle.cell_base.specs.Link.{texts_of}
use Rattle.cell_base.specs.LinkText.{by_key, param_of}
use Rattle.cell_base.proofs.link_reading.read_params.Given as goal

abbrev pub invariant-loop-pair : goal.invariant-loop-pair
invariant-loop-pair l = texts_of l.params.entries ≡ by_key (map (λ t. param_of t.now) l.yielded)
