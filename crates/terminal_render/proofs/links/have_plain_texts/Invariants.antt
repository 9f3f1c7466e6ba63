-- the test of the texts that are left has the result of the test of all texts
use Rattle.std.proofs.Common.{◌≡◌}
use Rattle.std.specs.List.{list_all}
use Rattle.cell_base.specs.Link.{texts_of}
use Rattle.terminal_render.specs.Links.{is_plain_param}
use Rattle.terminal_render.proofs.links.have_plain_texts.Given as goal

abbrev pub invariant-loop-key : goal.invariant-loop-key
invariant-loop-key l = list_all is_plain_param (texts_of l.key-iterator) ≡ list_all is_plain_param (texts_of l.params.entries)
