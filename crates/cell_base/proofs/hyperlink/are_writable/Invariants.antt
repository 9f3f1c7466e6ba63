use Rattle.std.proofs.Common.{◌≡◌}
use Rattle.std.specs.List.{list_all}
use Rattle.cell_base.specs.Link.{texts_of}
use Rattle.cell_base.specs.LinkText.{is_writable}
use Rattle.cell_base.proofs.hyperlink.are_writable.Given as goal

-- the remaining parameters are writable exactly where all of them are
abbrev pub invariant-loop-key : goal.invariant-loop-key
invariant-loop-key l = list_all is_writable (texts_of l.key-iterator) ≡ list_all is_writable (texts_of l.params.entries)
