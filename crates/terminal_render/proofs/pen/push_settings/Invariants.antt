-- the actions so far, and those of the settings that are left, are the whole
use Rattle.std.proofs.Common.{◌≡◌, ◌++◌, ◌∷◌, drop}
use Rattle.std.specs.List.{flat_map}
use Rattle.csi_codec.specs.declared.rendition.Sgr.TheVariants.{Reset}
use Rattle.terminal_render.specs.Pen.{rendition, set}
use Rattle.terminal_render.proofs.pen.push_settings.Given as goal

abbrev pub invariant-loop-value : goal.invariant-loop-value
invariant-loop-value l = l.actions ++ flat_map set (drop l.value-index l.value-items) ≡ l.fn.actions ++ rendition Reset ∷ flat_map set l.fn.values
