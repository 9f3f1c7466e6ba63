use Rattle.std.proofs.Common.{rules, ◌+◌, ◌≤◌, length, length-drop, option_map, arith, ap, sym, ◌∙◌}
use Rattle.csi_codec.specs.Actions.{mode}
use Rattle.csi_codec.specs.Actions.{found_mode}
use Rattle.csi_codec.specs.Parsing.{kind_of}
use Rattle.csi_codec.proofs.PieceLemmas.{group_of_takes}
use Rattle.csi_codec.proofs.CoordinateLemmas.{mode_next, no_mode}
use Rattle.csi_codec.proofs.param_cursor.ParamCursor.mode.Goals as goal

pub overflow_add-self : goal.overflow_add-self
overflow_add-self c =
    let takes = group_of_takes (kind_of c.args.kind) c.args.control c.after.result.now (mode c.in-Some.value) c.in-Some.len (sym c.mode_group.ensures ∙ ap (option_map found_mode) c.in-Some.is) in
    let within : c.args.start + c.in-Some.len ≤ length c.args.params.now = omega (arith, takes.1, c.requires.within, ap length c.after.ensures, length-drop c.args.start c.args.params.now) in
    search rules

pub returns-in-Some : goal.returns-in-Some
returns-in-Some c =
    mode_next c.args.self.now.index c.args.start c.in-Some.len (kind_of c.args.kind) c.args.params.now c.after.result.now _ c.args.truncated c.args.control (mode c.in-Some.value)
    c.after.ensures c.requires.kind (sym c.mode_group.ensures ∙ ap (option_map found_mode) c.in-Some.is) c.requires.modes

pub rest-requires-clause-last : goal.rest-requires-clause-last
rest-requires-clause-last c = c.requires.modes ∙ no_mode c.args.start (kind_of c.args.kind) c.args.params.now c.after.result.now _ c.args.truncated c.args.control
    c.after.ensures (sym c.mode_group.ensures ∙ ap (option_map found_mode) c.in-None.is)
