use Rattle.std.proofs.Common.{rules, [], ◌∷◌, map, SFits, w64, sym, ap, ◌∙◌}
use mir.Val.{to_z, of_z}
use Rattle.std.specs.Prelude.{ℤ}
use Rattle.std.specs.Int.{int_max, int_min}
use Rattle.std.proofs.lemmas.Int.{to_z-of_z}
use Rattle.std.proofs.lemmas.List.{map-append}
use Rattle.screen_change.specs.ValueOf.{value_of}
use Rattle.change_sequence.specs.Sequence.{Sequence, change_moved, with_change}
use Rattle.change_sequence.specs.SequenceView.{sequence_of}
use Rattle.change_sequence.proofs.PushLemmas.{drawn_pushed, other_pushed}
use Rattle.change_sequence.proofs.sequence.ChangeSequence.push.Goals as goal

pub returns-then-is_drawn-clause-added : goal.returns-then-is_drawn-clause-added
returns-then-is_drawn-clause-added g c =
    let fits : SFits w64 c.after-column.result.1 = search rules in
    let row : ℤ = to_z w64 (of_z w64 c.after-column.result.1) in
    let was : SFits w64 c.self.inside.row = search rules in
    let moved = c.after-column.ensures.moved ∙ ap (λ (z : ℤ). change_moved (g.W.Widths.width_of c.self.inside.widths) c.self.inside.columns c.self.inside.rows (record { column = c.self.inside.column; row = z }) (value_of c.args.change)) (to_z-of_z w64 c.self.inside.row was) in
    let least : SFits w64 c.self.inside.lowest = search rules in
    let greatest : SFits w64 c.self.inside.highest = search rules in
    let low : SFits w64 c.min-self-inside.result = search rules in
    let high : SFits w64 c.max-self-inside.result = search rules in
    let changes = ap (map value_of) c.in_ok-push.ensures.items ∙ map-append value_of c.self.inside.changes.items (c.args.change ∷ []) in
    drawn_pushed (g.W.Widths.width_of c.self.inside.widths) (sequence_of c.self.inside) (value_of c.args.change) c.after-column.result _ _
    moved (to_z-of_z w64 c.after-column.result.1 fits) changes _ _
    (sym c.is_drawn-is_drawn.ensures ∙ c.if-is_drawn.true)
    (to_z-of_z w64 c.min-self-inside.result low ∙ c.min-self-inside.ensures.value ∙ ap (λ (z : ℤ). int_min z row) (to_z-of_z w64 c.self.inside.lowest least))
    (to_z-of_z w64 c.max-self-inside.result high ∙ c.max-self-inside.ensures.value ∙ ap (λ (z : ℤ). int_max z row) (to_z-of_z w64 c.self.inside.highest greatest))
    ∙ ap (λ (s : Sequence g.row.W.Denot). with_change (g.W.Widths.width_of s.widths) s (value_of c.args.change)) c.self.view_is

pub returns-else-is_drawn-clause-added : goal.returns-else-is_drawn-clause-added
returns-else-is_drawn-clause-added g c =
    let fits : SFits w64 c.after-column.result.1 = search rules in
    let row : ℤ = to_z w64 (of_z w64 c.after-column.result.1) in
    let was : SFits w64 c.self.inside.row = search rules in
    let moved = c.after-column.ensures.moved ∙ ap (λ (z : ℤ). change_moved (g.W.Widths.width_of c.self.inside.widths) c.self.inside.columns c.self.inside.rows (record { column = c.self.inside.column; row = z }) (value_of c.args.change)) (to_z-of_z w64 c.self.inside.row was) in
    let changes = ap (map value_of) c.in_ok-push.ensures.items ∙ map-append value_of c.self.inside.changes.items (c.args.change ∷ []) in
    other_pushed (g.W.Widths.width_of c.self.inside.widths) (sequence_of c.self.inside) (value_of c.args.change) c.after-column.result _ _
    moved (to_z-of_z w64 c.after-column.result.1 fits) changes
    (sym c.is_drawn-is_drawn.ensures ∙ c.if-is_drawn.false)
    ∙ ap (λ (s : Sequence g.row.W.Denot). with_change (g.W.Widths.width_of s.widths) s (value_of c.args.change)) c.self.view_is
