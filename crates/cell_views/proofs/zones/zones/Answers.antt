use Rattle.std.proofs.Common.{ℕ, List, Option, ◌∙◌, [], sym, ap}
use Rattle.std.specs.Prelude.{fold, filter, map}
use Rattle.cell_views.specs.StoredCells.{stored_row}
use Rattle.cell_edits.specs.VisibleCells.{VisibleCell, visible_cells}
use Rattle.cell_views.specs.Groups.{groups_by}
use Rattle.cell_views.specs.Zones.{is_plain_cell, begins_zone, zone_of}
use Rattle.cell_views.specs.OpenZones.{joined_zone, last_kept, is_kept_by}
use Rattle.cell_views.proofs.KeptLemmas.{in_order, kept_or_all}
use Rattle.cell_views.proofs.ZoneLemmas.{zones_made}
use Rattle.cell_views.proofs.zones.zones.Goals as goal

pub returns : goal.returns
returns c =
    let cells = visible_cells (stored_row c.args.cells) in
    ap (λ (left : List VisibleCell). fold joined_zone c.loop-cell.zones.items (filter (λ v. is_kept_by c.last_kept-last.result v.column) left)) (sym c.in-None.ensures.steps.0)
    ∙ c.loop-cell.invariant
    ∙ ap (λ (last : Option ℕ). fold joined_zone [] (filter (λ v. is_kept_by last v.column) cells)) c.last_kept-last.ensures
    ∙ zones_made (filter (λ v. is_kept_by (last_kept cells) v.column) cells)
    ∙ ap (λ vs. map zone_of (groups_by begins_zone vs)) (kept_or_all is_plain_cell cells (in_order 0 (stored_row c.args.cells)))
