use Rattle.std.proofs.Common.{◌≡◌, ◌∙◌, ◌-◌, ◌++◌, ◌∷◌, [], ap, sym, get_or, set, true, arith}
use Rattle.cell_base.specs.Attributes.{Attributes}
use Rattle.cell_base.specs.declared.ranges.ZoneRange.{ZoneRange}
use Rattle.cell_views.specs.CellRefView.{shown_by}
use Rattle.cell_views.specs.Zones.{same_type, zone_column}
use Rattle.cell_views.specs.OpenZones.{zone_from}
use Rattle.cell_edits.proofs.CellLemmas.{get_or-default}
use Rattle.cell_views.proofs.ZoneLemmas.{ending_at, joined_same, joined_other, joined_first}
use Rattle.cell_views.proofs.zones.join.Goals as goal
use Rattle.cell_views.proofs.zones.join.Goals.{else-count-gt0-via-then-count-gt0+else-same_type, else-count-gt0-via-else-count-gt0}

pub returns-then-same_type : goal.returns-then-same_type
returns-then-same_type c =
    let zones = c.args.zones.now.items in
    let k = c.len-count.result - 1 in
    let v = shown_by c.args.cell.now in
    let d = c.index_mut.result.now in
    let p : get_or zones k d ≡ c.index.result.now = get_or-default zones k d c.index.result.now (omega arith) ∙ sym c.index.ensures in
    let q : v.cell.attributes.semantic_type ≡ c.semantic_type-semantic_type.result = sym (c.semantic_type-semantic_type.ensures ∙ ap (λ (a : Attributes). a.semantic_type) c.attrs.ensures) in
    let test : same_type (get_or zones k d).semantic_type v.cell.attributes.semantic_type ≡ true = (λ i. same_type (p i).semantic_type (q i)) ∙ sym c.same_type.ensures ∙ c.if-same_type.true in
    let column : c.zone_column-column.result ≡ zone_column v.column = c.zone_column-column.ensures ∙ ap zone_column c.cell_index.ensures in
    (λ i. set zones k (ending_at (c.index_mut.ensures.value i) (column i))) ∙ joined_same zones v k d (omega arith) test

pub returns-in_ok-push : goal.returns-in_ok-push
returns-in_ok-push c =
    let zones = c.args.zones.now.items in
    let k = c.len-count.result - 1 in
    let v = shown_by c.args.cell.now in
    let q : v.cell.attributes.semantic_type ≡ c.semantic_type-semantic_type.result = sym (c.semantic_type-semantic_type.ensures ∙ ap (λ (a : Attributes). a.semantic_type) c.attrs.ensures) in
    let column : c.zone_column-column.result ≡ zone_column v.column = c.zone_column-column.ensures ∙ ap zone_column c.cell_index.ensures in
    let zone : record { semantic_type = c.semantic_type-semantic_type.result; range = record { start = c.zone_column-column.result; «end» = c.zone_column-column.result } } ≡ zone_from v =
    λ i. record { semantic_type = sym q i; range = record { start = column i; «end» = column i } } in
    c.in_ok-push.ensures.items ∙ ap (λ (z : ZoneRange). zones ++ z ∷ []) zone
    ∙ elim c.else-count-gt0.branch [
      | else-count-gt0-via-then-count-gt0+else-same_type w ↦
          let p : get_or zones k w.index.result.now ≡ w.index.result.now = sym w.index.ensures in
          joined_other zones v k w.index.result.now (omega arith) ((λ i. same_type (p i).semantic_type (q i)) ∙ sym w.same_type.ensures ∙ w.if-same_type.false)
      | else-count-gt0-via-else-count-gt0 w ↦ joined_first zones v (omega arith)
    ]
