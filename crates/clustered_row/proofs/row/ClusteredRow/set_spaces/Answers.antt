use Rattle.std.proofs.Common.{◌≡◌, ◌∙◌, ◌+◌, ◌-◌, ap, replicate, arith}
use Rattle.std.specs.List.{list_all}
use Rattle.text_clusters.specs.Plain.{is_printable}
use Rattle.cell_base.specs.Row.{blank, set_columns}
use Rattle.clustered_row.proofs.SetLemmas.{blanks_on, spaces_printable, spaces_set}
use Rattle.clustered_row.proofs.row.ClusteredRow.set_spaces.Goals as goal

pub loop-at-preserved : goal.loop-at-preserved
loop-at-preserved c =
    let a = c.args.attrs.now in
    let row = c.loop-at.self in
    let at = c.loop-at.at in
    let len = c.loop-at.invariant.len in
    let order = c.loop-at.invariant.order in
    let within = c.requires.within in
    let more = c.loop-at-test.true in
    let set : c.set_plain_elsewhere.new.self ≡ set_columns row at (replicate 64 (blank a)) = c.in_ok-set_plain_elsewhere.ensures.done ∙ spaces_set row at 64 c.spaces.result.now a c.spaces.ensures in
    let left : 64 + (c.args.end - (at + 64)) ≡ c.args.end - at = omega (arith, order, more) in
    record {
      len = c.in_ok-set_plain_elsewhere.ensures.len ∙ len;
      order = omega (arith, more);
      leads = blanks_on row c.set_plain_elsewhere.new.self at 64 (c.args.end - (at + 64)) a set (omega (arith, len, within, more))
          ∙ ap (λ n. set_columns row at (replicate n (blank a))) left ∙ c.loop-at.invariant.leads;
    }

pub set_plain_elsewhere-requires-2-clause-printable : goal.set_plain_elsewhere-requires-2-clause-printable
set_plain_elsewhere-requires-2-clause-printable c = ap (list_all is_printable) c.spaces-2.ensures ∙ spaces_printable (c.args.end - c.loop-at.at)

pub returns-clause-done : goal.returns-clause-done
returns-clause-done c =
    c.in_ok-set_plain_elsewhere-2.ensures.done ∙ spaces_set c.loop-at.self c.loop-at.at (c.args.end - c.loop-at.at) c.spaces-2.result.now c.args.attrs.now c.spaces-2.ensures
    ∙ c.loop-at.invariant.leads
