use Rattle.std.proofs.Common.{◌∙◌, ◌+◌, ap, sym, subst, arith, List}
use Rattle.clustered_row.specs.declared.cell_size.CellSize.{CellSize}
use Rattle.clustered_row.specs.SingleText.{begins_alone}
use Rattle.clustered_row.specs.Walk.{IsWalked}
use Rattle.clustered_row.proofs.AloneLemmas.{independent_alone}
use Rattle.clustered_row.proofs.WalkLemmas.{single_some, walk_more, walk_none}
use Rattle.clustered_row.proofs.fast.single_cells.single_cells.Goals as goal

pub returns-in_default : goal.returns-in_default
returns-in_default g c =
    subst (λ (s : List CellSize). IsWalked (g.W.Widths.width_of c.args.w.now) c.args.room c.args.text.now s 0 c.args.text.now) (sym c.clear.ensures.items)
    (walk_none (g.W.Widths.width_of c.args.w.now) c.args.room c.args.text.now c.utf8.text)

pub loop-next-init : goal.loop-next-init
loop-next-init g c = record {
  walked = subst (λ (s : List CellSize). IsWalked (g.W.Widths.width_of c.args.w.now) c.args.room c.args.text.now s 0 c.args.text.now) (sym c.clear.ensures.items)
      (walk_none (g.W.Widths.width_of c.args.w.now) c.args.room c.args.text.now c.utf8.text);
  text = c.utf8.text;
  after = c.after-rest.utf8;
  rest = c.after-rest.ensures;
  first = c.in-Some.ensures.single;
}

pub size_of-requires : goal.size_of-requires
size_of-requires g c = single_some (g.W.Widths.width_of c.args.w.now) c.loop-next.left.now c.loop-next.first.0 c.loop-next.first.1 c.loop-next.invariant.first

pub loop-next-preserved : goal.loop-next-preserved
loop-next-preserved g c =
    let f = g.W.Widths.width_of c.args.w.now in
    let n = c.loop-next.first.0 in
    let width = c.loop-next.first.1 in
    let walked = c.loop-next.invariant.walked in
    let within = walked.within in
    let rest = c.loop-next.invariant.rest in
    record {
      walked = subst (λ (s : List CellSize). IsWalked f c.args.room c.args.text.now s (c.loop-next.columns + width) c.loop-next.rest.now) (sym c.in_ok-push.ensures.items)
          (subst (IsWalked f c.args.room c.args.text.now _ (c.loop-next.columns + width)) (sym rest)
          (walk_more f c.args.room c.args.text.now c.loop-next.sizes.items c.loop-next.columns c.loop-next.left.now n width c.size_of.result walked c.loop-next.invariant.first c.loop-next.invariant.text
          c.size_of.ensures.len c.size_of.ensures.wide (ap begins_alone (sym rest) ∙ c.in-Some-first_single.ensures.alone) (omega (arith, within, c.if-room-columns.false))));
      text = c.loop-next.invariant.after;
      after = c.after-rest-in-Some-first_single.utf8;
      rest = c.after-rest-in-Some-first_single.ensures;
      first = c.in-Some-first_single.ensures.single;
    }

pub size_of-requires-2 : goal.size_of-requires-2
size_of-requires-2 g c = single_some (g.W.Widths.width_of c.args.w.now) c.loop-next.left.now c.loop-next.first.0 c.loop-next.first.1 c.loop-next.invariant.first

pub returns : goal.returns
returns g c =
    let f = g.W.Widths.width_of c.args.w.now in
    let n = c.loop-next.first.0 in
    let width = c.loop-next.first.1 in
    let walked = c.loop-next.invariant.walked in
    let within = walked.within in
    let rest = c.loop-next.invariant.rest in
    subst (λ (s : List CellSize). IsWalked f c.args.room c.args.text.now s (c.loop-next.columns + width) c.loop-next.rest.now) (sym c.in_ok-push-2.ensures.items)
    (subst (IsWalked f c.args.room c.args.text.now _ (c.loop-next.columns + width)) (sym rest)
    (walk_more f c.args.room c.args.text.now c.loop-next.sizes.items c.loop-next.columns c.loop-next.left.now n width c.size_of-2.result walked c.loop-next.invariant.first c.loop-next.invariant.text
    c.size_of-2.ensures.len c.size_of-2.ensures.wide (ap begins_alone (sym rest) ∙ independent_alone c.loop-next.rest.now (sym c.begins_independent.ensures ∙ c.if-not-begins_independent.false)) (omega (arith, within, c.if-room-columns-2.false))))
