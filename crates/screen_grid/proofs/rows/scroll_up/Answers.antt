use Rattle.std.proofs.Common.{◌≡◌, ◌-◌, ◌++◌, List, length, take, drop, map, ap, ◌∙◌}
use Rattle.std.specs.Prelude.{ℕ}
use Rattle.cell_line.specs.LineContent.{LineContent}
use Rattle.screen_grid.specs.Rows.{cleared}
use Rattle.screen_grid.proofs.MoveLemmas.{moved_up}
use Rattle.screen_grid.proofs.RingLemmas.{refilled}
use Rattle.screen_grid.proofs.rows.scroll_up.Goals as goal

abbrev moved : {X : Type 0} → ℕ → ℕ → ℕ → List X → List X
moved first after count l = take first l ++ (drop count (take (after - first) (drop first l)) ++ take count (take (after - first) (drop first l))) ++ drop after l

pub returns : goal.returns
returns c =
    let now = c.args.rows.now in
    let same : length c.rotate_up.new.items ≡ length now = c.rotate_up.auto.items ∙ ap length c.as_mut_slice.ensures.value in
    let new = refilled now c.rotate_up.new.items same in
    let rotated = c.rotate_up.ensures ∙ ap (moved c.args.first c.args.after c.args.count) c.as_mut_slice.ensures.value in
    c.clear_rows.ensures ∙ ap (λ (l : List LineContent). take (c.args.after - c.args.count) l ++ map cleared (take (c.args.after - (c.args.after - c.args.count)) (drop (c.args.after - c.args.count) l)) ++ drop c.args.after l) new
    ∙ moved_up cleared now c.rotate_up.new.items c.args.first c.args.after c.args.count c.requires.order c.requires.within c.requires.fits rotated
