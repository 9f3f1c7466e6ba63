use Rattle.std.proofs.Common.{◌≡◌, ◌++◌, List, ℕ, subst}
use Rattle.std.specs.Prelude.{OnOk}
use Rattle.screen_change.specs.CutView.{cells_of}
use Rattle.screen_change.proofs.StepLemmas.{alone_each, alone_utf8}
use Rattle.screen_change.proofs.cut_cells.CutCells.push.Goals as goal

pub push_bytes-requires : goal.push_bytes-requires
push_bytes-requires c = alone_utf8 c.args.text.now c.if-text-eq1.true c.utf8.text

pub returns-then-text-eq1 : goal.returns-then-text-eq1
returns-then-text-eq1 c =
    subst (λ (more : List (List ℕ)). OnOk c.push_bytes.result (cells_of c.push_bytes.new.self ≡ cells_of c.args.self.now ++ more)) (alone_each c.args.text.now c.if-text-eq1.true) c.push_bytes.ensures
