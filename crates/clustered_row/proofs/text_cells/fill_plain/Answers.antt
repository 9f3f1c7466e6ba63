use Rattle.std.proofs.Common.{◌≡◌, ◌∙◌, ◌-◌, ◌++◌, ℕ, zero, suc, [], ap, take, replicate, true, refl, List}
use Rattle.std.specs.List.{list_all}
use Rattle.clustered_row.specs.declared.cell_size.CellSize.{CellSize}
use Rattle.clustered_row.specs.Sizes.{is_plain}
use Rattle.clustered_row.proofs.SizeLemmas.{plain_copies}
use Rattle.clustered_row.proofs.text_cells.fill_plain.Goals as goal

none_taken : (n : ℕ) (sizes : List CellSize) → sizes ≡ [] → take n sizes ≡ []
none_taken zero sizes e = refl
none_taken (suc n) sizes e = ap (take (suc n)) e

filled : (n len : ℕ) (cleared now : List CellSize) (plain : CellSize) → is_plain plain ≡ true → cleared ≡ [] → now ≡ take n cleared ++ replicate (n - len) plain → list_all is_plain now ≡ true
filled n len cleared now plain k e f =
    ap (λ (s : List CellSize). list_all is_plain s) (f ∙ ap (λ (s : List CellSize). s ++ replicate (n - len) plain) (none_taken n cleared e)) ∙ plain_copies (n - len) plain k

pub returns-clause-plain : goal.returns-clause-plain
returns-clause-plain c =
    filled c.args.count c.clear.new.self.len c.clear.new.self.items c.resize.new.self.items _ refl c.clear.ensures.items c.in_ok-resize.ensures.items
