-- When two lines are equal: where they show the same, however they are kept.
use Rattle.std.specs.Prelude.{Bool, false}
use Rattle.std.specs.Bool.{Decides}
use Rattle.std.specs.Cmp.{IsEquivalence}
use Rattle.cell_base.specs.SameValue.{is_same, is_same_decides, is_same_equivalence}
use Rattle.cell_line.specs.LineContent.{LineContent, SameShown}
use Rattle.cell_line.specs.contracts.line.Line.{the_row}

-- a line of cells that shows the same
abbrev of_cells : LineContent → LineContent
of_cells line = record line { clustered = false }

-- number, bits and columns are the same
pub same_line : LineContent → LineContent → Bool
same_line a b = is_same the_row.coded (of_cells a) (of_cells b)

pub same_line_decides : (a b : LineContent) → Decides (same_line a b) (SameShown a b)
unfolding same_line
same_line_decides a b =
    let both = is_same_decides the_row.coded (of_cells a) (of_cells b) in (
      λ e. let same =
          both.0 e in record
          { number = λ i. (same i).number; bits = λ i. (same i).bits; columns = λ i. (same i).columns },
      λ same. both.1
          (λ i. record { number = same.number i; bits = same.bits i; columns = same.columns i; clustered = false }),
    )

pub same_line_equivalence : IsEquivalence same_line
unfolding same_line
same_line_equivalence =
    let same = is_same_equivalence the_row.coded in
    record {
      refl = λ a. same.refl (of_cells a);
      symm = λ a b. same.symm (of_cells a) (of_cells b);
      congr = λ a b c. same.congr (of_cells a) (of_cells b) (of_cells c);
    }
