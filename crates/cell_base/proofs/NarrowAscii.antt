-- The program's width of a printable ASCII character.
use Rattle.std.proofs.Common.{◌≡◌, ℕ, Bool, true, not, ◌||◌, ◌==◌, [], ◌∷◌, refl, eqb-true}
use Rattle.std.specs.Str.{chars}
use Rattle.ucd_table.proofs.TrieCheck.{all_below, all_below-at}
use Rattle.unicode_width.proofs.Computing.{unicode_width}
use Rattle.text_clusters.specs.Plain.{is_printable}
use Rattle.text_clusters.proofs.PlainLemmas.{printable_below}
use Rattle.text_clusters.proofs.CharacterFacts.{implies_from}
use Rattle.cell_base.specs.Cluster.{program_width}

is_narrow : ℕ → Bool
is_narrow byte = not (is_printable byte) || program_width (byte ∷ []) == 1

all_narrow : all_below is_narrow 127 ≡ true
unfolding all_below is_narrow program_width chars unicode_width
all_narrow = refl

pub narrow_ascii : (byte : ℕ) → is_printable byte ≡ true → program_width (byte ∷ []) ≡ 1
unfolding is_narrow
narrow_ascii byte h = eqb-true _ 1 (implies_from (is_printable byte) (program_width (byte ∷ []) == 1) (all_below-at is_narrow 127 byte all_narrow (printable_below byte h)) h)
