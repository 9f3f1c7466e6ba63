-- Facts about single characters from the tables, for cutting a text into clusters.
use Rattle.std.proofs.Common.{◌≡◌, ℕ, ◌<◌, Bool, true, false, not, ◌||◌, ◌==◌, refl, eqb-true}
use Rattle.ucd_table.proofs.Computing.{tables}
use Rattle.ucd_table.proofs.Facts.{Stepped-below, Stepped-everywhere}
use Rattle.ucd_table.proofs.Stepped.{zip_stepped}
use Rattle.ucd_breaks.specs.GraphemeClusterBreak.{grapheme_cluster_break, grapheme_cluster_break_number}
use Rattle.ucd_breaks.specs.declared.GraphemeClusterBreak.{GraphemeClusterBreak}
use Rattle.ucd_breaks.specs.declared.GraphemeClusterBreak.TheVariants.{Control, Cr, Extend, Lf, Other, Zwj}
use Rattle.ucd_breaks.proofs.Computing.{ucd_breaks}
use Rattle.ucd_breaks.proofs.GraphemeClusterBreakLemmas.{grapheme_cluster_break_stepped, grapheme_cluster_break_number_injective}
use Rattle.ucd_derived.specs.IndicConjunctBreak.{indic_conjunct_break}
use Rattle.ucd_derived.specs.declared.IndicConjunctBreak.{IndicConjunctBreak}
use Rattle.ucd_derived.specs.declared.IndicConjunctBreak.TheVariants as InCb
use Rattle.ucd_derived.proofs.Computing.{ucd_derived}
use Rattle.ucd_derived.proofs.IndicConjunctBreakLemmas.{indic_conjunct_break_stepped}
use Rattle.ucd_emoji.specs.Binary.{is_extended_pictographic}
use Rattle.ucd_emoji.proofs.BinaryLemmas.{is_extended_pictographic_stepped}
use Rattle.ucd_emoji.proofs.Computing.{ucd_emoji}
use Rattle.text_clusters.specs.Plain.{is_printable}

-- a character that joins the one before it, except after a control
abbrev pub joins_left : GraphemeClusterBreak → Bool
joins_left Extend = true
joins_left Zwj = true
joins_left _ = false

-- a control, or the end of a line
abbrev pub is_control : GraphemeClusterBreak → Bool
is_control Control = true
is_control Cr = true
is_control Lf = true
is_control _ = false

-- a character that a linker before it is seen across
abbrev pub is_conjunct_extend : IndicConjunctBreak → Bool
is_conjunct_extend InCb.Extend = true
is_conjunct_extend _ = false

abbrev pub is_conjunct_mark : IndicConjunctBreak → Bool
is_conjunct_mark InCb.Extend = true
is_conjunct_mark InCb.Linker = true
is_conjunct_mark _ = false

pub implies_from : (a b : Bool) → (not a || b) ≡ true → a ≡ true → b ≡ true
implies_from true b e h = e
implies_from false b e h = absurd (cc)

pub extend_joins_left : (c : ℕ) → is_conjunct_extend (indic_conjunct_break c) ≡ true → joins_left (grapheme_cluster_break c) ≡ true
unfolding tables ucd_breaks ucd_derived
extend_joins_left c = implies_from (is_conjunct_extend (indic_conjunct_break c)) (joins_left (grapheme_cluster_break c))
    (Stepped-everywhere (λ x. not (is_conjunct_extend (indic_conjunct_break x)) || joins_left (grapheme_cluster_break x))
    (zip_stepped (λ i g. not (is_conjunct_extend i) || joins_left g) indic_conjunct_break grapheme_cluster_break indic_conjunct_break_stepped grapheme_cluster_break_stepped) refl c)

pub control_is_no_mark : (c : ℕ) → is_control (grapheme_cluster_break c) ≡ true → not (is_conjunct_mark (indic_conjunct_break c)) ≡ true
unfolding tables ucd_breaks ucd_derived
control_is_no_mark c = implies_from (is_control (grapheme_cluster_break c)) (not (is_conjunct_mark (indic_conjunct_break c)))
    (Stepped-everywhere (λ x. not (is_control (grapheme_cluster_break x)) || not (is_conjunct_mark (indic_conjunct_break x)))
    (zip_stepped (λ g i. not (is_control g) || not (is_conjunct_mark i)) grapheme_cluster_break indic_conjunct_break grapheme_cluster_break_stepped indic_conjunct_break_stepped) refl c)

pub control_is_no_pictograph : (c : ℕ) → is_control (grapheme_cluster_break c) ≡ true → not (is_extended_pictographic c) ≡ true
unfolding tables ucd_breaks ucd_emoji
control_is_no_pictograph c = implies_from (is_control (grapheme_cluster_break c)) (not (is_extended_pictographic c))
    (Stepped-everywhere (λ x. not (is_control (grapheme_cluster_break x)) || not (is_extended_pictographic x))
    (zip_stepped (λ g p. not (is_control g) || not p) grapheme_cluster_break is_extended_pictographic grapheme_cluster_break_stepped is_extended_pictographic_stepped) refl c)

pub printable_is_other : (c : ℕ) → c < 127 → is_printable c ≡ true → Other ≡ grapheme_cluster_break c
unfolding ucd_breaks
printable_is_other c below p =
    grapheme_cluster_break_number_injective _ _ (eqb-true _ _ (implies_from (is_printable c) (grapheme_cluster_break_number Other == grapheme_cluster_break_number (grapheme_cluster_break c))
    (Stepped-below grapheme_cluster_break grapheme_cluster_break_stepped (λ x v. not (is_printable x) || (grapheme_cluster_break_number Other == grapheme_cluster_break_number v)) 127 refl c below) p))
