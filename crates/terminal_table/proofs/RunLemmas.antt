-- Runs of printed characters: they hold no controls, so that a text that is logged puts their clusters and does nothing else.
use Rattle.std.proofs.Common.{◌≡◌, ℕ, ◌+◌, ◌≤◌, ◌/◌, ◌%◌, inl, inr, Bool, true, false, List, [], ◌∷◌, ◌++◌, map, fold, refl, sym, ap, subst, ◌∙◌, arith}
use Rattle.std.specs.Prelude.{◌&&◌, not, encode_utf8}
use Rattle.std.specs.List.{flat_map, list_all}
use Rattle.std.specs.Char.{IsScalar, is_ascii_control}
use Rattle.std.proofs.lemmas.Bool.{and_parts}
use Rattle.std.proofs.lemmas.Bool.Decides.{nat_tests}
use Rattle.std.proofs.lemmas.List.Folds.{list_all-append}
use Rattle.std.proofs.lemmas.Str.{IsUtf8-append, IsUtf8-encode, IsUtf8-nil}
use Rattle.std.specs.Str.{chars}
use Rattle.unicode_segmentation.proofs.Computing.{unicode_segmentation}
use Rattle.cell_base.specs.Cluster.{clusters}
use Rattle.cell_base.specs.Screen.{put, put_run}
use Rattle.escape_framing.specs.Segment.{IsPrintable}
use Rattle.escape_framing.proofs.Existence.Utf8Lemmas.{Spelled, in_one, in_two, in_three, in_four, spelled}
use Rattle.screen_effects.specs.Display.{Display}
use Rattle.screen_effects.specs.Effect.{effect}
use Rattle.screen_effects.specs.Strokes.{Plain, Cluster, with_byte, text_parts, part_strokes, strokes, stroke_done}
use Rattle.terminal_table.specs.Changes.{run_change}
use Rattle.terminal_table.specs.RunText.{IsPrinted, IsRunText}
use Rattle.terminal_table.specs.Turns.{Turns}
use Rattle.terminal_table.proofs.ListLemmas.{append_nil}
use Rattle.terminal_table.proofs.TurnLemmas.{stroke_single}

abbrev is_plain : ℕ → Bool
is_plain b = not (is_ascii_control b)

-- ---- a text without controls is one part

no_control : (b : ℕ) → is_plain b ≡ true → is_ascii_control b ≡ false
no_control b h = by_test (is_ascii_control b) refl
  where
    by_test : (x : Bool) → is_ascii_control b ≡ x → is_ascii_control b ≡ false
    by_test false e = e
    by_test true e = absurd (grind (arith, nat_tests, h, e))

pub one_part : (b : ℕ) (text : List ℕ) → IsPrinted (b ∷ text) → text_parts (b ∷ text) ≡ Plain (b ∷ text) ∷ []
one_part b [] h = rw (no_control b (and_parts (is_plain b) true h).0) refl
one_part b (x ∷ text) h =
    let p = and_parts (is_plain b) (list_all is_plain (x ∷ text)) h in
    rw (no_control b p.0) (ap (with_byte b) (one_part x text p.1))

pub no_clusters : clusters [] ≡ []
unfolding unicode_segmentation chars
no_clusters = refl

-- its strokes put its clusters
pub printed_strokes : (text : List ℕ) → IsPrinted text → strokes text ≡ map Cluster (clusters text)
printed_strokes [] h = ap (map Cluster) (sym no_clusters)
printed_strokes (b ∷ text) h = ap (flat_map part_strokes) (one_part b text h) ∙ append_nil (map Cluster (clusters (b ∷ text)))

clusters_put : (width_of : List ℕ → ℕ) (texts : List (List ℕ)) (d : Display) → Turns d (fold (stroke_done width_of) d (map Cluster texts)) (fold (put width_of) d.screen texts)
clusters_put width_of [] d = record { screen = refl; shape = refl; sizes = λ h. h }
clusters_put width_of (text ∷ texts) d =
    let rest = clusters_put width_of texts (stroke_done width_of d (Cluster text)) in
    record { screen = rest.screen; shape = rest.shape; sizes = λ h. rest.sizes (stroke_single width_of d (Cluster text) h) }

pub run_turns : (width_of : List ℕ → ℕ) (text : List ℕ) (d : Display) → IsPrinted text → Turns d (effect width_of d (run_change text)) (put_run width_of d.screen text)
run_turns width_of text d h = subst (λ s. Turns d (fold (stroke_done width_of) d s) (put_run width_of d.screen text)) (sym (printed_strokes text h)) (clusters_put width_of (clusters text) d)

-- ---- characters that are printed

low_plain : (b : ℕ) → 0x20 ≤ b → b ≤ 0x7E → is_plain b ≡ true
low_plain b l u = grind (arith, nat_tests)

high_plain : (b : ℕ) → 128 ≤ b → is_plain b ≡ true
high_plain b l = grind (arith, nat_tests)

spelled_printed : (c : ℕ) → IsPrintable c → Spelled c → IsPrinted (encode_utf8 c)
spelled_printed c (inl p) (in_one l e) = rw (e, low_plain c p.0 p.1) refl
spelled_printed c (inr p) (in_one l e) = absurd (omega arith)
spelled_printed c p (in_two g l e) = rw (e, high_plain (192 + c / 64) (omega arith), high_plain (128 + c % 64) (omega arith)) refl
spelled_printed c p (in_three g l s e) = rw (e, high_plain (224 + c / 4096) (omega arith), high_plain (128 + (c / 64) % 64) (omega arith), high_plain (128 + c % 64) (omega arith)) refl
spelled_printed c p (in_four g l e) = rw (e, high_plain (240 + c / 262144) (omega arith), high_plain (128 + (c / 4096) % 64) (omega arith), high_plain (128 + (c / 64) % 64) (omega arith), high_plain (128 + c % 64) (omega arith)) refl

pub character_printed : (c : ℕ) → IsScalar c → IsPrintable c → IsPrinted (encode_utf8 c)
character_printed c s p = spelled_printed c p (spelled c s)

pub printed_append : (text more : List ℕ) → IsPrinted text → IsPrinted more → IsPrinted (text ++ more)
printed_append text more h k = list_all-append is_plain text more ∙ (λ i. h i && k i)

-- ---- texts of runs

pub no_text : IsRunText []
no_text = record { utf8 = IsUtf8-nil; printed = refl }

pub character_runs : (c : ℕ) → IsScalar c → IsPrintable c → IsRunText (encode_utf8 c)
character_runs c s p = record { utf8 = IsUtf8-encode c s; printed = character_printed c s p }

pub text_append : (text more : List ℕ) → IsRunText text → IsRunText more → IsRunText (text ++ more)
text_append text more h k = record { utf8 = IsUtf8-append text more h.utf8 k.utf8; printed = printed_append text more h.printed k.printed }
