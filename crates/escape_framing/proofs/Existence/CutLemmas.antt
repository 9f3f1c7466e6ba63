-- The plain reading cuts each stream.
use Rattle.std.proofs.Common.{◌≡◌, ℕ, inl, true, List, [], ◌∷◌, ◌++◌, refl, sym, ap, subst, ◌∙◌, append_assoc}
use Rattle.std.specs.List.{flat_map}
use Rattle.escape_framing.specs.SevenBit.{seven_bit}
use Rattle.escape_framing.specs.Segment.{Tail, Begun, bytes_of_tail, Segment, bytes_of, IsUnfinished, IsSegment, StandInRow, IsCut}
use Rattle.escape_framing.specs.Decode.{Reading, next_byte, read_on}
use Rattle.escape_framing.specs.Cut.{the_cut, tail_of}
use Rattle.escape_framing.proofs.Existence.Utf8Lemmas.{append_nil}
use Rattle.escape_framing.proofs.Existence.SevenBitLemmas.{no_pair, no_pair_prefix, no_pair_after, no_pair_form}
use Rattle.escape_framing.proofs.Existence.StepLemmas.{Adds}
use Rattle.escape_framing.proofs.Existence.SequenceLemmas.{adds_next}
use Rattle.std.proofs.lemmas.Grind.{flat_map-append}

row_append : (ss ds : List Segment) (t : List ℕ) → StandInRow ss (flat_map bytes_of ds ++ t) → StandInRow ds t → StandInRow (ss ++ ds) t
row_append [] ds t h k = k
row_append (s ∷ ss) ds t h k =
    (subst (IsSegment s) (sym (ap (λ l. l ++ t) (flat_map-append bytes_of ss ds) ∙ append_assoc (flat_map bytes_of ss) (flat_map bytes_of ds) t)) h.0, row_append ss ds t h.1 k)

-- the cut that a reading makes of bytes: joined it is the bytes, the tail is unfinished, and each segment may come before the rest
pub record Cuts (bytes : List ℕ) (r : Reading) : Type 0 where
  pub joined : flat_map bytes_of r.segments ++ bytes_of_tail r.tail ≡ bytes
  pub unfinished : IsUnfinished r.tail
  pub each : no_pair bytes ≡ true → StandInRow r.segments (bytes_of_tail r.tail)

cuts_step : (t : Tail) (b : ℕ) (bytes : List ℕ) → Adds (bytes_of_tail t ++ b ∷ []) (next_byte t b) → Cuts (bytes_of_tail (next_byte t b).tail ++ bytes) (read_on (next_byte t b).tail bytes)
    → Cuts (bytes_of_tail t ++ b ∷ bytes) (record { segments = (next_byte t b).segments ++ (read_on (next_byte t b).tail bytes).segments; tail = (read_on (next_byte t b).tail bytes).tail })
cuts_step t b bytes a c = record {
  joined = ap (λ l. l ++ bytes_of_tail rest.tail) (flat_map-append bytes_of step.segments rest.segments) ∙ append_assoc (flat_map bytes_of step.segments) (flat_map bytes_of rest.segments) (bytes_of_tail rest.tail)
      ∙ ap (λ l. flat_map bytes_of step.segments ++ l) c.joined ∙ whole;
  unfinished = c.unfinished;
  each = λ p. row_append step.segments rest.segments (bytes_of_tail rest.tail)
      (subst (StandInRow step.segments) (sym c.joined) (a.each (no_pair_prefix (bytes_of_tail t ++ b ∷ []) bytes (subst (λ l. no_pair l ≡ true) (sym split) p)) bytes))
      (c.each (no_pair_after (flat_map bytes_of step.segments) (bytes_of_tail step.tail ++ bytes) (subst (λ l. no_pair l ≡ true) (sym whole) p)));
}
  where
    step : Reading
    step = next_byte t b

    rest : Reading
    rest = read_on (next_byte t b).tail bytes

    split : (bytes_of_tail t ++ b ∷ []) ++ bytes ≡ bytes_of_tail t ++ b ∷ bytes
    split = append_assoc (bytes_of_tail t) (b ∷ []) bytes

    whole : flat_map bytes_of (next_byte t b).segments ++ (bytes_of_tail (next_byte t b).tail ++ bytes) ≡ bytes_of_tail t ++ b ∷ bytes
    whole = sym (append_assoc (flat_map bytes_of (next_byte t b).segments) (bytes_of_tail (next_byte t b).tail) bytes) ∙ ap (λ l. l ++ bytes) a.joined ∙ split

pub cuts_on : (t : Tail) (bytes : List ℕ) → IsUnfinished t → Cuts (bytes_of_tail t ++ bytes) (read_on t bytes)
unfolding read_on
cuts_on t [] g = record { joined = sym (append_nil (bytes_of_tail t)); unfinished = g; each = λ p. tt }
cuts_on t (b ∷ bytes) g =
    let a = adds_next t b g in
    cuts_step t b bytes a (cuts_on (next_byte t b).tail bytes a.unfinished)

pub is_the_cut : (stream : List ℕ) → IsCut stream (the_cut stream).segments (tail_of stream)
unfolding the_cut
is_the_cut stream =
    let c = cuts_on (Begun []) (seven_bit stream) (inl refl) in
    record { joined = sym c.joined; each = c.each (no_pair_form stream); unfinished = c.unfinished }
