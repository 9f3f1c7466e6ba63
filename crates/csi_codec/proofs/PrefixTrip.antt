-- The text of each action of a spellable list is one sequence.
use Rattle.std.proofs.Common.{◌≡◌, ℕ, zero, suc, ◌<◌, ◌≤◌, ◌^◌, ltb, pos, negsuc, false, true, List, [], ◌∷◌, ◌++◌, length, length-append, take, drop, inl, inr, arith, refl, ap, sym, ◌∙◌, subst}
use Rattle.std.specs.Prelude.{flat_map, encode_utf8}
use Rattle.std.specs.Fmt.{decimal}
use Rattle.std.specs.List.{AllByRecursion}
use Rattle.std.proofs.lemmas.List.{take_all, length-drop}
use Rattle.std.proofs.lemmas.Bool.{and_parts, leb-true}
use Rattle.std.proofs.lemmas.Bool.Decides.{nat_tests}
use Rattle.std.proofs.lemmas.Str.{encode_ascii}
use Rattle.csi_codec.specs.declared.parameters.CsiParam.{CsiParam}
use Rattle.csi_codec.specs.declared.parameters.CsiParam.TheVariants.{Integer, P}
use Rattle.csi_codec.specs.Parameters.{token_text}
use Rattle.csi_codec.specs.Actions.{Action, unspecified, csi_reading, spelling_of}
use Rattle.csi_codec.specs.Sequences.{csi_text}
use Rattle.csi_codec.specs.Texts.{largest_number, is_sign, is_written_number, is_spellable, tokens_of}
use Rattle.csi_codec.specs.Prefixes.{most_tokens, HasPrefix, whole_prefix, TextsAreSequences}
use Rattle.csi_codec.specs.Writable.{WritableTextsAreSequences}
use Rattle.csi_codec.proofs.RoundTrip.{Each, reading-each}
use Rattle.csi_codec.proofs.SizeLemmas.{actions_are_short}
use Rattle.csi_codec.proofs.TextLemmas.{list_back, nonempty_decimal, sign_text}
use Rattle.csi_codec.proofs.TextTrip.{list_bytes, spellable-tail}
use Rattle.csi_codec.proofs.Written.{IsWritten, action_written}

-- ---- One text

within_most : (ts : List CsiParam) → length ts ≤ most_tokens → false ≡ ltb most_tokens (length ts)
within_most ts h = grind (arith, nat_tests)

text_prefix : (a : Action) → IsWritten a → length (spelling_of a).params ≤ most_tokens → HasPrefix (csi_text a) (whole_prefix (spelling_of a))
text_prefix a written h =
    let small : (spelling_of a).control < 128 = omega (arith, written.high) in
    let back : tokens_of (flat_map token_text (spelling_of a).params) ≡ (spelling_of a).params = list_back (spelling_of a).params written.params in
    record {
      body = flat_map token_text (spelling_of a).params;
      sequence = record {
        text = ap (λ bytes. 27 ∷ 91 ∷ (flat_map token_text (spelling_of a).params ++ bytes)) (encode_ascii (spelling_of a).control small);
        parameters = list_bytes (spelling_of a).params written.params;
        low = written.low;
        high = written.high;
      };
      kept = sym (ap (take most_tokens) back ∙ take_all most_tokens (spelling_of a).params h);
      dropped = within_most (spelling_of a).params h ∙ sym (ap (λ (x : List CsiParam). ltb most_tokens (length x)) back);
    }

-- ---- By value

-- each token has a byte at least
tokens-bound : (ts : List CsiParam) → is_spellable ts ≡ true → length ts ≤ length (flat_map token_text ts)
tokens-bound [] h = omega arith
tokens-bound (P b ∷ ts) h =
    let one = ap length (sign_text b (and_parts (is_sign b) (is_spellable ts) h).0) in
    omega (arith, one, tokens-bound ts (spellable-tail (P b) ts h), length-append (encode_utf8 b) (flat_map token_text ts))
tokens-bound (Integer (negsuc n) ∷ ts) h = cc
tokens-bound (Integer (pos n) ∷ ts) h =
    let small : n ≤ largest_number = leb-true n largest_number (and_parts (is_written_number (pos n)) _ h).0 in
    let fits : n < 2 ^ 64 = omega arith in
    omega (arith, nonempty_decimal n fits, tokens-bound ts (spellable-tail (Integer (pos n)) ts h), length-append (decimal n) (flat_map token_text ts))

pub writable_texts_are_sequences-lem : WritableTextsAreSequences
writable_texts_are_sequences-lem a h =
    let written = action_written a h in
    text_prefix a written (omega (
      arith,
      actions_are_short a h,
      tokens-bound (spelling_of a).params written.params,
      length-append (flat_map token_text (spelling_of a).params) (encode_utf8 (spelling_of a).control),
    ))

-- ---- By list

spellable-drop : (ts : List CsiParam) (n : ℕ) → is_spellable ts ≡ true → is_spellable (drop n ts) ≡ true
spellable-drop ts zero h = h
spellable-drop [] (suc n) h = refl
spellable-drop (t ∷ ts) (suc n) h = spellable-drop ts n (spellable-tail t ts h)

pub texts_are_sequences-lem : TextsAreSequences
texts_are_sequences-lem ts truncated final h bound low high = by (csi_reading ts truncated final) (reading-each ts truncated final)
  where
    IsPrefix : Action → Type 0
    IsPrefix a = HasPrefix (csi_text a) (whole_prefix (spelling_of a))

    rest : (n : ℕ) → IsPrefix (unspecified (drop n ts) truncated final)
    rest n = text_prefix (unspecified (drop n ts) truncated final) (record { params = spellable-drop ts n h; low = low; high = high }) (omega (arith, bound, length-drop n ts))

    by : (actions : List Action) → Each ts truncated final actions → AllByRecursion IsPrefix actions
    by [] e = tt
    by (a ∷ remaining) (inl e) = (writable_texts_are_sequences-lem a e.0, by remaining e.1)
    by (a ∷ remaining) (inr r) =
        (subst IsPrefix (sym (r.1 ∙ ap (λ us. unspecified us truncated final) r.3.suffix.1)) (rest r.3.suffix.0), subst (AllByRecursion IsPrefix) (sym r.2) tt)
