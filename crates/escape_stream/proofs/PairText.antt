-- The text of an ESC pair is one escape sequence.
use Rattle.std.proofs.Common.{◌≡◌, ℕ, ◌≤◌, inl, inr, Bool, true, false, List, [], ◌∷◌, ◌++◌, refl, sym, ap, ◌∙◌, arith, Option, Some, None, subst}
use Rattle.std.specs.Prelude.{◌==◌, ◌||◌, not, encode_utf8, ◌≢◌, find, unwrap_or}
use Rattle.std.specs.List.{list_all, list_any}
use Rattle.std.specs.Option.{option_map_or}
use Rattle.std.proofs.lemmas.Bool.{and_parts, or_right, false≢true}
use Rattle.std.proofs.lemmas.Bool.Decides.{nat_tests}
use Rattle.std.proofs.lemmas.Str.{encode_ascii}
use Rattle.csi_codec.specs.Escapes.{esc_code_bytes, esc_codes, has_bytes, known_code, esc_reading, esc_bytes, esc_text}
use Rattle.csi_codec.specs.declared.escapes.EscCode.{EscCode}
use Rattle.csi_codec.specs.declared.escapes.Esc.{Esc}
use Rattle.csi_codec.specs.declared.escapes.Esc.TheVariants as pair
use Rattle.escape_framing.specs.Bytes.{is_embedded, taken, is_intermediate, is_escape_final, is_string_opener, is_opener, in_escape}
use Rattle.escape_framing.specs.Segment.{Escape}
use Rattle.escape_framing.specs.Dispatch.{escape_dispatch, dispatches_of}
use Rattle.escape_stream.specs.StreamAction.{StreamAction, esc}
use Rattle.escape_stream.specs.StreamActions.{actions_of}
use Rattle.csi_codec.specs.Writable.{IsOpener, ArePairBytes}
use Rattle.escape_stream.specs.StreamWritable.{IsReadPair, string_terminator}
use Rattle.escape_stream.proofs.PlainBytes.{same_number, low_byte, is_plain, taken_plain, controls_in_plain}
use Rattle.escape_stream.proofs.TextSegments.{Says, says_same, says_segment, low_text}

-- ---- A code is written as it is read

record IsWrittenAs (intermediate : Option ℕ) (final : ℕ) (known : EscCode) : Type 0 where
  between : (esc_code_bytes known).0 ≡ intermediate
  control : (esc_code_bytes known).1 ≡ final

-- no intermediate byte is 0
abbrev is_no_zero : Option ℕ → Bool
is_no_zero None = true
is_no_zero (Some n) = not (n == 0)

same_intermediate : (o i : Option ℕ) → is_no_zero o ≡ true → is_no_zero i ≡ true → (unwrap_or o 0 == unwrap_or i 0) ≡ true → o ≡ i
same_intermediate None None p q h = refl
same_intermediate None (Some n) p q h = absurd (false≢true (rw (sym (same_number 0 n h)) at q))
same_intermediate (Some m) None p q h = absurd (false≢true (rw h at p))
same_intermediate (Some m) (Some n) p q h = ap Some (same_number m n h)

-- an element that is found in a list passes the test, and also `kept`, which all elements pass
found_by : {A : Type 0} (test kept : A → Bool) (first : A) (remaining : List A) (x : A) (u : Bool) → test first ≡ u → kept first ≡ true
    → (find test remaining ≡ Some x → (test x ≡ true) × (kept x ≡ true)) → find test (first ∷ remaining) ≡ Some x → (test x ≡ true) × (kept x ≡ true)
found_by test kept first remaining x true e k after f =
    let g : Some first ≡ Some x = rw e at f in
    let same : first ≡ x = cc in
    (subst (λ y. test y ≡ true) same e, subst (λ y. kept y ≡ true) same k)
found_by test kept first remaining x false e k after f = after (rw e at f)

found : {A : Type 0} (test kept : A → Bool) (list : List A) (x : A) → list_all kept list ≡ true → find test list ≡ Some x → (test x ≡ true) × (kept x ≡ true)
found test kept [] x h f = cc
found test kept (first ∷ remaining) x h f =
    let p = and_parts (kept first) (list_all kept remaining) h in
    found_by test kept first remaining x (test first) refl p.0 (found test kept remaining x p.1) f

no_zero : (intermediate : Option ℕ) (final : ℕ) → ArePairBytes intermediate final → is_no_zero intermediate ≡ true
no_zero None final b = refl
no_zero (Some between) final b = let low : 32 ≤ between = b.0 in grind (arith, nat_tests)

written : (intermediate : Option ℕ) (final : ℕ) (known : EscCode) → ArePairBytes intermediate final → known_code intermediate final ≡ Some known → IsWrittenAs intermediate final known
unfolding known_code
written intermediate final known b e =
    let f = found (has_bytes intermediate final) (λ code. is_no_zero (esc_code_bytes code).0) esc_codes known refl e in
    let p = and_parts (unwrap_or (esc_code_bytes known).0 0 == unwrap_or intermediate 0) ((esc_code_bytes known).1 == final) f.0 in
    record {
      between = same_intermediate (esc_code_bytes known).0 intermediate f.1 (no_zero intermediate final b) p.0;
      control = same_number (esc_code_bytes known).1 final p.1;
    }

text_read : (intermediate : Option ℕ) (final : ℕ) (found : Option EscCode) → ArePairBytes intermediate final → known_code intermediate final ≡ found
    → esc_text (option_map_or pair.Code found (pair.Unspecified intermediate final)) ≡ esc_bytes intermediate final
text_read intermediate final None b e = refl
text_read intermediate final (Some known) b e =
    let w = written intermediate final known b e in
    ap (λ i. esc_bytes i (esc_code_bytes known).1) w.between ∙ ap (esc_bytes intermediate) w.control

-- ---- Its bytes are a segment

final_byte : (final : ℕ) → 48 ≤ final → final ≤ 126 → is_escape_final final ≡ true
unfolding is_escape_final
final_byte final l h = grind (arith, nat_tests)

opens_nothing : (final : ℕ) → (IsOpener final → ⊥) → is_opener final ≡ false
unfolding is_opener is_string_opener
opens_nothing final h =
    let a : final ≢ 91 = λ e. h (inl e) in
    let b : final ≢ 93 = λ e. h (inr (inl e)) in
    let c : final ≢ 80 = λ e. h (inr (inr (inl e))) in
    let d : final ≢ 88 = λ e. h (inr (inr (inr (inl e)))) in
    let f : final ≢ 94 = λ e. h (inr (inr (inr (inr (inl e))))) in
    let g : final ≢ 95 = λ e. h (inr (inr (inr (inr (inr e))))) in
    grind (arith, nat_tests)

is_intermediate_byte : (b : ℕ) → 32 ≤ b → b ≤ 47 → is_intermediate b ≡ true
unfolding is_intermediate
is_intermediate_byte b l h = grind (arith, nat_tests)

intermediate_is_plain : (b : ℕ) → 32 ≤ b → b ≤ 47 → is_plain b ≡ true
intermediate_is_plain b l h = grind (arith, nat_tests)

says_single : (final : ℕ) (bytes : List ℕ) (actions : List StreamAction) → ArePairBytes None final → Says bytes actions → Says (27 ∷ final ∷ bytes) (esc (esc_reading None final) ∷ actions)
unfolding escape_dispatch
says_single final bytes actions b h =
    says_segment (Escape [] final) bytes actions (refl, final_byte final b.0 b.1, ap not (opens_nothing final b.2))
    (low_text (27 ∷ final ∷ []) bytes (rw (low_byte final b.1) refl) h.unpaired) h

between_asks : (between final : ℕ) → is_plain between ≡ true → actions_of (dispatches_of (Escape (between ∷ []) final)) ≡ esc (esc_reading (Some between) final) ∷ []
unfolding escape_dispatch
between_asks between final p =
    let q : list_all is_plain (between ∷ []) ≡ true = rw p refl in
    ap (λ ds. actions_of (ds ++ escape_dispatch (taken (between ∷ [])) final)) (controls_in_plain (between ∷ []) q)
    ∙ ap (λ bs. actions_of (escape_dispatch bs final)) (taken_plain (between ∷ []) q)

says_between : (between final : ℕ) (bytes : List ℕ) (actions : List StreamAction) → ArePairBytes (Some between) final → Says bytes actions
    → Says (27 ∷ between ∷ final ∷ bytes) (esc (esc_reading (Some between) final) ∷ actions)
says_between between final bytes actions b h =
    let i : is_intermediate between ≡ true = is_intermediate_byte between b.0 b.1 in
    let inside : list_all in_escape (between ∷ []) ≡ true = rw (i, or_right (is_embedded between) true refl) refl in
    let plain : (list_any is_intermediate (between ∷ []) || not (is_opener final)) ≡ true = rw i refl in
    says_same refl (ap (λ l. l ++ actions) (between_asks between final (intermediate_is_plain between b.0 b.1)))
    (says_segment (Escape (between ∷ []) final) bytes actions (inside, final_byte final b.2 b.3, plain)
    (low_text (27 ∷ between ∷ final ∷ []) bytes (rw (low_byte between (omega arith), low_byte final b.3) refl) h.unpaired) h)

says_bytes : (intermediate : Option ℕ) (final : ℕ) (bytes : List ℕ) (actions : List StreamAction) → ArePairBytes intermediate final → Says bytes actions
    → Says (esc_bytes intermediate final ++ bytes) (esc (esc_reading intermediate final) ∷ actions)
says_bytes None final bytes actions b h =
    says_same (ap (λ l. 27 ∷ (l ++ bytes)) (sym (encode_ascii final (omega arith)))) refl (says_single final bytes actions b h)
says_bytes (Some between) final bytes actions b h =
    says_same (ap (λ l. 27 ∷ (l ++ final ∷ [] ++ bytes)) (sym (encode_ascii between (omega arith))) ∙ ap (λ l. 27 ∷ ((encode_utf8 between ++ l) ++ bytes)) (sym (encode_ascii final (omega arith)))) refl
    (says_between between final bytes actions b h)

pub says_pair : (e : Esc) (bytes : List ℕ) (actions : List StreamAction) → IsReadPair e → Says bytes actions → Says (esc_text e ++ bytes) (esc e ∷ actions)
says_pair e bytes actions p h =
    let t : esc_text e ≡ esc_bytes p.intermediate p.final = ap esc_text p.reading ∙ text_read p.intermediate p.final (known_code p.intermediate p.final) p.bytes refl in
    says_same (ap (λ l. l ++ bytes) (sym t)) (ap (λ x. esc x ∷ actions) (sym p.reading)) (says_bytes p.intermediate p.final bytes actions p.bytes h)

backslash_opens_none : IsOpener 92 → ⊥
backslash_opens_none (inl e) = omega arith
backslash_opens_none (inr (inl e)) = omega arith
backslash_opens_none (inr (inr (inl e))) = omega arith
backslash_opens_none (inr (inr (inr (inl e)))) = omega arith
backslash_opens_none (inr (inr (inr (inr (inl e))))) = omega arith
backslash_opens_none (inr (inr (inr (inr (inr e))))) = omega arith

-- ESC \ is the string terminator
pub says_terminator : (bytes : List ℕ) (actions : List StreamAction) → Says bytes actions → Says (27 ∷ 92 ∷ bytes) (string_terminator ∷ actions)
unfolding known_code
says_terminator bytes actions h = says_single 92 bytes actions (omega arith, omega arith, backslash_opens_none) h
