-- What one byte adds to a sequence that is open.
use Rattle.std.proofs.Common.{◌≡◌, ℕ, Bool, true, false, List, [], ◌∷◌, ◌++◌, refl, sym, ap, arith, append_assoc, ⊎_elim}
use Rattle.std.specs.Prelude.{◌==◌, not, ◌||◌}
use Rattle.std.specs.List.{list_all, list_any}
use Rattle.std.proofs.lemmas.Bool.{and_parts, cond_both, eqb-true, eq-eqb, or_parts, both_ways, or_cases, not-false}
use Rattle.std.proofs.lemmas.Bool.Decides.{nat_tests}
use Rattle.escape_framing.specs.Bytes.{is_stop, is_embedded, is_intermediate, is_final, is_escape_final, is_string_opener, is_opener, is_cut, in_escape, in_parameters, ends_command}
use Rattle.csi_codec.specs.Tokens.{is_parameter}
use Rattle.escape_framing.specs.Segment.{Tail, Begun, OpenEscape, OpenControlSequence, OpenCommand, OpenHeader, OpenDevice, OpenString, bytes_of_tail, Escape, ControlSequence, OperatingSystemCommand, DeviceControl, String, CutOff, IsUnfinished}
use Rattle.escape_framing.specs.Decode.{waits, opened_by, after_escape, next_byte}
use Rattle.escape_framing.proofs.Existence.Utf8Lemmas.{append_nil}
use Rattle.escape_framing.proofs.Existence.StepLemmas.{Adds, adds_open, adds_end, adds_before, adds_first, adds_in_character}

-- ---- lists of which each byte passes a test

pub all_push : (p : ℕ → Bool) (xs : List ℕ) (b : ℕ) → list_all p xs ≡ true → p b ≡ true → list_all p (xs ++ b ∷ []) ≡ true
all_push p [] b h k = rw k refl
all_push p (x ∷ xs) b h k = let f = and_parts (p x) (list_all p xs) h in rw (f.0, all_push p xs b f.1 k) refl

pub embedded_only : (xs : List ℕ) → list_all in_escape xs ≡ true → list_any is_intermediate xs ≡ false → list_all is_embedded xs ≡ true
embedded_only [] h k = refl
embedded_only (x ∷ xs) h k =
    let f = and_parts (in_escape x) (list_all in_escape xs) h in
    let n = or_parts (is_intermediate x) (list_any is_intermediate xs) k in
    ⊎_elim (λ (e : is_embedded x ≡ true). rw (e, embedded_only xs f.1 n.1) refl) (λ e. absurd (both_ways (is_intermediate x) n.0 e)) (or_cases (is_embedded x) (is_intermediate x) f.0)

-- ---- classes of bytes

pub escape_final : (b : ℕ) → in_escape b ≡ false → is_cut b ≡ false → is_escape_final b ≡ true
unfolding is_embedded is_stop is_intermediate is_cut is_escape_final
escape_final b h k = grind (arith, nat_tests)

pub parameters_final : (b : ℕ) → in_parameters b ≡ false → is_cut b ≡ false → is_final b ≡ true
unfolding is_embedded is_stop is_parameter is_cut is_final
parameters_final b h k = grind (arith, nat_tests)

pub string_opener : (b : ℕ) → is_opener b ≡ true → (b == 0x5B) ≡ false → (b == 0x5D) ≡ false → (b == 0x50) ≡ false → is_string_opener b ≡ true
unfolding is_opener
string_opener b h e f g = rw (e, f, g) at h

-- ---- steps

adds_opened : (body : List ℕ) (b : ℕ) → list_all is_embedded body ≡ true → is_opener b ≡ true → Adds (0x1B ∷ body ++ b ∷ []) (waits (opened_by body b))
unfolding opened_by
adds_opened body b g o =
    cond_both (b == 0x5B) _ _ Goal (λ e. adds_open _ (OpenControlSequence body []) (is 0x5B e) (g, refl)) (λ e.
    cond_both (b == 0x5D) _ _ Goal (λ f. adds_open _ (OpenCommand body []) (is 0x5D f) (g, refl)) (λ f.
    cond_both (b == 0x50) _ _ Goal (λ h. adds_open _ (OpenHeader body []) (is 0x50 h) (g, refl)) (λ h. adds_open _ (OpenString body b []) refl (g, string_opener b o e f h, refl))))
  where
    Goal : Tail → Type 0
    Goal t = Adds (0x1B ∷ body ++ b ∷ []) (waits t)

    is : (x : ℕ) → (b == x) ≡ true → 0x1B ∷ body ++ x ∷ [] ≡ 0x1B ∷ body ++ b ∷ []
    is x h = ap (λ (y : ℕ). 0x1B ∷ body ++ y ∷ []) (sym (eqb-true b x h))

adds_after_escape : (body : List ℕ) (b : ℕ) → list_all in_escape body ≡ true → in_escape b ≡ false → is_cut b ≡ false → Adds (0x1B ∷ body ++ b ∷ []) (after_escape body b)
unfolding after_escape
adds_after_escape body b g e f =
    cond_both (list_any is_intermediate body || not (is_opener b)) _ _ (Adds _) (λ h. adds_end _ (Escape body b) refl (λ p l. (g, escape_final b e f, h)))
    (λ h. let k = or_parts (list_any is_intermediate body) (not (is_opener b)) h in adds_opened body b (embedded_only body g k.0) (not-false (is_opener b) k.1))

adds_escape : (body : List ℕ) (b : ℕ) → IsUnfinished (OpenEscape body) → Adds (0x1B ∷ body ++ b ∷ []) (next_byte (OpenEscape body) b)
unfolding next_byte
adds_escape body b g =
    cond_both (in_escape b) _ _ (Adds _) (λ e. adds_open _ (OpenEscape (body ++ b ∷ [])) refl (all_push in_escape body b g e)) (λ e.
    cond_both (is_cut b) _ _ (Adds _) (λ f. adds_before (0x1B ∷ body) (CutOff (OpenEscape body)) b refl (λ remaining. (g, refl, f)) (adds_first b)) (λ f. adds_after_escape body b g e f))

adds_control_sequence : (opening body : List ℕ) (b : ℕ) → IsUnfinished (OpenControlSequence opening body) → Adds ((0x1B ∷ opening ++ 0x5B ∷ body) ++ b ∷ []) (next_byte (OpenControlSequence opening body) b)
unfolding next_byte
adds_control_sequence opening body b g =
    cond_both (in_parameters b) _ _ (Adds _) (λ e. adds_open _ (OpenControlSequence opening (body ++ b ∷ [])) (sym (append_assoc (0x1B ∷ opening) (0x5B ∷ body) (b ∷ []))) (g.0, all_push in_parameters body b g.1 e)) (λ e.
    cond_both (is_cut b) _ _ (Adds _) (λ f. adds_before (0x1B ∷ opening ++ 0x5B ∷ body) (CutOff (OpenControlSequence opening body)) b refl (λ remaining. (g, refl, f)) (adds_first b))
    (λ f. adds_end _ (ControlSequence opening body b) refl (λ p l. (g.0, g.1, parameters_final b e f))))

adds_command : (opening body : List ℕ) (b : ℕ) → IsUnfinished (OpenCommand opening body) → Adds ((0x1B ∷ opening ++ 0x5D ∷ body) ++ b ∷ []) (next_byte (OpenCommand opening body) b)
unfolding next_byte
adds_command opening body b g =
    cond_both (b == 0x07) _ _ (Adds _) (λ e. adds_end _ (OperatingSystemCommand opening body b) (rw e refl) (λ p l. (g.0, g.1, rw e refl, rw e refl))) (λ e.
    cond_both (is_stop b) _ _ (Adds _) (λ f. adds_before (0x1B ∷ opening ++ 0x5D ∷ body) (OperatingSystemCommand opening body b) b (rw e (append_nil _)) (λ remaining. (g.0, g.1, rw (e, f) refl, rw (e, eq-eqb b b refl) refl)) (adds_first b))
    (λ f. adds_open _ (OpenCommand opening (body ++ b ∷ [])) (sym (append_assoc (0x1B ∷ opening) (0x5D ∷ body) (b ∷ []))) (g.0, all_push (λ x. not (ends_command x)) body b g.1 (rw (e, f) refl))))

adds_header : (opening header : List ℕ) (b : ℕ) → IsUnfinished (OpenHeader opening header) → Adds ((0x1B ∷ opening ++ 0x50 ∷ header) ++ b ∷ []) (next_byte (OpenHeader opening header) b)
unfolding next_byte
adds_header opening header b g =
    cond_both (in_parameters b) _ _ (Adds _) (λ e. adds_open _ (OpenHeader opening (header ++ b ∷ [])) (sym (append_assoc (0x1B ∷ opening) (0x50 ∷ header) (b ∷ []))) (g.0, all_push in_parameters header b g.1 e)) (λ e.
    cond_both (is_cut b) _ _ (Adds _) (λ f. adds_before (0x1B ∷ opening ++ 0x50 ∷ header) (CutOff (OpenHeader opening header)) b refl (λ remaining. (g, refl, f)) (adds_first b))
    (λ f. adds_open _ (OpenDevice opening header b []) refl (g.0, g.1, parameters_final b e f, refl)))

adds_device : (opening header : List ℕ) (final : ℕ) (body : List ℕ) (b : ℕ) → IsUnfinished (OpenDevice opening header final body)
    → Adds (((0x1B ∷ opening ++ 0x50 ∷ header) ++ final ∷ body) ++ b ∷ []) (next_byte (OpenDevice opening header final body) b)
unfolding next_byte
adds_device opening header final body b g =
    cond_both (is_stop b) _ _ (Adds _) (λ f. adds_before ((0x1B ∷ opening ++ 0x50 ∷ header) ++ final ∷ body) (DeviceControl opening header final body) b refl (λ remaining. (g.0, g.1, g.2, g.3, f)) (adds_first b))
    (λ f. adds_open _ (OpenDevice opening header final (body ++ b ∷ [])) (sym (append_assoc (0x1B ∷ opening ++ 0x50 ∷ header) (final ∷ body) (b ∷ []))) (g.0, g.1, g.2, all_push (λ x. not (is_stop x)) body b g.3 (rw f refl)))

adds_string : (opening : List ℕ) (opener : ℕ) (body : List ℕ) (b : ℕ) → IsUnfinished (OpenString opening opener body)
    → Adds ((0x1B ∷ opening ++ opener ∷ body) ++ b ∷ []) (next_byte (OpenString opening opener body) b)
unfolding next_byte
adds_string opening opener body b g =
    cond_both (is_stop b) _ _ (Adds _) (λ f. adds_before (0x1B ∷ opening ++ opener ∷ body) (String opening opener body) b refl (λ remaining. (g.0, g.1, g.2, f)) (adds_first b))
    (λ f. adds_open _ (OpenString opening opener (body ++ b ∷ [])) (sym (append_assoc (0x1B ∷ opening) (opener ∷ body) (b ∷ []))) (g.0, g.1, all_push (λ x. not (is_stop x)) body b g.2 (rw f refl)))

-- a byte after anything that is open
pub adds_next : (t : Tail) (b : ℕ) → IsUnfinished t → Adds (bytes_of_tail t ++ b ∷ []) (next_byte t b)
unfolding next_byte
adds_next (Begun t) b g = adds_in_character t b g
adds_next (OpenEscape body) b g = adds_escape body b g
adds_next (OpenControlSequence opening body) b g = adds_control_sequence opening body b g
adds_next (OpenCommand opening body) b g = adds_command opening body b g
adds_next (OpenHeader opening header) b g = adds_header opening header b g
adds_next (OpenDevice opening header final body) b g = adds_device opening header final body b g
adds_next (OpenString opening opener body) b g = adds_string opening opener body b g
