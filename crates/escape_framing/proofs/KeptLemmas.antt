-- The kept state of an open tail goes on as the tail does.
use Rattle.std.proofs.Common.{◌≡◌, ℕ, Bool, true, false, cond, List, [], ◌∷◌, ◌++◌, take, map, refl, sym, ap, ◌∙◌, arith, append_assoc, ⊎_elim}
use Rattle.std.specs.Prelude.{◌==◌, not, nat_lt, is_none, filter}
use Rattle.std.specs.List.{flat_map, list_all, list_any}
use Rattle.std.specs.Str.{is_utf8}
use Rattle.std.specs.Str.Lossy.{utf8_error_len}
use Rattle.std.specs.Char.{is_ascii_control}
use Rattle.std.proofs.lemmas.Bool.{and_parts, cond_both, cases_Bool, or_cases}
use Rattle.std.proofs.lemmas.Bool.Decides.{nat_tests}
use Rattle.std.proofs.lemmas.List.{append-nil, map-append}
use Rattle.std.proofs.lemmas.List.Elements.{filter-append}
use Rattle.std.proofs.lemmas.List.Sums.{fold-append}
use Rattle.escape_framing.specs.Bytes.{is_stop, is_embedded, is_intermediate, is_opener, is_cut, in_escape, taken}
use Rattle.csi_codec.specs.Tokens.{is_parameter}
use Rattle.escape_framing.specs.Segment.{Tail, Begun, OpenEscape, OpenControlSequence, OpenCommand, OpenHeader, OpenDevice, OpenString, Segment, Escape, ControlSequence, OperatingSystemCommand, DeviceControl, String, CutOff, IsUnfinished}
use Rattle.escape_framing.specs.Decode.{Reading, waits, ends, ends_before, first_byte, in_character, opened_by, after_escape, next_byte}
use Rattle.escape_framing.specs.Dispatch.{Dispatch, Data, Enter, Exit, controls_in, escape_dispatch, control_sequence_dispatch, command_dispatch, dispatches_of, decided_of}
use Rattle.escape_framing.specs.Dispatch as dispatch
use Rattle.csi_codec.specs.Tokens.{with_byte, parameters_of}
use Rattle.escape_framing.specs.Held.{Kept, InCharacter, InEscape, InControlSequence, InCommand, InHeader, kept_of, Step, steps, before, character_step, opened, final_step, escape_step, control_sequence_step, command_step, header_step, device_step, string_step, kept_step}
use Rattle.csi_codec.proofs.TokenLemmas.{keeps_tokens}
use Rattle.escape_framing.proofs.SequenceReading.{embedded_is_no_intermediate}

-- the kept parameters are those that their sequence hands out
parameters_kept : (bytes : List ℕ) (final : ℕ) → dispatch.ControlSequence (parameters_of bytes).tokens (parameters_of bytes).truncated final ≡ control_sequence_dispatch bytes final
unfolding control_sequence_dispatch
parameters_kept bytes final = let k = keeps_tokens bytes in (λ i. dispatch.ControlSequence (k.kept i) (k.more i) final)

-- the dispatches that an open tail has handed out, where no C2 waits
abbrev pub given : Tail → List Dispatch
given (OpenDevice opening header final body) = controls_in opening ++ Enter (taken header) final ∷ map Data body
given tail = decided_of tail

-- a reading hands out the dispatches of a step, after those of `prefix`, and keeps the state that the step keeps
pub record Goes (prefix : List Dispatch) (r : Reading) (s : Step) : Type 0 where
  pub dispatches : flat_map dispatches_of r.segments ++ given r.tail ≡ prefix ++ s.dispatches
  pub kept : kept_of r.tail ≡ s.kept

-- ---- lists of bytes

controls_push : (xs : List ℕ) (b : ℕ) → controls_in (xs ++ b ∷ []) ≡ controls_in xs ++ controls_in (b ∷ [])
controls_push xs b = ap (map dispatch.Control) (filter-append (λ x. nat_lt x 0x20) xs (b ∷ [])) ∙ map-append dispatch.Control (filter (λ x. nat_lt x 0x20) xs) (filter (λ x. nat_lt x 0x20) (b ∷ []))

taken_push : (xs : List ℕ) (b : ℕ) → is_ascii_control b ≡ false → taken (xs ++ b ∷ []) ≡ taken xs ++ b ∷ []
taken_push xs b h = filter-append (λ x. not (is_ascii_control x)) xs (b ∷ []) ∙ ap (λ (t : Bool). taken xs ++ cond (not t) (b ∷ []) []) h

taken_skip : (xs : List ℕ) (b : ℕ) → is_ascii_control b ≡ true → taken (xs ++ b ∷ []) ≡ taken xs
taken_skip xs b h = filter-append (λ x. not (is_ascii_control x)) xs (b ∷ []) ∙ ap (λ (t : Bool). taken xs ++ cond (not t) (b ∷ []) []) h ∙ append-nil (taken xs)

-- ---- classes of bytes

embedded_is_control : (b : ℕ) → is_embedded b ≡ true → is_ascii_control b ≡ true
unfolding is_embedded
embedded_is_control b h = (and_parts (is_ascii_control b) (not (is_stop b)) h).0

record Plain (b : ℕ) : Type 0 where
  control : is_ascii_control b ≡ false
  low : nat_lt b 0x20 ≡ false

intermediate_is_plain : (b : ℕ) → is_intermediate b ≡ true → Plain b
unfolding is_intermediate
intermediate_is_plain b h = record { control = grind (arith, nat_tests); low = grind (arith, nat_tests) }

parameter_is_plain : (b : ℕ) → is_parameter b ≡ true → Plain b
unfolding is_parameter
parameter_is_plain b h = record { control = grind (arith, nat_tests); low = grind (arith, nat_tests) }

none_low : (b : ℕ) → nat_lt b 0x20 ≡ false → controls_in (b ∷ []) ≡ []
none_low b h = rw h refl

-- ---- characters

-- of a byte only the first ones of a character stay open, or ESC
first_tails : (P : Tail → Type 0) → ((bytes : List ℕ) → P (Begun bytes)) → P (OpenEscape []) → (b : ℕ) → P (first_byte b).tail
unfolding first_byte
first_tails P p q b =
    cond_both (b == 0x1B) _ _ (λ (r : Reading). P r.tail) (λ e. q) (λ e.
    cond_both (is_utf8 (b ∷ [])) _ _ (λ (r : Reading). P r.tail) (λ f. p []) (λ f.
    cond_both (is_none (utf8_error_len (b ∷ []))) _ _ (λ (r : Reading). P r.tail) (λ g. p (b ∷ [])) (λ g. p [])))

pub character_tails : (P : Tail → Type 0) → ((bytes : List ℕ) → P (Begun bytes)) → P (OpenEscape []) → (bytes : List ℕ) (b : ℕ) → P (in_character bytes b).tail
unfolding in_character
character_tails P p q [] b = first_tails P p q b
character_tails P p q (x ∷ xs) b =
    cond_both (is_utf8 (x ∷ xs ++ b ∷ [])) _ _ (λ (r : Reading). P r.tail) (λ f. p []) (λ f.
    cond_both (is_none (utf8_error_len (x ∷ xs ++ b ∷ []))) _ _ (λ (r : Reading). P r.tail) (λ g. p (x ∷ xs ++ b ∷ [])) (λ g. first_tails P p q b))

goes_begun : (bytes : List ℕ) (b : ℕ) → Goes [] (next_byte (Begun bytes) b) (character_step bytes b)
unfolding next_byte character_step
goes_begun bytes b = record { dispatches = ap (λ l. flat_map dispatches_of (in_character bytes b).segments ++ l) (character_tails (λ t. given t ≡ []) (λ x. refl) refl bytes b) ∙ append-nil _; kept = refl }

-- a segment that ends before a byte, and the reading of this byte
goes_before : (s : Segment) (prefix more : List Dispatch) (b : ℕ) → dispatches_of s ≡ prefix ++ more → Goes prefix (ends_before s (first_byte b)) (before more (character_step [] b))
unfolding character_step in_character
goes_before s prefix more b e = record {
  dispatches = ap (λ l. (dispatches_of s ++ flat_map dispatches_of (first_byte b).segments) ++ l) (first_tails (λ t. given t ≡ []) (λ x. refl) refl b) ∙ append-nil _
      ∙ ap (λ l. l ++ flat_map dispatches_of (first_byte b).segments) e ∙ append_assoc prefix more _;
  kept = refl;
}

-- a segment that ends at a byte
goes_end : (s : Segment) (prefix more : List Dispatch) → dispatches_of s ≡ prefix ++ more → Goes prefix (ends s) (steps more (InCharacter []))
goes_end s prefix more e = record { dispatches = append-nil _ ∙ append-nil _ ∙ e; kept = refl }

-- the tail stays open
goes_on : (t : Tail) (prefix more : List Dispatch) (kept : Kept) → given t ≡ prefix ++ more → kept_of t ≡ kept → Goes prefix (waits t) (steps more kept)
goes_on t prefix more kept e k = record { dispatches = e; kept = k }

-- which of three tests is the first to pass
by_three : {P : Type 0} (t u v : Bool) → (t ≡ true → P) → (t ≡ false → u ≡ true → P) → (t ≡ false → u ≡ false → v ≡ true → P) → (t ≡ false → u ≡ false → v ≡ false → P) → P
by_three true u v p q r s = p refl
by_three false true v p q r s = q refl refl
by_three false false true p q r s = r refl refl refl
by_three false false false p q r s = s refl refl refl

-- ---- an escape sequence

take_two : (xs : List ℕ) (b : ℕ) → take 2 (xs ++ b ∷ []) ≡ take 2 (take 2 xs ++ b ∷ [])
take_two [] b = refl
take_two (x ∷ []) b = refl
take_two (x ∷ y ∷ xs) b = refl

-- there are intermediate bytes where some are taken
any_taken : (body : List ℕ) → list_all in_escape body ≡ true → list_any is_intermediate body ≡ list_any (λ x. true) (taken body)
any_taken [] h = refl
any_taken (b ∷ body) h =
    let k = and_parts (in_escape b) (list_all in_escape body) h in
    ⊎_elim (λ e. rw (embedded_is_control b e, embedded_is_no_intermediate b e) (any_taken body k.1)) (λ f. rw ((intermediate_is_plain b f).control, f) refl)
    (or_cases (is_embedded b) (is_intermediate b) k.0)

escape_with : (x : ℕ) (xs : List ℕ) (b : ℕ) → escape_dispatch (x ∷ xs) b ≡ escape_dispatch (take 2 (x ∷ xs)) b
unfolding escape_dispatch
escape_with x [] b = refl
escape_with x (y ∷ xs) b = refl

goes_opened : (body : List ℕ) (b : ℕ) → Goes (controls_in body) (waits (opened_by body b)) (steps [] (opened b))
unfolding opened_by opened
goes_opened body b = by_three (b == 0x5B) (b == 0x5D) (b == 0x50)
    (λ e. rw e (goes_on (OpenControlSequence body []) (controls_in body) [] _ refl refl))
    (λ e f. rw (e, f) (goes_on (OpenCommand body []) (controls_in body) [] _ (sym (append-nil _)) refl))
    (λ e f g. rw (e, f, g) (goes_on (OpenHeader body []) (controls_in body) [] _ (sym (append-nil _)) refl))
    (λ e f g. rw (e, f, g) (goes_on (OpenString body b []) (controls_in body) [] _ (sym (append-nil _)) refl))

goes_final : (body : List ℕ) (b : ℕ) → list_all in_escape body ≡ true → Goes (controls_in body) (after_escape body b) (final_step (take 2 (taken body)) b)
unfolding after_escape
goes_final body b h = by_taken (taken body) refl (any_taken body h)
  where
    by_taken : (xs : List ℕ) → taken body ≡ xs → list_any is_intermediate body ≡ list_any (λ x. true) xs → Goes (controls_in body) (after_escape body b) (final_step (take 2 xs) b)
    by_taken [] k l = ⊎_elim
        (λ (o : is_opener b ≡ true). rw (l, o) (goes_opened body b))
        (λ (o : is_opener b ≡ false). rw (l, o) (goes_end (Escape body b) (controls_in body) _ (ap (λ xs. controls_in body ++ escape_dispatch xs b) k)))
        (cases_Bool (is_opener b))
    by_taken (x ∷ xs) k l = rw l (goes_end (Escape body b) (controls_in body) _ (ap (λ ys. controls_in body ++ escape_dispatch ys b) k ∙ ap (λ ds. controls_in body ++ ds) (escape_with x xs b)))

goes_escape : (body : List ℕ) (b : ℕ) → list_all in_escape body ≡ true → Goes (controls_in body) (next_byte (OpenEscape body) b) (escape_step (take 2 (taken body)) b)
unfolding next_byte escape_step
goes_escape body b h = by_three (is_embedded b) (is_intermediate b) (is_cut b)
    (λ e. rw e (goes_on (OpenEscape (body ++ b ∷ [])) (controls_in body) _ _ (controls_push body b) (ap (λ xs. InEscape (take 2 xs)) (taken_skip body b (embedded_is_control b e)))))
    (λ e f.
    let p = intermediate_is_plain b f in
    rw (e, f) (goes_on (OpenEscape (body ++ b ∷ [])) (controls_in body) [] _ (controls_push body b ∙ ap (λ ds. controls_in body ++ ds) (none_low b p.low)) (ap (λ xs. InEscape (take 2 xs)) (taken_push body b p.control) ∙ ap InEscape (take_two (taken body) b))))
    (λ e f g. rw (e, f, g) (goes_before (CutOff (OpenEscape body)) (controls_in body) [] b (sym (append-nil _))))
    (λ e f g. rw (e, f, g) (goes_final body b h))

-- ---- the other sequences

goes_control_sequence : (o body : List ℕ) (b : ℕ) → Goes (controls_in o ++ controls_in body) (next_byte (OpenControlSequence o body) b) (control_sequence_step (parameters_of (taken body)) b)
unfolding next_byte control_sequence_step
goes_control_sequence o body b = by_three (is_embedded b) (is_parameter b) (is_cut b)
    (λ e.
    rw e (goes_on (OpenControlSequence o (body ++ b ∷ [])) (controls_in o ++ controls_in body) _ _ (ap (λ ds. controls_in o ++ ds) (controls_push body b) ∙ sym (append_assoc (controls_in o) (controls_in body) _)) (ap (λ xs. InControlSequence (parameters_of xs)) (taken_skip body b (embedded_is_control b e)))))
    (λ e f.
    let p = parameter_is_plain b f in
    rw (e, f) (goes_on (OpenControlSequence o (body ++ b ∷ [])) (controls_in o ++ controls_in body) [] _ (ap (λ ds. controls_in o ++ ds) (controls_push body b) ∙ sym (append_assoc (controls_in o) (controls_in body) _) ∙ ap (λ ds. (controls_in o ++ controls_in body) ++ ds) (none_low b p.low))
    (ap (λ xs. InControlSequence (parameters_of xs)) (taken_push body b p.control) ∙ ap InControlSequence (fold-append with_byte _ (taken body) (b ∷ [])))))
    (λ e f g. rw (e, f, g) (goes_before (CutOff (OpenControlSequence o body)) (controls_in o ++ controls_in body) [] b (sym (append-nil _))))
    (λ e f g. rw (e, f, g) (goes_end (ControlSequence o body b) (controls_in o ++ controls_in body) _ (ap (λ d. (controls_in o ++ controls_in body) ++ d ∷ []) (sym (parameters_kept (taken body) b)))))

goes_command : (o body : List ℕ) (b : ℕ) → Goes (controls_in o) (next_byte (OpenCommand o body) b) (command_step (taken body) b)
unfolding next_byte command_step command_dispatch
goes_command o body b = by_three (b == 0x07) (is_stop b) (is_ascii_control b)
    (λ e. rw e (goes_end (OperatingSystemCommand o body b) (controls_in o) _ (rw e refl)))
    (λ e f. rw (e, f) (goes_before (OperatingSystemCommand o body b) (controls_in o) _ b (rw e refl)))
    (λ e f g. rw (e, f, g) (goes_on (OpenCommand o (body ++ b ∷ [])) (controls_in o) [] _ (sym (append-nil _)) (ap InCommand (taken_skip body b g))))
    (λ e f g. rw (e, f, g) (goes_on (OpenCommand o (body ++ b ∷ [])) (controls_in o) [] _ (sym (append-nil _)) (ap InCommand (taken_push body b g))))

goes_header : (o header : List ℕ) (b : ℕ) → Goes (controls_in o) (next_byte (OpenHeader o header) b) (header_step (taken header) b)
unfolding next_byte header_step
goes_header o header b = by_three (is_embedded b) (is_parameter b) (is_cut b)
    (λ e. rw e (goes_on (OpenHeader o (header ++ b ∷ [])) (controls_in o) [] _ (sym (append-nil _)) (ap InHeader (taken_skip header b (embedded_is_control b e)))))
    (λ e f. rw (e, f) (goes_on (OpenHeader o (header ++ b ∷ [])) (controls_in o) [] _ (sym (append-nil _)) (ap InHeader (taken_push header b (parameter_is_plain b f).control))))
    (λ e f g. rw (e, f, g) (goes_before (CutOff (OpenHeader o header)) (controls_in o) [] b (sym (append-nil _))))
    (λ e f g. rw (e, f, g) (goes_on (OpenDevice o header b []) (controls_in o) _ _ refl refl))

goes_device : (o header : List ℕ) (final : ℕ) (body : List ℕ) (b : ℕ) → Goes (controls_in o ++ Enter (taken header) final ∷ map Data body) (next_byte (OpenDevice o header final body) b) (device_step b)
unfolding next_byte device_step
goes_device o header final body b = ⊎_elim
    (λ f. rw f (goes_before (DeviceControl o header final body) (controls_in o ++ Enter (taken header) final ∷ map Data body) (Exit ∷ []) b refl))
    (λ f.
    rw f (goes_on (OpenDevice o header final (body ++ b ∷ [])) (controls_in o ++ Enter (taken header) final ∷ map Data body) (Data b ∷ []) _
    (ap (λ ds. controls_in o ++ Enter (taken header) final ∷ ds) (map-append Data body (b ∷ [])) ∙ sym (append_assoc (controls_in o) (Enter (taken header) final ∷ map Data body) (Data b ∷ []))) refl))
    (cases_Bool (is_stop b))

goes_string : (o : List ℕ) (x : ℕ) (body : List ℕ) (b : ℕ) → Goes (controls_in o) (next_byte (OpenString o x body) b) (string_step b)
unfolding next_byte string_step
goes_string o x body b = ⊎_elim
    (λ f. rw f (goes_before (String o x body) (controls_in o) [] b (sym (append-nil _))))
    (λ f. rw f (goes_on (OpenString o x (body ++ b ∷ [])) (controls_in o) [] _ (sym (append-nil _)) refl))
    (cases_Bool (is_stop b))

-- a byte after anything that is open
pub goes : (t : Tail) (b : ℕ) → IsUnfinished t → Goes (given t) (next_byte t b) (kept_step (kept_of t) b)
goes (Begun bytes) b g = goes_begun bytes b
goes (OpenEscape body) b g = goes_escape body b g
goes (OpenControlSequence o body) b g = goes_control_sequence o body b
goes (OpenCommand o body) b g = goes_command o body b
goes (OpenHeader o header) b g = goes_header o header b
goes (OpenDevice o header final body) b g = goes_device o header final body b
goes (OpenString o x body) b g = goes_string o x body b
