-- The plain reading of sequences: the bytes of an open sequence read as this sequence, and each segment ends where its bytes end.
use Rattle.std.proofs.Common.{◌≡◌, ℕ, Bool, true, false, List, [], ◌∷◌, ◌++◌, refl, sym, ap, ◌∙◌, arith, append_assoc, subst}
use Rattle.std.specs.Prelude.{◌==◌, not}
use Rattle.std.specs.List.{list_all, list_any}
use Rattle.std.proofs.lemmas.Bool.{or_parts, and_parts, not-true, or_right, cond_both, eqb-true}
use Rattle.std.proofs.lemmas.Bool.Decides.{nat_tests}
use Rattle.escape_framing.specs.Bytes.{is_stop, is_embedded, is_intermediate, is_final, is_escape_final, is_string_opener, is_opener, is_cut, in_escape, in_parameters, ends_command}
use Rattle.csi_codec.specs.Tokens.{is_parameter}
use Rattle.escape_framing.specs.Segment.{Tail, Begun, OpenEscape, OpenControlSequence, OpenCommand, OpenHeader, OpenDevice, OpenString, Escape, ControlSequence, OperatingSystemCommand, DeviceControl, String, CutOff, bytes_of, IsUnfinished, is_before_final, IsSegment, follows, Segment}
use Rattle.escape_framing.specs.Decode.{waits, ends_before, first_byte, in_character, opened_by, after_escape, next_byte, read_on}
use Rattle.escape_framing.proofs.Existence.Utf8Lemmas.{append_nil}
use Rattle.escape_framing.proofs.ReadLemmas.{after, step_waits, step_ends, step_ends_before, spans}

-- ---- classes of bytes

-- neither within an escape sequence nor cutting it off
record Ends (inside : Bool) (b : ℕ) : Type 0 where
  outside : inside ≡ false
  whole : is_cut b ≡ false

escape_final_ends : (b : ℕ) → is_escape_final b ≡ true → Ends (in_escape b) b
unfolding is_embedded is_stop is_intermediate is_cut is_escape_final
escape_final_ends b h = record { outside = grind (arith, nat_tests); whole = grind (arith, nat_tests) }

final_ends : (b : ℕ) → is_final b ≡ true → Ends (in_parameters b) b
unfolding is_embedded is_stop is_parameter is_cut is_final
final_ends b h = record { outside = grind (arith, nat_tests); whole = grind (arith, nat_tests) }

pub cut_is_outside : (b : ℕ) → is_cut b ≡ true → in_escape b ≡ false
unfolding is_embedded is_stop is_intermediate is_cut
cut_is_outside b h = grind (arith, nat_tests)

pub cut_is_no_parameter : (b : ℕ) → is_cut b ≡ true → in_parameters b ≡ false
unfolding is_embedded is_stop is_parameter is_cut
cut_is_no_parameter b h = grind (arith, nat_tests)

pub embedded_is_no_intermediate : (b : ℕ) → is_embedded b ≡ true → is_intermediate b ≡ false
unfolding is_embedded is_stop is_intermediate
embedded_is_no_intermediate b h = grind (arith, nat_tests)

pub embedded_inside : (xs : List ℕ) → list_all is_embedded xs ≡ true → list_all in_escape xs ≡ true
embedded_inside [] h = refl
embedded_inside (x ∷ xs) h = let k = and_parts (is_embedded x) (list_all is_embedded xs) h in rw (k.0, embedded_inside xs k.1) refl

no_intermediate : (xs : List ℕ) → list_all is_embedded xs ≡ true → list_any is_intermediate xs ≡ false
no_intermediate [] h = refl
no_intermediate (x ∷ xs) h = let k = and_parts (is_embedded x) (list_all is_embedded xs) h in rw (embedded_is_no_intermediate x k.0, no_intermediate xs k.1) refl

-- ---- bytes that keep a sequence open

pub stays_command : (o xs : List ℕ) (b : ℕ) → not (ends_command b) ≡ true → next_byte (OpenCommand o xs) b ≡ waits (OpenCommand o (xs ++ b ∷ []))
unfolding next_byte
stays_command o xs b h = let k = or_parts (b == 0x07) (is_stop b) (not-true (ends_command b) h) in rw (k.0, k.1) refl

pub stays_device : (o h : List ℕ) (f : ℕ) (xs : List ℕ) (b : ℕ) → not (is_stop b) ≡ true → next_byte (OpenDevice o h f xs) b ≡ waits (OpenDevice o h f (xs ++ b ∷ []))
unfolding next_byte
stays_device o h f xs b e = let k = not-true (is_stop b) e in rw k refl

pub stays_string : (o : List ℕ) (x : ℕ) (xs : List ℕ) (b : ℕ) → not (is_stop b) ≡ true → next_byte (OpenString o x xs) b ≡ waits (OpenString o x (xs ++ b ∷ []))
unfolding next_byte
stays_string o x xs b e = let k = not-true (is_stop b) e in rw k refl

-- ---- bytes that open a sequence

-- a byte that opens a sequence is no intermediate or embedded byte, and doesn't cut an escape sequence off
opener_ends : (b : ℕ) → is_opener b ≡ true → Ends (in_escape b) b
unfolding is_embedded is_stop is_intermediate is_cut is_opener is_string_opener
opener_ends b h = record { outside = grind (arith, nat_tests); whole = grind (arith, nat_tests) }

opens : (o : List ℕ) (b : ℕ) → list_all is_embedded o ≡ true → is_opener b ≡ true → next_byte (OpenEscape o) b ≡ waits (opened_by o b)
unfolding next_byte after_escape
opens o b g k = let e = opener_ends b k in rw (e.outside, e.whole, no_intermediate o g, k) refl

opened_string : (o : List ℕ) (x : ℕ) → is_string_opener x ≡ true → opened_by o x ≡ OpenString o x []
unfolding opened_by is_string_opener
opened_string o x h =
    let e : (x == 0x5B) ≡ false = grind (arith, nat_tests) in
    let f : (x == 0x5D) ≡ false = grind (arith, nat_tests) in
    let g : (x == 0x50) ≡ false = grind (arith, nat_tests) in
    rw (e, f, g) refl

-- ---- the bytes of an open sequence read as this sequence

pub reads_escape : (body rest : List ℕ) → list_all in_escape body ≡ true → read_on (Begun []) (0x1B ∷ body ++ rest) ≡ read_on (OpenEscape body) rest
unfolding next_byte in_character first_byte
reads_escape body rest h =
    step_waits (Begun []) (OpenEscape []) 0x1B (body ++ rest) refl ∙ spans in_escape OpenEscape (λ xs b k. rw k refl) [] body rest h

-- ESC, controls, the byte that opens, and a body whose bytes pass the test
reads_opening : (test : ℕ → Bool) (open_with : List ℕ → Tail) → ((xs : List ℕ) (b : ℕ) → test b ≡ true → next_byte (open_with xs) b ≡ waits (open_with (xs ++ b ∷ []))) → (o : List ℕ) (b : ℕ) (body rest : List ℕ)
    → list_all is_embedded o ≡ true → is_opener b ≡ true → opened_by o b ≡ open_with [] → list_all test body ≡ true → read_on (Begun []) ((0x1B ∷ o ++ b ∷ body) ++ rest) ≡ read_on (open_with body) rest
reads_opening test open_with stays o b body rest g k e h =
    ap (read_on (Begun [])) (append_assoc (0x1B ∷ o) (b ∷ body) rest)
    ∙ reads_escape o (b ∷ (body ++ rest)) (embedded_inside o g)
    ∙ step_waits (OpenEscape o) (open_with []) b (body ++ rest) (opens o b g k ∙ ap waits e)
    ∙ spans test open_with stays [] body rest h

pub reads_control_sequence : (o body rest : List ℕ) → IsUnfinished (OpenControlSequence o body) → read_on (Begun []) ((0x1B ∷ o ++ 0x5B ∷ body) ++ rest) ≡ read_on (OpenControlSequence o body) rest
unfolding next_byte is_opener opened_by
reads_control_sequence o body rest g = reads_opening in_parameters (OpenControlSequence o) (λ xs b k. rw k refl) o 0x5B body rest g.0 refl refl g.1

pub reads_command : (o body rest : List ℕ) → IsUnfinished (OpenCommand o body) → read_on (Begun []) ((0x1B ∷ o ++ 0x5D ∷ body) ++ rest) ≡ read_on (OpenCommand o body) rest
unfolding is_opener opened_by
reads_command o body rest g = reads_opening (λ b. not (ends_command b)) (OpenCommand o) (stays_command o) o 0x5D body rest g.0 refl refl g.1

pub reads_header : (o header rest : List ℕ) → IsUnfinished (OpenHeader o header) → read_on (Begun []) ((0x1B ∷ o ++ 0x50 ∷ header) ++ rest) ≡ read_on (OpenHeader o header) rest
unfolding next_byte is_opener opened_by
reads_header o header rest g = reads_opening in_parameters (OpenHeader o) (λ xs b k. rw k refl) o 0x50 header rest g.0 refl refl g.1

pub reads_device : (o header : List ℕ) (f : ℕ) (body rest : List ℕ) → IsUnfinished (OpenDevice o header f body)
    → read_on (Begun []) (((0x1B ∷ o ++ 0x50 ∷ header) ++ f ∷ body) ++ rest) ≡ read_on (OpenDevice o header f body) rest
unfolding next_byte
reads_device o header f body rest g =
    ap (read_on (Begun [])) (append_assoc (0x1B ∷ o ++ 0x50 ∷ header) (f ∷ body) rest)
    ∙ reads_header o header (f ∷ (body ++ rest)) (g.0, g.1)
    ∙ step_waits (OpenHeader o header) (OpenDevice o header f []) f (body ++ rest) (let k = final_ends f g.2 in rw (k.outside, k.whole) refl)
    ∙ spans (λ b. not (is_stop b)) (OpenDevice o header f) (stays_device o header f) [] body rest g.3

pub reads_string : (o : List ℕ) (x : ℕ) (body rest : List ℕ) → IsUnfinished (OpenString o x body) → read_on (Begun []) ((0x1B ∷ o ++ x ∷ body) ++ rest) ≡ read_on (OpenString o x body) rest
unfolding is_opener
reads_string o x body rest g = reads_opening (λ b. not (is_stop b)) (OpenString o x) (stays_string o x) o x body rest g.0 (or_right _ (is_string_opener x) g.1) (opened_string o x g.1) g.2

-- ---- whole sequences

pub cut_off : (t : Tail) (b : ℕ) → is_before_final t ≡ true → is_cut b ≡ true → next_byte t b ≡ ends_before (CutOff t) (first_byte b)
unfolding next_byte
cut_off (OpenEscape body) b h k = let e = cut_is_outside b k in rw (e, k) refl
cut_off (OpenControlSequence o body) b h k = let e = cut_is_no_parameter b k in rw (e, k) refl
cut_off (OpenHeader o header) b h k = let e = cut_is_no_parameter b k in rw (e, k) refl
cut_off _ b h k = cc

-- a segment that ends before the byte that follows
pub ends_at : (t : Tail) (s : Segment) (test : ℕ → Bool) (f : List ℕ) → follows test f ≡ true → ((b : ℕ) → test b ≡ true → next_byte t b ≡ ends_before s (first_byte b)) → read_on t f ≡ after s (read_on (Begun []) f)
ends_at t s test [] h e = cc
ends_at t s test (b ∷ f) h e = step_ends_before t s b f (e b h)

pub reads_whole_escape : (body : List ℕ) (final : ℕ) (f : List ℕ) → IsSegment (Escape body final) f → read_on (Begun []) (bytes_of (Escape body final) ++ f) ≡ after (Escape body final) (read_on (Begun []) f)
unfolding next_byte after_escape
reads_whole_escape body final f g =
    ap (read_on (Begun [])) (append_assoc (0x1B ∷ body) (final ∷ []) f)
    ∙ reads_escape body (final ∷ f) g.0
    ∙ (let e = escape_final_ends final g.1 in step_ends (OpenEscape body) (Escape body final) final f (rw (e.outside, e.whole, g.2) refl))

pub reads_whole_control_sequence : (o body : List ℕ) (final : ℕ) (f : List ℕ) → IsSegment (ControlSequence o body final) f
    → read_on (Begun []) (bytes_of (ControlSequence o body final) ++ f) ≡ after (ControlSequence o body final) (read_on (Begun []) f)
unfolding next_byte
reads_whole_control_sequence o body final f g =
    ap (read_on (Begun [])) (append_assoc (0x1B ∷ o ++ 0x5B ∷ body) (final ∷ []) f)
    ∙ reads_control_sequence o body (final ∷ f) (g.0, g.1)
    ∙ (let e = final_ends final g.2 in step_ends (OpenControlSequence o body) (ControlSequence o body final) final f (rw (e.outside, e.whole) refl))

-- BEL belongs to the command
reads_to_bell : (o body : List ℕ) (ender : ℕ) (f : List ℕ) → IsUnfinished (OpenCommand o body) → (ender == 0x07) ≡ true
    → read_on (Begun []) (((0x1B ∷ o ++ 0x5D ∷ body) ++ ender ∷ []) ++ f) ≡ after (OperatingSystemCommand o body ender) (read_on (Begun []) f)
unfolding next_byte
reads_to_bell o body ender f g e =
    ap (read_on (Begun [])) (append_assoc (0x1B ∷ o ++ 0x5D ∷ body) (ender ∷ []) f)
    ∙ reads_command o body (ender ∷ f) g
    ∙ step_ends (OpenCommand o body) (OperatingSystemCommand o body ender) ender f (rw e refl)

reads_to_stop : (o body : List ℕ) (ender : ℕ) (f : List ℕ) → IsUnfinished (OpenCommand o body) → (ender == 0x07) ≡ false → is_stop ender ≡ true → follows (λ b. b == ender) f ≡ true
    → read_on (Begun []) (((0x1B ∷ o ++ 0x5D ∷ body) ++ []) ++ f) ≡ after (OperatingSystemCommand o body ender) (read_on (Begun []) f)
unfolding next_byte
reads_to_stop o body ender f g e s k =
    ap (λ l. read_on (Begun []) (l ++ f)) (append_nil (0x1B ∷ o ++ 0x5D ∷ body))
    ∙ reads_command o body f g
    ∙ ends_at (OpenCommand o body) (OperatingSystemCommand o body ender) (λ b. b == ender) f k (λ b h.
    subst (λ (x : ℕ). next_byte (OpenCommand o body) x ≡ ends_before (OperatingSystemCommand o body ender) (first_byte x)) (sym (eqb-true b ender h)) (rw (e, s) refl))

pub reads_whole_command : (o body : List ℕ) (ender : ℕ) (f : List ℕ) → IsSegment (OperatingSystemCommand o body ender) f
    → read_on (Begun []) (bytes_of (OperatingSystemCommand o body ender) ++ f) ≡ after (OperatingSystemCommand o body ender) (read_on (Begun []) f)
reads_whole_command o body ender f g =
    cond_both (ender == 0x07) (ender ∷ []) [] (λ l. read_on (Begun []) (((0x1B ∷ o ++ 0x5D ∷ body) ++ l) ++ f) ≡ after (OperatingSystemCommand o body ender) (read_on (Begun []) f))
    (λ e. reads_to_bell o body ender f (g.0, g.1) e) (λ e. reads_to_stop o body ender f (g.0, g.1) e (rw e at g.2) (rw e at g.3))

pub reads_whole_device : (o header : List ℕ) (final : ℕ) (body f : List ℕ) → IsSegment (DeviceControl o header final body) f
    → read_on (Begun []) (bytes_of (DeviceControl o header final body) ++ f) ≡ after (DeviceControl o header final body) (read_on (Begun []) f)
unfolding next_byte
reads_whole_device o header final body f g =
    reads_device o header final body f (g.0, g.1, g.2, g.3) ∙ ends_at (OpenDevice o header final body) (DeviceControl o header final body) is_stop f g.4 (λ b k. rw k refl)

pub reads_whole_string : (o : List ℕ) (x : ℕ) (body f : List ℕ) → IsSegment (String o x body) f
    → read_on (Begun []) (bytes_of (String o x body) ++ f) ≡ after (String o x body) (read_on (Begun []) f)
unfolding next_byte
reads_whole_string o x body f g = reads_string o x body f (g.0, g.1, g.2) ∙ ends_at (OpenString o x body) (String o x body) is_stop f g.3 (λ b k. rw k refl)
