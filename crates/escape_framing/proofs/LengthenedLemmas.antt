-- Bytes are open exactly where some continuation makes a longer segment of them.
use Rattle.std.proofs.Common.{◌≡◌, ◌≢◌, ℕ, ◌+◌, ◌/◌, ◌<◌, ◌≤◌, ◌⊎◌, inl, inr, Bool, true, false, List, [], ◌∷◌, ◌++◌, length, refl, sym, ap, subst, ◌∙◌, arith, append_assoc, length-append}
use Rattle.std.specs.Prelude.{◌||◌, not}
use Rattle.std.specs.List.{flat_map, list_any}
use Rattle.std.proofs.lemmas.Bool.{or_right}
use lib.Utf8.{low_scalar}
use Rattle.escape_framing.specs.Bytes.{is_stop, is_intermediate, is_final, is_escape_final, is_string_opener, is_opener}
use Rattle.escape_framing.specs.Segment.{Tail, Begun, OpenEscape, OpenControlSequence, OpenCommand, OpenHeader, OpenDevice, OpenString, bytes_of_tail, Segment, Character, Escape, ControlSequence, OperatingSystemCommand, DeviceControl, String, bytes_of, IsBegun, IsUnfinished}
use Rattle.escape_framing.specs.Decode.{Reading, read_on}
use Rattle.escape_framing.specs.Lengthened.{IsOpen, IsLengthened}
use Rattle.escape_framing.proofs.Existence.Utf8Lemmas.{order, Spelled, in_one, in_two, in_three, in_four, spelled, prefix_of_one, prefix_of_two, two}
use Rattle.escape_framing.proofs.Existence.SequenceLemmas.{all_push}
use Rattle.escape_framing.proofs.Existence.CutLemmas.{cuts_on}
use Rattle.escape_framing.proofs.ReadLemmas.{after, read_after, read_append}
use Rattle.escape_framing.proofs.UniqueLemmas.{reads_segment}
use Rattle.std.proofs.lemmas.List.{nil_from_length}

-- ---- bytes that can be lengthened are open

pub lengthened_is_open : (bytes : List ℕ) → IsLengthened bytes → IsOpen bytes
lengthened_is_open bytes g = by_segments (read_on (Begun []) bytes).segments refl
  where
    by_segments : (ss : List Segment) → (read_on (Begun []) bytes).segments ≡ ss → IsOpen bytes
    by_segments [] e =
        let c = cuts_on (Begun []) bytes (inl refl) in
        record { tail = (read_on (Begun []) bytes).tail; unfinished = c.unfinished; is = sym (ap (λ ss. flat_map bytes_of ss ++ bytes_of_tail (read_on (Begun []) bytes).tail) e) ∙ c.joined }
    by_segments (s ∷ ss) e =
        let c = cuts_on (Begun []) bytes (inl refl) in
        let t = (read_on (Begun []) bytes).tail in
        let two : read_after (read_on (Begun []) bytes) (g.more ++ g.following) ≡ after g.segment (read_on (Begun []) g.following)
        = sym (read_append (Begun []) bytes (g.more ++ g.following)) ∙ ap (read_on (Begun [])) (sym (append_assoc bytes g.more g.following) ∙ ap (λ l. l ++ g.following) (sym g.is)) ∙ reads_segment g.segment g.following g.stands in
        let segments : (s ∷ ss) ++ (read_on t (g.more ++ g.following)).segments ≡ g.segment ∷ (read_on (Begun []) g.following).segments
        = ap (λ l. l ++ (read_on t (g.more ++ g.following)).segments) (sym e) ∙ ap (λ (q : Reading). q.segments) two in
        let same : s ≡ g.segment = cc in
        let whole : (bytes_of s ++ flat_map bytes_of ss) ++ bytes_of_tail t ≡ bytes = sym (ap (λ l. flat_map bytes_of l ++ bytes_of_tail t) e) ∙ c.joined in
        let count = ap length whole in
        let longer = ap length (ap bytes_of same ∙ g.is) in
        absurd (g.longer (nil_from_length g.more (omega (arith, count, longer, length-append (bytes_of s ++ flat_map bytes_of ss) (bytes_of_tail t), length-append (bytes_of s) (flat_map bytes_of ss), length-append bytes g.more))))

-- ---- open bytes can be lengthened

longer_character : (bytes : List ℕ) → IsBegun bytes → IsLengthened bytes
longer_character bytes (c, more, s, e, n, m) = by_size (order 0x9F c)
  where
    by_kind : c ≤ 0x9F → Spelled c → IsLengthened bytes
    by_kind l (in_one k h) = absurd (prefix_of_one c bytes more (sym h ∙ e) n m)
    by_kind l (in_two g k h) =
        let is : bytes ≡ (192 + c / 64) ∷ [] = prefix_of_two _ _ bytes more (sym h ∙ e) n m in
        let lead : 192 + c / 64 ≡ 0xC2 = omega arith in
        record {
          segment = Character 0xA9;
          more = 0xA9 ∷ [];
          following = [];
          stands = (low_scalar 0xA9 (omega arith), inr (omega arith));
          is = two 0xA9 (omega arith) (omega arith) ∙ ap (λ (b : ℕ). b ∷ 0xA9 ∷ []) (sym lead) ∙ ap (λ l. l ++ 0xA9 ∷ []) (sym is);
          longer = λ h. cc;
        }
    by_kind l (in_three g k t h) = absurd (omega arith)
    by_kind l (in_four g k h) = absurd (omega arith)

    by_size : (0x9F < c) ⊎ (c ≤ 0x9F) → IsLengthened bytes
    by_size (inl l) = record { segment = Character c; more = more; following = []; stands = (s, inr l); is = e; longer = m }
    by_size (inr l) = by_kind l (spelled c s)

letter_is_final : (is_escape_final 0x63 ≡ true) × (is_opener 0x63 ≡ false)
unfolding is_escape_final is_opener is_string_opener
letter_is_final = (refl, refl)

mark_is_final : (is_final 0x6D ≡ true) × (not (is_stop 0x61) ≡ true) × (is_stop 0x1B ≡ true)
unfolding is_final is_stop
mark_is_final = (refl, refl, refl)

longer_tail : (t : Tail) → IsUnfinished t → bytes_of_tail t ≢ [] → IsLengthened (bytes_of_tail t)
longer_tail (Begun bytes) (inl e) n = absurd (n e)
longer_tail (Begun bytes) (inr g) n = longer_character bytes g
longer_tail (OpenEscape body) g n = record {
  segment = Escape body 0x63;
  more = 0x63 ∷ [];
  following = [];
  stands = (g, letter_is_final.0, ap (λ (b : Bool). list_any is_intermediate body || not b) letter_is_final.1 ∙ or_right (list_any is_intermediate body) true refl);
  is = refl;
  longer = λ h. cc;
}
longer_tail (OpenControlSequence o body) g n = record { segment = ControlSequence o body 0x6D; more = 0x6D ∷ []; following = []; stands = (g.0, g.1, mark_is_final.0); is = refl; longer = λ h. cc }
longer_tail (OpenCommand o body) g n = record { segment = OperatingSystemCommand o body 0x07; more = 0x07 ∷ []; following = []; stands = (g.0, g.1, refl, refl); is = refl; longer = λ h. cc }
longer_tail (OpenHeader o header) g n = record { segment = DeviceControl o header 0x6D []; more = 0x6D ∷ []; following = 0x1B ∷ []; stands = (g.0, g.1, mark_is_final.0, refl, mark_is_final.2); is = refl; longer = λ h. cc }
longer_tail (OpenDevice o header f body) g n = record {
  segment = DeviceControl o header f (body ++ 0x61 ∷ []);
  more = 0x61 ∷ [];
  following = 0x1B ∷ [];
  stands = (g.0, g.1, g.2, all_push (λ b. not (is_stop b)) body 0x61 g.3 mark_is_final.1, mark_is_final.2);
  is = sym (append_assoc (0x1B ∷ o ++ 0x50 ∷ header) (f ∷ body) (0x61 ∷ []));
  longer = λ h. cc;
}
longer_tail (OpenString o x body) g n = record {
  segment = String o x (body ++ 0x61 ∷ []);
  more = 0x61 ∷ [];
  following = 0x1B ∷ [];
  stands = (g.0, g.1, all_push (λ b. not (is_stop b)) body 0x61 g.2 mark_is_final.1, mark_is_final.2);
  is = sym (append_assoc (0x1B ∷ o) (x ∷ body) (0x61 ∷ []));
  longer = λ h. cc;
}

pub open_is_lengthened : (bytes : List ℕ) → bytes ≢ [] → IsOpen bytes → IsLengthened bytes
open_is_lengthened bytes n g = subst IsLengthened g.is (longer_tail g.tail g.unfinished (λ e. n (sym g.is ∙ e)))
