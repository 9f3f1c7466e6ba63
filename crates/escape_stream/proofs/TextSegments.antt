-- Bytes that the plain reading takes as whole segments, and the actions of these.
use Rattle.std.proofs.Common.{◌≡◌, ℕ, Bool, true, false, List, [], ◌∷◌, ◌++◌, refl, sym, ap, ◌∙◌, arith, append-nil}
use Rattle.std.proofs.Math.Seq.{drop-append_seam}
use Rattle.std.specs.Prelude.{length, drop, ◌-◌, nat_le, ◌==◌, ◌&&◌, not, nat_lt}
use Rattle.std.specs.List.{flat_map, list_all}
use Rattle.std.proofs.lemmas.Bool.{and_parts, not-true, and_right}
use Rattle.std.proofs.lemmas.Grind.{flat_map-append}
use Rattle.std.proofs.lemmas.Bool.Decides.{nat_tests}
use Rattle.text_clusters.specs.Controls.{is_c1}
use Rattle.escape_framing.specs.SevenBit.{seven_bit}
use Rattle.escape_framing.specs.Segment.{Tail, Begun, Segment, bytes_of, IsSegment}
use Rattle.escape_framing.specs.Dispatch.{Dispatch, dispatches_of, decided_of}
use Rattle.escape_framing.specs.Decode.{Reading, read_on}
use Rattle.escape_framing.specs.Cut.{the_cut, tail_of, dispatches, newly_decided}
use Rattle.escape_framing.proofs.Existence.SevenBitLemmas.{no_pair, no_pair_after}
use Rattle.escape_framing.proofs.ReadLemmas.{read_after, read_append}
use Rattle.escape_framing.proofs.UniqueLemmas.{reads_segment}
use Rattle.escape_stream.specs.StreamAction.{StreamAction}
use Rattle.escape_stream.specs.StreamActions.{actions_of_dispatch, actions_of, stream_actions, newly_decided_actions}

-- ---- Bytes without a C1 control

-- a byte that may follow another, before bytes without a C1 control
pub pair_stands : (x b : ℕ) (bytes : List ℕ) → is_c1 x b ≡ false → no_pair (b ∷ bytes) ≡ true → no_pair (x ∷ b ∷ bytes) ≡ true
pair_stands x b bytes e h = rw e h

-- a byte other than C2 begins no C1 control
pub other_stands : (b : ℕ) (bytes : List ℕ) → (b == 0xC2) ≡ false → no_pair bytes ≡ true → no_pair (b ∷ bytes) ≡ true
other_stands b [] e h = refl
other_stands b (c ∷ bytes) e h = rw e h

is_other : (b : ℕ) → nat_lt b 128 ≡ true → (b == 0xC2) ≡ false
is_other b h = grind (arith, nat_tests)

is_no_second : (b : ℕ) → nat_lt b 128 ≡ true → is_c1 0xC2 b ≡ false
is_no_second b h = grind (arith, nat_tests)

-- a byte below 80h is no part of a C1 control
pub low_stands : (b : ℕ) (bytes : List ℕ) → nat_lt b 128 ≡ true → no_pair bytes ≡ true → no_pair (0xC2 ∷ b ∷ bytes) ≡ true
low_stands b bytes e h = pair_stands 0xC2 b bytes (is_no_second b e) (other_stands b bytes (is_other b e) h)

-- nor is a text of these bytes
pub low_text : (text bytes : List ℕ) → list_all (λ b. nat_lt b 128) text ≡ true → no_pair (0xC2 ∷ bytes) ≡ true → no_pair (0xC2 ∷ (text ++ bytes)) ≡ true
low_text [] bytes h k = k
low_text (b ∷ text) bytes h k =
    let p = and_parts (nat_lt b 128) (list_all (λ b. nat_lt b 128) text) h in
    low_stands b (text ++ bytes) p.0 (no_pair_after (0xC2 ∷ []) (text ++ bytes) (low_text text bytes p.1 k))

-- ESC may follow any byte
pub before_escape : (x : ℕ) → is_c1 x 0x1B ≡ false
before_escape x = and_right (x == 0xC2) false refl

-- a text without a C1 control, before ESC
pub escape_after : (text bytes : List ℕ) → no_pair text ≡ true → no_pair (0x1B ∷ bytes) ≡ true → no_pair (text ++ 0x1B ∷ bytes) ≡ true
escape_after [] bytes h k = k
escape_after (b ∷ []) bytes h k = pair_stands b 0x1B bytes (before_escape b) k
escape_after (b ∷ c ∷ text) bytes h k =
    let p = and_parts (not (is_c1 b c)) (no_pair (c ∷ text)) h in
    pair_stands b c (text ++ 0x1B ∷ bytes) (not-true (is_c1 b c) p.0) (escape_after (c ∷ text) bytes p.1 k)

-- bytes without a C1 control are their own seven-bit form
own_form : (bytes : List ℕ) → no_pair bytes ≡ true → seven_bit bytes ≡ bytes
own_form [] h = refl
own_form (b ∷ []) h = refl
own_form (b ∷ c ∷ bytes) h =
    let p = and_parts (not (is_c1 b c)) (no_pair (c ∷ bytes)) h in
    let e = not-true (is_c1 b c) p.0 in
    rw e (ap (λ l. b ∷ l) (own_form (c ∷ bytes) p.1))

-- ---- The actions of bytes

-- Read from the start, the bytes give these actions and leave nothing open; there is no C1 control in them, even if
-- a C2 comes before them.
pub record Says (bytes : List ℕ) (actions : List StreamAction) : Type 0 where
  pub asks : actions_of (flat_map dispatches_of (read_on (Begun []) bytes).segments) ≡ actions
  pub whole : (read_on (Begun []) bytes).tail ≡ Begun []
  pub unpaired : no_pair (0xC2 ∷ bytes) ≡ true

pub says_nothing : Says [] []
unfolding read_on
says_nothing = record { asks = refl; whole = refl; unpaired = refl }

pub says_same : {x y : List ℕ} {a b : List StreamAction} → x ≡ y → a ≡ b → Says x a → Says y b
says_same p q h = record {
  asks = ap (λ l. actions_of (flat_map dispatches_of (read_on (Begun []) l).segments)) (sym p) ∙ h.asks ∙ q;
  whole = ap (λ l. (read_on (Begun []) l).tail) (sym p) ∙ h.whole;
  unpaired = ap (λ l. no_pair (0xC2 ∷ l)) (sym p) ∙ h.unpaired;
}

-- a segment gives its actions before those of the bytes that it may come before
pub says_segment : (s : Segment) (bytes : List ℕ) (actions : List StreamAction) → IsSegment s bytes → no_pair (0xC2 ∷ (bytes_of s ++ bytes)) ≡ true → Says bytes actions
    → Says (bytes_of s ++ bytes) (actions_of (dispatches_of s) ++ actions)
says_segment s bytes actions g u h =
    let e = reads_segment s bytes g in
    record {
      asks = ap (λ (r : Reading). actions_of (flat_map dispatches_of r.segments)) e
          ∙ flat_map-append actions_of_dispatch (dispatches_of s) (flat_map dispatches_of (read_on (Begun []) bytes).segments)
          ∙ ap (λ l. actions_of (dispatches_of s) ++ l) h.asks;
      whole = ap (λ (r : Reading). r.tail) e ∙ h.whole;
      unpaired = u;
    }

-- ---- What a stream decides

-- a C2 at the stream's end makes no pair with the bytes after it
no_seam : (x y : ℕ) (u : Bool) → is_c1 0xC2 y ≡ false → is_c1 x y ≡ u → u ≡ false
no_seam x y true h e = let k = (and_parts (x == 0xC2) (nat_le 0x80 y && nat_le y 0x9F) e).1 in let l : (nat_le 0x80 y && nat_le y 0x9F) ≡ false = h in cc
no_seam x y false h e = refl

last_form : (b : ℕ) (bytes : List ℕ) → no_pair (0xC2 ∷ bytes) ≡ true → seven_bit (b ∷ bytes) ≡ b ∷ bytes
last_form b [] h = refl
last_form b (c ∷ bytes) h =
    let p = and_parts (not (is_c1 0xC2 c)) (no_pair (c ∷ bytes)) h in
    let e = no_seam b c (is_c1 b c) (not-true (is_c1 0xC2 c) p.0) refl in
    rw e (ap (λ l. b ∷ l) (own_form (c ∷ bytes) p.1))

joined_form : (stream bytes : List ℕ) → no_pair (0xC2 ∷ bytes) ≡ true → seven_bit (stream ++ bytes) ≡ seven_bit stream ++ bytes
joined_form [] bytes h = own_form bytes (no_pair_after (0xC2 ∷ []) bytes h)
joined_form (b ∷ []) bytes h = last_form b bytes h
joined_form (b ∷ c ∷ stream) bytes h = by_test (is_c1 b c) refl (joined_form stream bytes h) (joined_form (c ∷ stream) bytes h)
  where
    by_test : (u : Bool) → is_c1 b c ≡ u → seven_bit (stream ++ bytes) ≡ seven_bit stream ++ bytes → seven_bit (c ∷ (stream ++ bytes)) ≡ seven_bit (c ∷ stream) ++ bytes
        → seven_bit (b ∷ c ∷ (stream ++ bytes)) ≡ seven_bit (b ∷ c ∷ stream) ++ bytes
    by_test true e f g = rw e (ap (λ l. 0x1B ∷ (c - 0x40) ∷ l) f)
    by_test false e f g = rw e (ap (λ l. b ∷ l) g)

-- the stream's own segments, where it leaves nothing unfinished, and then those of the bytes
joined_reading : (stream bytes : List ℕ) → tail_of stream ≡ Begun [] → no_pair (0xC2 ∷ bytes) ≡ true
    → read_on (Begun []) (seven_bit (stream ++ bytes)) ≡ read_after (record { segments = (read_on (Begun []) (seven_bit stream)).segments; tail = Begun [] }) bytes
unfolding the_cut
joined_reading stream bytes e h =
    ap (read_on (Begun [])) (joined_form stream bytes h) ∙ read_append (Begun []) (seven_bit stream) bytes
    ∙ ap (λ (t : Tail). read_after (record { segments = (read_on (Begun []) (seven_bit stream)).segments; tail = t }) bytes) e

whole_dispatches : (segments : List Segment) (tail : Tail) → tail ≡ Begun [] → flat_map dispatches_of segments ++ decided_of tail ≡ flat_map dispatches_of segments
whole_dispatches segments tail e = ap (λ (t : Tail). flat_map dispatches_of segments ++ decided_of t) e ∙ append-nil (flat_map dispatches_of segments)

-- after a stream that leaves nothing unfinished the bytes decide these actions, and leave nothing unfinished
pub stream_says_after : (stream bytes : List ℕ) (actions : List StreamAction) → tail_of stream ≡ Begun [] → Says bytes actions
    → (newly_decided_actions stream bytes ≡ actions) × (tail_of (stream ++ bytes) ≡ Begun [])
unfolding the_cut
stream_says_after stream bytes actions e h =
    let r = joined_reading stream bytes e h.unpaired in
    let closed : tail_of (stream ++ bytes) ≡ Begun [] = ap (λ (r : Reading). r.tail) r ∙ h.whole in
    let before : List Dispatch = flat_map dispatches_of (read_on (Begun []) (seven_bit stream)).segments in
    let new : List Dispatch = flat_map dispatches_of (read_on (Begun []) bytes).segments in
    let all : dispatches (stream ++ bytes) ≡ before ++ new =
    whole_dispatches (read_on (Begun []) (seven_bit (stream ++ bytes))).segments (tail_of (stream ++ bytes)) closed
    ∙ ap (λ (r : Reading). flat_map dispatches_of r.segments) r
    ∙ flat_map-append dispatches_of (read_on (Begun []) (seven_bit stream)).segments (read_on (Begun []) bytes).segments in
    let first : dispatches stream ≡ before = whole_dispatches (read_on (Begun []) (seven_bit stream)).segments (tail_of stream) e in
    let newly : newly_decided stream bytes ≡ new =
    ap (λ l. drop (length l) (dispatches (stream ++ bytes))) first ∙ ap (λ l. drop (length before) l) all ∙ drop-append_seam before new in
    (ap actions_of newly ∙ h.asks, closed)

-- so it is of the bytes alone
pub stream_says : (bytes : List ℕ) (actions : List StreamAction) → Says bytes actions → (stream_actions bytes ≡ actions) × (tail_of bytes ≡ Begun [])
unfolding the_cut read_on
stream_says bytes actions h = stream_says_after [] bytes actions refl h
