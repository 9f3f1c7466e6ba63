-- The offsets of the segments of a stream.
use Rattle.std.proofs.Common.{◌≡◌, ℕ, zero, suc, ◌+◌, ◌-◌, true, false, Some, List, [], ◌∷◌, ◌++◌, length, take, drop, map, refl, sym, ap, subst, ◌∙◌, arith, zero-add, append_assoc, append-nil, length-append, ⊎_elim}
use Rattle.std.specs.Prelude.{Contains}
use Rattle.std.specs.List.{flat_map, slice_get}
use Rattle.std.proofs.lemmas.List.{get_or_at, take_at, drop_at}
use Rattle.text_clusters.specs.Controls.{is_c1}
use Rattle.escape_framing.specs.SevenBit.{seven_bit}
use Rattle.escape_framing.specs.Segment.{Tail, Begun, bytes_of_tail, Segment, bytes_of}
use Rattle.escape_framing.specs.Decode.{Reading, read_on}
use Rattle.escape_framing.specs.Cut.{the_cut, tail_of}
use Rattle.escape_framing.specs.Held.{Held, Handed, nothing_held, hand_out, held_of}
use Rattle.escape_framing.specs.PlacedSegments.{segments_from, placed_segments}
use Rattle.escape_framing.proofs.Existence.SevenBitLemmas.{opens}
use Rattle.escape_framing.proofs.Existence.CutLemmas.{is_the_cut}
use Rattle.escape_framing.proofs.ReadLemmas.{read_append}
use Rattle.escape_framing.proofs.HeldLemmas.{At, at_rest, at_c2, at_all}
use Rattle.escape_framing.proofs.IdleLemmas.{tail_is, idle_is_whole}
use Rattle.std.proofs.lemmas.Bool.{cond_both, cases_Bool}

-- ---- the seven-bit form

-- it has as many bytes as the stream
pub length-seven_bit : (s : List ℕ) → length (seven_bit s) ≡ length s
length-seven_bit [] = refl
length-seven_bit (b ∷ []) = refl
length-seven_bit (b ∷ c ∷ s) =
    cond_both (is_c1 b c) _ _ (λ l. length l ≡ length (b ∷ c ∷ s)) (λ e. ap (λ (n : ℕ). suc (suc n)) (length-seven_bit s)) (λ e. ap suc (length-seven_bit (c ∷ s)))

-- two streams join where no C2 waits between them
seven_bit_join : (s x : List ℕ) → opens s ≡ false → seven_bit (s ++ x) ≡ seven_bit s ++ seven_bit x
seven_bit_join [] x h = refl
seven_bit_join (b ∷ []) [] h = refl
seven_bit_join (b ∷ []) (c ∷ x) h = rw h refl
seven_bit_join (b ∷ c ∷ s) x h =
    ⊎_elim (λ e. rw e (ap (λ l. 0x1B ∷ (c - 0x40) ∷ l) (seven_bit_join s x (rw e at h)))) (λ e. rw e (ap (λ l. b ∷ l) (seven_bit_join (c ∷ s) x (rw e at h)))) (cases_Bool (is_c1 b c))

-- ---- streams of which nothing is held

idle_opens : (s : List ℕ) (h : Handed) → At s h → h.held ≡ nothing_held → opens s ≡ false
idle_opens s h (at_rest o r w) e = o
idle_opens s h (at_c2 v ds kept form o r k) e = let m : true ≡ false = sym (ap (λ (n : Handed). n.held.waiting) k) ∙ ap (λ (x : Held). x.waiting) e in cc

segments_is : (s : List ℕ) → (the_cut s).segments ≡ (read_on (Begun []) (seven_bit s)).segments
unfolding the_cut
segments_is s = refl

-- the bytes after a stream of which nothing is held are cut by themselves
pub segments_join : (s x : List ℕ) → held_of s ≡ nothing_held → (the_cut (s ++ x)).segments ≡ (the_cut s).segments ++ (the_cut x).segments
segments_join s x h =
    let form : seven_bit (s ++ x) ≡ seven_bit s ++ seven_bit x = seven_bit_join s x (idle_opens s (hand_out nothing_held s) (at_all s) h) in
    let whole : (read_on (Begun []) (seven_bit s)).tail ≡ Begun [] = sym (tail_is s) ∙ idle_is_whole s h in
    segments_is (s ++ x)
    ∙ ap (λ l. (read_on (Begun []) l).segments) form
    ∙ ap (λ (r : Reading). r.segments) (read_append (Begun []) (seven_bit s) (seven_bit x))
    ∙ ap (λ (t : Tail). (read_on (Begun []) (seven_bit s)).segments ++ (read_on t (seven_bit x)).segments) whole
    ∙ (λ i. sym (segments_is s) i ++ sym (segments_is x) i)

-- its segments are all of its seven-bit form
pub whole_form : (s : List ℕ) → held_of s ≡ nothing_held → flat_map bytes_of (the_cut s).segments ≡ seven_bit s
whole_form s h =
    let c = is_the_cut s in
    sym (append-nil (flat_map bytes_of (the_cut s).segments))
    ∙ ap (λ (t : Tail). flat_map bytes_of (the_cut s).segments ++ bytes_of_tail t) (sym (idle_is_whole s h))
    ∙ sym c.joined

pub whole_length : (s : List ℕ) → held_of s ≡ nothing_held → length (flat_map bytes_of (the_cut s).segments) ≡ length s
whole_length s h = ap length (whole_form s h) ∙ length-seven_bit s

-- ---- positions

pub segments_append : (n : ℕ) (xs ys : List Segment) → segments_from n (xs ++ ys) ≡ segments_from n xs ++ segments_from (n + length (flat_map bytes_of xs)) ys
segments_append n [] ys = ap (λ (k : ℕ). segments_from k ys) (let e : n ≡ n + length (flat_map bytes_of []) = omega arith in e)
segments_append n (x ∷ xs) ys =
    ap (λ (l : List (ℕ × Segment)). (n, x) ∷ l)
    (segments_append (n + length (bytes_of x)) xs ys
    ∙ ap (λ (k : ℕ). segments_from (n + length (bytes_of x)) xs ++ segments_from k ys)
    (let e : n + length (bytes_of x) + length (flat_map bytes_of xs) ≡ n + length (bytes_of x ++ flat_map bytes_of xs) = omega (arith, length-append (bytes_of x) (flat_map bytes_of xs)) in e))

contains_at : (p : List (ℕ × Segment)) (x : ℕ × Segment) (ys : List (ℕ × Segment)) → Contains (p ++ x ∷ ys) x
contains_at p x ys = (length p, omega (arith, length-append p (x ∷ ys)), get_or_at p x ys x (length p) refl)

-- the first segment after a stream of which nothing is held begins at the end of that stream
pub stands_after : (s x left : List ℕ) (segment : Segment) (segments : List Segment) → held_of s ≡ nothing_held → held_of x ≡ nothing_held → segment ∷ segments ≡ (the_cut x).segments
    → Contains (placed_segments (s ++ (x ++ left))) (length s, segment)
stands_after s x left segment segments h k e =
    let rest = segments ++ (the_cut left).segments in
    let row : (the_cut (s ++ (x ++ left))).segments ≡ (the_cut s).segments ++ (segment ∷ rest)
    = segments_join s (x ++ left) h ∙ ap (λ l. (the_cut s).segments ++ l) (segments_join x left k ∙ ap (λ l. l ++ (the_cut left).segments) (sym e)) in
    let offset : 0 + length (flat_map bytes_of (the_cut s).segments) ≡ length s = zero-add _ ∙ whole_length s h in
    let placed : placed_segments (s ++ (x ++ left)) ≡ segments_from 0 (the_cut s).segments ++ segments_from (length s) (segment ∷ rest)
    = ap (segments_from 0) row ∙ segments_append 0 (the_cut s).segments (segment ∷ rest) ∙ ap (λ (n : ℕ). segments_from 0 (the_cut s).segments ++ segments_from n (segment ∷ rest)) offset in
    subst (λ (l : List (ℕ × Segment)). Contains l (length s, segment)) (sym placed)
    (contains_at (segments_from 0 (the_cut s).segments) (length s, segment) (segments_from (length s + length (bytes_of segment)) rest))

-- ---- all of them

without_offsets : (n : ℕ) (xs : List Segment) → map (λ (p : ℕ × Segment). p.1) (segments_from n xs) ≡ xs
without_offsets n [] = refl
without_offsets n (x ∷ xs) = ap (λ l. x ∷ l) (without_offsets (n + length (bytes_of x)) xs)

pub all_segments : (stream : List ℕ) → map (λ (p : ℕ × Segment). p.1) (placed_segments stream) ≡ (the_cut stream).segments
all_segments stream = without_offsets 0 (the_cut stream).segments

same_parts : (a b : ℕ × Segment) → Some a ≡ Some b → (a.0 ≡ b.0) × (a.1 ≡ b.1)
same_parts a b h = let k : a ≡ b = cc in (ap (λ (p : ℕ × Segment). p.0) k, ap (λ (p : ℕ × Segment). p.1) k)

placed_in : (n : ℕ) (xs : List Segment) (tail : List ℕ) (index offset : ℕ) (segment : Segment) → slice_get (segments_from n xs) index ≡ Some (offset, segment)
    → (prefix back : List ℕ) × (flat_map bytes_of xs ++ tail ≡ prefix ++ (bytes_of segment ++ back)) × (n + length prefix ≡ offset)
placed_in n [] tail index offset segment h = cc
placed_in n (x ∷ xs) tail zero offset segment h =
    let k = same_parts (n, x) (offset, segment) h in
    let s : x ≡ segment = k.1 in
    ([], flat_map bytes_of xs ++ tail, append_assoc (bytes_of x) (flat_map bytes_of xs) tail ∙ ap (λ (y : Segment). bytes_of y ++ (flat_map bytes_of xs ++ tail)) s, omega (arith, k.0))
placed_in n (x ∷ xs) tail (suc index) offset segment h =
    let r = placed_in (n + length (bytes_of x)) xs tail index offset segment h in
    (bytes_of x ++ r.0, r.1, append_assoc (bytes_of x) (flat_map bytes_of xs) tail ∙ ap (λ l. bytes_of x ++ l) r.2 ∙ sym (append_assoc (bytes_of x) r.0 _), omega (arith, r.3, length-append (bytes_of x) r.0))

pub each_segment : (stream : List ℕ) (index offset : ℕ) (segment : Segment) → slice_get (placed_segments stream) index ≡ Some (offset, segment) → take (length (bytes_of segment)) (drop offset (seven_bit stream)) ≡ bytes_of segment
each_segment stream index offset segment h =
    let c = is_the_cut stream in
    let r = placed_in 0 (the_cut stream).segments (bytes_of_tail (tail_of stream)) index offset segment h in
    let whole : seven_bit stream ≡ r.0 ++ (bytes_of segment ++ r.1) = c.joined ∙ r.2 in
    ap (λ l. take (length (bytes_of segment)) (drop offset l)) whole
    ∙ ap (take (length (bytes_of segment))) (drop_at r.0 (bytes_of segment ++ r.1) offset (omega (arith, r.3)))
    ∙ take_at (bytes_of segment) r.1 (length (bytes_of segment)) refl
