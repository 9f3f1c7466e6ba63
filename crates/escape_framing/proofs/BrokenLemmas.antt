-- Bytes that are part of no character, and characters that are begun and broken off, as one event.
use Rattle.std.proofs.Common.{◌≡◌, ◌≢◌, ℕ, ◌+◌, ◌<◌, ◌≤◌, ◌⊎◌, inl, inr, ⊎_elim, Bool, true, false, cond, nat_lt, List, [], ◌∷◌, ◌++◌, length, length-drop, map, take, drop, drop-drop, min, Option, Some, None, refl, sym, ap, subst, ◌∙◌, arith}
use Rattle.std.specs.Prelude.{◌==◌, IfSome, is_none, slice_index}
use Rattle.std.specs.Char.{IsScalar}
use Rattle.std.specs.Int.{is_in_range}
use Rattle.std.specs.Str.{IsUtf8}
use Rattle.std.specs.Str.Lossy.{utf8_error_len, second_byte_min, second_byte_max}
use Rattle.std.proofs.lemmas.Bool.Decides.{nat_tests}
use Rattle.std.proofs.lemmas.Bool.{cases_Bool, cases_eq}
use Rattle.std.proofs.lemmas.List.{take_min}
use Rattle.std.proofs.lemmas.Str.{IsUtf8-encode, encode_ascii}
use lib.Utf8.{encode, low_scalar}
use Rattle.bstr.specs.Utf8.{Decoded, bad, good, decoded, decoded_by, second, continues}
use Rattle.bstr.proofs.lemmas.PieceLemmas.{Shape, decoded_by-shape}
use Rattle.bstr.proofs.lemmas.EncodeLemmas.{decoded-encode}
use Rattle.escape_framing.specs.Segment.{Begun, IsBegun, BeginsCharacter, IsUnfinished}
use Rattle.escape_framing.specs.Dispatch as stream
use Rattle.escape_framing.specs.Held.{Step, Held, Handed, TakesMemory, handed, held_step, fresh_step, nothing_held, hand_out}
use Rattle.escape_framing.specs.Framed.{Single, framed_after, IsReached, BeginsNoText, IsCarried, Frames, no_text}
use Rattle.escape_framing.specs.Lending.{Lending}
use Rattle.escape_framing.specs.Event.{handed_out, held_resumed}
use Rattle.escape_framing.specs.Read.{whole_stray, ReadsEvent, TakesMemoryAt, held_after}
use Rattle.escape_framing.specs.Characters.{IsKind}
use Rattle.escape_framing.specs.declared.characters.Kind.TheVariants as kind
use Rattle.escape_framing.specs.declared.event.Event.{Event}
use Rattle.escape_framing.specs.declared.event.Event.TheVariants as event
use Rattle.escape_framing.specs.declared.event.Read.TheVariants as read
use Rattle.escape_framing.proofs.CharacterLemmas.{broken_step, begun_goes}
use Rattle.escape_framing.proofs.DecodedLemmas.{Encodes, two, three, four, no_character_here}
use Rattle.escape_framing.proofs.Existence.OutcomeLemmas.{Outcome, whole, begun, broken, outcome}
use Rattle.escape_framing.proofs.Existence.Utf8Lemmas.{append_nil, in_range, order, lead_wants, pair_wants, triple_wants, begins_one}
use Rattle.escape_framing.proofs.FirstLemmas.{first_waits}
use Rattle.escape_framing.proofs.HeldLemmas.{held_append}
use Rattle.escape_framing.proofs.LenLemmas.{none_stray}
use Rattle.escape_framing.proofs.ReadEventLemmas.{reads_left, reads_one, reads_stray}
use Rattle.escape_framing.proofs.StepLemmas.{nothing_reached}
use Rattle.escape_framing.proofs.TextLemmas.{first_bytes, other_step}

-- bytes that hand nothing out, and then an event, are read as one
frames_join : (count : ℕ) (old mid after : Held) (bytes : List ℕ) (n m : ℕ) (l1 l : Lending) (e : Option Event) → Frames count old bytes (λ from. map Single (handed_out l1 None)) n mid → Frames (count + n) mid (drop n bytes) (λ from. map Single (handed_out l e)) m after
    → Frames count old bytes (λ from. map Single (handed_out l e)) (n + m) after
frames_join count old mid after bytes n m l1 l e f g =
    let rest : drop m (drop n bytes) ≡ drop (n + m) bytes = drop-drop m n bytes in
    let here : count + n + m ≡ count + (n + m) = omega arith in
    record {
      within = let a = f.within in let b = g.within in omega (arith, length-drop n bytes);
      lends = λ start.
          let k : start + count + n ≡ start + (count + n) = omega arith in
          let j : start + (count + n) + m ≡ start + count + (n + m) = omega arith in
          f.lends start
          ∙ ap (λ (x : ℕ). framed_after start x mid (drop n bytes)) k
          ∙ g.lends start
          ∙ (λ i. map Single (handed_out l e) ++ framed_after start (j i) after (rest i));
      keeps = f.keeps ∙ g.keeps ∙ ap (λ (x : List ℕ). (hand_out after x).held) rest;
      reached = g.reached;
      carried = subst (λ (x : List ℕ). IsCarried 0 (count + (n + m)) after x) rest (subst (λ (x : ℕ). IsCarried 0 x after (drop m (drop n bytes))) here g.carried);
    }

reads_join : (old : Held) (bytes : List ℕ) (n m : ℕ) (e : Option Event) (l1 l : Lending) → 0 < n → IsReached l1.held → ReadsEvent old bytes (read.Bytes None n) l1 → ReadsEvent l1.held (drop n bytes) (read.Bytes e m) l → ReadsEvent old bytes (read.Bytes e (n + m)) l
reads_join old bytes n m e l1 l z reached f g =
    let rest : drop m (drop n bytes) ≡ drop (n + m) bytes = drop-drop m n bytes in
    record {
      frames = λ count r k. let first = f.frames count r k in frames_join count old l1.held l.held bytes n m l1 l e first (g.frames (count + n) first.reached first.carried);
      within = let a = f.within in let b = g.within in omega (arith, length-drop n bytes);
      text = no_text;
      moves = λ x y. absurd (omega arith);
      opens = λ r j t.
          let s : n + (m + j) ≡ n + m + j = omega arith in
          let q = subst (λ (x : List ℕ). TakesMemoryAt l.held x j) (sym rest) t in
          let second = g.opens reached j q in
          ap (λ (x : List ℕ). held_after l.held x j) (sym rest) ∙ second
          ∙ f.opens r (m + j) (subst (λ (x : Held). TakesMemory x.kept) second q)
          ∙ ap (held_after old bytes) s;
    }

-- ---- the first bytes of a character, one by one

-- The bytes go on with a character of which `p` is held: after n of them a byte breaks it off.
data BreaksOff : List ℕ → List ℕ → ℕ → Type 0 where
  breaks : (p rest : List ℕ) (c : ℕ) → IsKind (p ++ c ∷ []) kind.Broken → BreaksOff p (c ∷ rest) 0
  goes_on : (p rest : List ℕ) (b n : ℕ) → 0x80 ≤ b → b < 0xC2 → IsKind (p ++ b ∷ []) kind.Begun → BreaksOff (p ++ b ∷ []) rest n → BreaksOff p (b ∷ rest) (1 + n)

reached_next : (h : Held) (b : ℕ) (next : Held) → IsReached h → held_step h b ≡ record { dispatches = []; held = next } → IsReached next
unfolding hand_out
reached_next h b next (stream, e) s = (stream ++ b ∷ [], sym (held_append stream (b ∷ []) ∙ ap (λ (x : Held). (hand_out x (b ∷ [])).held) (sym e) ∙ ap (λ (x : Handed). x.held) s))

next_begun : (x : ℕ) (p : List ℕ) (b : ℕ) → 0x80 ≤ b → b < 0xC2 → IsKind (x ∷ p ++ b ∷ []) kind.Begun → held_step (first_bytes (x ∷ p)) b ≡ record { dispatches = []; held = first_bytes (x ∷ p ++ b ∷ []) }
next_begun x p b l h k = other_step (x ∷ p) b (λ e. omega arith) ∙ ap (λ (t : Step). handed t false) (sym (begun_goes (x ∷ p) (x ∷ p ++ b ∷ []) b (λ e. cc) refl k))

broken_off : (x : ℕ) (p : List ℕ) (c : ℕ) → IsKind (x ∷ p ++ c ∷ []) kind.Broken → held_step (first_bytes (x ∷ p)) c ≡ held_resumed (stream.Print 0xFFFD ∷ []) nothing_held false c
broken_off x p c k =
    let lead : held_step (first_bytes (x ∷ p)) 0xC2 ≡ held_resumed (stream.Print 0xFFFD ∷ []) nothing_held false 0xC2 = unfold held_step fresh_step in refl in
    ⊎_elim (λ e. subst (λ (y : ℕ). held_step (first_bytes (x ∷ p)) y ≡ held_resumed (stream.Print 0xFFFD ∷ []) nothing_held false y) (sym e) lead)
    (λ n. other_step (x ∷ p) c n
    ∙ ap (λ (t : Step). handed t false) (sym (broken_step x p c k))
    ∙ ap (λ (t : Handed). record { dispatches = stream.Print 0xFFFD ∷ t.dispatches; held = t.held }) (sym (other_step [] c n)))
    (cases_eq c 0xC2)

reads_off : (l : Lending) (x : ℕ) (p bytes : List ℕ) (n : ℕ) → l.held ≡ nothing_held → IsReached (first_bytes (x ∷ p)) → BreaksOff (x ∷ p) bytes n → ReadsEvent (first_bytes (x ∷ p)) bytes (whole_stray n) l
reads_off l x p bytes n h r (breaks _ rest c k) =
    reads_left (first_bytes (x ∷ p)) c rest (c ∷ rest) l (Some (event.Print 0xFFFD)) refl
    (broken_off x p c k ∙ ap (λ (y : Held). held_resumed (stream.Print 0xFFFD ∷ []) y false c) (sym h))
    (record {
      falls = rw h (omega arith);
      closed = inl (ap (λ (y : Held). y.kept) h);
      waits = λ w. absurd (let v : l.held.waiting ≡ false = ap (λ (y : Held). y.waiting) h in cc);
      alone = refl;
    })
reads_off l x p bytes n h r (goes_on _ rest b m low high k f) =
    let s = next_begun x p b low high k in
    let next : Lending = record l { held = first_bytes (x ∷ p ++ b ∷ []) } in
    let reached = reached_next (first_bytes (x ∷ p)) b next.held r s in
    reads_join (first_bytes (x ∷ p)) (b ∷ rest) 1 m (Some (event.Print 0xFFFD)) next l (omega arith) reached
    (reads_one (first_bytes (x ∷ p)) b rest (b ∷ rest) next None refl s (λ t. none_stray b rest low (inl high)))
    (reads_off l x (p ++ b ∷ []) rest m h reached f)

-- a first byte, after which the bytes break off
reads_first : (l : Lending) (bytes rest : List ℕ) (b n : ℕ) → l.held ≡ nothing_held → bytes ≡ b ∷ rest → 0xC2 < b → b ≤ 0xF4 → BeginsNoText bytes → BreaksOff (b ∷ []) rest n → ReadsEvent l.held bytes (whole_stray (1 + n)) l
reads_first l bytes rest b n h is low high none f =
    let s : held_step nothing_held b ≡ record { dispatches = []; held = first_bytes (b ∷ []) } =
    other_step [] b (λ e. omega arith) ∙ ap (λ (t : Step). handed t false) (first_waits b (omega arith) high) in
    let begun : Lending = record l { held = first_bytes (b ∷ []) } in
    let reached = reached_next nothing_held b begun.held nothing_reached s in
    reads_join l.held bytes 1 n (Some (event.Print 0xFFFD)) begun l (omega arith) reached
    (reads_one l.held b rest bytes begun None is (ap (λ (x : Held). held_step x b) h ∙ s) (λ t. none))
    (subst (λ (xs : List ℕ). ReadsEvent begun.held xs (whole_stray n) l) (sym (ap (drop 1) is)) (reads_off l b [] rest n h reached f))

-- ---- what decoding says of them

-- bytes that are no character of any bytes that begin so are broken off
none_goes : (p : List ℕ) (c : ℕ) → IsUnfinished (Begun p) → (BeginsCharacter (p ++ c ∷ []) → ⊥) → IsKind (p ++ c ∷ []) kind.Broken
none_goes p c u none = by_outcome (outcome p c u)
  where
    by_outcome : Outcome p c → IsKind (p ++ c ∷ []) kind.Broken
    by_outcome (whole x s e t) = absurd (none (x, [], s, e ∙ sym (append_nil (p ++ c ∷ []))))
    by_outcome (begun (x, more, s, e, k, m) t v) = absurd (none (x, more, s, e))
    by_outcome (broken f t v) = (t, v)

-- bytes that wait for more
wanted_goes : (p : List ℕ) (c : ℕ) → IsUnfinished (Begun p) → utf8_error_len (p ++ c ∷ []) ≡ None → ((x : ℕ) → IsScalar x → encode x ≡ p ++ c ∷ [] → ⊥) → IsBegun (p ++ c ∷ []) × IsKind (p ++ c ∷ []) kind.Begun
wanted_goes p c u e f = by_outcome (outcome p c u)
  where
    by_outcome : Outcome p c → IsBegun (p ++ c ∷ []) × IsKind (p ++ c ∷ []) kind.Begun
    by_outcome (whole x s k t) = absurd (f x s k)
    by_outcome (begun g t v) = (g, (t, v))
    by_outcome (broken g t v) = let w : is_none (utf8_error_len (p ++ c ∷ [])) ≡ true = rw e refl in cc

no_good : (n c m : ℕ) → bad n ≡ good c m → ⊥
no_good n c m e = let k : None ≡ Some c = ap (λ (d : Decoded). d.char) e in cc

-- bytes that decode as nothing are no character, and begin none where this holds whatever follows them
no_encoding : (xs : List ℕ) (n : ℕ) → decoded xs ≡ bad n → (c : ℕ) → IsScalar c → encode c ≡ xs → ⊥
no_encoding xs n d c s e = no_good n c (length (encode c)) (sym d ∙ ap decoded (sym e ∙ sym (append_nil (encode c))) ∙ decoded-encode c [] s)

undecoded : (xs : List ℕ) (n : ℕ) → ((more : List ℕ) → decoded (xs ++ more) ≡ bad n) → BeginsCharacter xs → ⊥
undecoded xs n f (c, more, s, e) = no_encoding (xs ++ more) n (f more) c s e

second_in : (x y : ℕ) → second x y ≡ true → is_in_range (second_byte_min x) (second_byte_max x) y ≡ true
second_in x y s = grind (arith, nat_tests)

second_bounds : (x y : ℕ) → second x y ≡ true → (0x80 ≤ y) × (y ≤ 0xBF)
second_bounds x y s = (grind (arith, nat_tests), grind (arith, nat_tests))

continues_bounds : (y : ℕ) → continues y ≡ true → (0x80 ≤ y) × (y ≤ 0xBF)
continues_bounds y s = (grind (arith, nat_tests), grind (arith, nat_tests))

-- decoding stops at a second, a third and a fourth byte, or for want of one
bad_one : (n b c d e : ℕ) → 2 ≤ n → 0xC2 ≤ b → b ≤ 0xF4 → second b c ≡ false → decoded_by n b c d e ≡ bad 1
bad_one n b c d e two low high s =
    let z : n == 0 ≡ false = grind (arith, nat_tests) in
    let x : nat_lt b 0x80 ≡ false = grind (arith, nat_tests) in
    let y : nat_lt b 0xC2 ≡ false = grind (arith, nat_tests) in
    let t : nat_lt 0xF4 b ≡ false = grind (arith, nat_tests) in
    let k : nat_lt n 2 ≡ false = grind (arith, nat_tests) in
    rw (z, x, y, t, k, s) refl

bad_two : (n b c d e : ℕ) → 2 ≤ n → 0xE0 ≤ b → b ≤ 0xF4 → second b c ≡ true → (n ≡ 2) ⊎ ((3 ≤ n) × (continues d ≡ false)) → decoded_by n b c d e ≡ bad 2
bad_two n b c d e two low high s o =
    let z : n == 0 ≡ false = grind (arith, nat_tests) in
    let x : nat_lt b 0x80 ≡ false = grind (arith, nat_tests) in
    let y : nat_lt b 0xC2 ≡ false = grind (arith, nat_tests) in
    let t : nat_lt 0xF4 b ≡ false = grind (arith, nat_tests) in
    let k : nat_lt n 2 ≡ false = grind (arith, nat_tests) in
    let w : nat_lt b 0xE0 ≡ false = grind (arith, nat_tests) in
    ⊎_elim (λ q. let j : nat_lt n 3 ≡ true = grind (arith, nat_tests) in rw (z, x, y, t, k, s, w, j) refl)
    (λ q. let j : nat_lt n 3 ≡ false = (let r = q.0 in grind (arith, nat_tests)) in rw (z, x, y, t, k, s, w, j, q.1) refl) o

bad_three : (n b c d e : ℕ) → 3 ≤ n → 0xF0 ≤ b → b ≤ 0xF4 → second b c ≡ true → continues d ≡ true → (n ≡ 3) ⊎ ((4 ≤ n) × (continues e ≡ false)) → decoded_by n b c d e ≡ bad 3
bad_three n b c d e three low high s g o =
    let z : n == 0 ≡ false = grind (arith, nat_tests) in
    let x : nat_lt b 0x80 ≡ false = grind (arith, nat_tests) in
    let y : nat_lt b 0xC2 ≡ false = grind (arith, nat_tests) in
    let t : nat_lt 0xF4 b ≡ false = grind (arith, nat_tests) in
    let k : nat_lt n 2 ≡ false = grind (arith, nat_tests) in
    let w : nat_lt b 0xE0 ≡ false = grind (arith, nat_tests) in
    let m : nat_lt n 3 ≡ false = grind (arith, nat_tests) in
    let v : nat_lt b 0xF0 ≡ false = grind (arith, nat_tests) in
    ⊎_elim (λ q. let j : nat_lt n 4 ≡ true = grind (arith, nat_tests) in rw (z, x, y, t, k, s, w, m, g, v, j) refl)
    (λ q. let j : nat_lt n 4 ≡ false = (let r = q.0 in grind (arith, nat_tests)) in rw (z, x, y, t, k, s, w, m, g, v, j, q.1) refl) o

-- the first byte, and the first two and three bytes, of a character that is broken off
one_begun : (b : ℕ) → 0xC2 ≤ b → b ≤ 0xF4 → IsBegun (b ∷ [])
one_begun b low high = begins_one b (lead_wants b low high)

two_begun : (b c : ℕ) → 0xE0 ≤ b → b ≤ 0xF4 → second b c ≡ true → IsBegun (b ∷ c ∷ []) × IsKind (b ∷ c ∷ []) kind.Begun
two_begun b c low high s = wanted_goes (b ∷ []) c (inr (one_begun b (omega arith) high)) (pair_wants b c (omega arith) high (second_in b c s))
    (no_encoding (b ∷ c ∷ []) 2 (bad_two 2 b c 0 0 (omega arith) low high s (inl refl)))

three_begun : (b c d : ℕ) → 0xF0 ≤ b → b ≤ 0xF4 → second b c ≡ true → continues d ≡ true → IsBegun (b ∷ c ∷ d ∷ []) × IsKind (b ∷ c ∷ d ∷ []) kind.Begun
three_begun b c d low high s k =
    let m = continues_bounds d k in
    wanted_goes (b ∷ c ∷ []) d (inr (two_begun b c (omega arith) high s).0) (triple_wants b c d (omega arith) high (second_in b c s) m.0 m.1)
    (no_encoding (b ∷ c ∷ d ∷ []) 3 (bad_three 3 b c d 0 (omega arith) low high s k (inl refl)))

after_one : (b c : ℕ) (rest : List ℕ) → 0xC2 ≤ b → b ≤ 0xF4 → second b c ≡ false → BreaksOff (b ∷ []) (c ∷ rest) 0
after_one b c rest low high s = breaks (b ∷ []) rest c (none_goes (b ∷ []) c (inr (one_begun b low high))
    (undecoded (b ∷ c ∷ []) 1 (λ more.
    let xs : List ℕ = b ∷ c ∷ more in
    bad_one (length xs) b c (slice_index xs 2) (slice_index xs 3) (omega arith) low high s)))

after_two : (b c d : ℕ) (rest : List ℕ) → 0xE0 ≤ b → b ≤ 0xF4 → second b c ≡ true → continues d ≡ false → BreaksOff (b ∷ []) (c ∷ d ∷ rest) 1
after_two b c d rest low high s k =
    let g = two_begun b c low high s in
    let m = second_bounds b c s in
    goes_on (b ∷ []) (d ∷ rest) c 0 m.0 (let top = m.1 in omega arith) g.1
    (breaks (b ∷ c ∷ []) rest d (none_goes (b ∷ c ∷ []) d (inr g.0)
    (undecoded (b ∷ c ∷ d ∷ []) 2 (λ more.
    let xs : List ℕ = b ∷ c ∷ d ∷ more in
    bad_two (length xs) b c d (slice_index xs 3) (omega arith) low high s (inr (omega arith, k))))))

after_three : (b c d e : ℕ) (rest : List ℕ) → 0xF0 ≤ b → b ≤ 0xF4 → second b c ≡ true → continues d ≡ true → continues e ≡ false → BreaksOff (b ∷ []) (c ∷ d ∷ e ∷ rest) 2
after_three b c d e rest low high s k i =
    let f = two_begun b c (omega arith) high s in
    let g = three_begun b c d low high s k in
    let m = second_bounds b c s in
    let n = continues_bounds d k in
    goes_on (b ∷ []) (d ∷ e ∷ rest) c 1 m.0 (let top = m.1 in omega arith) f.1
    (goes_on (b ∷ c ∷ []) (e ∷ rest) d 0 n.0 (let top = n.1 in omega arith) g.1
    (breaks (b ∷ c ∷ d ∷ []) rest e (none_goes (b ∷ c ∷ d ∷ []) e (inr g.0)
    (undecoded (b ∷ c ∷ d ∷ e ∷ []) 3 (λ more.
    let xs : List ℕ = b ∷ c ∷ d ∷ e ∷ more in
    bad_three (length xs) b c d e (omega arith) low high s k (inr (omega arith, i)))))))

-- bytes that decode as nothing, with a byte after them
reads_ill_formed : (l : Lending) (bytes rest : List ℕ) (b n : ℕ) → l.held ≡ nothing_held → bytes ≡ b ∷ rest → b ≢ 0xC2 → decoded bytes ≡ bad n → n < length bytes → ReadsEvent l.held bytes (whole_stray n) l
reads_ill_formed l bytes rest b n h is ne d within =
    subst (λ (xs : List ℕ). ReadsEvent l.held xs (whole_stray n) l) (sym is)
    (by_shape rest (ap decoded (sym is) ∙ d) (subst (λ (xs : List ℕ). n < length xs) is within)
    (decoded_by-shape (length (b ∷ rest)) b (slice_index (b ∷ rest) 1) (slice_index (b ∷ rest) 2) (slice_index (b ∷ rest) 3)))
  where
    Reads : List ℕ → Type 0
    Reads rest = ReadsEvent l.held (b ∷ rest) (whole_stray n) l

    none : (rest : List ℕ) → decoded (b ∷ rest) ≡ bad n → BeginsNoText (b ∷ rest)
    none rest k = (no_character_here (b ∷ rest) (λ c m e. absurd (no_good n c m (sym k ∙ e)))).none refl

    size : (x : Decoded) (m : ℕ) → x ≡ bad n → x ≡ bad m → m ≡ n
    size x m e f = ap (λ (y : Decoded). y.size) (sym f ∙ e)

    lead : 0xC2 ≤ b → 0xC2 < b
    lead low = ⊎_elim (λ u. absurd (ne (omega arith))) (λ u. omega arith) (order b 0xC3)

    first : (rest : List ℕ) (m : ℕ) → decoded (b ∷ rest) ≡ bad n → 1 + m ≡ n → 0xC2 ≤ b → b ≤ 0xF4 → BreaksOff (b ∷ []) rest m → Reads rest
    first rest m k e low high f = subst (λ (x : ℕ). ReadsEvent l.held (b ∷ rest) (whole_stray x) l) e (reads_first l (b ∷ rest) rest b m h refl (lead low) high (none rest k) f)

    by_shape : (rest : List ℕ) → decoded (b ∷ rest) ≡ bad n → n < length (b ∷ rest)
        → Shape (decoded (b ∷ rest)) (length (b ∷ rest)) b (slice_index (b ∷ rest) 1) (slice_index (b ∷ rest) 2) (slice_index (b ∷ rest) 3) → Reads rest
    by_shape rest k w (inl p) = absurd (omega (arith, p.0))
    by_shape rest k w (inr (inl p)) = absurd (no_good n b 1 (sym k ∙ p.2))
    by_shape rest k w (inr (inr (inl p))) = subst (λ (x : ℕ). ReadsEvent l.held (b ∷ rest) (whole_stray x) l) (size _ 1 k p.3) (reads_stray l (b ∷ rest) rest b h refl p.1 (inl p.2))
    by_shape rest k w (inr (inr (inr (inl p)))) = subst (λ (x : ℕ). ReadsEvent l.held (b ∷ rest) (whole_stray x) l) (size _ 1 k p.2) (reads_stray l (b ∷ rest) rest b h refl (let q = p.1 in omega arith) (inr p.1))
    by_shape rest k w (inr (inr (inr (inr (inl p))))) = absurd (let e = size _ 1 k p.4 in omega (arith, p.3))
    by_shape (c ∷ rest) k w (inr (inr (inr (inr (inr (inl p)))))) = first (c ∷ rest) 0 k (size _ 1 k p.4) p.1 p.2 (after_one b c rest p.1 p.2 p.3)
    by_shape [] k w (inr (inr (inr (inr (inr (inl p)))))) = absurd (omega (arith, p.0))
    by_shape rest k w (inr (inr (inr (inr (inr (inr (inl p))))))) = absurd (no_good n _ 2 (sym k ∙ p.4))
    by_shape rest k w (inr (inr (inr (inr (inr (inr (inr (inl p)))))))) = absurd (let e = size _ 2 k p.5 in omega (arith, p.4))
    by_shape (c ∷ d ∷ rest) k w (inr (inr (inr (inr (inr (inr (inr (inr (inl p))))))))) = first (c ∷ d ∷ rest) 1 k (size _ 2 k p.5) (let q = p.1 in omega arith) p.2 (after_two b c d rest p.1 p.2 p.3 p.4)
    by_shape (c ∷ []) k w (inr (inr (inr (inr (inr (inr (inr (inr (inl p))))))))) = absurd (omega (arith, p.0))
    by_shape [] k w (inr (inr (inr (inr (inr (inr (inr (inr (inl p))))))))) = absurd (omega (arith, p.0))
    by_shape rest k w (inr (inr (inr (inr (inr (inr (inr (inr (inr (inl p)))))))))) = absurd (no_good n _ 3 (sym k ∙ p.5))
    by_shape rest k w (inr (inr (inr (inr (inr (inr (inr (inr (inr (inr (inl p))))))))))) = absurd (let e = size _ 3 k p.6 in omega (arith, p.5))
    by_shape (c ∷ d ∷ e ∷ rest) k w (inr (inr (inr (inr (inr (inr (inr (inr (inr (inr (inr (inl p)))))))))))) = first (c ∷ d ∷ e ∷ rest) 2 k (size _ 3 k p.6) (let q = p.1 in omega arith) p.2 (after_three b c d e rest p.1 p.2 p.3 p.4 p.5)
    by_shape (c ∷ d ∷ []) k w (inr (inr (inr (inr (inr (inr (inr (inr (inr (inr (inr (inl p)))))))))))) = absurd (omega (arith, p.0))
    by_shape (c ∷ []) k w (inr (inr (inr (inr (inr (inr (inr (inr (inr (inr (inr (inl p)))))))))))) = absurd (omega (arith, p.0))
    by_shape [] k w (inr (inr (inr (inr (inr (inr (inr (inr (inr (inr (inr (inl p)))))))))))) = absurd (omega (arith, p.0))
    by_shape rest k w (inr (inr (inr (inr (inr (inr (inr (inr (inr (inr (inr (inr p)))))))))))) = absurd (no_good n _ 4 (sym k ∙ p.6))

-- ---- what `from_utf8` says of them

range_in : (b : ℕ) → is_in_range 0xC2 0xF4 b ≡ true → (0xC2 ≤ b) × (b ≤ 0xF4)
range_in b h = (grind (arith, nat_tests), grind (arith, nat_tests))

range_out : (b : ℕ) → is_in_range 0xC2 0xF4 b ≡ false → (b < 0xC2) ⊎ (0xF4 < b)
range_out b h = ⊎_elim inl (λ l. ⊎_elim inr (λ m. let k : is_in_range 0xC2 0xF4 b ≡ true = in_range 0xC2 0xF4 b l m in cc) (order 0xF4 b)) (order b 0xC2)

second_is : (b c : ℕ) (t : Bool) → 0xC2 ≤ b → b ≤ 0xF4 → is_in_range (second_byte_min b) (second_byte_max b) c ≡ t → second b c ≡ t
second_is b c true low high h = grind (arith, nat_tests)
second_is b c false low high h = grind (arith, nat_tests)

continues_is : (d : ℕ) (t : Bool) → is_in_range 0x80 0xBF d ≡ t → continues d ≡ t
continues_is d true h = grind (arith, nat_tests)
continues_is d false h = grind (arith, nat_tests)

-- which test fails first, by the length of the error
pick_one : (r : Bool) (n : ℕ) → cond r None (Some 1) ≡ Some n → (r ≡ false) × (1 ≡ n)
pick_one true n h = cc
pick_one false n h = (refl, cc)

abbrev Second : Bool → Bool → ℕ → Type 0
Second r s n = ((r ≡ false) × (1 ≡ n)) ⊎ ((r ≡ true) × (s ≡ false) × (1 ≡ n))

pick_two : (r s : Bool) (n : ℕ) → cond r (cond s None (Some 1)) (Some 1) ≡ Some n → Second r s n
pick_two false s n h = inl (refl, cc)
pick_two true false n h = inr (refl, refl, cc)
pick_two true true n h = cc

abbrev Third : Bool → Bool → Bool → ℕ → Type 0
Third r s t n = Second r s n ⊎ ((r ≡ true) × (s ≡ true) × (t ≡ false) × (2 ≡ n))

pick_three : (r s t : Bool) (n : ℕ) → cond r (cond s (cond t None (Some 2)) (Some 1)) (Some 1) ≡ Some n → Third r s t n
pick_three false s t n h = inl (inl (refl, cc))
pick_three true false t n h = inl (inr (refl, refl, cc))
pick_three true true false n h = inr (refl, refl, refl, cc)
pick_three true true true n h = cc

pick_four : (r s t : Bool) (n : ℕ) → cond r (cond s (cond t (Some 3) (Some 2)) (Some 1)) (Some 1) ≡ Some n → Third r s t n ⊎ ((r ≡ true) × (s ≡ true) × (t ≡ true) × (3 ≡ n))
pick_four false s t n h = inl (inl (inl (refl, cc)))
pick_four true false t n h = inl (inl (inr (refl, refl, cc)))
pick_four true true false n h = inl (inr (refl, refl, refl, cc))
pick_four true true true n h = inr (refl, refl, refl, cc)

encoded_is_text : (xs : List ℕ) → Encodes xs → IsUtf8 xs
encoded_is_text xs (c, s, e) = subst IsUtf8 e (IsUtf8-encode c s)

-- the first bytes of a call of which none begin a text, and whose error has a length
pub reads_error : (l : Lending) (bytes rest : List ℕ) (b n : ℕ) → l.held ≡ nothing_held → bytes ≡ b ∷ rest → b ≢ 0xC2 → utf8_error_len (take 4 bytes) ≡ Some n → ((m : ℕ) → 0 < m → IsUtf8 (take m (take 4 bytes)) → ⊥)
    → ReadsEvent l.held bytes (whole_stray n) l
unfolding utf8_error_len
reads_error l bytes rest b n h is ne e none =
    subst (λ (xs : List ℕ). ReadsEvent l.held xs (whole_stray n) l) (sym is)
    (by_rest rest (subst (λ (xs : List ℕ). utf8_error_len (take 4 xs) ≡ Some n) is e) (λ m z u. none m z (subst (λ (xs : List ℕ). IsUtf8 (take m (take 4 xs))) (sym is) u)))
  where
    Reads : List ℕ → Type 0
    Reads rest = ReadsEvent l.held (b ∷ rest) (whole_stray n) l

    No : List ℕ → Type 0
    No rest = (m : ℕ) → 0 < m → IsUtf8 (take m (take 4 (b ∷ rest))) → ⊥

    ill : (rest : List ℕ) (m : ℕ) → m ≡ n → decoded (b ∷ rest) ≡ bad m → m < length (b ∷ rest) → Reads rest
    ill rest m k d w = subst (λ (x : ℕ). ReadsEvent l.held (b ∷ rest) (whole_stray x) l) k (reads_ill_formed l (b ∷ rest) rest b m h refl ne d w)

    stray : (rest : List ℕ) → No rest → (is_in_range 0xC2 0xF4 b ≡ false) × (1 ≡ n) → Reads rest
    stray rest never p = ⊎_elim
        (λ low. absurd (never 1 (omega arith) (encoded_is_text (b ∷ []) (b, low_scalar b (omega arith), encode_ascii b low))))
        (λ low. subst (λ (x : ℕ). ReadsEvent l.held (b ∷ rest) (whole_stray x) l) p.1 (reads_stray l (b ∷ rest) rest b h refl low (range_out b p.0)))
        (order b 0x80)

    one : (c : ℕ) (rest : List ℕ) → (is_in_range 0xC2 0xF4 b ≡ true) × (is_in_range (second_byte_min b) (second_byte_max b) c ≡ false) × (1 ≡ n) → Reads (c ∷ rest)
    one c rest p =
        let r = range_in b p.0 in
        let xs : List ℕ = b ∷ c ∷ rest in
        ill (c ∷ rest) 1 p.2 (bad_one (length xs) b c (slice_index xs 2) (slice_index xs 3) (omega arith) r.0 r.1 (second_is b c false r.0 r.1 p.1)) (omega arith)

    two_more : (c d : ℕ) (rest : List ℕ) → No (c ∷ d ∷ rest) → (is_in_range 0xC2 0xF4 b ≡ true) × (is_in_range (second_byte_min b) (second_byte_max b) c ≡ true) × (is_in_range 0x80 0xBF d ≡ false) × (2 ≡ n) → Reads (c ∷ d ∷ rest)
    two_more c d rest never p =
        let r = range_in b p.0 in
        let s = second_is b c true r.0 r.1 p.1 in
        let xs : List ℕ = b ∷ c ∷ d ∷ rest in
        ⊎_elim (λ k. absurd (never 2 (omega arith) (encoded_is_text (b ∷ c ∷ []) (two b c r.0 k s))))
        (λ k. ill (c ∷ d ∷ rest) 2 p.3 (bad_two (length xs) b c d (slice_index xs 3) (omega arith) k r.1 s (inr (omega arith, continues_is d false p.2))) (omega arith))
        (order b 0xE0)

    three_more : (c d e : ℕ) (rest : List ℕ) → No (c ∷ d ∷ e ∷ rest) → (is_in_range 0xC2 0xF4 b ≡ true) × (is_in_range (second_byte_min b) (second_byte_max b) c ≡ true) × (is_in_range 0x80 0xBF d ≡ true) × (3 ≡ n) → Reads (c ∷ d ∷ e ∷ rest)
    three_more c d e rest never p =
        let r = range_in b p.0 in
        let s = second_is b c true r.0 r.1 p.1 in
        let k = continues_is d true p.2 in
        let xs : List ℕ = b ∷ c ∷ d ∷ e ∷ rest in
        ⊎_elim (λ q. absurd (⊎_elim
        (λ v. never 2 (omega arith) (encoded_is_text (b ∷ c ∷ []) (two b c r.0 v s)))
        (λ v. never 3 (omega arith) (encoded_is_text (b ∷ c ∷ d ∷ []) (three b c d v q s k))) (order b 0xE0)))
        (λ q. ⊎_elim
        (λ v. absurd (never 4 (omega arith) (encoded_is_text (b ∷ c ∷ d ∷ e ∷ []) (four b c d e q r.1 s k v))))
        (λ v. ill (c ∷ d ∷ e ∷ rest) 3 p.3 (bad_three (length xs) b c d e (omega arith) q r.1 s k (inr (omega arith, v))) (omega arith))
        (cases_Bool (continues e)))
        (order b 0xF0)

    by_rest : (rest : List ℕ) → utf8_error_len (take 4 (b ∷ rest)) ≡ Some n → No rest → Reads rest
    by_rest [] e never = stray [] never (pick_one (is_in_range 0xC2 0xF4 b) n e)
    by_rest (c ∷ []) e never = ⊎_elim (stray (c ∷ []) never) (one c []) (pick_two (is_in_range 0xC2 0xF4 b) (is_in_range (second_byte_min b) (second_byte_max b) c) n e)
    by_rest (c ∷ d ∷ []) e never = ⊎_elim (⊎_elim (stray (c ∷ d ∷ []) never) (one c (d ∷ []))) (two_more c d [] never)
        (pick_three (is_in_range 0xC2 0xF4 b) (is_in_range (second_byte_min b) (second_byte_max b) c) (is_in_range 0x80 0xBF d) n e)
    by_rest (c ∷ d ∷ f ∷ more) e never = ⊎_elim (⊎_elim (⊎_elim (stray (c ∷ d ∷ f ∷ more) never) (one c (d ∷ f ∷ more))) (two_more c d (f ∷ more) never)) (three_more c d f more never)
        (pick_four (is_in_range 0xC2 0xF4 b) (is_in_range (second_byte_min b) (second_byte_max b) c) (is_in_range 0x80 0xBF d) n e)

pub reads_any_error : (l : Lending) (bytes rest : List ℕ) (b n : ℕ) (error : Option ℕ) → l.held ≡ nothing_held → bytes ≡ b ∷ rest → b ≢ 0xC2 → n ≡ min (length bytes) 4 → error ≡ utf8_error_len (take n bytes) → ((m : ℕ) → 0 < m → IsUtf8 (take m (take n bytes)) → ⊥)
    → IfSome error (λ k. ReadsEvent l.held bytes (whole_stray k) l)
reads_any_error l bytes rest b n None h is ne e x never = tt
reads_any_error l bytes rest b n (Some k) h is ne e x never =
    let same : n ≡ min 4 (length bytes) = grind (arith, nat_tests) in
    let q : take n bytes ≡ take 4 bytes = ap (λ (m : ℕ). take m bytes) same ∙ take_min 4 bytes in
    reads_error l bytes rest b k h is ne (ap utf8_error_len (sym q) ∙ sym x) (λ m z u. never m z (subst (λ (xs : List ℕ). IsUtf8 (take m xs)) (sym q) u))
