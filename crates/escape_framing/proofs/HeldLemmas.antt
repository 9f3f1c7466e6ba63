-- The dispatches that are handed out byte by byte are those that the cut of the stream decides.
use Rattle.std.proofs.Common.{◌≡◌, ℕ, ◌-◌, ◌≤◌, inl, inr, Bool, true, false, cond, List, [], ◌∷◌, ◌++◌, length, drop, map, refl, sym, ap, subst, ◌∙◌, arith, append_assoc, ⊎_elim, ◌≢◌, ◌%◌, ◌/◌, ◌+◌}
use Rattle.std.specs.Prelude.{◌==◌, ◌&&◌, not}
use Rattle.std.specs.Char.{IsScalar}
use Rattle.std.specs.List.{flat_map, AllByRecursion}
use Rattle.std.proofs.lemmas.Bool.Decides.{nat_tests}
use Rattle.std.proofs.lemmas.List.{append-nil, drop_at, same_from_push}
use Rattle.std.proofs.lemmas.Grind.{flat_map-append}
use Rattle.text_clusters.specs.Controls.{is_c1}
use lib.Utf8.{encode}
use Rattle.escape_framing.specs.SevenBit.{seven_bit}
use Rattle.escape_framing.specs.Segment.{Tail, Begun, OpenCommand, OpenDevice, OpenString, bytes_of_tail, IllFormed, CutOff, bytes_of, BeginsCharacter, IsBegun, IsUnfinished, is_before_final}
use Rattle.escape_framing.specs.Decode.{Reading, waits, ends_before, first_byte, in_character, next_byte, read_on}
use Rattle.escape_framing.specs.Dispatch.{Dispatch, Data, Enter, controls_in, settled, decided_of, dispatches_of}
use Rattle.escape_framing.specs.Bytes.{is_stop, ends_command, taken}
use Rattle.escape_framing.specs.Cut.{the_cut, dispatches, newly_decided}
use Rattle.escape_framing.specs.Held.{Kept, InCharacter, kept_of, Step, steps, before, character_step, kept_step, Held, Handed, handed, handed_after, interrupted, fresh_step, waiting_step, held_step, nothing_held, hand_out, held_of}
use Rattle.escape_framing.proofs.Existence.Utf8Lemmas.{Spelled, in_one, in_two, in_three, in_four, spelled, lead_wants, begins_one}
use Rattle.escape_framing.proofs.Existence.SevenBitLemmas.{opens, pairs, seven_bit_plain, seven_bit_pair, opens_more}
use Rattle.escape_framing.proofs.Existence.CutLemmas.{cuts_on}
use Rattle.escape_framing.proofs.ReadLemmas.{read_nil, read_step, read_append}
use Rattle.escape_framing.proofs.CharacterReading.{breaks, waits_begun}
use Rattle.escape_framing.proofs.SequenceReading.{cut_off, stays_command, stays_device, stays_string}
use Rattle.escape_framing.proofs.KeptLemmas.{given, goes}
use Rattle.std.proofs.lemmas.Bool.{cond_both, cases_Bool, eqb-true}
use Rattle.escape_framing.proofs.WaitingLemmas.{lead_cuts}

-- ---- a C2 or ESC goes on with no character

-- the bytes after a character's first are between 80 and BF
pub record Inner (b : ℕ) : Type 0 where
  pub least : 128 ≤ b
  pub most : b ≤ 191

inner_at : (xs t more : List ℕ) (b : ℕ) → AllByRecursion Inner xs → xs ≡ t ++ b ∷ more → Inner b
inner_at [] [] more b i e = cc
inner_at [] (y ∷ t) more b i e = cc
inner_at (d ∷ xs) [] more b i e = subst Inner (let k : d ≡ b = cc in k) i.0
inner_at (d ∷ xs) (y ∷ t) more b i e = inner_at xs t more b i.1 (let k : xs ≡ t ++ b ∷ more = cc in k)

pub inner : (c x b : ℕ) (t more : List ℕ) → IsScalar c → encode c ≡ x ∷ (t ++ b ∷ more) → Inner b
inner c x b t more s e = by_kind (spelled c s)
  where
    within : (d : ℕ) → 128 ≤ d → d ≤ 191 → Inner d
    within d l m = record { least = l; most = m }

    by_kind : Spelled c → Inner b
    by_kind (in_one l h) = let k = sym h ∙ e in inner_at [] t more b tt (let r : [] ≡ t ++ b ∷ more = cc in r)
    by_kind (in_two g l h) = let k = sym h ∙ e in inner_at (_ ∷ []) t more b (within _ (omega arith) (omega arith), tt) (let r : (128 + c % 64) ∷ [] ≡ t ++ b ∷ more = cc in r)
    by_kind (in_three g l u h) =
        let k = sym h ∙ e in
        let r : (128 + (c / 64) % 64) ∷ (128 + c % 64) ∷ [] ≡ t ++ b ∷ more = cc in
        inner_at _ t more b (within _ (omega arith) (omega arith), (within _ (omega arith) (omega arith), tt)) r
    by_kind (in_four g l h) =
        let k = sym h ∙ e in
        let r : (128 + (c / 4096) % 64) ∷ (128 + (c / 64) % 64) ∷ (128 + c % 64) ∷ [] ≡ t ++ b ∷ more = cc in
        inner_at _ t more b (within _ (omega arith) (omega arith), (within _ (omega arith) (omega arith), (within _ (omega arith) (omega arith), tt))) r

-- no byte but those from 80 to BF goes on with a character that has begun
pub no_inner : (x b : ℕ) (p : List ℕ) → (Inner b → ⊥) → BeginsCharacter (x ∷ p ++ b ∷ []) → ⊥
no_inner x b p n (c, more, s, e) = n (inner c x b p more s (e ∙ ap (λ r. x ∷ r) (append_assoc p (b ∷ []) more)))

-- a begun character ends before a byte that doesn't go on with it: it may as well be interrupted before this byte
pub interrupted_character : (x b : ℕ) (p : List ℕ) → IsBegun (x ∷ p) → (Inner b → ⊥) → before (interrupted (InCharacter (x ∷ p))).dispatches (kept_step (InCharacter []) b) ≡ kept_step (InCharacter (x ∷ p)) b
unfolding character_step next_byte
interrupted_character x b p g n =
    let e : in_character (x ∷ p) b ≡ ends_before _ (first_byte b) = breaks (x ∷ p) b g (no_inner x b p n) in
    let f : in_character [] b ≡ first_byte b = unfold in_character in refl in
    sym (ap (λ (r : Reading). steps (flat_map dispatches_of r.segments) (kept_of r.tail)) e
    ∙ ap (λ (r : Reading). before (interrupted (InCharacter (x ∷ p))).dispatches (steps (flat_map dispatches_of r.segments) (kept_of r.tail))) (sym f))

interrupts : (t : Tail) (b : ℕ) → IsUnfinished t → (Inner b → ⊥) → before (interrupted (kept_of t)).dispatches (kept_step (interrupted (kept_of t)).kept b) ≡ kept_step (kept_of t) b
interrupts (Begun []) b g n = refl
interrupts (Begun (x ∷ p)) b (inl e) n = cc
interrupts (Begun (x ∷ p)) b (inr g) n = interrupted_character x b p g n
interrupts _ b g n = refl

-- ---- the seven-bit form

-- the bytes decide these dispatches where no C2 waits, and this is kept
pub record ReadsTo (v : List ℕ) (ds : List Dispatch) (kept : Kept) : Type 0 where
  pub gives : flat_map dispatches_of (read_on (Begun []) v).segments ++ given (read_on (Begun []) v).tail ≡ ds
  pub keeps : kept_of (read_on (Begun []) v).tail ≡ kept

pub read_push : (t : Tail) (v : List ℕ) (b : ℕ) → read_on t (v ++ b ∷ []) ≡ record { segments = (read_on t v).segments ++ (next_byte (read_on t v).tail b).segments; tail = (next_byte (read_on t v).tail b).tail }
read_push t v b =
    let r = read_on t v in
    let n = next_byte r.tail b in
    let one : read_on r.tail (b ∷ []) ≡ record { segments = n.segments ++ []; tail = n.tail } = read_step r.tail b [] ∙ ap (λ (q : Reading). record { segments = n.segments ++ q.segments; tail = q.tail }) (read_nil n.tail) in
    read_append t v (b ∷ [])
    ∙ ap (λ (q : Reading). record { segments = r.segments ++ q.segments; tail = q.tail }) one
    ∙ ap (λ l. record { segments = r.segments ++ l; tail = n.tail }) (append-nil n.segments)

pub unfinished : (v : List ℕ) → IsUnfinished (read_on (Begun []) v).tail
unfinished v = (cuts_on (Begun []) v (inl refl)).unfinished

reads_one : (v : List ℕ) (b : ℕ) (ds : List Dispatch) (kept : Kept) → ReadsTo v ds kept → ReadsTo (v ++ b ∷ []) (ds ++ (kept_step kept b).dispatches) (kept_step kept b).kept
reads_one v b ds kept r =
    let q = read_on (Begun []) v in
    let n = next_byte q.tail b in
    let g = goes q.tail b (unfinished v) in
    let p = read_push (Begun []) v b in
    record {
      gives = ap (λ (x : Reading). flat_map dispatches_of x.segments ++ given x.tail) p
          ∙ ap (λ l. l ++ given n.tail) (flat_map-append dispatches_of q.segments n.segments)
          ∙ append_assoc (flat_map dispatches_of q.segments) (flat_map dispatches_of n.segments) (given n.tail)
          ∙ ap (λ l. flat_map dispatches_of q.segments ++ l) g.dispatches
          ∙ sym (append_assoc (flat_map dispatches_of q.segments) (given q.tail) _)
          ∙ ap (λ l. l ++ (kept_step (kept_of q.tail) b).dispatches) r.gives
          ∙ ap (λ (k : Kept). ds ++ (kept_step k b).dispatches) r.keeps;
      keeps = ap (λ (x : Reading). kept_of x.tail) p ∙ g.kept ∙ ap (λ (k : Kept). (kept_step k b).kept) r.keeps;
    }

reads_interrupted : (v : List ℕ) (b : ℕ) (ds : List Dispatch) (kept : Kept) → ReadsTo v ds kept → (Inner b → ⊥) → before (interrupted kept).dispatches (kept_step (interrupted kept).kept b) ≡ kept_step kept b
reads_interrupted v b ds kept r n = subst (λ (k : Kept). before (interrupted k).dispatches (kept_step (interrupted k).kept b) ≡ kept_step k b) r.keeps (interrupts (read_on (Begun []) v).tail b (unfinished v) n)

pub no_c2 : Inner 0xC2 → ⊥
no_c2 i = let m = i.most in omega arith

pub not_lead : (b : ℕ) → Inner b → b ≢ 0xC2
not_lead b i k = no_c2 (subst Inner k i)

no_escape : Inner 0x1B → ⊥
no_escape i = let l = i.least in omega arith

-- ---- the stream

-- the dispatches that were handed out of a stream: all that its seven-bit form decides, or a C2 waits at its end
pub data At (s : List ℕ) (h : Handed) : Type 0 where
  at_rest : opens s ≡ false → ReadsTo (seven_bit s) h.dispatches h.held.kept → h.held.waiting ≡ false → At s h
  at_c2 : (v : List ℕ) (ds : List Dispatch) (kept : Kept) → seven_bit s ≡ v ++ 0xC2 ∷ [] → opens s ≡ true → ReadsTo v ds kept
      → h ≡ record { dispatches = ds ++ (interrupted kept).dispatches; held = record { kept = (interrupted kept).kept; waiting = true } } → At s h

-- dispatches, and then those that are handed out
abbrev pub then_handed : List Dispatch → Handed → Handed
then_handed ds h = record { dispatches = ds ++ h.dispatches; held = h.held }

fresh_at : (s : List ℕ) (b : ℕ) (ds : List Dispatch) (kept : Kept) → pairs s b ≡ false → ReadsTo (seven_bit s) ds kept → At (s ++ b ∷ []) (then_handed ds (fresh_step kept b))
unfolding fresh_step
fresh_at s b ds kept n r =
    cond_both (b == 0xC2) _ _ (λ (h : Handed). At (s ++ b ∷ []) (then_handed ds h))
    (λ e. at_c2 (seven_bit s) ds kept (seven_bit_plain s b n ∙ ap (λ (x : ℕ). seven_bit s ++ x ∷ []) (eqb-true b 0xC2 e)) (opened ∙ e) r refl)
    (λ e. at_rest (opened ∙ e) (subst (λ l. ReadsTo l (ds ++ (kept_step kept b).dispatches) (kept_step kept b).kept) (sym (seven_bit_plain s b n)) (reads_one (seven_bit s) b ds kept r)) refl)
  where
    opened : opens (s ++ b ∷ []) ≡ (b == 0xC2)
    opened = opens_more s b ∙ ap (λ (t : Bool). cond t false (b == 0xC2)) n

-- an interruption and the step after it hand out the dispatches of the step alone
joined : (ds : List Dispatch) (kept : Kept) (b : ℕ) (rest : Kept → Handed) → before (interrupted kept).dispatches (kept_step (interrupted kept).kept b) ≡ kept_step kept b
    → then_handed (ds ++ (interrupted kept).dispatches) (handed_after (kept_step (interrupted kept).kept b) (rest (kept_step (interrupted kept).kept b).kept))
    ≡ then_handed (ds ++ (kept_step kept b).dispatches) (rest (kept_step kept b).kept)
joined ds kept b rest e =
    let i = (interrupted kept).dispatches in
    let p = kept_step (interrupted kept).kept b in
    let r = rest p.kept in
    ap (λ l. record { dispatches = l; held = r.held }) (append_assoc ds i (p.dispatches ++ r.dispatches) ∙ ap (λ l. ds ++ l) (sym (append_assoc i p.dispatches r.dispatches)) ∙ sym (append_assoc ds (i ++ p.dispatches) r.dispatches))
    ∙ ap (λ (q : Step). then_handed (ds ++ q.dispatches) (rest q.kept)) e

waiting_at : (s : List ℕ) (b : ℕ) (v : List ℕ) (ds : List Dispatch) (kept : Kept) → seven_bit s ≡ v ++ 0xC2 ∷ [] → opens s ≡ true → ReadsTo v ds kept
    → At (s ++ b ∷ []) (then_handed (ds ++ (interrupted kept).dispatches) (waiting_step (interrupted kept).kept b))
unfolding waiting_step
waiting_at s b v ds kept form last r = cond_both (is_c1 0xC2 b) _ _ (λ (h : Handed). At (s ++ b ∷ []) (then_handed (ds ++ (interrupted kept).dispatches) h))
    (λ e.
    let pair : pairs s b ≡ true = rw (last, e) refl in
    let p = seven_bit_pair s b pair in
    let prefix : p.prefix ≡ v = (same_from_push p.prefix v 0xC2 0xC2 (sym p.before ∙ form)).0 in
    let one = reads_one v 0x1B ds kept r in
    let two = reads_one (v ++ 0x1B ∷ []) (b - 0x40) (ds ++ (kept_step kept 0x1B).dispatches) (kept_step kept 0x1B).kept one in
    let bytes : (v ++ 0x1B ∷ []) ++ (b - 0x40) ∷ [] ≡ seven_bit (s ++ b ∷ []) = append_assoc v (0x1B ∷ []) ((b - 0x40) ∷ []) ∙ ap (λ l. l ++ 0x1B ∷ (b - 0x40) ∷ []) (sym prefix) ∙ sym p.after in
    subst (At (s ++ b ∷ [])) (sym (joined ds kept 0x1B (λ k. handed (kept_step k (b - 0x40)) false) (reads_interrupted v 0x1B ds kept r no_escape)))
    (at_rest (opens_more s b ∙ ap (λ (t : Bool). cond t false (b == 0xC2)) pair) (subst (λ l. ReadsTo l ((ds ++ (kept_step kept 0x1B).dispatches) ++ (kept_step (kept_step kept 0x1B).kept (b - 0x40)).dispatches) (kept_step (kept_step kept 0x1B).kept (b - 0x40)).kept) bytes two) refl))
    (λ e.
    let no_pair : pairs s b ≡ false = rw (last, e) refl in
    let one = reads_one v 0xC2 ds kept r in
    subst (At (s ++ b ∷ [])) (sym (joined ds kept 0xC2 (λ k. fresh_step k b) (reads_interrupted v 0xC2 ds kept r no_c2)))
    (fresh_at s b (ds ++ (kept_step kept 0xC2).dispatches) (kept_step kept 0xC2).kept no_pair (subst (λ l. ReadsTo l (ds ++ (kept_step kept 0xC2).dispatches) (kept_step kept 0xC2).kept) (sym form) one)))

at_next : (s : List ℕ) (b : ℕ) (h : Handed) → At s h → At (s ++ b ∷ []) (then_handed h.dispatches (held_step h.held b))
unfolding held_step
at_next s b h (at_rest o r w) = rw w (fresh_at s b h.dispatches h.held.kept (ap (λ (t : Bool). t && is_c1 0xC2 b) o) r)
at_next s b h (at_c2 v ds kept form o r e) =
    subst (λ (n : Handed). At (s ++ b ∷ []) (then_handed n.dispatches (held_step n.held b))) (sym e) (waiting_at s b v ds kept form o r)

at_on : (bytes s : List ℕ) (h : Handed) → At s h → At (s ++ bytes) (then_handed h.dispatches (hand_out h.held bytes))
unfolding hand_out
at_on [] s h a = subst (λ l. At l (then_handed h.dispatches (record { dispatches = []; held = h.held }))) (sym (append-nil s)) (subst (λ l. At s (record { dispatches = l; held = h.held })) (sym (append-nil h.dispatches)) a)
at_on (b ∷ bytes) s h a =
    let n = held_step h.held b in
    let k = at_on bytes (s ++ b ∷ []) (then_handed h.dispatches n) (at_next s b h a) in
    subst (λ l. At l (then_handed h.dispatches (hand_out h.held (b ∷ bytes)))) (append_assoc s (b ∷ []) bytes)
    (subst (λ l. At ((s ++ b ∷ []) ++ bytes) (record { dispatches = l; held = (hand_out n.held bytes).held })) (append_assoc h.dispatches n.dispatches _) k)

pub at_all : (s : List ℕ) → At s (hand_out nothing_held s)
unfolding read_on
at_all s = at_on s [] (record { dispatches = []; held = nothing_held }) (at_rest refl (record { gives = refl; keeps = refl }) refl)

-- ---- the dispatches that the cut decides

settled_push : (xs : List ℕ) → settled (xs ++ 0xC2 ∷ []) ≡ xs
settled_push [] = refl
settled_push (x ∷ []) = refl
settled_push (x ∷ y ∷ xs) = ap (λ l. x ∷ l) (settled_push (y ∷ xs))

-- the last of some bytes is a C2
abbrev last_is_c2 : List ℕ → Bool
last_is_c2 [] = false
last_is_c2 (b ∷ []) = b == 0xC2
last_is_c2 (b ∷ c ∷ bytes) = last_is_c2 (c ∷ bytes)

last_after : (xs : List ℕ) (y : ℕ) (ys : List ℕ) → last_is_c2 (xs ++ y ∷ ys) ≡ last_is_c2 (y ∷ ys)
last_after [] y ys = refl
last_after (x ∷ []) y ys = refl
last_after (x ∷ z ∷ xs) y ys = last_after (z ∷ xs) y ys

settled_all : (xs : List ℕ) → last_is_c2 xs ≡ false → settled xs ≡ xs
settled_all [] h = refl
settled_all (x ∷ []) h = rw h refl
settled_all (x ∷ y ∷ xs) h = ap (λ l. x ∷ l) (settled_all (y ∷ xs) h)

opens_last : (s : List ℕ) → last_is_c2 (seven_bit s) ≡ opens s
opens_last [] = refl
opens_last (x ∷ []) = refl
opens_last (x ∷ y ∷ s) = ⊎_elim (λ e. rw e (after_escape (seven_bit s) e ∙ opens_last s)) (λ e. rw e (after_byte y s ∙ opens_last (y ∷ s))) (cases_Bool (is_c1 x y))
  where
    small : is_c1 x y ≡ true → ((y - 0x40) == 0xC2) ≡ false
    small h = grind (arith, nat_tests)

    after_escape : (l : List ℕ) → is_c1 x y ≡ true → last_is_c2 (0x1B ∷ (y - 0x40) ∷ l) ≡ last_is_c2 l
    after_escape [] h = small h
    after_escape (z ∷ l) h = refl

    after_byte : (z : ℕ) (s : List ℕ) → last_is_c2 (x ∷ seven_bit (z ∷ s)) ≡ last_is_c2 (seven_bit (z ∷ s))
    after_byte z [] = refl
    after_byte z (w ∷ s) = cond_both (is_c1 z w) _ _ (λ l. last_is_c2 (x ∷ l) ≡ last_is_c2 l) (λ e. refl) (λ e. refl)

-- where no C2 comes last, an open tail has decided all dispatches that it has handed out
decided_all : (t : Tail) (prefix : List ℕ) → last_is_c2 (prefix ++ bytes_of_tail t) ≡ false → decided_of t ≡ given t
decided_all (OpenDevice o header f body) prefix h =
    let e : last_is_c2 (f ∷ body) ≡ false = sym (last_after (prefix ++ (0x1B ∷ o ++ 0x50 ∷ header)) f body) ∙ ap last_is_c2 (append_assoc prefix (0x1B ∷ o ++ 0x50 ∷ header) (f ∷ body)) ∙ h in
    ap (λ l. controls_in o ++ Enter (taken header) f ∷ map Data l) (settled_all body (last_data body e))
  where
    last_data : (xs : List ℕ) → last_is_c2 (f ∷ xs) ≡ false → last_is_c2 xs ≡ false
    last_data [] k = refl
    last_data (x ∷ xs) k = k
decided_all _ prefix h = refl

pub rest_decides : (s : List ℕ) → opens s ≡ false → dispatches s ≡ flat_map dispatches_of (read_on (Begun []) (seven_bit s)).segments ++ given (read_on (Begun []) (seven_bit s)).tail
unfolding the_cut
rest_decides s o =
    let r = read_on (Begun []) (seven_bit s) in
    let c = cuts_on (Begun []) (seven_bit s) (inl refl) in
    ap (λ l. flat_map dispatches_of r.segments ++ l) (decided_all r.tail (flat_map bytes_of r.segments) (ap last_is_c2 c.joined ∙ opens_last s ∙ o))

pub c2_begins : IsBegun (0xC2 ∷ [])
c2_begins = begins_one 0xC2 (lead_wants 0xC2 (omega arith) (omega arith))

pub c2_waits : next_byte (Begun []) 0xC2 ≡ waits (Begun (0xC2 ∷ []))
c2_waits = waits_begun [] 0xC2 (inl refl) c2_begins

pub first_c2 : first_byte 0xC2 ≡ waits (Begun (0xC2 ∷ []))
unfolding next_byte in_character
first_c2 = c2_waits

pub c2_is_command : not (ends_command 0xC2) ≡ true
unfolding is_stop
c2_is_command = refl

pub c2_is_data : not (is_stop 0xC2) ≡ true
unfolding is_stop
c2_is_data = refl

-- the dispatches that a reading decides
abbrev decides : Reading → List Dispatch
decides r = flat_map dispatches_of r.segments ++ decided_of r.tail

c2_cuts_off : (t : Tail) → is_before_final t ≡ true → decides (next_byte t 0xC2) ≡ decided_of t ++ []
c2_cuts_off t h = ap decides (cut_off t 0xC2 h lead_cuts) ∙ ap (λ (r : Reading). decides (ends_before (CutOff t) r)) first_c2 ∙ append-nil _

-- a C2 that waits decides the dispatches of an interruption
c2_decides : (t : Tail) → IsUnfinished t → decides (next_byte t 0xC2) ≡ given t ++ (interrupted (kept_of t)).dispatches
c2_decides (Begun []) g = ap decides c2_waits
c2_decides (Begun (x ∷ p)) (inl e) = cc
c2_decides (Begun (x ∷ p)) (inr g) = ap decides (breaks (x ∷ p) 0xC2 g (no_inner x 0xC2 p no_c2)) ∙ ap (λ (r : Reading). decides (ends_before (IllFormed (x ∷ p)) r)) first_c2
c2_decides (OpenCommand o body) g = ap decides (stays_command o body 0xC2 c2_is_command) ∙ sym (append-nil _)
c2_decides (OpenDevice o header f body) g =
    ap decides (stays_device o header f body 0xC2 c2_is_data) ∙ ap (λ l. controls_in o ++ Enter (taken header) f ∷ map Data l) (settled_push body) ∙ sym (append-nil _)
c2_decides (OpenString o x body) g = ap decides (stays_string o x body 0xC2 c2_is_data) ∙ sym (append-nil _)
c2_decides t g = c2_cuts_off t refl

c2_rests : (s v : List ℕ) (ds : List Dispatch) (kept : Kept) → seven_bit s ≡ v ++ 0xC2 ∷ [] → ReadsTo v ds kept → dispatches s ≡ ds ++ (interrupted kept).dispatches
unfolding the_cut
c2_rests s v ds kept form r =
    let q = read_on (Begun []) v in
    let n = next_byte q.tail 0xC2 in
    ap (λ l. decides (read_on (Begun []) l)) form
    ∙ ap decides (read_push (Begun []) v 0xC2)
    ∙ ap (λ l. l ++ decided_of n.tail) (flat_map-append dispatches_of q.segments n.segments)
    ∙ append_assoc (flat_map dispatches_of q.segments) (flat_map dispatches_of n.segments) (decided_of n.tail)
    ∙ ap (λ l. flat_map dispatches_of q.segments ++ l) (c2_decides q.tail (unfinished v))
    ∙ sym (append_assoc (flat_map dispatches_of q.segments) (given q.tail) _)
    ∙ ap (λ l. l ++ (interrupted (kept_of q.tail)).dispatches) r.gives
    ∙ ap (λ (k : Kept). ds ++ (interrupted k).dispatches) r.keeps

decided_at : (s : List ℕ) (h : Handed) → At s h → dispatches s ≡ h.dispatches
decided_at s h (at_rest o r w) = rest_decides s o ∙ r.gives
decided_at s h (at_c2 v ds kept form o r e) = c2_rests s v ds kept form r ∙ sym (ap (λ (n : Handed). n.dispatches) e)

-- the dispatches that a stream decides are those that are handed out
pub decided : (s : List ℕ) → dispatches s ≡ (hand_out nothing_held s).dispatches
decided s = decided_at s (hand_out nothing_held s) (at_all s)

-- ---- chunks

pub hand_append : (h : Held) (x y : List ℕ) → hand_out h (x ++ y) ≡ then_handed (hand_out h x).dispatches (hand_out (hand_out h x).held y)
unfolding hand_out
hand_append h [] y = refl
hand_append h (b ∷ x) y =
    let n = held_step h b in
    let k = hand_append n.held x y in
    ap (then_handed n.dispatches) k ∙ ap (λ l. record { dispatches = l; held = (hand_out (hand_out n.held x).held y).held }) (sym (append_assoc n.dispatches _ _))

pub held_append : (s x : List ℕ) → held_of (s ++ x) ≡ (hand_out (held_of s) x).held
held_append s x = ap (λ (h : Handed). h.held) (hand_append nothing_held s x)

pub decided_append : (s x : List ℕ) → dispatches (s ++ x) ≡ dispatches s ++ (hand_out (held_of s) x).dispatches
decided_append s x =
    decided (s ++ x) ∙ ap (λ (h : Handed). h.dispatches) (hand_append nothing_held s x) ∙ ap (λ l. l ++ (hand_out (held_of s) x).dispatches) (sym (decided s))

-- the dispatches that more bytes decide are those that these bytes hand out
pub newly_handed : (s x : List ℕ) → newly_decided s x ≡ (hand_out (held_of s) x).dispatches
newly_handed s x = ap (λ l. drop (length (dispatches s)) l) (decided_append s x) ∙ drop_at (dispatches s) (hand_out (held_of s) x).dispatches _ refl

-- the dispatches that one more byte decides are those of its step, and the held state after it is that of its step
pub step_decides : (s : List ℕ) (b : ℕ) → (newly_decided s (b ∷ []) ≡ (held_step (held_of s) b).dispatches) × (held_of (s ++ b ∷ []) ≡ (held_step (held_of s) b).held)
unfolding hand_out
step_decides s b = (newly_handed s (b ∷ []) ∙ append-nil _, held_append s (b ∷ []))
