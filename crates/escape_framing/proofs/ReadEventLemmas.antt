-- What a framer reads of the bytes of a call, over plain variables.
use Rattle.std.proofs.Common.{◌≡◌, ◌≢◌, ℕ, ◌+◌, ◌<◌, ◌≤◌, ◌⊎◌, inl, inr, Bool, true, false, List, [], ◌∷◌, ◌++◌, length, map, fold, take, Option, Some, None, refl, sym, ap, subst, ◌∙◌, arith, ⊎_elim, append_assoc}
use Rattle.std.proofs.lemmas.Bool.Decides.{nat_tests}
use Rattle.text_clusters.specs.Controls.{is_c1}
use Rattle.std.specs.List.{prefix_len}
use Rattle.csi_codec.specs.Tokens.{is_parameter, Parameters, no_parameters, with_byte}
use Rattle.escape_framing.specs.Bytes.{is_stop, is_embedded, is_intermediate, is_cut, is_opener, is_string_opener}
use Rattle.escape_framing.specs.Dispatch.{Dispatch}
use Rattle.escape_framing.specs.Dispatch as stream
use Rattle.escape_framing.specs.Decode.{in_character, first_byte}
use Rattle.escape_framing.specs.Held.{Kept, InCharacter, InCommand, InDevice, InString, Step, character_step, opened, escape_step, header_step, Held, Handed, handed, fresh_step, held_step, nothing_held, hand_out}
use Rattle.escape_framing.specs.Framed.{Text, Single, framed, at_offset, placed_after, framed_after, begun_bytes, bytes_begun, kept_takes, takes_text, no_text, BeginsNoText, IsReached, IsCarried, Frames, IsTextLen}
use Rattle.escape_framing.specs.Prefixes.{IsLastAt}
use Rattle.escape_framing.specs.Lending.{Lending}
use Rattle.escape_framing.specs.Event.{handed_out, held_resumed, rank, IsAlone, IsHeldLeft}
use Rattle.escape_framing.specs.Read.{whole_control, whole_stray, ReadsEvent, TakesMemoryAt, held_after}
use Rattle.escape_framing.specs.Segment.{IsControl, IsPrintable}
use Rattle.escape_framing.specs.FramerView.{kept_as}
use Rattle.escape_framing.specs.declared.states.State.{State}
use Rattle.escape_framing.specs.declared.states.State.TheVariants as state
use Rattle.escape_framing.specs.declared.event.Event.{Event}
use Rattle.escape_framing.specs.declared.event.Event.TheVariants as event
use Rattle.escape_framing.specs.declared.event.Read.{Read}
use Rattle.escape_framing.specs.declared.event.Read.TheVariants as read
use Rattle.escape_framing.proofs.FirstLemmas.{first_control, first_stray}
use Rattle.escape_framing.proofs.FramedLemmas.{never_lent}
use Rattle.escape_framing.proofs.LenLemmas.{none_begins, none_stray}
use Rattle.escape_framing.proofs.SoundLemmas.{IsSoundIn, reached_sound}
use Rattle.escape_framing.proofs.SingleLemmas.{carried_none, some_or_none}
use Rattle.escape_framing.proofs.BreakLemmas.{lead_of}
use Rattle.escape_framing.proofs.StepLemmas.{frames_text, text_ends, frames_broken, broken_same, frames_alone, nothing_reached}
use Rattle.escape_framing.proofs.TextLemmas.{other_step}
use Rattle.escape_framing.proofs.BodyLemmas.{opens_read, opens_left, closed_takes_none, none_more}
use Rattle.escape_framing.proofs.PrefixLemmas.{reads_sequence}
use Rattle.std.proofs.lemmas.Bool.{cases_Bool}
use Rattle.std.proofs.lemmas.List.{map-append}

-- ---- an event that leaves a byte unread is an item of its own

event_alone : (l : Lending) (e : Option Event) (start offset : ℕ) (placed : List (ℕ × Dispatch)) → IsAlone e → framed start (at_offset offset (handed_out l e) ++ placed) ≡ map Single (handed_out l e) ++ framed start placed
event_alone l None start offset placed a = refl
event_alone l (Some (event.Print c)) start offset placed a = rw (never_lent start offset c a) refl
event_alone l (Some _) start offset placed a = refl

at_both : (offset : ℕ) (xs ys : List Dispatch) (placed : List (ℕ × Dispatch)) → at_offset offset (xs ++ ys) ++ placed ≡ at_offset offset xs ++ (at_offset offset ys ++ placed)
at_both offset xs ys placed = ap (λ l. l ++ placed) (map-append (λ (d : Dispatch). (offset, d)) xs ys) ∙ append_assoc (at_offset offset xs) (at_offset offset ys) placed

-- ---- the held state where a byte is left unread

lead_reached : IsReached (record { kept = InCharacter []; waiting = true })
unfolding hand_out held_step fresh_step
lead_reached = (0xC2 ∷ [], refl)

-- ESC P q
device_reached : IsReached (record { kept = InDevice; waiting = false })
unfolding hand_out held_step fresh_step character_step in_character first_byte escape_step opened header_step is_embedded is_stop is_intermediate is_cut is_opener is_string_opener is_parameter
device_reached = (0x1B ∷ 0x50 ∷ 0x71 ∷ [], refl)

left_reached : (h : Held) → (h.kept ≡ InCharacter []) ⊎ (h ≡ record { kept = InDevice; waiting = false }) → IsReached h
left_reached h (inr e) = subst IsReached (sym e) device_reached
left_reached h (inl e) = ⊎_elim
    (λ w. subst IsReached (λ i. record { kept = sym e i; waiting = sym w i }) lead_reached)
    (λ w. subst IsReached (λ i. record { kept = sym e i; waiting = sym w i }) nothing_reached)
    (cases_Bool h.waiting)

-- ---- the begun bytes of a character where a byte is left unread

c1_high : (y : ℕ) → is_c1 0xC2 y ≡ true → y ≤ 0x9F
c1_high y h = grind (arith, nat_tests)

-- half of a C1 control begins no character to lend
c1_carried : (count : ℕ) (h : Held) (b : ℕ) (rest : List ℕ) → begun_bytes h ≡ 0xC2 ∷ [] → is_c1 0xC2 b ≡ true → IsCarried 0 count h (b ∷ rest)
c1_carried count h b rest e c = record {
  carried = λ x more l k n.
      let f = (lead_of x 0xC2 (b ∷ rest) more l (ap (λ (p : List ℕ). p ++ (b ∷ rest)) (sym e) ∙ k)).after refl in
      absurd (let m : b ≡ f.0 = cons_head b f.0 rest f.1 f.2 in omega (arith, m, f.3, c1_high b c));
}
  where
    cons_head : (a d : ℕ) (xs ys : List ℕ) → a ∷ xs ≡ d ∷ ys → a ≡ d
    cons_head a d xs ys e = cc

-- a sequence that is broken off had the C2 begun already
lead_begun : (k : Kept) (b : ℕ) → IsSoundIn k true → kept_takes k true b ≡ true → bytes_begun k true ≡ 0xC2 ∷ []
lead_begun (InCharacter p) b s t = ap (λ (l : List ℕ). l ++ 0xC2 ∷ []) (s.1 refl)
lead_begun (InCommand body) b s t = cc
lead_begun InDevice b s t = cc
lead_begun InString b s t = cc
lead_begun _ b s t = refl

carried_on : (count : ℕ) (h h' : Held) (bytes : List ℕ) → begun_bytes h' ≡ begun_bytes h → IsCarried 0 count h bytes → IsCarried 0 count h' bytes
carried_on count h h' bytes e k = record { carried = λ c more l q n. subst (λ (p : List ℕ). count < 0 + length p) (sym e) (k.carried c more l (ap (λ (p : List ℕ). p ++ bytes) (sym e) ∙ q) (λ z. n (e ∙ z))) }

left_carried : (count b : ℕ) (rest : List ℕ) (old new : Held) (e : Option Event) → IsReached old → IsCarried 0 count old (b ∷ rest) → IsHeldLeft old b e new → IsCarried 0 count new (b ∷ rest)
left_carried count b rest old new e r k l = by_closed l.closed
  where
    began : old.waiting ≡ true → takes_text old b ≡ true → begun_bytes old ≡ 0xC2 ∷ []
    began w t = ap (bytes_begun old.kept) w ∙ lead_begun old.kept b (subst (IsSoundIn old.kept) w (reached_sound old r)) (subst (λ (x : Bool). kept_takes old.kept x b ≡ true) w t)

    by_half : begun_bytes new ≡ 0xC2 ∷ [] → (old.waiting ≡ true) × ((is_c1 0xC2 b ≡ true) ⊎ (takes_text old b ≡ true)) → IsCarried 0 count new (b ∷ rest)
    by_half n (w, inl c) = c1_carried count new b rest n c
    by_half n (w, inr t) = carried_on count old new (b ∷ rest) (n ∙ sym (began w t)) k

    by_wait : (w : Bool) → new.waiting ≡ w → new.kept ≡ InCharacter [] → IsCarried 0 count new (b ∷ rest)
    by_wait true w f = by_half (λ i. bytes_begun (f i) (w i)) (l.waits w)
    by_wait false w f = carried_none 0 count new (b ∷ rest) (λ i. bytes_begun (f i) (w i))

    by_closed : (new.kept ≡ InCharacter []) ⊎ (new ≡ record { kept = InDevice; waiting = false }) → IsCarried 0 count new (b ∷ rest)
    by_closed (inl f) = by_wait new.waiting refl f
    by_closed (inr f) = carried_none 0 count new (b ∷ rest) (ap begun_bytes f)

-- ---- one byte

frames_left : (count : ℕ) (old : Held) (b : ℕ) (rest : List ℕ) (l : Lending) (e : Option Event) → IsReached old → IsCarried 0 count old (b ∷ rest) → held_step old b ≡ held_resumed (handed_out l e) l.held false b → IsHeldLeft old b e l.held
    → Frames count old (b ∷ rest) (λ from. map Single (handed_out l e)) 0 l.held
unfolding placed_after hand_out
frames_left count old b rest l e r k s f = record {
  within = omega arith;
  lends = λ start.
      ap (λ (x : Handed). framed start (at_offset (start + count + 1) x.dispatches ++ placed_after (start + count + 1) x.held rest)) s
      ∙ ap (framed start) (at_both (start + count + 1) (handed_out l e) (held_step l.held b).dispatches (placed_after (start + count + 1) (held_step l.held b).held rest))
      ∙ event_alone l e start (start + count + 1) (at_offset (start + count + 1) (held_step l.held b).dispatches ++ placed_after (start + count + 1) (held_step l.held b).held rest) f.alone
      ∙ (let q : start + count ≡ start + count + 0 = omega arith in ap (λ (m : ℕ). map Single (handed_out l e) ++ framed_after start m l.held (b ∷ rest)) q);
  keeps = ap (λ (x : Handed). (hand_out x.held rest).held) s;
  reached = left_reached l.held f.closed;
  carried = left_carried (count + 0) b rest old l.held e r (subst (λ (m : ℕ). IsCarried 0 m old (b ∷ rest)) (let q : count ≡ count + 0 = omega arith in q) k) f;
}

pub reads_left : (old : Held) (b : ℕ) (rest bytes : List ℕ) (l : Lending) (e : Option Event) → bytes ≡ b ∷ rest → held_step old b ≡ held_resumed (handed_out l e) l.held false b → IsHeldLeft old b e l.held → ReadsEvent old bytes (read.Bytes e 0) l
unfolding hand_out
reads_left old b rest bytes l e is s f = subst (λ (m : List ℕ). ReadsEvent old m (read.Bytes e 0) l) (sym is) (record {
  frames = λ count r k. frames_left count old b rest l e r k s f;
  within = omega arith;
  text = no_text;
  moves = λ x y. f.falls;
  opens = λ r. opens_left old l.held b rest (λ xs. ap (λ (x : Handed). (hand_out x.held xs).held) s) (closed_takes_none l.held f.closed);
})

pub reads_one : (old : Held) (b : ℕ) (rest bytes : List ℕ) (l : Lending) (e : Option Event) → bytes ≡ b ∷ rest → held_step old b ≡ held_resumed (handed_out l e) l.held true b → (takes_text old b ≡ true → BeginsNoText bytes) → ReadsEvent old bytes (read.Bytes e 1) l
unfolding hand_out
reads_one old b rest bytes l e is s none = subst (λ (m : List ℕ). ReadsEvent old m (read.Bytes e 1) l) (sym is) (record {
  frames = λ count r k. subst (λ (x : Handed). Frames count old (b ∷ rest) (λ from. map Single x.dispatches) 1 x.held) s (frames_alone count old b rest r (λ y. subst BeginsNoText is (none y)) k);
  within = omega arith;
  text = no_text;
  moves = λ x y. absurd (let z : 1 ≡ 0 = x in omega arith);
  opens = λ r. opens_read old l.held (b ∷ rest) 1 (ap (λ (x : Handed). x.held) s);
})

-- ---- nothing, a run, a text

pub reads_none : (l : Lending) (bytes : List ℕ) → length bytes ≡ 0 → ReadsEvent l.held bytes (read.Bytes None 0) l
unfolding placed_after hand_out
reads_none l [] e = record {
  frames = λ count r c. record { within = omega arith; lends = λ start. refl; keeps = refl; reached = r; carried = subst (λ (m : ℕ). IsCarried 0 m l.held []) (let k : count ≡ count + 0 = omega arith in k) c };
  within = omega arith;
  text = no_text;
  moves = λ x y. absurd (omega arith);
  opens = λ r. none_more l.held [];
}
reads_none l (x ∷ bytes) e = absurd (omega arith)

begun_rank : (k : Kept) (w : Bool) → bytes_begun k w ≢ [] → 0 < rank (record { kept = k; waiting = w })
begun_rank k true n = omega arith
begun_rank (InCharacter (x ∷ p)) false n = omega arith
begun_rank _ false n = absurd (n refl)

pub reads_broken_event : (old : Held) (b n : ℕ) (rest bytes : List ℕ) (l : Lending) → bytes ≡ b ∷ rest → takes_text old b ≡ true → begun_bytes old ≢ [] → IsTextLen bytes n → 0 < n → l.held ≡ nothing_held
    → ReadsEvent old bytes (read.Bytes (Some (event.Print 0xFFFD)) 0) l
reads_broken_event old b n rest bytes l is t begun k z e = subst (λ (m : List ℕ). ReadsEvent old m (read.Bytes (Some (event.Print 0xFFFD)) 0) l) (sym is) (record {
  frames = λ count r c. subst (λ (h : Held). Frames count old (b ∷ rest) (λ from. Single (stream.Print 0xFFFD) ∷ []) 0 h) (sym e) (frames_broken count n old b rest r t begun (subst (λ (m : List ℕ). IsTextLen m n) is k) z);
  within = omega arith;
  text = no_text;
  moves = λ x y. subst (λ (h : Held). rank h < rank old) (sym e) (begun_rank old.kept old.waiting begun);
  opens = λ r. subst (λ (h : Held). (m : ℕ) → TakesMemoryAt h (b ∷ rest) m → held_after h (b ∷ rest) m ≡ held_after old (b ∷ rest) (0 + m)) (sym e)
      (opens_left old nothing_held b rest (broken_same n old b rest r t begun (subst (λ (m : List ℕ). IsTextLen m n) is k) z) (λ x. x));
})

pub reads_text_event : (old : Held) (b n : ℕ) (rest bytes : List ℕ) (l : Lending) → bytes ≡ b ∷ rest → takes_text old b ≡ true → begun_bytes old ≡ [] → IsTextLen bytes n → 0 < n → l.held ≡ nothing_held → ReadsEvent old bytes (read.Text n) l
reads_text_event old b n rest bytes l is t begun k z e = record {
  frames = λ count r c. subst (λ (h : Held). Frames count old bytes (λ from. Text from (take n bytes) ∷ []) n h) (sym e)
      (subst (λ (m : List ℕ). Frames count old m (λ from. Text from (take n m) ∷ []) n nothing_held) (sym is) (frames_text count n old b rest r t begun (subst (λ (m : List ℕ). IsTextLen m n) is k) z));
  within = k.within;
  text = k.text;
  moves = λ x y. absurd (omega arith);
  opens = λ r. opens_read old l.held bytes n (subst (λ (m : List ℕ). (hand_out old (take n m)).held ≡ nothing_held) (sym is) (text_ends n old b rest r t begun (subst (λ (m : List ℕ). IsTextLen m n) is k) z) ∙ sym e);
}

pub reads_at_text : (old : Held) (b n : ℕ) (rest bytes : List ℕ) (r : Read) (l : Lending) → (begun_bytes old ≢ [] → r ≡ read.Bytes (Some (event.Print 0xFFFD)) 0) → (begun_bytes old ≡ [] → r ≡ read.Text n)
    → bytes ≡ b ∷ rest → takes_text old b ≡ true → IsTextLen bytes n → 0 < n → l.held ≡ nothing_held → ReadsEvent old bytes r l
reads_at_text old b n rest bytes r l broken whole is t k z e = ⊎_elim
    (λ g. subst (λ (x : Read). ReadsEvent old bytes x l) (sym (whole g)) (reads_text_event old b n rest bytes l is t g k z e))
    (λ g. subst (λ (x : Read). ReadsEvent old bytes x l) (sym (broken g)) (reads_broken_event old b n rest bytes l is t g k z e))
    (some_or_none (begun_bytes old))

-- ---- fields

kept_rest : (s : State) (xs : List ℕ) (p q : Parameters) (body : List ℕ) → kept_as s xs p body ≡ InCharacter [] → kept_as s xs q body ≡ InCharacter []
kept_rest state.Characters xs p q body e = e
kept_rest _ xs p q body e = cc

abbrev shown : State → Bool → List ℕ → Parameters → List ℕ → Lending
shown s w xs p body = record { held = record { kept = kept_as s xs p body; waiting = w }; parameters = p; body = body }

-- a whole control sequence at the start of the bytes
pub reads_whole : (old : Lending) (s : State) (w : Bool) (xs : List ℕ) (p q : Parameters) (body bytes remaining : List ℕ) (n control : ℕ) → shown s w xs p body ≡ old → old.held ≡ nothing_held → bytes ≡ 0x1B ∷ 0x5B ∷ remaining → n ≡ prefix_len is_parameter remaining
    → q ≡ fold with_byte no_parameters (take n remaining) → IsLastAt remaining n (Some control) → ReadsEvent old.held bytes (read.Bytes (Some (event.ControlSequence control)) (n + 3)) (shown s w xs q body)
reads_whole old s w xs p q body bytes remaining n control v e is k t last =
    let kept : kept_as s xs q body ≡ InCharacter [] = kept_rest s xs p q body (ap (λ (l : Lending). l.held.kept) v ∙ ap (λ (h : Held). h.kept) e) in
    let waits : w ≡ false = ap (λ (l : Lending). l.held.waiting) v ∙ ap (λ (h : Held). h.waiting) e in
    let same : record { kept = kept_as s xs q body; waiting = w } ≡ old.held = (λ i. record { kept = kept i; waiting = waits i }) ∙ sym e in
    reads_sequence old.held bytes remaining n control last.1.0 (shown s w xs q body) e (same ∙ e) is k t last.0 last.1.1

-- ---- a control or a text where nothing is held

pub reads_control : (l : Lending) (bytes rest : List ℕ) (b : ℕ) → l.held ≡ nothing_held → bytes ≡ b ∷ rest → IsControl b → ReadsEvent l.held bytes (whole_control b) l
reads_control l bytes rest b h is k =
    reads_one l.held b rest bytes l (Some (event.Control b)) is
    (ap (λ (x : Held). held_step x b) h ∙ other_step [] b (λ e. let m = low in omega arith) ∙ ap (λ (t : Step). handed t false) (first_control b either escapes) ∙ (λ i. record { dispatches = stream.Control b ∷ []; held = sym h i }))
    (λ t. subst BeginsNoText (sym is) (none_begins b rest low unprintable))
  where
    low : b < 0x80
    low = ⊎_elim (λ m. let n = m.0 in omega arith) (λ e. omega arith) k

    either : (b < 0x20) ⊎ (b ≡ 0x7F)
    either = ⊎_elim (λ m. inl m.0) inr k

    escapes : b ≢ 0x1B
    escapes = ⊎_elim (λ m. m.1) (λ e z. omega arith) k

    unprintable : IsPrintable b → ⊥
    unprintable (inl r) = ⊎_elim (λ m. let n = m.0 in let g = r.0 in omega arith) (λ e. let g = r.1 in omega arith) k
    unprintable (inr r) = let m = low in omega arith

pub reads_stray : (l : Lending) (bytes rest : List ℕ) (b : ℕ) → l.held ≡ nothing_held → bytes ≡ b ∷ rest → 0x80 ≤ b → (b < 0xC2) ⊎ (0xF4 < b) → ReadsEvent l.held bytes (whole_stray 1) l
reads_stray l bytes rest b h is low out =
    reads_one l.held b rest bytes l (Some (event.Print 0xFFFD)) is
    (ap (λ (x : Held). held_step x b) h ∙ other_step [] b (λ e. ⊎_elim (λ m. omega arith) (λ m. omega arith) out) ∙ ap (λ (t : Step). handed t false) (first_stray b low out) ∙ (λ i. record { dispatches = stream.Print 0xFFFD ∷ []; held = sym h i }))
    (λ t. subst BeginsNoText (sym is) (none_stray b rest low out))

pub reads_only_text : (l : Lending) (bytes rest : List ℕ) (b n : ℕ) → l.held ≡ nothing_held → bytes ≡ b ∷ rest → IsTextLen bytes n → 0 < n → ReadsEvent l.held bytes (read.Text n) l
reads_only_text l bytes rest b n h is k z = reads_text_event l.held b n rest bytes l is (ap (λ (x : Held). takes_text x b) h) (ap begun_bytes h) k z h

-- ---- the parameters that are kept of a list

pub keeps_list : (old : Lending) (s : State) (w : Bool) (xs : List ℕ) (p q : Parameters) (body : List ℕ) → shown s w xs p body ≡ old → old.held ≡ nothing_held → shown s w xs q body ≡ record old { parameters = q }
keeps_list old s w xs p q body v e =
    let kept : kept_as s xs q body ≡ InCharacter [] = kept_rest s xs p q body (ap (λ (l : Lending). l.held.kept) v ∙ ap (λ (h : Held). h.kept) e) in
    let waits : w ≡ false = ap (λ (l : Lending). l.held.waiting) v ∙ ap (λ (h : Held). h.waiting) e in
    let same : record { kept = kept_as s xs q body; waiting = w } ≡ old.held = (λ i. record { kept = kept i; waiting = waits i }) ∙ sym e in
    λ i. record { held = same i; parameters = q; body = ap (λ (l : Lending). l.body) v i }
