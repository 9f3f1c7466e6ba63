-- What a framer does at once, over plain variables.
use Rattle.std.proofs.Common.{◌≡◌, ◌≢◌, ℕ, zero, suc, ◌+◌, ◌<◌, ◌≤◌, Bool, true, false, List, [], ◌∷◌, ◌++◌, length, map, take, drop, refl, sym, ap, subst, ◌∙◌, arith, append_assoc, append-nil, inr, ⊎_elim}
use Rattle.std.specs.Prelude.{nat_le}
use Rattle.std.proofs.lemmas.List.{take-append-drop, length-take-le}
use lib.Utf8.{encode}
use Rattle.escape_framing.specs.Bytes.{is_stop, is_cut}
use Rattle.escape_framing.specs.Dispatch.{Print}
use Rattle.escape_framing.specs.Held.{Kept, InEscape, InControlSequence, InCommand, InHeader, InDevice, InString, Step, kept_step, Held, Handed, fresh_step, held_step, nothing_held, hand_out, held_of}
use Rattle.escape_framing.specs.Framed.{Text, Single, placed_after, framed_after, begun_bytes, bytes_begun, kept_takes, takes_text, IsLendable, IsText, no_text, text_of, BeginsNoText, IsCarried, IsReached, Frames, IsTextLen}
use Rattle.escape_framing.proofs.Begun.{is_body}
use Rattle.escape_framing.proofs.HeldLemmas.{step_decides}
use Rattle.escape_framing.proofs.FramedLemmas.{BeginsFrom}
use Rattle.escape_framing.proofs.TextLemmas.{reads_text, text_kept}
use Rattle.escape_framing.proofs.PrintLemmas.{PrintNone, IsQuiet, Before, is_quiet, cuts, escape_before, control_sequence_before, header_before, stop_quiet}
use Rattle.escape_framing.proofs.SoundLemmas.{begun_none}
use Rattle.escape_framing.proofs.SingleLemmas.{StandAlone, carried_none, byte_alone, body_alone, quiet_alone, IsLate, begins_late}
use Rattle.escape_framing.proofs.BreakLemmas.{GoesOn, text_breaks_at, text_cuts, is_character, broken_goes}
use Rattle.std.proofs.lemmas.Bool.{leb-true, or_cases, cases_Bool, ne_eqb, leb-false}

start_held : held_of [] ≡ nothing_held
unfolding hand_out
start_held = refl

pub nothing_reached : IsReached nothing_held
nothing_reached = ([], sym start_held)

pub in_call : (start count : ℕ) (h : Held) (rest : List ℕ) → IsCarried 0 count h rest → IsCarried start (start + count) h rest
in_call start count h rest k = record { carried = λ c more l e n. let m = k.carried c more l e n in omega arith }

-- the first character of a text
record First (bytes : List ℕ) : Type 0 where
  c : ℕ
  more : List ℕ
  lendable : IsLendable c
  is : bytes ≡ encode c ++ more

first_of : (text rest : List ℕ) → IsText text → text ≢ [] → First (text ++ rest)
first_of text rest no_text n = absurd (n refl)
first_of text rest (text_of c more l t) n = record { c = c; more = more ++ rest; lendable = l; is = append_assoc (encode c) more rest }

some_taken : (bytes : List ℕ) (n : ℕ) → n ≤ length bytes → 0 < n → take n bytes ≢ []
some_taken [] n l p e = absurd (omega arith)
some_taken (x ∷ bytes) zero l p e = absurd (omega arith)
some_taken (x ∷ bytes) (suc n) l p e = cc

first_in : (bytes : List ℕ) (n : ℕ) → IsTextLen bytes n → 0 < n → First bytes
first_in bytes n t p = subst First (take-append-drop n bytes) (first_of (take n bytes) (drop n bytes) t.text (some_taken bytes n t.within p))

takes_outside : (k : Kept) (w : Bool) (b : ℕ) → kept_takes k w b ≡ true → is_body k ≡ false
takes_outside (InCommand body) w b h = cc
takes_outside InDevice w b h = cc
takes_outside InString w b h = cc
takes_outside _ w b h = refl

-- ---- a text breaks a character

pub frames_broken : (count n : ℕ) (h : Held) (b : ℕ) (rest : List ℕ) → IsReached h → takes_text h b ≡ true → begun_bytes h ≢ [] → IsTextLen (b ∷ rest) n → 0 < n
    → Frames count h (b ∷ rest) (λ from. Single (Print 0xFFFD) ∷ []) 0 nothing_held
frames_broken count n h b rest r t z k p =
    let f = first_in (b ∷ rest) n k p in
    let g = broken_goes h b rest (text_breaks_at h b rest f.c f.more r (takes_outside h.kept h.waiting b t) z f.lendable f.is) in
    record {
      within = omega arith;
      lends = λ start. g.lends start (start + count) ∙ (let q : start + count ≡ start + count + 0 = omega arith in ap (λ (m : ℕ). Single (Print 0xFFFD) ∷ framed_after start m nothing_held (b ∷ rest)) q);
      keeps = g.keeps;
      reached = nothing_reached;
      carried = carried_none 0 (count + 0) nothing_held (b ∷ rest) refl;
    }

-- whatever follows its first byte
pub broken_same : (n : ℕ) (h : Held) (b : ℕ) (rest : List ℕ) → IsReached h → takes_text h b ≡ true → begun_bytes h ≢ [] → IsTextLen (b ∷ rest) n → 0 < n → (xs : List ℕ) → (hand_out h (b ∷ xs)).held ≡ (hand_out nothing_held (b ∷ xs)).held
unfolding hand_out
broken_same n h b rest r t z k p xs =
    let f = first_in (b ∷ rest) n k p in
    ap (λ (x : Handed). (hand_out x.held xs).held) (text_breaks_at h b rest f.c f.more r (takes_outside h.kept h.waiting b t) z f.lendable f.is)

-- ---- a text

-- where no C2 waits the first byte is high, or nothing is open
high : (k : Kept) (w : Bool) (b : ℕ) → kept_takes k w b ≡ true → bytes_begun k w ≡ [] → is_character k ≡ false → 128 ≤ b
high (InEscape xs) false b h z i = leb-true 0x80 b h
high (InControlSequence p) false b h z i = leb-true 0x80 b h
high (InHeader header) false b h z i = leb-true 0x80 b h
high _ w b h z i = cc

text_after : (count n : ℕ) (h : Held) (bytes : List ℕ) → IsTextLen bytes n → 0 < n → GoesOn h bytes [] nothing_held → Frames count h bytes (λ from. Text from (take n bytes) ∷ []) n nothing_held
text_after count n h bytes k p g =
    let len : length (take n bytes) ≡ n = length-take-le n bytes k.within in
    record {
      within = k.within;
      lends = λ start.
          g.lends start (start + count)
          ∙ ap (framed_after start (start + count) nothing_held) (sym (take-append-drop n bytes))
          ∙ reads_text start (start + count) (take n bytes) (drop n bytes) k.text (some_taken bytes n k.within p) (omega arith)
          (subst (λ (m : ℕ). BeginsFrom (start + count + m + 1) (framed_after start (start + count + m) nothing_held (drop n bytes))) (sym len) (separate start))
          ∙ ap (λ (m : ℕ). Text (start + count) (take n bytes) ∷ framed_after start (start + count + m) nothing_held (drop n bytes)) len;
      keeps = g.keeps ∙ ap (λ (l : List ℕ). (hand_out nothing_held l).held) (sym (take-append-drop n bytes)) ∙ text_kept (take n bytes) (drop n bytes) k.text;
      reached = nothing_reached;
      carried = carried_none 0 (count + n) nothing_held (drop n bytes) refl;
    }
  where
    separate : (start : ℕ) → BeginsFrom (start + count + n + 1) (framed_after start (start + count + n) nothing_held (drop n bytes))
    separate start = subst (λ (h' : Held). IsLate (start + count + n + 1) (start + count + n) (begun_bytes h') (drop n bytes) → BeginsFrom (start + count + n + 1) (framed_after start (start + count + n) h' (drop n bytes))) start_held
        (begins_late (drop n bytes) [] start (start + count + n) (start + count + n + 1)) (inr (omega arith, k.rest))

pub frames_text : (count n : ℕ) (h : Held) (b : ℕ) (rest : List ℕ) → IsReached h → takes_text h b ≡ true → begun_bytes h ≡ [] → IsTextLen (b ∷ rest) n → 0 < n
    → Frames count h (b ∷ rest) (λ from. Text from (take n (b ∷ rest)) ∷ []) n nothing_held
frames_text count n h b rest r t z k p =
    let f = first_in (b ∷ rest) n k p in
    text_after count n h (b ∷ rest) k p (text_cuts h b rest f.c f.more r (takes_outside h.kept h.waiting b t) z (high h.kept h.waiting b t z) f.lendable f.is)

-- nothing is held after it
pub text_ends : (n : ℕ) (h : Held) (b : ℕ) (rest : List ℕ) → IsReached h → takes_text h b ≡ true → begun_bytes h ≡ [] → IsTextLen (b ∷ rest) n → 0 < n → (hand_out h (take n (b ∷ rest))).held ≡ nothing_held
text_ends zero h b rest r t z k p = absurd (omega arith)
text_ends (suc n) h b rest r t z k p =
    let text = b ∷ take n rest in
    let f : First text = subst First (append-nil text) (first_of text [] k.text (λ y. cc)) in
    let g = text_cuts h b (take n rest) f.c f.more r (takes_outside h.kept h.waiting b t) z (high h.kept h.waiting b t z) f.lendable f.is in
    g.keeps ∙ ap (λ (l : List ℕ). (hand_out nothing_held l).held) (sym (append-nil text)) ∙ text_kept text [] k.text ∙ start_held

-- ---- one byte

stands : (count : ℕ) (h : Held) (b : ℕ) (rest : List ℕ) → IsReached h → ((start : ℕ) → StandAlone start (start + count + 1) (held_step h b).held rest (held_step h b).dispatches)
    → Frames count h (b ∷ rest) (λ from. map Single (held_step h b).dispatches) 1 (held_step h b).held
unfolding placed_after hand_out
stands count h b rest (stream, e) a = record {
  within = omega (arith, short b rest);
  lends = λ start. (a start).alone (placed_after (start + count + 1) (held_step h b).held rest);
  keeps = refl;
  reached = (stream ++ b ∷ [], ap (λ (x : Held). (held_step x b).held) e ∙ sym (step_decides stream b).1);
  carried = subst (λ (m : ℕ). IsCarried 0 m (held_step h b).held rest) (let k : 0 + count + 1 ≡ count + 1 = omega arith in k) (a 0).carried;
}
  where
    short : (b : ℕ) (rest : List ℕ) → 1 ≤ length (b ∷ rest)
    short b rest = omega arith

-- a low byte within a sequence prints nothing
before_low : (b : ℕ) (s : Step) → nat_le 0x80 b ≡ false → Before b s → IsQuiet s
unfolding is_cut
before_low b s l (is_quiet q) = q
before_low b s l (cuts c e) = subst IsQuiet (sym e) (stop_quiet b (⊎_elim (λ k. k) (λ k. cc) (or_cases (is_stop b) (nat_le 0x80 b) c)))

low_step : (k : Kept) (b : ℕ) → nat_le 0x80 b ≡ false → Before b (kept_step k b) → PrintNone (held_step (record { kept = k; waiting = false }) b).dispatches × (begun_bytes (held_step (record { kept = k; waiting = false }) b).held ≡ [])
unfolding held_step fresh_step
low_step k b l q = let r = before_low b (kept_step k b) l q in rw (ne_eqb b 0xC2 (λ e. let m = leb-false 0x80 b l in absurd (omega arith))) (r.0, begun_none (kept_step k b).kept r.1)

-- a byte at which no text can begin, or none does
alone_at : (h : Held) (b : ℕ) (rest : List ℕ) (start count : ℕ) → IsReached h → (takes_text h b ≡ true → BeginsNoText (b ∷ rest)) → IsCarried start count h (b ∷ rest)
    → StandAlone start (count + 1) (held_step h b).held rest (held_step h b).dispatches
alone_at h b rest start count r n c = ⊎_elim
    (λ t. byte_alone h b rest start count r (takes_outside h.kept h.waiting b t) (n t) c)
    (λ t. shut h.kept h.waiting t (body_alone h b rest start count r))
    (cases_Bool (takes_text h b))
  where
    Goal : Held → Type 0
    Goal h = StandAlone start (count + 1) (held_step h b).held rest (held_step h b).dispatches

    low : (k : Kept) → Before b (kept_step k b) → nat_le 0x80 b ≡ false → Goal (record { kept = k; waiting = false })
    low k q l = let r = low_step k b l q in quiet_alone start count (held_step (record { kept = k; waiting = false }) b) rest r.0 r.1

    shut : (k : Kept) (w : Bool) → kept_takes k w b ≡ false → (is_body k ≡ true → Goal (record { kept = k; waiting = w })) → Goal (record { kept = k; waiting = w })
    shut (InEscape xs) false h f = low (InEscape xs) (escape_before xs b) h
    shut (InControlSequence p) false h f = low (InControlSequence p) (control_sequence_before p b) h
    shut (InHeader header) false h f = low (InHeader header) (header_before header b) h
    shut (InCommand x) w h f = f refl
    shut InDevice w h f = f refl
    shut InString w h f = f refl
    shut _ w h f = cc

pub frames_alone : (count : ℕ) (h : Held) (b : ℕ) (rest : List ℕ) → IsReached h → (takes_text h b ≡ true → BeginsNoText (b ∷ rest)) → IsCarried 0 count h (b ∷ rest)
    → Frames count h (b ∷ rest) (λ from. map Single (held_step h b).dispatches) 1 (held_step h b).held
frames_alone count h b rest r n c = stands count h b rest r (λ start. alone_at h b rest start (start + count) r n (in_call start count h (b ∷ rest) c))
