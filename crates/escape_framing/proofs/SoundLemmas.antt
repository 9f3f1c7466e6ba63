-- The characters that a byte of a stream prints after the held state.
use Rattle.std.proofs.Common.{◌≡◌, ℕ, ◌-◌, inl, inr, Bool, true, false, List, [], ◌∷◌, ◌++◌, refl, sym, ap, subst, ◌∙◌, arith, append-nil, ⊎_elim}
use Rattle.std.specs.Prelude.{◌==◌}
use Rattle.std.proofs.lemmas.Bool.{cond_both, cases_Bool, eqb-true}
use Rattle.text_clusters.specs.Controls.{is_c1}
use Rattle.escape_framing.specs.Bytes.{is_stop}
use Rattle.escape_framing.specs.Segment.{Tail, Begun, IsUnfinished}
use Rattle.escape_framing.specs.Decode.{read_on}
use Rattle.escape_framing.specs.SevenBit.{seven_bit}
use Rattle.escape_framing.specs.Held.{Kept, InCharacter, InEscape, InControlSequence, InCommand, InHeader, InDevice, InString, kept_of, Step, steps, character_step, escape_step, control_sequence_step, command_step, header_step, device_step, string_step, kept_step, Held, Handed, handed, handed_after, interrupted, fresh_step, waiting_step, held_step, nothing_held, hand_out, held_of}
use Rattle.escape_framing.specs.Framed.{begun_bytes, bytes_begun, IsReached}
use Rattle.escape_framing.proofs.Begun.{begun_in, is_body}
use Rattle.escape_framing.proofs.FirstLemmas.{first_escape}
use Rattle.escape_framing.proofs.WaitingLemmas.{escape_cut, control_sequence_cut, escape_cuts, lead_cuts, header_cut, c1_not_cut}
use Rattle.escape_framing.proofs.HeldLemmas.{At, at_rest, at_c2, at_all, unfinished, c2_begins}
use Rattle.escape_framing.proofs.TextLemmas.{lead_kept}
use Rattle.escape_framing.proofs.PrintLemmas.{PrintNone, none_append, goes_on, quiet, Printing, whole_one, breaks_one, Prints, first_character, character_prints, IsQuiet, Before, is_quiet, cuts, escape_before, control_sequence_before, header_before, body_quiet}

-- ---- the held state of a stream

-- the first bytes of a character begin one, and none is held where a C2 waits
abbrev pub IsSoundIn : Kept → Bool → Type 0
IsSoundIn (InCharacter p) waiting = IsUnfinished (Begun p) × (waiting ≡ true → p ≡ [])
IsSoundIn _ waiting = Unit {0}

kept_sound : (t : Tail) → IsUnfinished t → IsSoundIn (kept_of t) false
kept_sound (Begun p) g = (g, λ e. cc)
kept_sound _ g = tt

interrupted_sound : (k : Kept) → IsSoundIn (interrupted k).kept true
interrupted_sound (InCharacter []) = (inl refl, λ e. refl)
interrupted_sound (InCharacter (x ∷ p)) = (inl refl, λ e. refl)
interrupted_sound _ = tt

at_sound : (s : List ℕ) (h : Handed) → At s h → IsSoundIn h.held.kept h.held.waiting
at_sound s h (at_rest o r w) = rw w (subst (λ (k : Kept). IsSoundIn k false) r.keeps (kept_sound (read_on (Begun []) (seven_bit s)).tail (unfinished (seven_bit s))))
at_sound s h (at_c2 v ds kept form o r k) = subst (λ (x : Handed). IsSoundIn x.held.kept x.held.waiting) (sym k) (interrupted_sound kept)

pub stream_sound : (s : List ℕ) → IsSoundIn (held_of s).kept (held_of s).waiting
stream_sound s = at_sound s (hand_out nothing_held s) (at_all s)

pub reached_sound : (h : Held) → IsReached h → IsSoundIn h.kept h.waiting
reached_sound h (s, e) = subst (λ (x : Held). IsSoundIn x.kept x.waiting) (sym e) (stream_sound s)

-- ---- ESC and C2 after a kept state

record Escapes (k : Kept) : Type 0 where
  kept : (kept_step k 0x1B).kept ≡ InEscape []
  none : PrintNone (kept_step k 0x1B).dispatches

escapes_by : (k : Kept) → kept_step k 0x1B ≡ steps [] (InEscape []) → Escapes k
escapes_by k e = record { kept = ap (λ (s : Step). s.kept) e; none = subst (λ (s : Step). PrintNone s.dispatches) (sym e) tt }

escapes : (k : Kept) → IsSoundIn k true → Escapes k
unfolding command_step device_step string_step is_stop
escapes (InCharacter []) s = escapes_by (InCharacter []) first_escape
escapes (InCharacter (x ∷ p)) s = let e : x ∷ p ≡ [] = s.1 refl in cc
escapes (InEscape xs) s = escapes_by (InEscape xs) (escape_cut xs 0x1B escape_cuts ∙ first_escape)
escapes (InControlSequence p) s = escapes_by (InControlSequence p) (control_sequence_cut p 0x1B escape_cuts ∙ first_escape)
escapes (InCommand body) s = record { kept = rw first_escape refl; none = (body_quiet (InCommand body) 0x1B refl).none }
escapes (InHeader header) s = escapes_by (InHeader header) (header_cut header 0x1B escape_cuts ∙ first_escape)
escapes InDevice s = record { kept = rw first_escape refl; none = (body_quiet InDevice 0x1B refl).none }
escapes InString s = record { kept = rw first_escape refl; none = (body_quiet InString 0x1B refl).none }

-- where no body is open a C2 is the first byte of a character
pub lead_opens : (k : Kept) → IsSoundIn k true → is_body k ≡ false → kept_step k 0xC2 ≡ steps [] (InCharacter (0xC2 ∷ []))
lead_opens (InCharacter []) s h = lead_kept
lead_opens (InCharacter (x ∷ p)) s h = let e : x ∷ p ≡ [] = s.1 refl in cc
lead_opens (InEscape xs) s h = escape_cut xs 0xC2 lead_cuts ∙ lead_kept
lead_opens (InControlSequence p) s h = control_sequence_cut p 0xC2 lead_cuts ∙ lead_kept
lead_opens (InHeader header) s h = header_cut header 0xC2 lead_cuts ∙ lead_kept
lead_opens _ s h = cc

c1_quiet : (b : ℕ) → is_c1 0xC2 b ≡ true → IsQuiet (escape_step [] (b - 0x40))
c1_quiet b h = by_case (escape_before [] (b - 0x40))
  where
    by_case : Before (b - 0x40) (escape_step [] (b - 0x40)) → IsQuiet (escape_step [] (b - 0x40))
    by_case (is_quiet q) = q
    by_case (cuts c e) = absurd (let k = sym (c1_not_cut b h) ∙ c in let m : false ≡ true = k in cc)

c1_step_quiet : (k : Kept) (b : ℕ) → IsSoundIn k true → is_c1 0xC2 b ≡ true → PrintNone (waiting_step k b).dispatches × (begun_in (waiting_step k b).held.kept ≡ 0) × ((waiting_step k b).held.waiting ≡ false)
unfolding waiting_step
c1_step_quiet k b s h =
    let e = escapes k s in
    let q = subst (λ (x : Kept). IsQuiet (kept_step x (b - 0x40))) (sym e.kept) (c1_quiet b h) in
    rw h (none_append (kept_step k 0x1B).dispatches (kept_step (kept_step k 0x1B).kept (b - 0x40)).dispatches e.none q.0, q.1, refl)

-- ---- a byte where no body is open

abbrev PrintsAt : List ℕ → ℕ → Handed → Type 0
PrintsAt p b h = Printing p b h.dispatches h.held.kept h.held.waiting

interrupted_prints : (k : Kept) → is_body k ≡ false → PrintsAt (bytes_begun k false) 0xC2 (handed (interrupted k) true)
interrupted_prints (InCharacter (x ∷ p)) h = breaks_one [] refl (goes_on refl refl)
interrupted_prints (InCommand body) h = cc
interrupted_prints InDevice h = cc
interrupted_prints InString h = cc
interrupted_prints _ h = whole_one (goes_on refl refl)

before_prints : (b : ℕ) (s : Step) → Before b s → Prints [] b s
before_prints b s (is_quiet q) = whole_one (quiet q.0 q.1 refl)
before_prints b s (cuts c e) = subst (λ (x : Step). Prints [] b x) (sym e) (whole_one (first_character b))

kept_prints : (k : Kept) (b : ℕ) → IsSoundIn k false → is_body k ≡ false → Prints (bytes_begun k false) b (kept_step k b)
kept_prints (InCharacter p) b s h = subst (λ (q : List ℕ). Prints q b (character_step p b)) (sym (append-nil p)) (character_prints p b s.0)
kept_prints (InEscape xs) b s h = before_prints b (escape_step xs b) (escape_before xs b)
kept_prints (InControlSequence p) b s h = before_prints b (control_sequence_step p b) (control_sequence_before p b)
kept_prints (InHeader header) b s h = before_prints b (header_step header b) (header_before header b)
kept_prints _ b s h = cc

fresh_prints : (k : Kept) (b : ℕ) → IsSoundIn k false → is_body k ≡ false → PrintsAt (bytes_begun k false) b (fresh_step k b)
unfolding fresh_step
fresh_prints k b s h =
    cond_both (b == 0xC2) _ _ (PrintsAt (bytes_begun k false) b) (λ e. subst (λ (x : ℕ). PrintsAt (bytes_begun k false) x (handed (interrupted k) true)) (sym (eqb-true b 0xC2 e)) (interrupted_prints k h)) (λ e. kept_prints k b s h)

lead_bytes : (k : Kept) → IsSoundIn k true → is_body k ≡ false → bytes_begun k true ≡ 0xC2 ∷ []
lead_bytes (InCharacter p) s h = ap (λ (l : List ℕ). l ++ 0xC2 ∷ []) (s.1 refl)
lead_bytes (InCommand body) s h = cc
lead_bytes InDevice s h = cc
lead_bytes InString s h = cc
lead_bytes _ s h = refl

-- a byte after a C2 that is no half of a C1 control
pub other_waiting : (k : Kept) (b : ℕ) → IsSoundIn k true → is_body k ≡ false → is_c1 0xC2 b ≡ false → waiting_step k b ≡ fresh_step (InCharacter (0xC2 ∷ [])) b
unfolding waiting_step
other_waiting k b s h e = rw (e, lead_opens k s h) refl

waiting_prints : (k : Kept) (b : ℕ) → IsSoundIn k true → is_body k ≡ false → PrintsAt (bytes_begun k true) b (waiting_step k b)
waiting_prints k b s h = ⊎_elim
    (λ e. let q = c1_step_quiet k b s e in whole_one (quiet q.0 q.1 q.2))
    (λ e. subst (λ (p : List ℕ). PrintsAt p b (waiting_step k b)) (sym (lead_bytes k s h))
    (subst (λ (x : Handed). PrintsAt (0xC2 ∷ []) b x) (sym (other_waiting k b s h e)) (fresh_prints (InCharacter (0xC2 ∷ [])) b (inr c2_begins, λ x. cc) refl)))
    (cases_Bool (is_c1 0xC2 b))

pub held_prints : (h : Held) (b : ℕ) → IsSoundIn h.kept h.waiting → is_body h.kept ≡ false → PrintsAt (begun_bytes h) b (held_step h b)
unfolding held_step
held_prints h b s n = ⊎_elim
    (λ e. rw e (waiting_prints h.kept b (subst (λ (w : Bool). IsSoundIn h.kept w) e s) n))
    (λ e. rw e (fresh_prints h.kept b (subst (λ (w : Bool). IsSoundIn h.kept w) e s) n))
    (cases_Bool h.waiting)

-- ---- a byte of a body

pub begun_none : (k : Kept) → begun_in k ≡ 0 → bytes_begun k false ≡ []
begun_none (InCharacter (x ∷ p)) e = absurd (omega arith)
begun_none _ e = refl

body_none : (k : Kept) (w : Bool) → is_body k ≡ true → bytes_begun k w ≡ []
body_none (InCommand body) w h = refl
body_none InDevice w h = refl
body_none InString w h = refl
body_none _ w h = cc

body_interrupted : (k : Kept) → is_body k ≡ true → interrupted k ≡ steps [] k
body_interrupted (InCommand body) h = refl
body_interrupted InDevice h = refl
body_interrupted InString h = refl
body_interrupted _ h = cc

-- it prints nothing, and no character has begun after it
abbrev pub IsQuietAt : Handed → Type 0
IsQuietAt h = PrintNone h.dispatches × (begun_bytes h.held ≡ [])

fresh_body : (k : Kept) (b : ℕ) → is_body k ≡ true → IsQuietAt (fresh_step k b)
unfolding fresh_step
fresh_body k b h =
    cond_both (b == 0xC2) _ _ IsQuietAt (λ e. rw (body_interrupted k h) (tt, body_none k true h)) (λ e. let q = body_quiet k b h in (q.none, begun_none (kept_step k b).kept q.begun))

plain_waiting : (k : Kept) (b : ℕ) → is_c1 0xC2 b ≡ false → waiting_step k b ≡ handed_after (kept_step k 0xC2) (fresh_step (kept_step k 0xC2).kept b)
unfolding waiting_step
plain_waiting k b e = rw e refl

waiting_body : (k : Kept) (b : ℕ) → IsSoundIn k true → is_body k ≡ true → IsQuietAt (waiting_step k b)
waiting_body k b s h = ⊎_elim
    (λ e. let q = c1_step_quiet k b s e in (q.0, rw q.2 (begun_none (waiting_step k b).held.kept q.1)))
    (λ e. let l = body_quiet k 0xC2 h in
    let q = fresh_body (kept_step k 0xC2).kept b (l.goes (unfold is_stop in refl) (λ x. omega arith)) in
    subst IsQuietAt (sym (plain_waiting k b e)) (none_append (kept_step k 0xC2).dispatches (fresh_step (kept_step k 0xC2).kept b).dispatches l.none q.0, q.1))
    (cases_Bool (is_c1 0xC2 b))

pub held_body : (h : Held) (b : ℕ) → IsSoundIn h.kept h.waiting → is_body h.kept ≡ true → IsQuietAt (held_step h b)
unfolding held_step
held_body h b s n = ⊎_elim
    (λ e. rw e (waiting_body h.kept b (subst (λ (w : Bool). IsSoundIn h.kept w) e s) n))
    (λ e. rw e (fresh_body h.kept b n))
    (cases_Bool h.waiting)
