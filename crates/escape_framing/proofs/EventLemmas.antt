-- The effect of a byte of the stream that is read or left unread, over plain variables.
use Rattle.std.proofs.Common.{◌≡◌, ℕ, ◌-◌, ◌<◌, ◌≤◌, ◌⊎◌, inl, inr, Bool, true, false, List, [], ◌∷◌, ◌++◌, Option, Some, None, refl, sym, ap, subst, ◌∙◌, arith, append_assoc, Result, Ok, Err}
use Rattle.std.specs.Prelude.{◌==◌, not, OnErr}
use Rattle.text_clusters.specs.Controls.{is_c1}
use Rattle.escape_framing.specs.Bytes.{is_stop, is_cut}
use Rattle.escape_framing.specs.Dispatch.{Dispatch, Data}
use Rattle.escape_framing.specs.Framed.{kept_takes, takes_text}
use Rattle.escape_framing.specs.Held.{Kept, InCharacter, InEscape, InCommand, InDevice, InString, Step, steps, before, character_step, escape_step, command_step, device_step, string_step, kept_step, Held, Handed, handed, handed_after, fresh_step, waiting_step, held_step}
use Rattle.escape_framing.specs.Lending.{Lending}
use Rattle.escape_framing.specs.Event.{dispatch_in, handed_out, resumed, held_resumed, IsAlone, kept_rank, rank, IsLeft, GoesOn, IsHeldLeft}
use Rattle.escape_framing.specs.declared.event.Event.{Event}
use Rattle.escape_framing.specs.declared.event.Event.TheVariants as event
use Rattle.escape_framing.specs.declared.states.Stepped.{Stepped}
use Rattle.escape_framing.proofs.FirstLemmas.{first_escape}
use Rattle.escape_framing.proofs.WaitingLemmas.{escape_cuts, lead_cuts, never, c1_not_cut}
use Rattle.escape_framing.proofs.TextLemmas.{lead_kept}

-- ---- ranks

small_rank : (k : Kept) → kept_rank k ≤ 1
small_rank (InCharacter []) = omega arith
small_rank _ = omega arith

rest_rank : (w : Bool) (k old : Kept) → k ≡ InCharacter [] → kept_rank old ≡ 1 → rank (record { kept = k; waiting = w }) < rank (record { kept = old; waiting = w })
rest_rank true k old e f = rw e (omega (arith, f))
rest_rank false k old e f = rw e (omega (arith, f))

-- ---- ESC and C2 that are read

-- ESC is read where nothing is open
escape_read : (k : Kept) → GoesOn k 0x1B → k ≡ InCharacter []
unfolding is_stop
escape_read (InCharacter bytes) (inl e) = ap InCharacter e
escape_read (InCharacter bytes) (inr g) = absurd (let l = g.0 in omega arith)
escape_read (InCommand body) g = cc
escape_read InDevice g = cc
escape_read InString g = cc
escape_read _ g = never 0x1B escape_cuts g

escape_opens : (k : Kept) → GoesOn k 0x1B → kept_step k 0x1B ≡ steps [] (InEscape [])
escape_opens k g = ap (λ (x : Kept). kept_step x 0x1B) (escape_read k g) ∙ first_escape

pub escape_kept : (k new : Kept) (ds : List Dispatch) (r : Bool) → GoesOn k 0x1B → r ≡ true → kept_step k 0x1B ≡ resumed ds new r 0x1B → new ≡ InEscape []
escape_kept k new ds r g z e = ap (λ (s : Step). s.kept) (sym (e ∙ ap (λ (x : Bool). resumed ds new x 0x1B) z) ∙ escape_opens k g)

-- the dispatch of a C2 that is read is the C2 itself, as a byte of data
abbrev IsData : Dispatch → Kept → Type 0
IsData d new = (d ≡ Data 0xC2) × (new ≡ InDevice)

hands_none : (d : Dispatch) (k new : Kept) (s : Step) → s ≡ steps [] k → s ≡ steps (d ∷ []) new → IsData d new
hands_none d k new s e f = let m : [] ≡ d ∷ [] = ap (λ (x : Step). x.dispatches) (sym e ∙ f) in cc

hands_data : (d : Dispatch) (new : Kept) (s : Step) → s ≡ steps (Data 0xC2 ∷ []) InDevice → s ≡ steps (d ∷ []) new → IsData d new
hands_data d new s e f =
    let g : Data 0xC2 ∷ [] ≡ d ∷ [] = ap (λ (x : Step). x.dispatches) (sym e ∙ f) in
    (cc, sym (ap (λ (x : Step). x.kept) (sym e ∙ f)))

lead_read : (k new : Kept) (d : Dispatch) → GoesOn k 0xC2 → kept_step k 0xC2 ≡ steps (d ∷ []) new → IsData d new
unfolding command_step device_step string_step is_stop
lead_read (InCharacter bytes) new d (inl z) e = hands_none d _ new (character_step [] 0xC2) lead_kept (ap (λ l. character_step l 0xC2) (sym z) ∙ e)
lead_read (InCharacter bytes) new d (inr g) e = absurd (let l = g.1 in omega arith)
lead_read (InCommand body) new d g e = hands_none d (InCommand (body ++ 0xC2 ∷ [])) new (command_step body 0xC2) refl e
lead_read InDevice new d g e = hands_data d new (device_step 0xC2) refl e
lead_read InString new d g e = hands_none d InString new (string_step 0xC2) refl e
lead_read _ new d g e = never 0xC2 lead_cuts g

-- one that is left belongs to no body
not_begun : (k : Kept) (ds : List Dispatch) (s : Step) (A : Type 0) → s.kept ≡ k → (k ≡ InCharacter (0xC2 ∷ []) → ⊥) → s ≡ before ds (character_step [] 0xC2) → A
not_begun k ds s A e n f = absurd (n (sym e ∙ ap (λ (x : Step). x.kept) (f ∙ ap (before ds) lead_kept)))

lead_left : (k : Kept) (b : ℕ) (ds : List Dispatch) → kept_step k 0xC2 ≡ before ds (character_step [] 0xC2) → kept_takes k true b ≡ true
unfolding command_step device_step string_step is_stop
lead_left (InCommand body) b ds e = not_begun (InCommand (body ++ 0xC2 ∷ [])) ds (command_step body 0xC2) _ refl (λ f. cc) e
lead_left InDevice b ds e = not_begun InDevice ds (device_step 0xC2) _ refl (λ f. cc) e
lead_left InString b ds e = not_begun InString ds (string_step 0xC2) _ refl (λ f. cc) e
lead_left _ b ds e = refl

-- ---- a byte where no C2 waits

fresh_plain : (h : Held) (b : ℕ) → h.waiting ≡ false → (b == 0xC2) ≡ false → held_step h b ≡ handed (kept_step h.kept b) false
unfolding held_step fresh_step
fresh_plain h b w e = rw (w, e) refl

pub fresh_goes : (k : Kept) (new : Held) (b : ℕ) (ds : List Dispatch) (r : Bool) → (b == 0xC2) ≡ false → new.waiting ≡ false → kept_step k b ≡ resumed ds new.kept r b → fresh_step k b ≡ held_resumed ds new r b
unfolding fresh_step
fresh_goes k new b ds true n w e = rw n (ap (λ (s : Step). handed s false) e ∙ ap (λ (x : Bool). record { dispatches = ds; held = record { kept = new.kept; waiting = x } }) (sym w))
fresh_goes k new b ds false n w e =
    rw n (ap (λ (s : Step). handed s false) e ∙ ap (λ (h : Handed). record { dispatches = ds ++ h.dispatches; held = h.held }) (sym (fresh_plain new b w n)))

pub fresh_left : (old new : Held) (b : ℕ) (e : Option Event) → old.waiting ≡ false → new.waiting ≡ old.waiting → IsLeft old.kept e new.kept → IsHeldLeft old b e new
fresh_left old new b e w v l = record {
  falls = subst (λ (x : Bool). rank (record { kept = new.kept; waiting = x }) < rank old) (sym v) (rest_rank old.waiting new.kept old.kept l.closed l.was_open);
  closed = inl l.closed;
  waits = λ f. let m : true ≡ false = sym f ∙ v ∙ w in cc;
  alone = l.alone;
}

pub ruleset fresh_byte = (fresh_goes, fresh_left)

-- ---- a byte after a C2

c1_at : (h : Held) (b : ℕ) → h.waiting ≡ true → is_c1 0xC2 b ≡ true → held_step h b ≡ (let escape = kept_step h.kept 0x1B in handed_after escape (handed (kept_step escape.kept (b - 0x40)) false))
unfolding held_step waiting_step
c1_at h b w c = rw (w, c) refl

other_at : (h : Held) (b : ℕ) → h.waiting ≡ true → is_c1 0xC2 b ≡ false → held_step h b ≡ (let plain = kept_step h.kept 0xC2 in handed_after plain (fresh_step plain.kept b))
unfolding held_step waiting_step
other_at h b w c = rw (w, c) refl

nested : (ds : List Dispatch) (s : Step) (rest : Handed) → handed_after (before ds s) rest ≡ (let h = handed_after s rest in record { dispatches = ds ++ h.dispatches; held = h.held })
nested ds s rest = ap (λ (l : List Dispatch). record { dispatches = l; held = rest.held }) (append_assoc ds s.dispatches rest.dispatches)

-- half of a C1 control: ESC is left first
pub c1_left : (old new : Held) (b : ℕ) (ds : List Dispatch) (r : Bool) → old.waiting ≡ true → new.waiting ≡ old.waiting → is_c1 0xC2 b ≡ true → r ≡ false → kept_step old.kept 0x1B ≡ resumed ds new.kept r 0x1B → held_step old b ≡ held_resumed ds new r b
c1_left old new b ds r w v c z e =
    c1_at old b w c
    ∙ ap (λ (escape : Step). handed_after escape (handed (kept_step escape.kept (b - 0x40)) false)) (e ∙ ap (λ (x : Bool). resumed ds new.kept x 0x1B) z)
    ∙ (let first = kept_step new.kept 0x1B in nested ds first (handed (kept_step first.kept (b - 0x40)) false))
    ∙ ap (λ (h : Handed). record { dispatches = ds ++ h.dispatches; held = h.held }) (sym (c1_at new b (v ∙ w) c))
    ∙ ap (λ (x : Bool). held_resumed ds new x b) (sym z)

-- then it is read
pub c1_read : (old new : Held) (b : ℕ) (ds : List Dispatch) (r : Bool) → old.waiting ≡ true → new.waiting ≡ false → is_c1 0xC2 b ≡ true → GoesOn old.kept 0x1B → r ≡ not (is_cut (b - 0x40)) → escape_step [] (b - 0x40) ≡ resumed ds new.kept r (b - 0x40) → held_step old b ≡ held_resumed ds new r b
c1_read old new b ds r w v c g z e =
    let t : r ≡ true = z ∙ ap not (c1_not_cut b c) in
    c1_at old b w c
    ∙ ap (λ (escape : Step). handed_after escape (handed (kept_step escape.kept (b - 0x40)) false)) (escape_opens old.kept g)
    ∙ ap (λ (s : Step). handed s false) (e ∙ ap (λ (x : Bool). resumed ds new.kept x (b - 0x40)) t)
    ∙ ap (λ (x : Bool). record { dispatches = ds; held = record { kept = new.kept; waiting = x } }) (sym v)
    ∙ ap (λ (x : Bool). held_resumed ds new x b) (sym t)

-- another byte: the C2 is left first
pub other_left : (old new : Held) (b : ℕ) (ds : List Dispatch) (r : Bool) → old.waiting ≡ true → new.waiting ≡ old.waiting → is_c1 0xC2 b ≡ false → r ≡ false → kept_step old.kept 0xC2 ≡ resumed ds new.kept r 0xC2 → held_step old b ≡ held_resumed ds new r b
other_left old new b ds r w v c z e =
    other_at old b w c
    ∙ ap (λ (plain : Step). handed_after plain (fresh_step plain.kept b)) (e ∙ ap (λ (x : Bool). resumed ds new.kept x 0xC2) z)
    ∙ (let first = kept_step new.kept 0xC2 in nested ds first (fresh_step first.kept b))
    ∙ ap (λ (h : Handed). record { dispatches = ds ++ h.dispatches; held = h.held }) (sym (other_at new b (v ∙ w) c))
    ∙ ap (λ (x : Bool). held_resumed ds new x b) (sym z)

-- then it is read, and the byte may be left
other_read : (old new : Held) (b : ℕ) (ds : List Dispatch) → old.waiting ≡ true → new.waiting ≡ false → is_c1 0xC2 b ≡ false → kept_step old.kept 0xC2 ≡ steps ds new.kept → held_step old b ≡ held_resumed ds new false b
unfolding held_step
other_read old new b ds w v c e = rw v (other_at old b w c ∙ ap (λ (plain : Step). handed_after plain (fresh_step plain.kept b)) e)

-- or the C2 hands nothing out, and the byte has its own effect after it
pub other_goes : (old : Held) (middle : Kept) (b : ℕ) (l : Lending) (e : Option Event) (r : Bool) (h : Handed) → old.waiting ≡ true → is_c1 0xC2 b ≡ false → e ≡ None → r ≡ true → l.held.kept ≡ middle → kept_step old.kept 0xC2 ≡ resumed (handed_out l e) l.held.kept r 0xC2 → fresh_step middle b ≡ h
    → held_step old b ≡ h
other_goes old middle b l e r h w c n z m f g =
    other_at old b w c
    ∙ ap (λ (plain : Step). handed_after plain (fresh_step plain.kept b)) (f ∙ (λ i. resumed (handed_out l (n i)) (m i) (z i) 0xC2))
    ∙ g

-- ---- a byte that is left unread after a C2

-- a C2 that breaks off a sequence, or ESC
waiting_left : (old new : Held) (b : ℕ) (e : Option Event) → old.waiting ≡ true → new.waiting ≡ old.waiting → (is_c1 0xC2 b ≡ true) ⊎ (takes_text old b ≡ true) → IsLeft old.kept e new.kept → IsHeldLeft old b e new
waiting_left old new b e w v t l = record {
  falls = subst (λ (x : Bool). rank (record { kept = new.kept; waiting = x }) < rank old) (sym v) (rest_rank old.waiting new.kept old.kept l.closed l.was_open);
  closed = inl l.closed;
  waits = λ f. (w, t);
  alone = l.alone;
}

pub lead_is_left : (old new : Held) (b : ℕ) (ds : List Dispatch) (e : Option Event) (r : Bool) → old.waiting ≡ true → new.waiting ≡ old.waiting → r ≡ false → kept_step old.kept 0xC2 ≡ resumed ds new.kept r 0xC2 → IsLeft old.kept e new.kept → IsHeldLeft old b e new
lead_is_left old new b ds e r w v z s l =
    waiting_left old new b e w v (inr (rw w (lead_left old.kept b ds (s ∙ (λ i. resumed ds (l.closed i) (z i) 0xC2))))) l

data_left : (old new : Held) (b : ℕ) (e : Option Event) → old.waiting ≡ true → new.waiting ≡ false → new.kept ≡ InDevice → IsAlone e → IsHeldLeft old b e new
data_left old new b e w v k a = record {
  falls = rw (v, w) (omega (arith, small_rank new.kept));
  closed = inr (λ i. record { kept = k i; waiting = v i });
  waits = λ f. let m : true ≡ false = sym f ∙ v in cc;
  alone = a;
}

-- ---- a C2 that is a byte of data

-- no C2 waits
abbrev pub unwaiting : Lending → Lending
unwaiting l = record l { held = record l.held { waiting = false } }

lent_likewise : (l : Lending) (e : Event) → dispatch_in (unwaiting l) e ≡ dispatch_in l e
lent_likewise l (event.Print c) = refl
lent_likewise l _ = refl

data_alone : (l : Lending) (e : Event) → dispatch_in l e ≡ Data 0xC2 → IsAlone (Some e)
data_alone l (event.Print c) h = cc
data_alone l _ h = tt

-- the C2 was read with this event, and now no C2 waits
module _ (old : Held) (b : ℕ) (l x : Lending) (first after : Stepped) (e : Event) (w : old.waiting ≡ true) (view : x ≡ l) (r : first.is_read ≡ true) (some : first.event ≡ Some e) (is : after ≡ record { event = Some e; is_read = false })
    (s : kept_step old.kept 0xC2 ≡ resumed (handed_out l first.event) l.held.kept first.is_read 0xC2) where
  handed_data : kept_step old.kept 0xC2 ≡ steps (dispatch_in (unwaiting x) e ∷ []) (unwaiting x).held.kept
  handed_data =
      s ∙ (λ i. resumed (handed_out l (some i)) l.held.kept (r i) 0xC2) ∙ (λ i. steps (dispatch_in (sym view i) e ∷ []) (sym view i).held.kept)
      ∙ ap (λ (d : Dispatch). steps (d ∷ []) x.held.kept) (sym (lent_likewise x e))

  pub data_goes : is_c1 0xC2 b ≡ false → held_step old b ≡ held_resumed (handed_out (unwaiting x) after.event) (unwaiting x).held after.is_read b
  data_goes c = other_read old (unwaiting x).held b (dispatch_in (unwaiting x) e ∷ []) w refl c handed_data ∙ (λ i. held_resumed (handed_out (unwaiting x) (sym is i).event) (unwaiting x).held (sym is i).is_read b)

  pub data_is_left : GoesOn old.kept 0xC2 → IsHeldLeft old b after.event (unwaiting x).held
  data_is_left g =
      let d = lead_read old.kept x.held.kept (dispatch_in (unwaiting x) e) g handed_data in
      subst (λ (y : Stepped). IsHeldLeft old b y.event (unwaiting x).held) (sym is) (data_left old (unwaiting x).held b (Some e) w refl d.1 (data_alone (unwaiting x) e d.0))

pub on_err : {T E : Type 0} (r : Result T E) (P : Type 0) → P → OnErr r P
on_err (Ok x) P h = tt
on_err (Err e) P h = h
