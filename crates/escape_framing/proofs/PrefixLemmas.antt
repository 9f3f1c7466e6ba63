-- Bytes at the start that hand out one event or none, none of which prints: a run, or a whole control sequence.
use Rattle.std.proofs.Common.{◌≡◌, ◌≢◌, ℕ, ◌+◌, ◌<◌, ◌≤◌, true, false, List, [], ◌∷◌, ◌++◌, length, map, fold, take, drop, Option, Some, None, IfSome, refl, sym, ap, subst, ◌∙◌, arith, append_assoc, length-append}
use Rattle.std.specs.Prelude.{◌==◌}
use Rattle.std.specs.List.{prefix_len, list_all}
use Rattle.std.proofs.lemmas.Bool.{and_parts}
use Rattle.std.proofs.lemmas.Bool.Decides.{nat_tests}
use Rattle.csi_codec.specs.Sources.{is_list_byte}
use Rattle.std.proofs.lemmas.List.{map-append, take-append-drop, length-take-le, take_at, drop_at}
use Rattle.std.proofs.lemmas.List.Sums.{prefix_len-le-length}
use Rattle.csi_codec.specs.Tokens.{is_parameter, Parameters, no_parameters, parameters_of, with_byte}
use Rattle.escape_framing.specs.Bytes.{is_stop, is_embedded, is_intermediate, is_final, is_opener, is_cut}
use Rattle.escape_framing.specs.Dispatch.{Dispatch, Print, ControlSequence, Escape, Data, escape_dispatch}
use Rattle.escape_framing.specs.Held.{InDevice, InEscape, Step, Held, Handed, handed, escape_step, opened, control_sequence_step, device_step, fresh_step, held_step, nothing_held, hand_out}
use Rattle.escape_framing.specs.Framed.{Framed, Single, placed_after, framed_after, begun_bytes, no_text, IsReached, Frames}
use Rattle.escape_framing.specs.Lending.{Lending}
use Rattle.escape_framing.specs.Event.{handed_out}
use Rattle.escape_framing.specs.Prefixes.{IsLastAt, IsPair}
use Rattle.escape_framing.specs.Read.{ReadsEvent, whole_sequence}
use Rattle.escape_framing.specs.declared.event.Event.{Event}
use Rattle.escape_framing.specs.declared.event.Event.TheVariants as event
use Rattle.escape_framing.specs.declared.event.Read.TheVariants as read
use Rattle.escape_framing.proofs.HeldLemmas.{hand_append, held_append}
use Rattle.escape_framing.proofs.PrintLemmas.{PrintNone}
use Rattle.escape_framing.proofs.SingleLemmas.{none_alone, carried_none}
use Rattle.escape_framing.proofs.FirstLemmas.{first_escape}
use Rattle.escape_framing.proofs.RunLemmas.{IsSilent, all_pass, in_sequence, parameters_handed}
use Rattle.escape_framing.proofs.BodyLemmas.{opens_read}

-- ---- bytes whose dispatches print nothing

both_none : (xs ys : List Dispatch) → PrintNone (xs ++ ys) → PrintNone xs × PrintNone ys
both_none [] ys p = (tt, p)
both_none (Print c ∷ xs) ys p = absurd p
both_none (_ ∷ xs) ys p = both_none xs ys p

prefix_alone : (start count : ℕ) (h : Held) (prefix rest : List ℕ) → PrintNone (hand_out h prefix).dispatches
    → framed_after start count h (prefix ++ rest) ≡ map Single (hand_out h prefix).dispatches ++ framed_after start (count + length prefix) (hand_out h prefix).held rest
unfolding placed_after hand_out
prefix_alone start count h [] rest p = let k : count ≡ count + 0 = omega arith in ap (λ (n : ℕ). framed_after start n h rest) k
prefix_alone start count h (b ∷ prefix) rest p =
    let first = held_step h b in
    let more = hand_out first.held prefix in
    let q = both_none first.dispatches more.dispatches p in
    let n : count + 1 + length prefix ≡ count + length (b ∷ prefix) = omega arith in
    none_alone start (count + 1) first.dispatches q.0 (placed_after (count + 1) first.held (prefix ++ rest))
    ∙ ap (λ (l : List Framed). map Single first.dispatches ++ l)
    (prefix_alone start (count + 1) first.held prefix rest q.1 ∙ ap (λ (m : ℕ). map Single more.dispatches ++ framed_after start m more.held rest) n)
    ∙ sym (append_assoc (map Single first.dispatches) (map Single more.dispatches) (framed_after start (count + length (b ∷ prefix)) more.held rest))
    ∙ ap (λ (l : List Framed). l ++ framed_after start (count + length (b ∷ prefix)) more.held rest) (sym (map-append Single first.dispatches more.dispatches))

frames_prefix : (h after : Held) (prefix rest : List ℕ) (ds : List Dispatch) (count : ℕ) → hand_out h prefix ≡ record { dispatches = ds; held = after } → PrintNone ds → begun_bytes after ≡ [] → IsReached h
    → Frames count h (prefix ++ rest) (λ from. map Single ds) (length prefix) after
frames_prefix h after prefix rest ds count e q z r =
    let d : (hand_out h prefix).dispatches ≡ ds = ap (λ (x : Handed). x.dispatches) e in
    let a : (hand_out h prefix).held ≡ after = ap (λ (x : Handed). x.held) e in
    record {
      within = omega (arith, length-append prefix rest);
      lends = λ start.
          prefix_alone start (start + count) h prefix rest (subst PrintNone (sym d) q)
          ∙ (λ i. map Single (d i) ++ framed_after start (start + count + length prefix) (a i) (sym (drop_at prefix rest (length prefix) refl) i));
      keeps = ap (λ (x : Handed). x.held) (hand_append h prefix rest) ∙ (λ i. (hand_out (a i) (sym (drop_at prefix rest (length prefix) refl) i)).held);
      reached = (r.0 ++ prefix, sym a ∙ ap (λ (x : Held). (hand_out x prefix).held) r.1 ∙ sym (held_append r.0 prefix));
      carried = carried_none 0 (count + length prefix) after (drop (length prefix) (prefix ++ rest)) z;
    }

reads_prefix : (old : Held) (bytes prefix rest : List ℕ) (n : ℕ) (e : Option Event) (l : Lending) → prefix ++ rest ≡ bytes → length prefix ≡ n → 0 < n → hand_out old prefix ≡ record { dispatches = handed_out l e; held = l.held } → PrintNone (handed_out l e) → begun_bytes l.held ≡ []
    → ReadsEvent old bytes (read.Bytes e n) l
reads_prefix old bytes prefix rest n e l is len z h q none =
    subst (λ (m : ℕ). ReadsEvent old bytes (read.Bytes e m) l) len
    (subst (λ (m : List ℕ). ReadsEvent old m (read.Bytes e (length prefix)) l) is (record {
      frames = λ count r c. frames_prefix old l.held prefix rest (handed_out l e) count h q none r;
      within = omega (arith, length-append prefix rest);
      text = no_text;
      moves = λ x y. absurd (omega (arith, len));
      opens = λ r. opens_read old l.held (prefix ++ rest) (length prefix) (ap (λ (x : List ℕ). (hand_out old x).held) (take_at prefix rest (length prefix) refl) ∙ ap (λ (x : Handed). x.held) h);
    }))

pub reads_run : (old : Held) (bytes : List ℕ) (n : ℕ) (l : Lending) → 0 < n → IsSilent old bytes n l.held → ReadsEvent old bytes (read.Bytes None n) l
reads_run old bytes n l z q =
    reads_prefix old bytes (take n bytes) (drop n bytes) n None l (take-append-drop n bytes) (length-take-le n bytes q.within) z
    (λ i. record { dispatches = q.silent i; held = q.keeps i }) tt q.none

-- as a count that was read, unless it is 0
pub reads_some : (old : Held) (bytes : List ℕ) (n : ℕ) (found : Option ℕ) (l : Lending) → IfSome found (λ m. (0 < m) × (m ≡ n)) → IsSilent old bytes n l.held
    → IfSome found (λ m. ReadsEvent old bytes (read.Bytes None m) l)
reads_some old bytes n None l f q = tt
reads_some old bytes n (Some m) l f q = subst (λ (k : ℕ). ReadsEvent old bytes (read.Bytes None k) l) (sym f.1) (reads_run old bytes n l (omega (arith, f.0, f.1)) q)

-- ---- a whole control sequence

pub escape_handed : held_step nothing_held 0x1B ≡ record { dispatches = []; held = record { kept = InEscape []; waiting = false } }
unfolding held_step fresh_step
escape_handed = ap (λ (s : Step). handed s false) first_escape

bracket_handed : held_step (record { kept = InEscape []; waiting = false }) 0x5B ≡ record { dispatches = []; held = in_sequence no_parameters }
unfolding held_step fresh_step escape_step opened is_embedded is_stop is_intermediate is_cut is_opener
bracket_handed = refl

pub opening_handed : (b : ℕ) (h : Held) (xs : List ℕ) → held_step (record { kept = InEscape []; waiting = false }) b ≡ record { dispatches = []; held = h } → hand_out nothing_held (0x1B ∷ b ∷ xs) ≡ hand_out h xs
unfolding hand_out
opening_handed b h xs e = rw escape_handed (rw e refl)

final_not : (b : ℕ) → is_final b ≡ true → (is_embedded b ≡ false) × (is_parameter b ≡ false) × (is_cut b ≡ false) × ((b == 0xC2) ≡ false)
unfolding is_final is_embedded is_parameter is_cut is_stop
final_not b h = (grind (arith, nat_tests), grind (arith, nat_tests), grind (arith, nat_tests), grind (arith, nat_tests))

final_handed : (p : Parameters) (b : ℕ) → is_final b ≡ true → hand_out (in_sequence p) (b ∷ []) ≡ record { dispatches = ControlSequence p.tokens p.truncated b ∷ []; held = nothing_held }
unfolding hand_out held_step fresh_step control_sequence_step
final_handed p b h = let e = final_not b h in rw (e.3, e.0, e.1, e.2) refl

-- ESC [, n parameter bytes, and this final byte
pub reads_list : (old : Held) (bytes remaining : List ℕ) (n b : ℕ) (rest : List ℕ) (l : Lending) → old ≡ nothing_held → l.held ≡ nothing_held → bytes ≡ 0x1B ∷ 0x5B ∷ remaining → n ≤ length remaining → list_all is_parameter (take n remaining) ≡ true
    → l.parameters ≡ fold with_byte no_parameters (take n remaining) → is_final b ≡ true → drop n remaining ≡ b ∷ rest → ReadsEvent old bytes (read.Bytes (Some (event.ControlSequence b)) (n + 3)) l
reads_list old bytes remaining n b rest l o g is within pass p f d =
    reads_prefix old bytes (prefix ++ b ∷ []) rest (n + 3) (Some (event.ControlSequence b)) l parted counted (omega arith)
    (ap (λ (h : Held). hand_out h (prefix ++ b ∷ [])) o ∙ sequence_handed
    ∙ (λ i. record { dispatches = ControlSequence (sym p i).tokens (sym p i).truncated b ∷ []; held = sym g i })) tt (ap begun_bytes g)
  where
    prefix : List ℕ
    prefix = 0x1B ∷ 0x5B ∷ take n remaining

    parted : (prefix ++ b ∷ []) ++ rest ≡ bytes
    parted =
        append_assoc prefix (b ∷ []) rest
        ∙ ap (λ (x : List ℕ). 0x1B ∷ 0x5B ∷ x) (ap (λ (x : List ℕ). take n remaining ++ x) (sym d) ∙ take-append-drop n remaining)
        ∙ sym is

    counted : length (prefix ++ b ∷ []) ≡ n + 3
    counted = omega (arith, length-append prefix (b ∷ []), length-take-le n remaining within)

    q : Parameters
    q = fold with_byte no_parameters (take n remaining)

    opened_prefix : hand_out nothing_held prefix ≡ record { dispatches = []; held = in_sequence q }
    opened_prefix =
        opening_handed 0x5B (in_sequence no_parameters) (take n remaining) bracket_handed
        ∙ parameters_handed no_parameters (take n remaining) pass

    sequence_handed : hand_out nothing_held (prefix ++ b ∷ []) ≡ record { dispatches = ControlSequence q.tokens q.truncated b ∷ []; held = nothing_held }
    sequence_handed = hand_append nothing_held prefix (b ∷ []) ∙ rw opened_prefix (final_handed q b f)

-- all parameter bytes are read
pub reads_sequence : (old : Held) (bytes remaining : List ℕ) (n b : ℕ) (rest : List ℕ) (l : Lending) → old ≡ nothing_held → l.held ≡ nothing_held → bytes ≡ 0x1B ∷ 0x5B ∷ remaining → n ≡ prefix_len is_parameter remaining
    → l.parameters ≡ fold with_byte no_parameters (take n remaining) → is_final b ≡ true → drop n remaining ≡ b ∷ rest → ReadsEvent old bytes (read.Bytes (Some (event.ControlSequence b)) (n + 3)) l
reads_sequence old bytes remaining n b rest l o g is k p f d =
    reads_list old bytes remaining n b rest l o g is (let m = prefix_len-le-length is_parameter remaining in omega (arith, k))
    (subst (λ (m : ℕ). list_all is_parameter (take m remaining) ≡ true) (sym k) (all_pass is_parameter remaining)) p f d

-- ---- lists of numbers

list_parameter : (b : ℕ) → is_list_byte b ≡ true → is_parameter b ≡ true
unfolding is_list_byte is_parameter
list_parameter b h = grind (arith, nat_tests)

listed_parameters : (bytes : List ℕ) → list_all is_list_byte bytes ≡ true → list_all is_parameter bytes ≡ true
listed_parameters [] h = refl
listed_parameters (b ∷ bytes) h =
    let t = and_parts (is_list_byte b) (list_all is_list_byte bytes) h in
    rw (list_parameter b t.0, listed_parameters bytes t.1) refl

-- ---- an ESC pair

pair_not : (b : ℕ) → (0x30 ≤ b) × (b ≤ 0x7E) → (is_embedded b ≡ false) × (is_intermediate b ≡ false) × (is_cut b ≡ false) × ((b == 0xC2) ≡ false)
unfolding is_embedded is_intermediate is_cut is_stop
pair_not b h = let low = h.0 in let high = h.1 in (grind (arith, nat_tests), grind (arith, nat_tests), grind (arith, nat_tests), grind (arith, nat_tests))

pair_handed : (b : ℕ) → IsPair b → hand_out (record { kept = InEscape []; waiting = false }) (b ∷ []) ≡ record { dispatches = Escape None b ∷ []; held = nothing_held }
unfolding hand_out held_step fresh_step escape_step escape_dispatch
pair_handed b h = let e = pair_not b (h.0, h.1) in rw (e.3, e.0, e.1, e.2, h.2) refl

pub reads_pair : (l : Lending) (bytes rest : List ℕ) (b : ℕ) → l.held ≡ nothing_held → bytes ≡ 0x1B ∷ b ∷ rest → IsPair b → ReadsEvent l.held bytes (read.Bytes (Some (event.Escape None b)) 2) l
unfolding hand_out
reads_pair l bytes rest b h is p =
    reads_prefix l.held bytes (0x1B ∷ b ∷ []) rest 2 (Some (event.Escape None b)) l (sym is) refl (omega arith)
    (ap (λ (x : Held). hand_out x (0x1B ∷ b ∷ [])) h ∙ rw escape_handed (rw (pair_handed b p) (λ i. record { dispatches = Escape None b ∷ []; held = sym h i })))
    tt (ap begun_bytes h)

-- ---- a byte of a device control string

pub reads_data : (l : Lending) (bytes rest : List ℕ) (b : ℕ) → l.held ≡ record { kept = InDevice; waiting = false } → bytes ≡ b ∷ rest → is_stop b ≡ false → b ≢ 0xC2 → ReadsEvent l.held bytes (read.Bytes (Some (event.Data b)) 1) l
unfolding hand_out held_step fresh_step device_step
reads_data l bytes rest b h is s n =
    let c : (b == 0xC2) ≡ false = grind (arith, nat_tests) in
    reads_prefix l.held bytes (b ∷ []) rest 1 (Some (event.Data b)) l (sym is) refl (omega arith)
    (ap (λ (x : Held). hand_out x (b ∷ [])) h ∙ rw (c, s) (λ i. record { dispatches = Data b ∷ []; held = sym h i }))
    tt (ap begun_bytes h)

-- ---- a control sequence whose list is read where it stands

listed_count : (remaining list : List ℕ) → list ≡ take (prefix_len is_list_byte remaining) remaining → (length list ≤ length remaining) × (take (length list) remaining ≡ list)
listed_count remaining list e =
    let k = prefix_len-le-length is_list_byte remaining in
    let n : length list ≡ prefix_len is_list_byte remaining = ap length e ∙ length-take-le (prefix_len is_list_byte remaining) remaining k in
    (omega arith, ap (λ (m : ℕ). take m remaining) n ∙ sym e)

pub listed_all : (remaining list : List ℕ) → list ≡ take (prefix_len is_list_byte remaining) remaining → list_all is_list_byte list ≡ true
listed_all remaining list e = ap (list_all is_list_byte) e ∙ all_pass is_list_byte remaining

pub reads_listed : (l : Lending) (bytes remaining list : List ℕ) (b : ℕ) → l.held ≡ nothing_held → bytes ≡ 0x1B ∷ 0x5B ∷ remaining → list ≡ take (prefix_len is_list_byte remaining) remaining → IsLastAt remaining (length list) (Some b)
    → ReadsEvent l.held bytes (whole_sequence b (length list + 3)) (record l { parameters = parameters_of list })
reads_listed l bytes remaining list b h is e f =
    let c = listed_count remaining list e in
    reads_list l.held bytes remaining (length list) b f.1.0 (record l { parameters = parameters_of list }) h h is c.0
    (ap (list_all is_parameter) c.1 ∙ listed_parameters list (listed_all remaining list e)) (ap (fold with_byte no_parameters) (sym c.1)) f.0 f.1.1
