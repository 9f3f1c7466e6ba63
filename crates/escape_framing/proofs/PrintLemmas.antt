-- What a byte prints: the character that it ends, U+FFFD, or nothing.
use Rattle.std.proofs.Common.{◌≡◌, ◌≢◌, ℕ, ◌<◌, inl, Bool, true, false, List, [], ◌∷◌, ◌++◌, refl, ap, ◌∙◌, arith, append-nil, ⊎_elim, map, subst, sym}
use Rattle.std.specs.Prelude.{◌==◌, nat_lt, filter}
use Rattle.std.specs.Char.{IsScalar, is_ascii_control}
use Rattle.std.specs.List.{flat_map}
use Rattle.std.proofs.lemmas.Bool.Decides.{nat_tests}
use Rattle.text_clusters.specs.Controls.{in_c1}
use lib.Utf8.{encode}
use Rattle.escape_framing.specs.Bytes.{is_stop, is_embedded, is_intermediate, is_opener, is_cut}
use Rattle.csi_codec.specs.Tokens.{is_parameter}
use Rattle.escape_framing.specs.Segment.{Begun, IsUnfinished, IsPrintable, Segment}
use Rattle.escape_framing.specs.Decode.{segment_of, in_character, first_byte}
use Rattle.csi_codec.specs.Tokens.{Parameters}
use Rattle.escape_framing.specs.Dispatch.{Dispatch, Print, dispatches_of, controls_in, escape_dispatch, Exit, Control}
use Rattle.escape_framing.specs.Held.{Kept, InCharacter, InCommand, InDevice, InString, kept_of, Step, steps, character_step, opened, final_step, escape_step, control_sequence_step, command_step, header_step, device_step, string_step, kept_step, before}
use Rattle.escape_framing.specs.Framed.{bytes_begun}
use Rattle.escape_framing.proofs.Begun.{begun_in, is_body}
use Rattle.escape_framing.proofs.Existence.OutcomeLemmas.{Outcome, whole, begun as begun_on, broken, outcome}
use Rattle.escape_framing.proofs.Existence.StepLemmas.{char_of, printable}
use Rattle.escape_framing.proofs.FirstLemmas.{first_escape, first_control}
use Rattle.std.proofs.lemmas.Bool.{cond_both, cases_Bool, cases_eq, eqb-true}

-- no character is printed
abbrev pub PrintNone : List Dispatch → Type 0
PrintNone [] = Unit {0}
PrintNone (Print c ∷ ds) = ⊥
PrintNone (_ ∷ ds) = PrintNone ds

pub none_append : (xs ys : List Dispatch) → PrintNone xs → PrintNone ys → PrintNone (xs ++ ys)
none_append [] ys p q = q
none_append (Print c ∷ xs) ys p q = absurd p
none_append (_ ∷ xs) ys p q = none_append xs ys p q

-- The characters that a byte after the first bytes of a character prints, and the held state after it.
pub data Ending (p : List ℕ) (b : ℕ) (ds : List Dispatch) (kept : Kept) (waiting : Bool) : Type 0 where
  goes_on : ds ≡ [] → bytes_begun kept waiting ≡ p ++ b ∷ [] → Ending p b ds kept waiting
  prints : (c : ℕ) → IsScalar c → IsPrintable c → encode c ≡ p ++ b ∷ [] → ds ≡ Print c ∷ [] → kept ≡ InCharacter [] → waiting ≡ false → Ending p b ds kept waiting
  quiet : PrintNone ds → begun_in kept ≡ 0 → waiting ≡ false → Ending p b ds kept waiting
  replaces : ds ≡ Print 0xFFFD ∷ [] → begun_in kept ≡ 0 → waiting ≡ false → Ending p b ds kept waiting

-- Either this, or the byte breaks the character: U+FFFD is printed first.
pub data Printing (p : List ℕ) (b : ℕ) (ds : List Dispatch) (kept : Kept) (waiting : Bool) : Type 0 where
  whole_one : Ending p b ds kept waiting → Printing p b ds kept waiting
  breaks_one : (remaining : List Dispatch) → ds ≡ Print 0xFFFD ∷ remaining → Ending [] b remaining kept waiting → Printing p b ds kept waiting

abbrev pub Ends : List ℕ → ℕ → Step → Type 0
Ends p b s = Ending p b s.dispatches s.kept false

abbrev pub Prints : List ℕ → ℕ → Step → Type 0
Prints p b s = Printing p b s.dispatches s.kept false

-- ---- a byte of a character

of_segment : (p bytes : List ℕ) (b c : ℕ) → IsScalar c → encode c ≡ p ++ b ∷ [] → Ends p b (steps (flat_map dispatches_of (segment_of bytes c ∷ [])) (InCharacter []))
of_segment p bytes b c s e =
    cond_both (in_c1 c) _ _ Goal (λ f. replaces refl refl refl) (λ f.
    cond_both (is_ascii_control c) _ _ Goal (λ g. quiet tt refl refl) (λ g. prints c s (printable c f g) e refl refl refl))
  where
    Goal : Segment → Type 0
    Goal segment = Ends p b (steps (flat_map dispatches_of (segment ∷ [])) (InCharacter []))

first_prints : (b : ℕ) → Ends [] b (let r = first_byte b in steps (flat_map dispatches_of r.segments) (kept_of r.tail))
unfolding first_byte
first_prints b = ⊎_elim (λ e. rw e (quiet tt refl refl)) (λ e. by_outcome e (outcome [] b (inl refl))) (cases_Bool (b == 0x1B))
  where
    by_outcome : (b == 0x1B) ≡ false → Outcome [] b → Ends [] b (let r = first_byte b in steps (flat_map dispatches_of r.segments) (kept_of r.tail))
    by_outcome e (whole c s k u) = rw (e, u, char_of c (b ∷ []) s k) (of_segment [] (b ∷ []) b c s k)
    by_outcome e (begun_on g u v) = rw (e, u, v) (goes_on refl refl)
    by_outcome e (broken f u v) = rw (e, u, v) (replaces refl refl refl)

pub first_character : (b : ℕ) → Ends [] b (character_step [] b)
unfolding character_step in_character
first_character b = first_prints b

pub character_prints : (p : List ℕ) (b : ℕ) → IsUnfinished (Begun p) → Prints p b (character_step p b)
unfolding character_step in_character
character_prints [] b g = whole_one (first_prints b)
character_prints (x ∷ p) b g = by_outcome (outcome (x ∷ p) b g)
  where
    by_outcome : Outcome (x ∷ p) b → Prints (x ∷ p) b (character_step (x ∷ p) b)
    by_outcome (whole c s k u) = rw (u, char_of c (x ∷ p ++ b ∷ []) s k) (whole_one (of_segment (x ∷ p) (x ∷ p ++ b ∷ []) b c s k))
    by_outcome (begun_on h u v) = rw (u, v) (whole_one (goes_on refl (append-nil (x ∷ p ++ b ∷ []))))
    by_outcome (broken f u v) = rw (u, v) (breaks_one (flat_map dispatches_of (first_byte b).segments) refl (first_prints b))

-- ---- a byte of the seven-bit form

abbrev pub IsQuiet : Step → Type 0
IsQuiet s = PrintNone s.dispatches × (begun_in s.kept ≡ 0)

mapped_quiet : (bytes : List ℕ) → PrintNone (map Control bytes)
mapped_quiet [] = tt
mapped_quiet (b ∷ bytes) = mapped_quiet bytes

pub controls_quiet : (bytes : List ℕ) → PrintNone (controls_in bytes)
controls_quiet bytes = mapped_quiet (filter (λ b. nat_lt b 0x20) bytes)

pub stop_quiet : (b : ℕ) → is_stop b ≡ true → IsQuiet (character_step [] b)
unfolding is_stop
stop_quiet b h =
    let low : b < 0x20 = grind (arith, nat_tests) in
    ⊎_elim (λ e. subst IsQuiet (sym (ap (character_step []) e ∙ first_escape)) (tt, refl)) (λ n. subst IsQuiet (sym (first_control b (inl low) n)) (tt, refl)) (cases_eq b 0x1B)

opened_quiet : (b : ℕ) → begun_in (opened b) ≡ 0
unfolding opened
opened_quiet b =
    cond_both (b == 0x5B) _ _ (λ k. begun_in k ≡ 0) (λ e. refl) (λ e.
    cond_both (b == 0x5D) _ _ (λ k. begun_in k ≡ 0) (λ f. refl) (λ f.
    cond_both (b == 0x50) _ _ (λ k. begun_in k ≡ 0) (λ g. refl) (λ g. refl)))

pub escape_quiet : (xs : List ℕ) (b : ℕ) → PrintNone (escape_dispatch xs b)
unfolding escape_dispatch
escape_quiet [] b = tt
escape_quiet (x ∷ []) b = tt
escape_quiet (x ∷ y ∷ xs) b = tt

pub final_quiet : (xs : List ℕ) (b : ℕ) → IsQuiet (final_step xs b)
final_quiet [] b = cond_both (is_opener b) _ _ IsQuiet (λ e. (tt, opened_quiet b)) (λ e. (escape_quiet [] b, refl))
final_quiet (x ∷ xs) b = (escape_quiet (x ∷ xs) b, refl)

-- a byte before the final one: it prints nothing, or cuts the open sequence off
pub data Before (b : ℕ) (s : Step) : Type 0 where
  is_quiet : IsQuiet s → Before b s
  cuts : is_cut b ≡ true → s ≡ character_step [] b → Before b s

pub escape_before : (xs : List ℕ) (b : ℕ) → Before b (escape_step xs b)
unfolding escape_step
escape_before xs b =
    cond_both (is_embedded b) _ _ (Before b) (λ e. is_quiet (controls_quiet (b ∷ []), refl)) (λ e.
    cond_both (is_intermediate b) _ _ (Before b) (λ f. is_quiet (tt, refl)) (λ f.
    cond_both (is_cut b) _ _ (Before b) (λ g. cuts g refl) (λ g. is_quiet (final_quiet xs b))))

pub control_sequence_before : (p : Parameters) (b : ℕ) → Before b (control_sequence_step p b)
unfolding control_sequence_step
control_sequence_before p b =
    cond_both (is_embedded b) _ _ (Before b) (λ e. is_quiet (controls_quiet (b ∷ []), refl)) (λ e.
    cond_both (is_parameter b) _ _ (Before b) (λ f. is_quiet (tt, refl)) (λ f.
    cond_both (is_cut b) _ _ (Before b) (λ g. cuts g refl) (λ g. is_quiet (tt, refl))))

pub header_before : (header : List ℕ) (b : ℕ) → Before b (header_step header b)
unfolding header_step
header_before header b =
    cond_both (is_embedded b) _ _ (Before b) (λ e. is_quiet (tt, refl)) (λ e.
    cond_both (is_parameter b) _ _ (Before b) (λ f. is_quiet (tt, refl)) (λ f.
    cond_both (is_cut b) _ _ (Before b) (λ g. cuts g refl) (λ g. is_quiet (tt, refl))))

-- a byte of a body prints nothing, and the body goes on or is ended
pub record IsQuietBody (b : ℕ) (s : Step) : Type 0 where
  pub none : PrintNone s.dispatches
  pub begun : begun_in s.kept ≡ 0
  pub goes : is_stop b ≡ false → b ≢ 0x07 → is_body s.kept ≡ true

ended_quiet : (ds : List Dispatch) (b : ℕ) → PrintNone ds → is_stop b ≡ true → IsQuietBody b (before ds (character_step [] b))
ended_quiet ds b p h = let k = stop_quiet b h in record { none = none_append ds (character_step [] b).dispatches p k.0; begun = k.1; goes = λ n m. cc }

pub body_quiet : (k : Kept) (b : ℕ) → is_body k ≡ true → IsQuietBody b (kept_step k b)
unfolding command_step device_step string_step
body_quiet (InCommand body) b h =
    cond_both (b == 0x07) _ _ (IsQuietBody b) (λ e. record { none = tt; begun = refl; goes = λ n m. absurd (m (eqb-true b 0x07 e)) }) (λ e.
    cond_both (is_stop b) _ _ (IsQuietBody b) (ended_quiet _ b (cond_both (b == 0x1B) _ _ PrintNone (λ f. tt) (λ f. tt))) (λ f.
    cond_both (is_ascii_control b) _ _ (IsQuietBody b) (λ g. record { none = tt; begun = refl; goes = λ n m. refl }) (λ g. record { none = tt; begun = refl; goes = λ n m. refl })))
body_quiet InDevice b h = cond_both (is_stop b) _ _ (IsQuietBody b) (ended_quiet (Exit ∷ []) b tt) (λ e. record { none = tt; begun = refl; goes = λ n m. refl })
body_quiet InString b h = cond_both (is_stop b) _ _ (IsQuietBody b) (ended_quiet [] b tt) (λ e. record { none = tt; begun = refl; goes = λ n m. refl })
body_quiet _ b h = cc
