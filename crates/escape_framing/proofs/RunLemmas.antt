-- Runs of bytes that hand nothing out: parameter bytes, those of a body, and those of a string that does nothing.
use Rattle.std.proofs.Common.{◌≡◌, ℕ, suc, ◌+◌, ◌≤◌, Bool, true, false, List, [], ◌∷◌, ◌++◌, length, fold, take, drop, refl, sym, ap, subst, ◌∙◌, arith, append_assoc, append-nil, ⊎_elim}
use Rattle.std.specs.Prelude.{◌==◌}
use Rattle.std.specs.List.{prefix_len, list_all}
use Rattle.std.specs.Char.{is_ascii_control}
use Rattle.std.proofs.lemmas.Bool.{and_parts, cond_both, cases_Bool}
use Rattle.std.proofs.lemmas.Bool.Decides.{nat_tests}
use Rattle.std.proofs.lemmas.List.Folds.{length-prefix_len}
use Rattle.std.proofs.lemmas.List.Sums.{prefix_len-le-length}
use Rattle.text_clusters.specs.Plain.{is_printable}
use Rattle.csi_codec.specs.Tokens.{is_parameter, Parameters, with_byte}
use Rattle.escape_framing.specs.Bytes.{is_stop, is_embedded}
use Rattle.escape_framing.specs.Held.{InControlSequence, InCommand, InString, control_sequence_step, command_step, string_step, fresh_step, Held, Handed, held_step, hand_out}
use Rattle.escape_framing.specs.Framed.{begun_bytes}
use Rattle.escape_framing.specs.Prefixes.{is_body_byte, is_string_byte}

pub all_pass : (test : ℕ → Bool) (xs : List ℕ) → list_all test (take (prefix_len test xs) xs) ≡ true
all_pass test [] = refl
all_pass test (b ∷ xs) = cond_both (test b) _ _ (λ n. list_all test (take n (b ∷ xs)) ≡ true)
    (λ e. let k : 1 + prefix_len test xs ≡ suc (prefix_len test xs) = omega arith in rw k (rw e (all_pass test xs))) (λ e. refl)

-- The first n bytes hand nothing out, and leave no character begun.
pub record IsSilent (held : Held) (bytes : List ℕ) (n : ℕ) (after : Held) : Type 0 where
  pub within : n ≤ length bytes
  pub silent : (hand_out held (take n bytes)).dispatches ≡ []
  pub keeps : (hand_out held (take n bytes)).held ≡ after
  pub none : begun_bytes after ≡ []

pub quiet_prefix : (held after : Held) (bytes : List ℕ) (n : ℕ) → n ≤ length bytes → hand_out held (take n bytes) ≡ record { dispatches = []; held = after } → begun_bytes after ≡ [] → IsSilent held bytes n after
quiet_prefix held after bytes n l q b = record { within = l; silent = ap (λ (x : Handed). x.dispatches) q; keeps = ap (λ (x : Handed). x.held) q; none = b }

-- ---- parameter bytes

abbrev pub in_sequence : Parameters → Held
in_sequence p = record { kept = InControlSequence p; waiting = false }

parameter_not : (b : ℕ) → is_parameter b ≡ true → (is_embedded b ≡ false) × ((b == 0xC2) ≡ false)
unfolding is_parameter is_embedded is_stop
parameter_not b h = (grind (arith, nat_tests), grind (arith, nat_tests))

parameter_step : (p : Parameters) (b : ℕ) → is_parameter b ≡ true → held_step (in_sequence p) b ≡ record { dispatches = []; held = in_sequence (with_byte p b) }
unfolding held_step fresh_step control_sequence_step
parameter_step p b h = let e = parameter_not b h in rw (e.1, e.0, h) refl

pub parameters_handed : (p : Parameters) (xs : List ℕ) → list_all is_parameter xs ≡ true → hand_out (in_sequence p) xs ≡ record { dispatches = []; held = in_sequence (fold with_byte p xs) }
unfolding hand_out
parameters_handed p [] h = refl
parameters_handed p (b ∷ xs) h =
    let t = and_parts (is_parameter b) (list_all is_parameter xs) h in
    rw (parameter_step p b t.0) (rw (parameters_handed (with_byte p b) xs t.1) refl)

pub parameters_silent : (held after : Held) (p q : Parameters) (bytes : List ℕ) (n : ℕ) (w : Bool) → held ≡ record { kept = InControlSequence p; waiting = w } → w ≡ false → n ≡ prefix_len is_parameter bytes → q ≡ fold with_byte p (take n bytes)
    → after ≡ record { kept = InControlSequence q; waiting = w } → IsSilent held bytes n after
parameters_silent held after p q bytes n w e f k m a =
    let d : held ≡ in_sequence p = e ∙ ap (λ (x : Bool). record { kept = InControlSequence p; waiting = x }) f in
    let g : after ≡ in_sequence q = a ∙ ap (λ (x : Bool). record { kept = InControlSequence q; waiting = x }) f in
    quiet_prefix held after bytes n (let l = prefix_len-le-length is_parameter bytes in omega (arith, k))
    (ap (λ (h : Held). hand_out h (take n bytes)) d
    ∙ parameters_handed p (take n bytes) (subst (λ (j : ℕ). list_all is_parameter (take j bytes) ≡ true) (sym k) (all_pass is_parameter bytes))
    ∙ ap (λ (x : Parameters). record { dispatches = []; held = in_sequence x }) (sym m)
    ∙ ap (λ (h : Held). record { dispatches = []; held = h }) (sym g))
    (ap begun_bytes g)

-- ---- the body of a command

abbrev pub in_command : List ℕ → Held
in_command body = record { kept = InCommand body; waiting = false }

body_byte_not : (b : ℕ) → is_body_byte b ≡ true → (is_ascii_control b ≡ false) × ((b == 0xC2) ≡ false) × ((b == 0x07) ≡ false) × (is_stop b ≡ false)
unfolding is_body_byte is_stop
body_byte_not b h = (grind (arith, nat_tests), grind (arith, nat_tests), grind (arith, nat_tests), grind (arith, nat_tests))

body_step : (body : List ℕ) (b : ℕ) → is_body_byte b ≡ true → held_step (in_command body) b ≡ record { dispatches = []; held = in_command (body ++ b ∷ []) }
unfolding held_step fresh_step command_step
body_step body b h = let e = body_byte_not b h in rw (e.1, e.2, e.3, e.0) refl

pub body_handed : (body xs : List ℕ) → list_all is_body_byte xs ≡ true → hand_out (in_command body) xs ≡ record { dispatches = []; held = in_command (body ++ xs) }
unfolding hand_out
body_handed body [] h = ap (λ (l : List ℕ). record { dispatches = []; held = in_command l }) (sym (append-nil body))
body_handed body (b ∷ xs) h =
    let t = and_parts (is_body_byte b) (list_all is_body_byte xs) h in
    rw (body_step body b t.0) (rw (body_handed (body ++ b ∷ []) xs t.1) (ap (λ (l : List ℕ). record { dispatches = []; held = in_command l }) (append_assoc body (b ∷ []) xs)))

-- the body grows by them
pub body_silent : (held after : Held) (body new bytes prefix : List ℕ) (w : Bool) → held ≡ record { kept = InCommand body; waiting = w } → w ≡ false → prefix ≡ take (prefix_len is_body_byte bytes) bytes → new ≡ body ++ prefix
    → after ≡ record { kept = InCommand new; waiting = w } → IsSilent held bytes (length prefix) after
body_silent held after body new bytes prefix w e f k n a =
    let l : length prefix ≡ prefix_len is_body_byte bytes = ap length k ∙ length-prefix_len is_body_byte bytes in
    let t : take (length prefix) bytes ≡ prefix = ap (λ (m : ℕ). take m bytes) l ∙ sym k in
    let g : after ≡ in_command new = a ∙ ap (λ (x : Bool). record { kept = InCommand new; waiting = x }) f in
    quiet_prefix held after bytes (length prefix) (let m = prefix_len-le-length is_body_byte bytes in omega (arith, l))
    ((λ i. hand_out (e i) (t i)) ∙ ap (λ (x : Bool). hand_out (record { kept = InCommand body; waiting = x }) prefix) f
    ∙ body_handed body prefix (subst (λ (x : List ℕ). list_all is_body_byte x ≡ true) (sym k) (all_pass is_body_byte bytes))
    ∙ ap (λ (x : List ℕ). record { dispatches = []; held = in_command x }) (sym n)
    ∙ ap (λ (h : Held). record { dispatches = []; held = h }) (sym g))
    (ap begun_bytes g)

plain_body : (b : ℕ) → is_printable b ≡ true → is_body_byte b ≡ true
unfolding is_body_byte
plain_body b h = grind (arith, nat_tests)

-- the number of body bytes at the start: printable ones, and then other body bytes
pub body_run : (xs : List ℕ) → prefix_len is_printable xs + prefix_len is_body_byte (drop (prefix_len is_printable xs) xs) ≡ prefix_len is_body_byte xs
body_run [] = refl
body_run (b ∷ xs) = ⊎_elim
    (λ (e : is_printable b ≡ true). let h = body_run xs in let k : 1 + prefix_len is_printable xs ≡ suc (prefix_len is_printable xs) = omega arith in rw (e, plain_body b e, k) (omega (arith, h)))
    (λ (e : is_printable b ≡ false). let k : 0 + prefix_len is_body_byte (b ∷ xs) ≡ prefix_len is_body_byte (b ∷ xs) = omega arith in rw e k)
    (cases_Bool (is_printable b))

-- ---- a string that does nothing

abbrev in_string : Held
in_string = record { kept = InString; waiting = false }

string_byte_not : (b : ℕ) → is_string_byte b ≡ true → (is_stop b ≡ false) × ((b == 0xC2) ≡ false)
unfolding is_stop
string_byte_not b h = (grind (arith, nat_tests), grind (arith, nat_tests))

string_step_at : (b : ℕ) → is_string_byte b ≡ true → held_step in_string b ≡ record { dispatches = []; held = in_string }
unfolding held_step fresh_step string_step
string_step_at b h = let e = string_byte_not b h in rw (e.1, e.0) refl

string_handed : (xs : List ℕ) → list_all is_string_byte xs ≡ true → hand_out in_string xs ≡ record { dispatches = []; held = in_string }
unfolding hand_out
string_handed [] h = refl
string_handed (b ∷ xs) h =
    let t = and_parts (is_string_byte b) (list_all is_string_byte xs) h in
    rw (string_step_at b t.0) (rw (string_handed xs t.1) refl)

pub string_silent : (held : Held) (bytes : List ℕ) (n : ℕ) (w : Bool) → held ≡ record { kept = InString; waiting = w } → w ≡ false → n ≡ prefix_len is_string_byte bytes → IsSilent held bytes n held
string_silent held bytes n w e f k =
    let d : held ≡ in_string = e ∙ ap (λ (x : Bool). record { kept = InString; waiting = x }) f in
    quiet_prefix held held bytes n (let l = prefix_len-le-length is_string_byte bytes in omega (arith, k))
    (ap (λ (h : Held). hand_out h (take n bytes)) d
    ∙ string_handed (take n bytes) (subst (λ (j : ℕ). list_all is_string_byte (take j bytes) ≡ true) (sym k) (all_pass is_string_byte bytes))
    ∙ ap (λ (h : Held). record { dispatches = []; held = h }) (sym d))
    (ap begun_bytes d)
