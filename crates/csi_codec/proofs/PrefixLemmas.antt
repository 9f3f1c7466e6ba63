-- The sequence at the start of some bytes.
use Rattle.std.proofs.Common.{◌≡◌, ℕ, suc, ◌+◌, ◌-◌, ◌≤◌, ltb, Bool, true, false, cond, List, [], ◌∷◌, ◌++◌, length, take, drop, arith, refl, ap, sym, subst, ◌∙◌}
use Rattle.std.proofs.lemmas.List.{take-append-drop, take_rest}
use Rattle.std.proofs.Math.Seq.{take-append_seam, drop-append_seam}
use Rattle.std.proofs.lemmas.Bool.{and_from, and_parts}
use Rattle.std.proofs.lemmas.Bool.Decides.{nat_tests}
use Rattle.std.specs.List.{prefix_len}
use Rattle.std.specs.Prelude.{fold}
use Rattle.csi_codec.specs.Rendition.{is_between}
use Rattle.csi_codec.specs.Tokens.{Parameters, is_parameter, no_parameters, with_byte}
use Rattle.csi_codec.proofs.TokenLemmas.{Keeps, keeps_tokens}
use Rattle.csi_codec.specs.Texts.{tokens_of, all_parameter_bytes}
use Rattle.csi_codec.specs.Prefixes.{most_tokens, Prefix, IsSequence, HasPrefix, HasNoPrefix, OnePrefix}

-- the number of parameter bytes at the start
abbrev parameter_len : List ℕ → ℕ
parameter_len bytes = prefix_len (is_between 32 63) bytes

not_parameter : (b : ℕ) → 64 ≤ b → is_between 32 63 b ≡ false
not_parameter b h = grind (arith, nat_tests)

-- ---- Prefixes

-- one byte more at the start
parameter_len-cons : (b : ℕ) (bytes : List ℕ) → parameter_len (b ∷ bytes) ≡ cond (is_between 32 63 b) (suc (parameter_len bytes)) 0
parameter_len-cons b bytes = elim (is_between 32 63 b) as (λ v. cond v (1 + parameter_len bytes) 0 ≡ cond v (suc (parameter_len bytes)) 0) [
  | true ↦ omega arith
  | false ↦ refl
]

prefix_byte : (b : ℕ) (bytes : List ℕ) (v : Bool) → is_between 32 63 b ≡ v → all_parameter_bytes (take (parameter_len bytes) bytes) ≡ true
    → all_parameter_bytes (take (cond v (suc (parameter_len bytes)) 0) (b ∷ bytes)) ≡ true
prefix_byte b bytes true h remaining = and_from (is_between 32 63 b) (all_parameter_bytes (take (parameter_len bytes) bytes)) h remaining
prefix_byte b bytes false h remaining = refl

-- the bytes at the start are parameter bytes
parameters-prefix : (bytes : List ℕ) → all_parameter_bytes (take (parameter_len bytes) bytes) ≡ true
parameters-prefix [] = refl
parameters-prefix (b ∷ bytes) =
    subst (λ n. all_parameter_bytes (take n (b ∷ bytes)) ≡ true) (sym (parameter_len-cons b bytes)) (prefix_byte b bytes (is_between 32 63 b) refl (parameters-prefix bytes))

-- the parameter bytes of a sequence end at its final byte
parameter_len-sequence : (body : List ℕ) (control : ℕ) (rest : List ℕ) → all_parameter_bytes body ≡ true → 64 ≤ control → parameter_len (body ++ control ∷ rest) ≡ length body
parameter_len-sequence [] control rest h low = parameter_len-cons control rest ∙ ap (λ v. cond v (suc (parameter_len rest)) 0) (not_parameter control low)
parameter_len-sequence (b ∷ body) control rest h low =
    parameter_len-cons b (body ++ control ∷ rest)
    ∙ ap (λ v. cond v (suc (parameter_len (body ++ control ∷ rest))) 0) (and_parts (is_between 32 63 b) (all_parameter_bytes body) h).0
    ∙ ap suc (parameter_len-sequence body control rest (and_parts (is_between 32 63 b) (all_parameter_bytes body) h).1 low)

-- after the parameter bytes comes the final byte
remaining-sequence : (bytes after body : List ℕ) (control : ℕ) (rest : List ℕ) → bytes ≡ 27 ∷ 91 ∷ after → IsSequence bytes body control rest → drop (parameter_len after) after ≡ control ∷ rest
remaining-sequence bytes after body control rest e s =
    let b : after ≡ body ++ control ∷ rest = cc s.text in
    ap (λ (x : List ℕ). drop (parameter_len x) x) b
    ∙ ap (λ n. drop n (body ++ control ∷ rest)) (parameter_len-sequence body control rest s.parameters s.low)
    ∙ drop-append_seam body (control ∷ rest)

-- the bytes after the parameter bytes that are read
after_parameters : (len : ℕ) (after : List ℕ) → len ≡ prefix_len is_parameter after → take (length after - len) (drop len after) ≡ drop (parameter_len after) after
unfolding is_parameter
after_parameters len after e = take_rest after len ∙ ap (λ n. drop n after) e

module _ (bytes after : List ℕ) (len : ℕ) (text : bytes ≡ 27 ∷ 91 ∷ after) (count : len ≡ prefix_len is_parameter after) where
  abbrev remaining : List ℕ
  remaining = take (length after - len) (drop len after)

  pub no_final : length remaining ≡ 0 → HasNoPrefix bytes
  no_final z body control rest s =
      let q : remaining ≡ control ∷ rest = after_parameters len after count ∙ remaining-sequence bytes after body control rest text s in
      absurd (omega (arith, ap length q))

  pub other_final : (b : ℕ) (bs : List ℕ) → remaining ≡ b ∷ bs → (64 ≤ b → b ≤ 126 → ⊥) → HasNoPrefix bytes
  other_final b bs q none body control rest s =
      let q' : control ∷ rest ≡ b ∷ bs = sym (remaining-sequence bytes after body control rest text s) ∙ sym (after_parameters len after count) ∙ q in
      let c : control ≡ b = cc in
      none (omega (arith, s.low, c)) (omega (arith, s.high, c))

  pub read_prefix : (p start : Parameters) (b : ℕ) (bs : List ℕ) → remaining ≡ b ∷ bs → (64 ≤ b) × (b ≤ 126) → start ≡ no_parameters → p ≡ fold with_byte start (take len after)
      → HasPrefix bytes (record { params = p.tokens; truncated = p.truncated; control = b; rest = bs })
  unfolding is_parameter
  read_prefix p start b bs q final none read =
      let P : Parameters → Type 0 = λ q. Keeps q (tokens_of (take len after)) in
      let keeps : Keeps p (tokens_of (take len after)) = subst P (sym (read ∙ ap (λ (q : Parameters). fold with_byte q (take len after)) none)) (keeps_tokens (take len after)) in
      record {
        body = take len after;
        sequence = record {
          text = text ∙ ap (λ (x : List ℕ). 27 ∷ 91 ∷ x) (sym (take-append-drop len after) ∙ ap (λ (x : List ℕ). take len after ++ x) (ap (λ n. drop n after) count ∙ sym (after_parameters len after count) ∙ q));
          parameters = ap (λ n. all_parameter_bytes (take n after)) count ∙ parameters-prefix after;
          low = final.0;
          high = final.1;
        };
        kept = keeps.kept;
        dropped = keeps.more;
      }

-- ---- At most one

body-sequence : (bytes after body : List ℕ) (control : ℕ) (rest : List ℕ) → bytes ≡ 27 ∷ 91 ∷ after → IsSequence bytes body control rest → take (parameter_len after) after ≡ body
body-sequence bytes after body control rest e s =
    let b : after ≡ body ++ control ∷ rest = cc s.text in
    ap (λ (x : List ℕ). take (parameter_len x) x) b
    ∙ ap (λ n. take n (body ++ control ∷ rest)) (parameter_len-sequence body control rest s.parameters s.low)
    ∙ take-append_seam body (control ∷ rest)

same_prefix : (a b : Prefix) → a.params ≡ b.params → a.truncated ≡ b.truncated → a.control ≡ b.control → a.rest ≡ b.rest → a ≡ b
same_prefix a b p t c r =
    ap (λ x. record a { params = x }) p ∙ ap (λ x. record b { truncated = x; control = a.control; rest = a.rest }) t
    ∙ ap (λ x. record b { control = x; rest = a.rest }) c ∙ ap (λ x. record b { rest = x }) r

pub one_prefix-lem : OnePrefix
one_prefix-lem bytes a b f g =
    let after = f.body ++ a.control ∷ a.rest in
    let bodies : f.body ≡ g.body = sym (body-sequence bytes after f.body a.control a.rest f.sequence.text f.sequence) ∙ body-sequence bytes after g.body b.control b.rest f.sequence.text g.sequence in
    let remaining : a.control ∷ a.rest ≡ b.control ∷ b.rest = sym (remaining-sequence bytes after f.body a.control a.rest f.sequence.text f.sequence) ∙ remaining-sequence bytes after g.body b.control b.rest f.sequence.text g.sequence in
    let params : a.params ≡ b.params = f.kept ∙ ap (λ (x : List ℕ). take most_tokens (tokens_of x)) bodies ∙ sym g.kept in
    let truncated : a.truncated ≡ b.truncated = f.dropped ∙ ap (λ (x : List ℕ). ltb most_tokens (length (tokens_of x))) bodies ∙ sym g.dropped in
    let control : a.control ≡ b.control = cc remaining in
    let rest : a.rest ≡ b.rest = cc remaining in
    same_prefix a b params truncated control rest
