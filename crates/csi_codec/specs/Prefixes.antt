-- A control sequence at the start of some bytes.
-- ECMA-48 5.4: CSI, parameter and intermediate bytes (20h to 3Fh), and a final byte (40h to 7Eh).
use Rattle.std.specs.Prelude.{◌≡◌, ℕ, ◌≤◌, Bool, true, false, nat_lt, List, [], ◌∷◌, ◌++◌, length, take}
use Rattle.std.specs.List.{AllByRecursion}
use Rattle.csi_codec.specs.declared.parameters.CsiParam.{CsiParam}
use Rattle.csi_codec.specs.declared.prefixes.CsiFront.{CsiFront}
use Rattle.csi_codec.specs.Parameters.{Spelled}
use Rattle.csi_codec.specs.Actions.{csi_reading, spelling_of}
use Rattle.csi_codec.specs.Sequences.{csi_text}
use Rattle.csi_codec.specs.Texts.{tokens_of, is_spellable, all_parameter_bytes}

-- how many tokens of a sequence are kept
abbrev pub most_tokens : ℕ
most_tokens = 256

-- the tokens that are kept, whether there were more, the final byte, and the bytes after it
pub record Prefix : Type 0 where
  pub params : List CsiParam
  pub truncated : Bool
  pub control : ℕ
  pub rest : List ℕ

-- what a `CsiFront` shows: its parameters as a list, and its rest as bytes
abbrev pub prefix_of : CsiFront → Prefix
prefix_of prefix = record {
  params = prefix.params.items;
  truncated = prefix.truncated;
  control = prefix.control;
  rest = prefix.rest.now;
}

-- the bytes are ESC [, parameter and intermediate bytes, a final byte, and the rest
pub record IsSequence (bytes body : List ℕ) (control : ℕ) (rest : List ℕ) : Type 0 where
  pub text : bytes ≡ 27 ∷ 91 ∷ (body ++ control ∷ rest)
  pub parameters : all_parameter_bytes body ≡ true
  pub low : 64 ≤ control
  pub high : control ≤ 126

-- this sequence is a prefix of the bytes; its parameters are the first `most_tokens` tokens that its bytes encode
pub record HasPrefix (bytes : List ℕ) (prefix : Prefix) : Type 0 where
  pub body : List ℕ
  pub sequence : IsSequence bytes body prefix.control prefix.rest
  pub kept : prefix.params ≡ take most_tokens (tokens_of body)
  pub dropped : prefix.truncated ≡ nat_lt most_tokens (length (tokens_of body))

-- no sequence is a prefix of the bytes
abbrev pub HasNoPrefix : List ℕ → Type 0
HasNoPrefix bytes = (body : List ℕ) (control : ℕ) (rest : List ℕ) → IsSequence bytes body control rest → ⊥

-- ---- Laws

-- at most one sequence is a prefix of given bytes
abbrev pub OnePrefix : Type 0
OnePrefix = (bytes : List ℕ) (a b : Prefix) → HasPrefix bytes a → HasPrefix bytes b → a ≡ b

-- parameters and a final byte as a sequence with nothing after it, and with no token dropped
abbrev pub whole_prefix : Spelled → Prefix
whole_prefix s = record { params = s.params; truncated = false; control = s.control; rest = [] }

-- the text of each action of a spellable list, of no more tokens than are kept, with a final byte from @ to ~, is one
-- sequence, of the parameters and the final byte that are written for the action
abbrev pub TextsAreSequences : Type 0
TextsAreSequences = (ts : List CsiParam) (truncated : Bool) (final : ℕ)
    → is_spellable ts ≡ true → length ts ≤ most_tokens → 64 ≤ final → final ≤ 126
    → AllByRecursion (λ a. HasPrefix (csi_text a) (whole_prefix (spelling_of a))) (csi_reading ts truncated final)
