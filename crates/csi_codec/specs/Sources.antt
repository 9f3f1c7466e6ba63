-- What is read off a list of tokens: a value, and the tokens after it.
use Rattle.std.specs.Prelude.{◌≡◌, ◌≤◌, ℕ, ℤ, Bool, true, ◌==◌, ◌&&◌, nat_le, List, [], ◌∷◌, drop, length, Option, Some}
use Rattle.std.specs.Prelude.{None, option_map, if◌then◌else◌}
use Rattle.csi_codec.specs.Actions.{Action, all_sgr_tokens, csi_reading}
use Rattle.csi_codec.specs.Prefixes.{most_tokens}
use Rattle.csi_codec.specs.Texts.{tokens_of}
use Rattle.csi_codec.specs.declared.parameters.CsiParam.{CsiParam}
use Rattle.csi_codec.specs.declared.parameters.CsiParam.TheVariants.{Integer, P}

-- a value of some of the first tokens, and the tokens after these
abbrev pub read_off : {A : Type 0} → List CsiParam → Option (A × ℕ) → Option (A × List CsiParam)
read_off ts found = option_map (λ f. (f.0, drop f.1 ts)) found

-- what a reader found: its value, and the tokens that the rest stands for
abbrev pub seen : {A S : Type 0} → (S → List CsiParam) → Option (A × S) → Option (A × List CsiParam)
seen tokens found = option_map (λ f. (f.0, tokens f.1)) found

-- the tokens after a byte, where the list begins with it
abbrev pub after : ℕ → List CsiParam → Option (List CsiParam)
after byte (P b ∷ ts) = if b == byte then Some ts else None
after byte _ = None

-- the number after a separator, where the list begins with the two, and the tokens after it
abbrev pub number_after : ℕ → List CsiParam → Option (ℤ × List CsiParam)
number_after separator (P b ∷ Integer z ∷ ts) = if b == separator then Some (z, ts) else None
number_after separator _ = None

-- the number that comes first, if one does, and the tokens after it
abbrev pub first_number : List CsiParam → Option (ℤ × List CsiParam)
first_number (Integer z ∷ ts) = Some (z, ts)
first_number _ = None

-- the tokens after a `;`, where the list begins with one
abbrev pub past_semicolon : List CsiParam → List CsiParam
past_semicolon [] = []
past_semicolon (Integer z ∷ ts) = Integer z ∷ ts
past_semicolon (P b ∷ ts) = if b == 59 then ts else P b ∷ ts

-- ---- Lists of numbers

-- a digit, `:` or `;`: of these parameter bytes, lists of numbers are made
unfoldable pub is_list_byte : ℕ → Bool
is_list_byte b = nat_le 0x30 b && nat_le b 0x3B

-- the bytes of an SGR list of which every token is kept
pub record IsSgrList (bytes : List ℕ) : Type 0 where
  pub tokens : all_sgr_tokens (tokens_of bytes) ≡ true
  pub short : length (tokens_of bytes) ≤ most_tokens

-- the actions of what is left of an SGR list after a setting, as bytes
abbrev pub settings_left : List ℕ → Bool → List Action
settings_left [] truncated = []
settings_left (b ∷ bs) truncated = csi_reading (tokens_of (b ∷ bs)) truncated 109
