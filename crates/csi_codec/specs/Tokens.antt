-- The tokens of a control sequence that are kept while its bytes come.
use Rattle.std.specs.Prelude.{ℕ, pos, ◌+◌, ◌-◌, ◌*◌, min, Bool, true, false, ◌&&◌, nat_le, nat_lt, List, [], ◌∷◌, ◌++◌}
use Rattle.std.specs.Prelude.{Option, Some, None, unwrap_or, is_some, length, take, fold, if◌then◌else◌}
use Rattle.std.specs.Char.{is_ascii_digit}
use Rattle.csi_codec.specs.Texts.{largest_number}
use Rattle.csi_codec.specs.Prefixes.{most_tokens}
use Rattle.csi_codec.specs.declared.parameters.CsiParam.{CsiParam}
use Rattle.csi_codec.specs.declared.parameters.CsiParam.TheVariants.{Integer, P}

-- ECMA-48 5.4: a parameter byte or an intermediate byte
unfoldable pub is_parameter : ℕ → Bool
is_parameter b = nat_le 0x20 b && nat_le b 0x3F

-- the first tokens, whether there were more, and the number whose digits have begun, cut at the largest
pub record Parameters : Type 0 where
  pub tokens : List CsiParam
  pub truncated : Bool
  pub number : Option ℕ

abbrev pub no_parameters : Parameters
no_parameters = record { tokens = []; truncated = false; number = None }

-- one token more if there is room, otherwise the list is truncated
abbrev pub with_token : Parameters → CsiParam → Option ℕ → Parameters
with_token p token number =
    if nat_lt (length p.tokens) most_tokens then record p { tokens = p.tokens ++ token ∷ []; number = number }
    else record p { truncated = true; number = number }

-- the last token replaced by another number, if that token was kept
abbrev pub with_number : Parameters → ℕ → Parameters
with_number p n =
    if p.truncated then record p { truncated = true; number = Some n }
    else
    record { tokens = take (length p.tokens - 1) p.tokens ++ Integer (pos n) ∷ []; truncated = false; number = Some n }

abbrev pub next_number : Option ℕ → ℕ → ℕ
next_number number b = min (10 * unwrap_or number 0 + (b - 48)) largest_number

-- one parameter byte more
unfoldable pub with_byte : Parameters → ℕ → Parameters
with_byte p b =
    if is_ascii_digit b then
    (if is_some p.number then with_number p (next_number p.number b)
    else with_token p (Integer (pos (next_number p.number b))) (Some (next_number p.number b)))
    else with_token p (P b) None

-- the tokens after reading these bytes
abbrev pub parameters_of : List ℕ → Parameters
parameters_of bytes = fold with_byte no_parameters bytes
