-- A link as a value: its texts.
use Rattle.std.specs.Prelude.{ℕ, Bool, List, map, String}
use Rattle.std.specs.String.{string_bytes}

-- a key and a value, as bytes
abbrev pub Param : Type 0
Param = List ℕ × List ℕ

-- the parameters in the order of the keys, the URI, and whether it was found in a text
pub record Link : Type 0 where
  pub params : List Param
  pub uri : List ℕ
  pub implicit : Bool

-- the bytes of the keys and values
abbrev pub texts_of : {Z : Type 0} → List (String Z × String Z) → List Param
texts_of es = map (λ e. (string_bytes e.0, string_bytes e.1)) es
