-- The texts that runs of printed characters have.
use Rattle.std.specs.Prelude.{ℕ, List, IsTrue, not}
use Rattle.std.specs.Char.{is_ascii_control}
use Rattle.std.specs.List.{list_all}
use Rattle.std.specs.Str.{IsUtf8}

-- no C0 control and no DEL
abbrev pub IsPrinted : List ℕ → Type 0
IsPrinted text = IsTrue (list_all (λ b. not (is_ascii_control b)) text)

-- a text that a run has: UTF-8, with no C0 control and no DEL
pub record IsRunText (text : List ℕ) : Type 0 where
  pub utf8 : IsUtf8 text
  pub printed : IsPrinted text
