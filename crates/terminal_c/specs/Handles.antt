-- What a call does with a handle, and where an answer lies.
use denote.RawPtr.{Ptr}
use Rattle.std.specs.Prelude.{◌≡◌, ◌<◌, ℕ, List, length, Option, Some, None, IsSomeAnd, MatchOption}
use Rattle.terminal_c.specs.Codes.{DONE, NOT_OPEN}
use Rattle.std.specs.Vec.{vec_ptr}
use Rattle.terminal_c.specs.declared.exports.Bytes.{Bytes}
use Rattle.terminal_c.specs.declared.exports.Cells.{Cells}
use Rattle.terminal_c.specs.declared.kept.Kept.{Kept}
use Rattle.terminal_c.specs.declared.told.Row.{Row}

-- A closed handle stays closed, and the code says so. An open one stays open, and `does` says what the call does with
-- what it leads to.
abbrev pub Calls : Option Kept → Option Kept → ℕ → (Kept → Kept → Type 0) → Type 0
Calls before after code does =
    MatchOption before ((code ≡ NOT_OPEN) × (after ≡ None)) (λ a. IsSomeAnd after (λ b. does a b))

-- As `Calls`, of a call that also reads another handle, which it leaves as it was: both have to be open.
abbrev pub CallsOnTwo : Option Kept → Option Kept → Option Kept → ℕ → (Kept → Kept → Kept → Type 0) → Type 0
CallsOnTwo before after other code does =
    MatchOption before ((code ≡ NOT_OPEN) × (after ≡ None))
    (λ a. MatchOption other ((code ≡ NOT_OPEN) × (after ≡ Some a)) (λ o. IsSomeAnd after (λ b. does a o b)))

-- Where the call was carried out, an answer leads to the bytes, which begin at `start` if there are any.
pub record Lends (code : ℕ) (bytes : List ℕ) (start : Ptr) (answer : Bytes) : Type 0 where
  pub len : code ≡ DONE → answer.len ≡ length bytes
  pub at : code ≡ DONE → 0 < length bytes → answer.at ≡ start

-- Where the call was carried out, an answer leads to the cells, the text and the links of a row.
pub record LendsCells (code : ℕ) (row : Row) (answer : Cells) : Type 0 where
  pub cells : code ≡ DONE → answer.cells ≡ vec_ptr row.cells
  pub count : code ≡ DONE → answer.count ≡ length row.cells.items
  pub text : Lends code row.text.items (vec_ptr row.text) answer.text
  pub links : Lends code row.links.items (vec_ptr row.links) answer.links
