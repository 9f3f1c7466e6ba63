-- Which of the items a performer has performed.
use Rattle.std.specs.Prelude.{◌≡◌, List, ◌∷◌, ◌++◌}
use Rattle.std.specs.List.{FoldsTo}
use Rattle.std.specs.declared.alloc.AllocError.{AllocError}
use Rattle.escape_framing.specs.declared.error.ParseError.{ParseError}
use Rattle.escape_framing.specs.declared.error.ParseError.TheVariants as parser
use Rattle.escape_stream.specs.Items.{Item}
use Rattle.escape_stream.specs.declared.perform.Halted.{Halted}
use Rattle.escape_stream.specs.declared.perform.Halted.TheVariants as halted

-- the first items, any count of them, were performed in order, and no more
pub record PerformsSome {P : Type 0} (does : P → Item → P → Type 0) (first : P) (items : List Item) (last : P) : Type 0
  where
    pub done : List Item
    pub left : List Item
    pub whole : items ≡ done ++ left
    pub performed : FoldsTo does first done last

-- the items before one were performed, in order, and that one was refused
pub record StopsAt {P E : Type 0} (does : P → Item → P → Type 0) (refuses : P → Item → E → P → Type 0) (first : P)
    (items : List Item) (refusal : E) (last : P) : Type 0 where
  pub done : List Item
  pub item : Item
  pub left : List Item
  pub before : P
  pub whole : items ≡ done ++ (item ∷ left)
  pub performed : FoldsTo does first done before
  pub refused : refuses before item refusal last

-- what was performed where not all items were
abbrev pub HaltsAt : {P E : Type 0} → (P → Item → P → Type 0) → (P → Item → E → P → Type 0) → P → List Item → Halted E
    → P → Type 0
HaltsAt does refuses first items halted.Failed last = PerformsSome does first items last
HaltsAt does refuses first items halted.Memory last = PerformsSome does first items last
HaltsAt does refuses first items (halted.Refused refusal) last = StopsAt does refuses first items refusal last

-- as the error of a parser, for a performer whose only refusal is refused memory
abbrev pub parse_error : Halted AllocError → ParseError
parse_error halted.Failed = parser.Failed
parse_error halted.Memory = parser.Memory
parse_error (halted.Refused refusal) = parser.Memory
