-- The parameters of a cursor sequence or an edit: how they are written, and which of their numbers can be written.
use Rattle.std.specs.Prelude.{ℕ, ◌≤◌, List, [], ◌∷◌, ◌++◌, map, option_map}
use Rattle.csi_codec.specs.Parameters.{word_max, count, Lines, Spelled, spelled, number_tokens, count_tokens}
use Rattle.csi_codec.specs.Parameters.{pair_tokens, extent_tokens}
use Rattle.csi_codec.specs.declared.parameters.CsiParam.{CsiParam}
use Rattle.csi_codec.specs.declared.parameters.CsiParam.TheVariants.{P}

pub data Slots : Type 0 where
  -- no parameters
  nothing : Slots
  -- a count, not written where it is 1
  counted : ℕ → Slots
  -- a position, always written
  placed : ℕ → Slots
  -- two positions, both written
  paired : ℕ → ℕ → Slots
  -- the number of a name, always written
  named : ℕ → Slots
  -- the number of an extent, not written where it is 0
  extent : ℕ → Slots
  -- the number of a name, and after it a space
  spaced : ℕ → Slots

abbrev pub slots_tokens : Slots → List CsiParam
slots_tokens nothing = []
slots_tokens (counted n) = count_tokens n
slots_tokens (placed n) = number_tokens n
slots_tokens (paired a b) = pair_tokens a b
slots_tokens (named n) = number_tokens n
slots_tokens (extent n) = extent_tokens n
slots_tokens (spaced n) = number_tokens n ++ P 32 ∷ []

-- parameters and a final byte, as they are written
abbrev pub slots_spelling : Slots × ℕ → Spelled
slots_spelling slots = spelled (slots_tokens slots.0) slots.1

-- the table lines of the sequences that have one count or position, each under the final byte of the sequence
abbrev pub count_lines : {A : Type 0} → (A → Slots × ℕ) → List (ℕ → A) → Lines A
count_lines slots makes = map (λ make. ((slots (make 1)).1, λ ts. option_map make (count ts))) makes

-- a count or a position: 1 to the largest value of a parameter
abbrev pub IsCoordinate : ℕ → Type 0
IsCoordinate n = (1 ≤ n) × (n ≤ word_max)

-- counts and positions that can be written; the number of a name always can
abbrev pub AreCoordinates : Slots → Type 0
AreCoordinates (counted n) = IsCoordinate n
AreCoordinates (placed n) = IsCoordinate n
AreCoordinates (paired a b) = IsCoordinate a × IsCoordinate b
AreCoordinates _ = Unit {0}
