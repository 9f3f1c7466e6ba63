-- Tokens of a CSI list, the slots that a list can have, and how tokens are written.
use Rattle.std.specs.Prelude.{ℕ, ℤ, pos, negsuc, List, [], ◌∷◌, ◌++◌, ◌+◌, slice_get, Bool, true, false, Option, Some}
use Rattle.std.specs.Prelude.{None, nat_le, ◌==◌, if◌then◌else◌, encode_utf8, flat_map, option_map, option_and_then}
use Rattle.std.specs.Prelude.{unwrap_or, find, Result, Ok, Err, ok_or}
use Rattle.std.specs.Fmt.{signed_decimal}
use Rattle.std.specs.Option.{option_zip}
use Rattle.csi_codec.specs.declared.parameters.CsiParam.{CsiParam}
use Rattle.csi_codec.specs.declared.parameters.CsiParam.TheVariants.{Integer, P}
use Rattle.csi_codec.specs.declared.parameters.CrackError.{CrackError}
use Rattle.csi_codec.specs.declared.parameters.CrackError.TheVariants.{NotASpelling}

-- ---- Values

-- the largest value of a parameter
abbrev pub word_max : ℕ
word_max = 4294967295

-- a number from 0 to top
abbrev pub number_within : ℕ → ℤ → Option ℕ
number_within top (pos n) = if nat_le n top then Some n else None
number_within top (negsuc n) = None

-- whether a parameter is the number n
abbrev pub is_number : ℕ → ℤ → Bool
is_number n (pos m) = m == n
is_number n (negsuc m) = false

-- ECMA-48 5.4.2 c: a parameter of 0 means the default, as an absent one does
abbrev pub or_default : ℕ → ℕ → ℕ
or_default default n = if n == 0 then default else n

-- a position: a number that a parameter can hold; 0 and an absent one mean the default
abbrev pub position : ℕ → Option ℤ → Option ℕ
position default None = Some default
position default (Some z) = option_map (or_default default) (number_within word_max z)

-- the position that a parameter names, where 0 is the default
abbrev pub one_based : ℕ → CsiParam → Result ℕ CrackError
one_based default (Integer z) = ok_or (position default (Some z)) NotASpelling
one_based default (P b) = Err NotASpelling

-- the position of an optional parameter, where an absent one and 0 are 1
abbrev pub optional_one_based : Option CsiParam → Result ℕ CrackError
optional_one_based None = Ok 1
optional_one_based (Some param) = one_based 1 param

-- ---- Slots

-- the list is empty or one number
abbrev pub one_slot : List CsiParam → Option (Option ℤ)
one_slot [] = Some None
one_slot (Integer z ∷ []) = Some (Some z)
one_slot _ = None

-- the list is empty, a, a;, ;, ;b or a;b
abbrev pub two_slots : List CsiParam → Option (Option ℤ × Option ℤ)
two_slots [] = Some (None, None)
two_slots (Integer a ∷ []) = Some (Some a, None)
two_slots (Integer a ∷ P s ∷ []) = if s == 59 then Some (Some a, None) else None
two_slots (Integer a ∷ P s ∷ Integer b ∷ []) = if s == 59 then Some (Some a, Some b) else None
two_slots (P s ∷ []) = if s == 59 then Some (None, None) else None
two_slots (P s ∷ Integer b ∷ []) = if s == 59 then Some (None, Some b) else None
two_slots _ = None

-- the list is a space, or one number and a space
abbrev pub slot_and_space : List CsiParam → Option (Option ℤ)
slot_and_space (P s ∷ []) = if s == 32 then Some None else None
slot_and_space (Integer z ∷ P s ∷ []) = if s == 32 then Some (Some z) else None
slot_and_space _ = None

-- a count, or a single position: an absent one and 0 are 1
abbrev pub count : List CsiParam → Option ℕ
count ts = option_and_then (position 1) (one_slot ts)

-- two positions, of which the second may have a default of its own
abbrev pub coordinate_pair : ℕ → List CsiParam → Option (ℕ × ℕ)
coordinate_pair default ts =
    option_and_then (λ slots. option_zip (position 1 slots.0) (position default slots.1)) (two_slots ts)

-- a list that begins with a number
abbrev pub begins_with_number : List CsiParam → Bool
begins_with_number (Integer z ∷ ts) = true
begins_with_number _ = false

-- the number in a slot, where absent is 0
abbrev pub slot_number : Option ℤ → ℤ
slot_number slot = unwrap_or slot (pos 0)

-- ---- Groups

-- 1 where a token is a `;`, else 0
abbrev pub semicolon_count : Option CsiParam → ℕ
semicolon_count (Some (P b)) = if b == 59 then 1 else 0
semicolon_count _ = 0

abbrev pub semicolon_at : List CsiParam → ℕ → ℕ
semicolon_at ts n = semicolon_count (slice_get ts n)

-- a shape takes the `;` right after it, where there is one
abbrev pub with_semicolon : {A : Type 0} → List CsiParam → Option (A × ℕ) → Option (A × ℕ)
with_semicolon ts found = option_map (λ f. (f.0, f.1 + semicolon_at ts f.1)) found

-- ---- Writing

-- ECMA-48 5.4.1: a number is written in decimal, any other byte as itself
abbrev pub token_text : CsiParam → List ℕ
token_text (Integer n) = signed_decimal n
token_text (P b) = encode_utf8 b

-- the parameters between ESC [ and the final byte, and that byte
pub record Spelled : Type 0 where
  pub params : List CsiParam
  pub control : ℕ

abbrev pub spelled : List CsiParam → ℕ → Spelled
spelled params control = record { params = params; control = control }

-- ECMA-48 5.4: parameters, side by side, and the final byte
abbrev pub spelled_text : Spelled → List ℕ
spelled_text s = flat_map token_text s.params ++ encode_utf8 s.control

-- ESC [ and the text after it
abbrev pub sequence_text : Spelled → List ℕ
sequence_text s = 27 ∷ 91 ∷ spelled_text s

-- a number
abbrev pub number_tokens : ℕ → List CsiParam
number_tokens n = Integer (pos n) ∷ []

-- a count, not written where it is 1
abbrev pub count_tokens : ℕ → List CsiParam
count_tokens n = if n == 1 then [] else number_tokens n

-- two numbers, both written
abbrev pub pair_tokens : ℕ → ℕ → List CsiParam
pair_tokens a b = Integer (pos a) ∷ P 59 ∷ Integer (pos b) ∷ []

-- the extent of an erasure, not written where it is 0
abbrev pub extent_tokens : ℕ → List CsiParam
extent_tokens n = if n == 0 then [] else number_tokens n

-- the number of a private mode, after a ?
abbrev pub private_tokens : ℕ → List CsiParam
private_tokens n = P 63 ∷ Integer (pos n) ∷ []

-- ---- Tables

-- the first of the names that has this number, if there is one
abbrev pub named_by : {A : Type 0} → (A → ℕ) → List A → ℤ → Option A
named_by number names z = find (λ known. is_number (number known) z) names

-- the name of the number in a slot
abbrev pub named_slot : {A : Type 0} → (ℤ → Option A) → Option (Option ℤ) → Option A
named_slot named slots = option_and_then (λ slot. named (slot_number slot)) slots

-- the lines of a table of readings: a final byte, and what a list before it encodes
abbrev pub Lines : Type 0 → Type 0
Lines A = List (ℕ × (List CsiParam → Option A))

-- what a list before a final byte encodes, by the first line of the table with that byte
abbrev pub read_by : {A : Type 0} → Lines A → ℕ → List CsiParam → Option A
read_by [] final ts = None
read_by (line ∷ lines) final ts = if line.0 == final then line.1 ts else read_by lines final ts
