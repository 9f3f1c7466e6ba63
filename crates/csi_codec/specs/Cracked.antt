-- A list as entries: numbers and absent ones.
use Rattle.std.specs.Prelude.{ℤ, List, [], ◌∷◌, Bool, true, false, ◌==◌, Option, Some, None}
use Rattle.std.specs.List.{list_all}
use Rattle.csi_codec.specs.declared.parameters.CsiParam.{CsiParam}
use Rattle.csi_codec.specs.declared.parameters.CsiParam.TheVariants.{Integer, P}
use Rattle.csi_codec.specs.declared.cracked.Cracked.{Cracked}

-- numbers and `;` alone can be cracked
abbrev pub is_crackable : CsiParam → Bool
is_crackable (Integer z) = true
is_crackable (P b) = b == 59

abbrev pub all_crackable : List CsiParam → Bool
all_crackable ts = list_all is_crackable ts

-- the entries of a list: a number is an entry, a `;` right after a number separates, any other `;` is an absent entry
abbrev pub entries : Bool → List CsiParam → List (Option CsiParam)
entries after_number [] = []
entries after_number (Integer z ∷ ts) = Some (Integer z) ∷ entries true ts
entries true (P b ∷ ts) = entries false ts
entries false (P b ∷ ts) = None ∷ entries false ts

abbrev pub cracked : List CsiParam → List (Option CsiParam)
cracked ts = entries false ts

-- the entries that a cracked list shows, without where they lie in memory
abbrev pub entries_of : Cracked → List (Option CsiParam)
entries_of c = c.entries.items

-- the number of an entry, if there is one
abbrev pub entry_number : Option (Option CsiParam) → Option ℤ
entry_number (Some (Some (Integer z))) = Some z
entry_number _ = None
