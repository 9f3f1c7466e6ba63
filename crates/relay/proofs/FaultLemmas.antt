-- Lines that report faults: the part of one that was written is a prefix of it.
use Rattle.std.proofs.Common.{ℕ, List, ◌∷◌, [], ◌++◌, Option, sym, ap, ◌∙◌, append_assoc, codes}
use Rattle.std.specs.Io.KnownBytes.{Appends}
use Rattle.std.proofs.KnownBytes.{Appends-trans}
use Rattle.terminal.specs.Shown.{AppendsPrefix}
use Rattle.relay.specs.Faults.{fault_line}

prefix_first : (old new : Option (List ℕ)) (bytes rest : List ℕ) → AppendsPrefix old new bytes → AppendsPrefix old new (bytes ++ rest)
prefix_first old new bytes rest p = record {
  written = p.written;
  remaining = p.remaining ++ rest;
  whole = ap (λ l. l ++ rest) p.whole ∙ append_assoc p.written p.remaining rest;
  appends = p.appends;
}

prefix_next : (old mid new : Option (List ℕ)) (bytes rest : List ℕ) → Appends old mid bytes → AppendsPrefix mid new rest → AppendsPrefix old new (bytes ++ rest)
prefix_next old mid new bytes rest first p = record {
  written = bytes ++ p.written;
  remaining = p.remaining;
  whole = ap (λ l. bytes ++ l) p.whole ∙ sym (append_assoc bytes p.written p.remaining);
  appends = Appends-trans old mid new bytes p.written first p.appends;
}

-- a prefix of `relay: ` is a prefix of the line
pub line_begins : (old new : Option (List ℕ)) (fault : List ℕ) → AppendsPrefix old new (codes "relay: ") → AppendsPrefix old new (fault_line fault)
line_begins old new fault p = prefix_first old new (codes "relay: ") (fault ++ 10 ∷ []) p

-- so is `relay: ` with a prefix of the fault
pub line_goes_on : (old mid new : Option (List ℕ)) (fault : List ℕ) → Appends old mid (codes "relay: ") → AppendsPrefix mid new fault → AppendsPrefix old new (fault_line fault)
line_goes_on old mid new fault first p = prefix_next old mid new (codes "relay: ") (fault ++ 10 ∷ []) first (prefix_first mid new fault (10 ∷ []) p)

-- so are these two with a prefix of the line feed
pub line_ends : (old mid next new : Option (List ℕ)) (fault : List ℕ) → Appends old mid (codes "relay: ") → Appends mid next fault → AppendsPrefix next new (10 ∷ [])
    → AppendsPrefix old new (fault_line fault)
line_ends old mid next new fault first second p = prefix_next old mid new (codes "relay: ") (fault ++ 10 ∷ []) first (prefix_next mid next new fault (10 ∷ []) second p)

pub ruleset line_parts = (line_begins, line_goes_on, line_ends)

-- three texts that are written one after another
pub three_appended : (old mid next new : Option (List ℕ)) (first second third : List ℕ) → Appends old mid first → Appends mid next second → Appends next new third
    → Appends old new (first ++ (second ++ third))
three_appended old mid next new first second third a b c = Appends-trans old mid new first (second ++ third) a (Appends-trans mid next new second third b c)
