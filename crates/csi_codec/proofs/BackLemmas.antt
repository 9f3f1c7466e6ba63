-- Values that the tables of whole lists give read back.
use Rattle.std.proofs.Common.{◌≡◌, ℕ, zero, suc, ◌≤◌, ℤ, pos, negsuc, eqb, leb, Bool, true, false, cond, ◌||◌, List, [], ◌∷◌, Option, Some, None, option_map, option_and_then, arith, refl, sym, ap, ◌∙◌, subst}
use Rattle.std.specs.Option.{option_map_or, option_or, option_zip}
use Rattle.std.proofs.lemmas.Bool.{cond_both, eqb-true, leb-true, le-leb, false≢true}
use Rattle.std.proofs.Math.Dec.{eqb-suc-zero}
use Rattle.csi_codec.specs.declared.parameters.CsiParam.{CsiParam}
use Rattle.csi_codec.specs.declared.parameters.CsiParam.TheVariants.{Integer, P}
use Rattle.csi_codec.specs.declared.cursors.Cursor.{Cursor}
use Rattle.csi_codec.specs.declared.edits.Edit.{Edit}
use Rattle.csi_codec.specs.Parameters.{word_max, or_default, position, one_slot, two_slots, count, coordinate_pair, Lines, read_by, number_tokens, count_tokens, pair_tokens}
use Rattle.csi_codec.specs.Slots.{Slots, nothing, counted, placed, paired, named, extent, spaced, slots_tokens, IsCoordinate}
use Rattle.csi_codec.specs.Cursors.{cursor_reading}
use Rattle.csi_codec.specs.Edits.{edit_reading}
use Rattle.csi_codec.specs.Devices.{device_reading}
use Rattle.csi_codec.specs.Laws.{begins_with_question}
use Rattle.csi_codec.specs.Actions.{Action, cursor, edit, device, unspecified, single_reading, standard_reading, other_reading, csi_reading}

-- ---- Positions and counts

same_coordinate : (d n : ℕ) → Some d ≡ Some n → IsCoordinate d → IsCoordinate n
same_coordinate d n e h = let q : d ≡ n = cc in subst (λ (k : ℕ). IsCoordinate k) q h

not_zero : (m : ℕ) → eqb m 0 ≡ false → 1 ≤ m
not_zero zero r = absurd (false≢true (sym r))
not_zero (suc m) r = omega arith

after_default : (d m n : ℕ) (c : Bool) → eqb m 0 ≡ c → leb m word_max ≡ true → Some (cond c d m) ≡ Some n → IsCoordinate d → IsCoordinate n
after_default d m n true q p e h = same_coordinate d n e h
after_default d m n false q p e h = same_coordinate m n e (not_zero m q, leb-true m word_max p)

chosen_coordinate : (d m n : ℕ) (b : Bool) → leb m word_max ≡ b → option_map (or_default d) (cond b (Some m) None) ≡ Some n → IsCoordinate d → IsCoordinate n
chosen_coordinate d m n true p e h = after_default d m n (eqb m 0) refl p e h
chosen_coordinate d m n false p e h = cc

coordinate_valid : (d : ℕ) (slot : Option ℤ) (n : ℕ) → IsCoordinate d → position d slot ≡ Some n → IsCoordinate n
coordinate_valid d None n h e = same_coordinate d n e h
coordinate_valid d (Some (negsuc m)) n h e = cc
coordinate_valid d (Some (pos m)) n h e = chosen_coordinate d m n (leb m word_max) refl e h

pub count_valid : (ts : List CsiParam) (n : ℕ) → count ts ≡ Some n → IsCoordinate n
count_valid ts n e = by (one_slot ts) e
  where
    by : (slot : Option (Option ℤ)) → option_and_then (position 1) slot ≡ Some n → IsCoordinate n
    by None q = cc
    by (Some s) q = coordinate_valid 1 s n (omega arith, omega arith) q

pub coordinate_number : (d n : ℕ) → IsCoordinate n → position d (Some (pos n)) ≡ Some n
coordinate_number d zero h = absurd (omega (arith, h.0))
coordinate_number d (suc n) h = rw (le-leb (suc n) word_max h.1, eqb-suc-zero n) refl

-- ---- Lists that don't begin with `?`, under final bytes of single actions

pub standard_is : (truncated : Bool) (final : ℕ) (ts : List CsiParam) → begins_with_question ts ≡ false → other_reading truncated final ts ≡ standard_reading truncated final ts
standard_is truncated final [] h = refl
standard_is truncated final (Integer z ∷ ts) h = refl
standard_is truncated final (P b ∷ ts) h = rw h refl

-- final bytes under which the whole list is one action
pub record IsSingle (final : ℕ) : Type 0 where
  pub other : eqb final 109 ≡ false
  pub no_modes : (eqb final 104 || eqb final 108) ≡ false

pub single_back : (truncated : Bool) (final : ℕ) (ts : List CsiParam) (a : Action) → IsSingle final → begins_with_question ts ≡ false → single_reading final ts ≡ Some a → csi_reading ts truncated final ≡ a ∷ []
unfolding csi_reading
single_back truncated final ts a l p e =
    rw l.other (standard_is truncated final ts p
    ∙ rw l.no_modes (ap (λ found. option_map_or (λ known. known ∷ []) found (unspecified ts truncated final ∷ [])) e))

-- ---- Lines of a table

-- Q holds of each value that a line of the table gives
abbrev pub EachLine : {A : Type 0} → (A → Type 0) → Lines A → Type 0
EachLine Q [] = Unit {0}
EachLine Q (line ∷ lines) = ((ts : List CsiParam) (x : _) → line.1 ts ≡ Some x → Q x) × EachLine Q lines

module _ {A : Type 0} (Q : A → Type 0) where
  pub read_by-each : (lines : Lines A) (final : ℕ) (ts : List CsiParam) (x : A) → EachLine Q lines → read_by lines final ts ≡ Some x → Q x
  read_by-each [] final ts x h e = cc
  read_by-each (line ∷ lines) final ts x h e =
      cond_both (eqb line.0 final) (line.1 ts) (read_by lines final ts) (λ found. found ≡ Some x → Q x) (λ p. h.0 ts x) (λ p. read_by-each lines final ts x h.1) e

  -- a value made from the value of a slot
  pub made : {B : Type 0} (make : B → A) (R : B → Type 0) (found : Option B) → ((y : B) → found ≡ Some y → R y) → ((y : B) → R y → Q (make y)) → (x : A) → option_map make found ≡ Some x → Q x
  made make R None valid h x e = cc
  made make R (Some y) valid h x e = let q : make y ≡ x = cc in subst Q q (h y (valid y refl))

pub count_back : (n : ℕ) → IsCoordinate n → count (number_tokens n) ≡ Some n
count_back n h = coordinate_number 1 n h

pub count_tokens_back : (n : ℕ) → IsCoordinate n → count (count_tokens n) ≡ Some n
count_tokens_back n h = by (eqb n 1) refl
  where
    by : (b : Bool) → eqb n 1 ≡ b → count (cond b [] (number_tokens n)) ≡ Some n
    by true e = ap Some (sym (eqb-true n 1 e))
    by false e = count_back n h

pub slots_plain : (s : Slots) → begins_with_question (slots_tokens s) ≡ false
slots_plain nothing = refl
slots_plain (counted n) = cond_both (eqb n 1) [] (number_tokens n) (λ ts. begins_with_question ts ≡ false) (λ e. refl) (λ e. refl)
slots_plain (placed n) = refl
slots_plain (paired a b) = refl
slots_plain (named n) = refl
slots_plain (extent n) = cond_both (eqb n 0) [] (number_tokens n) (λ ts. begins_with_question ts ≡ false) (λ e. refl) (λ e. refl)
slots_plain (spaced n) = refl

-- ---- Cursor sequences

pub cursor_found : (final : ℕ) (ts : List CsiParam) (c : Cursor) → cursor_reading final ts ≡ Some c → single_reading final ts ≡ Some (cursor c)
cursor_found final ts c e = ap (λ found. option_or (option_map cursor found) (option_or (option_map edit (edit_reading final ts)) (option_map device (device_reading final ts)))) e

pub edit_found : (final : ℕ) (ts : List CsiParam) (e : Edit) → cursor_reading final ts ≡ None → edit_reading final ts ≡ Some e → single_reading final ts ≡ Some (edit e)
edit_found final ts e p q = ap (λ found. option_or (option_map cursor found) (option_or (option_map edit (edit_reading final ts)) (option_map device (device_reading final ts)))) p
    ∙ ap (λ found. option_or (option_map edit found) (option_map device (device_reading final ts))) q

-- two positions
pub pair_back : (d a b : ℕ) → IsCoordinate a → IsCoordinate b → coordinate_pair d (pair_tokens a b) ≡ Some (a, b)
pair_back d a b h k = ap (λ x. option_zip x (position d (Some (pos b)))) (coordinate_number 1 a h) ∙ ap (λ y. option_zip (Some a) y) (coordinate_number d b k)

pub pair_valid : (d : ℕ) (ts : List CsiParam) (m : ℕ × ℕ) → IsCoordinate d → coordinate_pair d ts ≡ Some m → IsCoordinate m.0 × IsCoordinate m.1
pair_valid d ts m h e = by (two_slots ts) e
  where
    both : (x y : Option ℕ) → ((n : ℕ) → x ≡ Some n → IsCoordinate n) → ((n : ℕ) → y ≡ Some n → IsCoordinate n) → option_zip x y ≡ Some m → IsCoordinate m.0 × IsCoordinate m.1
    both None y p q r = cc
    both (Some a) None p q r = cc
    both (Some a) (Some b) p q r = let s : (a, b) ≡ m = cc in (subst (λ (k : ℕ × ℕ). IsCoordinate k.0) s (p a refl), subst (λ (k : ℕ × ℕ). IsCoordinate k.1) s (q b refl))

    by : (slots : Option (Option ℤ × Option ℤ)) → option_and_then (λ s. option_zip (position 1 s.0) (position d s.1)) slots ≡ Some m → IsCoordinate m.0 × IsCoordinate m.1
    by None q = cc
    by (Some s) q = both (position 1 s.0) (position d s.1) (λ n. coordinate_valid 1 s.0 n (omega arith, omega arith)) (λ n. coordinate_valid d s.1 n h) q
