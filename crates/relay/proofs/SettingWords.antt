-- The forms of a word of the command line.
use Rattle.std.proofs.Common.{◌≡◌, ◌∙◌, ◌==◌, ◌+◌, cond, ℕ, suc, Bool, true, false, [], ◌∷◌, ◌++◌, drop, take, Option, Some, None, refl, ap, arith, subst, sym, codes}
use Rattle.std.specs.Prelude.{slice_get}
use Rattle.std.specs.List.{after_first, before_first, position_or_len}
use Rattle.std.specs.Str.{bytes_eq, chars}
use Rattle.std.proofs.lemmas.Bool.{eqb-true}
use Rattle.std.proofs.lemmas.Slice.Eq.{bytes_eq-Decides}
use Rattle.clap.specs.Lexer.{has_byte, long_of, short_of}
use Rattle.clap.specs.Walk.{Text, arg_by_long}
use Rattle.relay.specs.CommandLine.{command_line}
use Rattle.relay.proofs.SettingWalk.{Flag, LiveFlag, ShowFlag, Valued, Columns, Rows, Profiles, Bytes, flag_name, line, name_for}

-- the part of a word after the name of an option
abbrev pub after_name : Option Text → Text
after_name None = []
after_name (Some text) = codes "=" ++ text

-- `--`; `--name` or `--name=text`; `-` with a character; `-` with bytes that begin none; or a plain word
pub data Lookup (word : Text) : Type 0 where
  dashes : word ≡ codes "--" → Lookup word
  long : (name : Text) → (text : Option Text) → bytes_eq word (codes "--") ≡ false → long_of word ≡ Some (name, text) → word ≡ codes "--" ++ (name ++ after_name text) → Lookup word
  short : (byte : ℕ) → (flags : Text) → (x : ℕ) → bytes_eq word (codes "--") ≡ false → long_of word ≡ None → short_of word ≡ Some (byte ∷ flags)
      → slice_get (chars (byte ∷ flags)) 0 ≡ Some x → Lookup word
  odd : (byte : ℕ) → (flags : Text) → bytes_eq word (codes "--") ≡ false → long_of word ≡ None → short_of word ≡ Some (byte ∷ flags)
      → slice_get (chars (byte ∷ flags)) 0 ≡ None → Lookup word
  plain : bytes_eq word (codes "--") ≡ false → long_of word ≡ None → short_of word ≡ None → Lookup word

-- the byte is `=`
abbrev is_sign : ℕ → Bool
is_sign byte = byte == 61

abbrev text_after : Text → Option Text
text_after word = cond (has_byte 61 word) (Some (after_first is_sign word)) None

-- a word is its name, and then the part after the name
parts : (word : Text) → word ≡ before_first is_sign word ++ after_name (text_after word)
parts [] = refl
parts (byte ∷ rest) = by_test (is_sign byte) refl (parts rest)
  where
    by_test : (t : Bool) → is_sign byte ≡ t → rest ≡ before_first is_sign rest ++ after_name (text_after rest)
        → byte ∷ rest ≡ before_first is_sign (byte ∷ rest) ++ after_name (text_after (byte ∷ rest))
    by_test true e more = rw e (ap (λ b. b ∷ rest) (eqb-true byte 61 e))
    by_test false e more =
        let n = position_or_len is_sign rest in
        let one : suc n ≡ 1 + n = omega arith in
        let two : suc (n + 1) ≡ 1 + n + 1 = omega arith in
        let prefix : byte ∷ rest ≡ take (suc n) (byte ∷ rest) ++ after_name (cond (has_byte 61 rest) (Some (drop (suc (n + 1)) (byte ∷ rest))) None) = ap (λ r. byte ∷ r) more in
        rw e (prefix ∙ (λ i. take (one i) (byte ∷ rest) ++ after_name (cond (has_byte 61 rest) (Some (drop (two i) (byte ∷ rest))) None)))

lookup_long : (rest : Text) → Lookup (45 ∷ 45 ∷ rest)
lookup_long [] = dashes refl
lookup_long (byte ∷ rest) = long (before_first is_sign (byte ∷ rest)) (text_after (byte ∷ rest)) refl refl (ap (λ r. 45 ∷ 45 ∷ r) (parts (byte ∷ rest)))

lookup_short : (byte : ℕ) (flags : Text) → (byte == 45) ≡ false → Lookup (45 ∷ byte ∷ flags)
lookup_short byte flags e = by_first (slice_get (chars (byte ∷ flags)) 0) refl
  where
    by_first : (first : Option ℕ) → slice_get (chars (byte ∷ flags)) 0 ≡ first → Lookup (45 ∷ byte ∷ flags)
    by_first None is = odd byte flags (rw e refl) (rw e refl) (rw e refl) is
    by_first (Some x) is = short byte flags x (rw e refl) (rw e refl) (rw e refl) is

lookup_flag : (rest : Text) → Lookup (45 ∷ rest)
lookup_flag [] = plain refl refl refl
lookup_flag (byte ∷ rest) = by_test (byte == 45) refl
  where
    by_test : (t : Bool) → (byte == 45) ≡ t → Lookup (45 ∷ byte ∷ rest)
    by_test true e = subst (λ b. Lookup (45 ∷ b ∷ rest)) (sym (eqb-true byte 45 e)) (lookup_long rest)
    by_test false e = lookup_short byte rest e

pub lookup : (word : Text) → Lookup word
lookup [] = plain refl refl refl
lookup (byte ∷ rest) = by_test (byte == 45) refl
  where
    by_test : (t : Bool) → (byte == 45) ≡ t → Lookup (byte ∷ rest)
    by_test true e = subst (λ b. Lookup (b ∷ rest)) (sym (eqb-true byte 45 e)) (lookup_flag rest)
    by_test false e = plain (rw e refl) (rw e refl) (rw e refl)

-- the names that the command line knows
pub data Named (name : Text) : Type 0 where
  valued : (k : Valued) → name ≡ name_for k → Named name
  flag : (k : Flag) → name ≡ flag_name k → Named name
  help : name ≡ codes "help" → Named name
  version : name ≡ codes "version" → Named name
  unknown : arg_by_long line.rules name ≡ None → Named name

-- whether the name is this one
abbrev Is : Text → Text → Bool → Type 0
Is known name t = bytes_eq known name ≡ t

none_known : (name : Text) → Is (codes "width") name false → Is (codes "height") name false → Is (codes "terminal") name false → Is (codes "every") name false
    → Is (codes "show") name false → Is (codes "live") name false → Is (codes "help") name false → Is (codes "version") name false → arg_by_long line.rules name ≡ None
unfolding command_line
none_known name w h t e s l a v = rw (w, h, t, e, s, l, a, v) refl

same : (known name : Text) → Is known name true → name ≡ known
same known name e = sym ((bytes_eq-Decides known name).0 e)

pub named : (name : Text) → Named name
named name = by_tests (bytes_eq (codes "width") name) (bytes_eq (codes "height") name) (bytes_eq (codes "terminal") name) (bytes_eq (codes "every") name)
    (bytes_eq (codes "show") name) (bytes_eq (codes "live") name) (bytes_eq (codes "help") name) (bytes_eq (codes "version") name) refl refl refl refl refl refl refl refl
  where
    by_tests : (w h t e s l a v : Bool) → Is (codes "width") name w → Is (codes "height") name h → Is (codes "terminal") name t → Is (codes "every") name e
        → Is (codes "show") name s → Is (codes "live") name l → Is (codes "help") name a → Is (codes "version") name v → Named name
    by_tests true h t e s l a v is1 is2 is3 is4 is5 is6 is7 is8 = valued Columns (same (codes "width") name is1)
    by_tests false true t e s l a v is1 is2 is3 is4 is5 is6 is7 is8 = valued Rows (same (codes "height") name is2)
    by_tests false false true e s l a v is1 is2 is3 is4 is5 is6 is7 is8 = valued Profiles (same (codes "terminal") name is3)
    by_tests false false false true s l a v is1 is2 is3 is4 is5 is6 is7 is8 = valued Bytes (same (codes "every") name is4)
    by_tests false false false false true l a v is1 is2 is3 is4 is5 is6 is7 is8 = flag ShowFlag (same (codes "show") name is5)
    by_tests false false false false false true a v is1 is2 is3 is4 is5 is6 is7 is8 = flag LiveFlag (same (codes "live") name is6)
    by_tests false false false false false false true v is1 is2 is3 is4 is5 is6 is7 is8 = help (same (codes "help") name is7)
    by_tests false false false false false false false true is1 is2 is3 is4 is5 is6 is7 is8 = version (same (codes "version") name is8)
    by_tests false false false false false false false false is1 is2 is3 is4 is5 is6 is7 is8 = unknown (none_known name is1 is2 is3 is4 is5 is6 is7 is8)
