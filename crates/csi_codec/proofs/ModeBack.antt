-- Each mode that can be written reads back from its encoding.
use Rattle.std.proofs.Common.{◌≡◌, ℕ, ℤ, pos, negsuc, eqb, leb, Bool, true, false, cond, ◌||◌, [], ◌∷◌, Option, Some, None, option_and_then, refl, ap, ◌∙◌}
use Rattle.std.specs.Prelude.{is_some}
use Rattle.std.specs.Option.{option_map_or}
use Rattle.std.proofs.lemmas.Bool.{le-leb}
use Rattle.csi_codec.specs.declared.modes.DecPrivateModeCode.{DecPrivateModeCode}
use Rattle.csi_codec.specs.declared.modes.DecPrivateModeCode.TheVariants as dec
use Rattle.csi_codec.specs.declared.modes.TerminalModeCode.{TerminalModeCode}
use Rattle.csi_codec.specs.declared.modes.TerminalModeCode.TheVariants as ansi
use Rattle.csi_codec.specs.declared.modes.DecPrivateMode.{DecPrivateMode}
use Rattle.csi_codec.specs.declared.modes.DecPrivateMode.TheVariants as private
use Rattle.csi_codec.specs.declared.modes.TerminalMode.{TerminalMode}
use Rattle.csi_codec.specs.declared.modes.TerminalMode.TheVariants as standard
use Rattle.csi_codec.specs.declared.modes.Mode.{Mode}
use Rattle.csi_codec.specs.declared.modes.Mode.TheVariants as does
use Rattle.csi_codec.specs.Parameters.{number_tokens, private_tokens}
use Rattle.csi_codec.specs.Modes.{dec_private_mode_number, dec_mode_of, dec_mode_code, terminal_mode_number, ansi_mode_of, ansi_mode_code, private_step, standard_step, private_mode_reading, mode_reading, mode_spelling}
use Rattle.csi_codec.specs.Actions.{mode, mode_group, groups, csi_reading}
use Rattle.csi_codec.specs.Laws.{ReadsBack}
use Rattle.csi_codec.specs.Writable.{IsWritablePrivateMode, IsWritableStandardMode, IsWritableMode}

-- ---- Numbers and names

dec_named : (known : DecPrivateModeCode) → dec_mode_of (dec_private_mode_number known) ≡ private.Code known
dec_named dec.ApplicationCursorKeys = refl
dec_named _ = refl

dec_small : (known : DecPrivateModeCode) → leb (dec_private_mode_number known) 65535 ≡ true
dec_small dec.ApplicationCursorKeys = refl
dec_small _ = refl

private_named : (m : DecPrivateMode) → IsWritablePrivateMode m → dec_mode_of (dec_mode_code m) ≡ m
private_named (private.Code known) h = dec_named known
private_named (private.Unspecified n) h = ap (λ found. option_map_or private.Code found (private.Unspecified n)) h.1

pub private_within : (m : DecPrivateMode) → IsWritablePrivateMode m → leb (dec_mode_code m) 65535 ≡ true
private_within (private.Code known) h = dec_small known
private_within (private.Unspecified n) h = le-leb n 65535 h.0

ansi_named : (known : TerminalModeCode) → ansi_mode_of (terminal_mode_number known) ≡ standard.Code known
ansi_named ansi.KeyboardAction = refl
ansi_named _ = refl

ansi_small : (known : TerminalModeCode) → leb (terminal_mode_number known) 65535 ≡ true
ansi_small ansi.KeyboardAction = refl
ansi_small _ = refl

standard_named : (m : TerminalMode) → IsWritableStandardMode m → ansi_mode_of (ansi_mode_code m) ≡ m
standard_named (standard.Code known) h = ansi_named known
standard_named (standard.Unspecified n) h = ap (λ found. option_map_or standard.Code found (standard.Unspecified n)) h.1

pub standard_within : (m : TerminalMode) → IsWritableStandardMode m → leb (ansi_mode_code m) 65535 ≡ true
standard_within (standard.Code known) h = ansi_small known
standard_within (standard.Unspecified n) h = le-leb n 65535 h.0

module _ (truncated : Bool) where
  abbrev ModeBack : Mode → Type 0
  ModeBack m = ReadsBack truncated (mode m)

  -- ---- Private modes

  private_back : (final n : ℕ) (m : Mode) → eqb final 109 ≡ false → private_mode_reading final (pos n) ≡ Some m → csi_reading (private_tokens n) truncated final ≡ mode m ∷ []
  unfolding csi_reading groups mode_group
  private_back final n m q e = rw (q, e) refl

  private_read : (final n : ℕ) (m : Mode) → leb n 65535 ≡ true → private_step final (dec_mode_of n) ≡ Some m → private_mode_reading final (pos n) ≡ Some m
  unfolding private_mode_reading
  private_read final n m h e = ap (λ b. option_and_then (λ k. private_step final (dec_mode_of k)) (cond b (Some n) None)) h ∙ e

  private_value : (final : ℕ) (m : DecPrivateMode) (done : Mode) → eqb final 109 ≡ false → IsWritablePrivateMode m → private_step final m ≡ Some done
      → csi_reading (private_tokens (dec_mode_code m)) truncated final ≡ mode done ∷ []
  private_value final m done q w e =
      private_back final (dec_mode_code m) done q (private_read final (dec_mode_code m) done (private_within m w) (ap (private_step final) (private_named m w) ∙ e))

  -- ---- Modes of the standard

  standard_back : (final n : ℕ) (m : Mode) → eqb final 109 ≡ false → (eqb final 104 || eqb final 108) ≡ true → mode_reading final (pos n) ≡ Some m → csi_reading (number_tokens n) truncated final ≡ mode m ∷ []
  unfolding csi_reading groups mode_group
  standard_back final n m q r e = rw (q, r, e) refl

  standard_read : (final n : ℕ) (m : Mode) → leb n 65535 ≡ true → standard_step final (ansi_mode_of n) ≡ Some m → mode_reading final (pos n) ≡ Some m
  unfolding mode_reading
  standard_read final n m h e = ap (λ b. option_and_then (λ k. standard_step final (ansi_mode_of k)) (cond b (Some n) None)) h ∙ e

  standard_value : (final : ℕ) (m : TerminalMode) (done : Mode) → eqb final 109 ≡ false → (eqb final 104 || eqb final 108) ≡ true → IsWritableStandardMode m → standard_step final m ≡ Some done
      → csi_reading (number_tokens (ansi_mode_code m)) truncated final ≡ mode done ∷ []
  standard_value final m done q r w e =
      standard_back final (ansi_mode_code m) done q r (standard_read final (ansi_mode_code m) done (standard_within m w) (ap (standard_step final) (standard_named m w) ∙ e))

  pub mode_back : (m : Mode) → IsWritableMode m → ModeBack m
  unfolding mode_spelling
  mode_back (does.SetDecPrivateMode m) h = private_value 104 m (does.SetDecPrivateMode m) refl h refl
  mode_back (does.ResetDecPrivateMode m) h = private_value 108 m (does.ResetDecPrivateMode m) refl h refl
  mode_back (does.SaveDecPrivateMode m) h = private_value 115 m (does.SaveDecPrivateMode m) refl h refl
  mode_back (does.RestoreDecPrivateMode m) h = private_value 114 m (does.RestoreDecPrivateMode m) refl h refl
  mode_back (does.SetMode m) h = standard_value 104 m (does.SetMode m) refl refl h refl
  mode_back (does.ResetMode m) h = standard_value 108 m (does.ResetMode m) refl refl h refl

-- ---- Under h and l a number that names no private mode names none of the standard

steps_some : (n : ℕ) (a b : Bool) (remaining : Option Mode) → (a || b) ≡ true
    → cond a (Some (does.SetDecPrivateMode (dec_mode_of n))) (cond b (Some (does.ResetDecPrivateMode (dec_mode_of n))) remaining) ≡ None → leb n 65535 ≡ false
steps_some n true b remaining h e = cc
steps_some n false true remaining h e = cc
steps_some n false false remaining h e = cc

neither_within : (final n : ℕ) (b : Bool) → leb n 65535 ≡ b → (eqb final 104 || eqb final 108) ≡ true
    → option_and_then (λ k. private_step final (dec_mode_of k)) (cond b (Some n) None) ≡ None
    → option_and_then (λ k. standard_step final (ansi_mode_of k)) (cond b (Some n) None) ≡ None
neither_within final n false p h e = refl
neither_within final n true p h e = let q : leb n 65535 ≡ false = steps_some n (eqb final 104) (eqb final 108) _ h e in cc

pub neither_mode : (final : ℕ) (z : ℤ) → (eqb final 104 || eqb final 108) ≡ true → private_mode_reading final z ≡ None → mode_reading final z ≡ None
unfolding private_mode_reading mode_reading
neither_mode final (negsuc k) h e = refl
neither_mode final (pos n) h e = neither_within final n (leb n 65535) refl h e

-- a private mode is read only under the final bytes h, l, s and r
some_step : (m : DecPrivateMode) (a b c d : Bool)
    → is_some (cond a (Some (does.SetDecPrivateMode m)) (cond b (Some (does.ResetDecPrivateMode m)) (cond c (Some (does.SaveDecPrivateMode m)) (cond d (Some (does.RestoreDecPrivateMode m)) None)))) ≡ true
    → ((a || b) || (c || d)) ≡ true
some_step m true b c d h = refl
some_step m false true c d h = refl
some_step m false false true d h = refl
some_step m false false false true h = refl
some_step m false false false false h = cc

some_within : (final n : ℕ) (b : Bool) → is_some (option_and_then (λ k. private_step final (dec_mode_of k)) (cond b (Some n) None)) ≡ true
    → ((eqb final 104 || eqb final 108) || (eqb final 115 || eqb final 114)) ≡ true
some_within final n true h = some_step (dec_mode_of n) (eqb final 104) (eqb final 108) (eqb final 115) (eqb final 114) h
some_within final n false h = cc

pub some_private : (final : ℕ) (z : ℤ) → is_some (private_mode_reading final z) ≡ true → ((eqb final 104 || eqb final 108) || (eqb final 115 || eqb final 114)) ≡ true
unfolding private_mode_reading
some_private final (negsuc k) h = cc
some_private final (pos n) h = some_within final n (leb n 65535) h
