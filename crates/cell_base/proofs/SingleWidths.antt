-- The width of a text of one character.
use Rattle.std.proofs.Common.{◌≡◌, ℕ, ◌+◌, ◌<◌, true, false, [], ◌∷◌, unwrap_or, ap, ◌∙◌, zero-add, arith}
use Rattle.std.specs.Prelude.{nat_lt}
use Rattle.std.proofs.lemmas.Bool.{lt-ltb}
use Rattle.std.proofs.lemmas.Bool.Decides.{nat_tests}
use Rattle.unicode_width.specs.Width.{plain, alone, char_width, past_emoji, step, str_width}

high_step : (c : ℕ) → nat_lt 0xA0 c ≡ true → step false c (0, plain) ≡ (0 + unwrap_or (char_width false c) 0, (alone false c).1)
unfolding step past_emoji char_width
high_step c h = grind (arith, nat_tests)

-- it is that of the character
pub single_width : (c : ℕ) → 0xA0 < c → str_width false (c ∷ []) ≡ unwrap_or (char_width false c) 0
unfolding str_width
single_width c h = ap (λ r. r.0) (high_step c (lt-ltb 0xA0 c h)) ∙ zero-add (unwrap_or (char_width false c) 0)
