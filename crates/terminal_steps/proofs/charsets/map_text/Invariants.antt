use Rattle.std.proofs.Common.{◌≡◌, ◌++◌, map}
use Rattle.std.specs.Prelude.{encode_utf8_all}
use Rattle.std.specs.Str.{IsUtf8, chars}
use Rattle.std.specs.Str.Iter.{chars_rest}
use Rattle.std.specs.String.{string_bytes}
use Rattle.terminal_table.specs.Charsets.{character_in}
use Rattle.terminal_steps.specs.ProfileView.{charset_in}
use Rattle.terminal_steps.proofs.charsets.map_text.Given as goal

-- with the characters that are left, the text so far becomes the whole
abbrev pub invariant-loop-character : goal.invariant-loop-character
invariant-loop-character l =
    IsUtf8 (chars_rest l.character-iterator)
    × (string_bytes l.mapped ++ encode_utf8_all (map (character_in (charset_in l.charset)) (chars (chars_rest l.character-iterator)))
    ≡ encode_utf8_all (map (character_in (charset_in l.charset)) (chars l.text)))
