use Rattle.std.proofs.Common.{ℕ, List, ◌++◌, ◌∙◌, map, ap, sym, append-nil, append_assoc}
use Rattle.std.specs.Prelude.{encode_utf8_all}
use Rattle.std.specs.Char.{encode_utf8}
use Rattle.std.specs.String.{string_bytes}
use Rattle.std.specs.Str.{chars}
use Rattle.std.specs.Str.Iter.{chars_rest}
use Rattle.std.proofs.lemmas.Str.{IsUtf8-past_char, chars_past_char}
use Rattle.escape_stream.proofs.JoinLemmas.{no_chars}
use Rattle.terminal_table.specs.Charsets.{character_in}
use Rattle.terminal_steps.specs.ProfileView.{charset_in}
use Rattle.terminal_steps.proofs.charsets.map_text.Goals as goal

pub loop-character-preserved : goal.loop-character-preserved
loop-character-preserved c =
    let held = c.loop-character.invariant in
    let parts = c.in-Some.ensures.steps.0 in
    let f : ℕ → ℕ = character_in (charset_in c.args.charset) in (
      IsUtf8-past_char _ _ c.in-Some.character held.0 parts,
      ap (λ (bytes : List ℕ). bytes ++ encode_utf8_all (map f (chars (chars_rest c.next.new.self)))) (c.in_ok-push.ensures.bytes ∙ ap (λ (n : ℕ). string_bytes c.loop-character.mapped ++ encode_utf8 n) c.character_in.ensures)
          ∙ append_assoc (string_bytes c.loop-character.mapped) (encode_utf8 (f c.in-Some.character)) (encode_utf8_all (map f (chars (chars_rest c.next.new.self))))
          ∙ ap (λ (cs : List ℕ). string_bytes c.loop-character.mapped ++ encode_utf8_all (map f cs)) (sym (chars_past_char _ _ c.in-Some.character held.0 parts))
          ∙ held.1,
    )

pub returns : goal.returns
returns c =
    let f : ℕ → ℕ = character_in (charset_in c.args.charset) in
    sym (append-nil (string_bytes c.loop-character.mapped))
    ∙ ap (λ (cs : List ℕ). string_bytes c.loop-character.mapped ++ encode_utf8_all (map f cs)) (sym (no_chars _ c.in-None.ensures.steps.0.0))
    ∙ c.loop-character.invariant.1
