-- Texts in HTML and XML: between tags, and in quotes as the value of an attribute.
use Rattle.std.specs.Prelude.{ℕ, Bool, not, ◌||◌, ◌==◌, nat_le, List, [], ◌∷◌, ◌++◌, codes, Option, Some, None}
use Rattle.std.specs.Prelude.{unwrap_or, option_map, option_and_then, if◌then◌else◌}
use Rattle.std.specs.List.{flat_map}
use Rattle.std.specs.Char.{encode_utf8}
use Rattle.std.specs.Int.{is_in_range}
use Rattle.std.specs.Str.{chars, bytes_eq}
use Rattle.screen_formats.specs.declared.escape.Markup.{Markup}
use Rattle.screen_formats.specs.declared.escape.Markup.TheVariants.{Html, Xml}

-- ---- escaping

-- the characters that a text of HTML can hold, all but NUL, and of XML (XML 1.0, production 2: Char)
abbrev pub can_hold : Markup → ℕ → Bool
can_hold Html c = not (c == 0)
can_hold Xml c =
    c == 9 || c == 10 || c == 13 || is_in_range 0x20 0xD7FF c || is_in_range 0xE000 0xFFFD c || nat_le 0x1_0000 c

-- U+FFFD replaces a character that the markup can't hold
abbrev pub held : Markup → ℕ → ℕ
held markup c = if can_hold markup c then c else 0xFFFD

abbrev pub held_text : Markup → List ℕ → List ℕ
held_text markup text = flat_map (λ c. encode_utf8 (held markup c)) (chars text)

-- the character reference of `&`, `<`, `>`, `"` and `'`, and of CR, which a parser would take for a line feed
abbrev pub entity_of : ℕ → Option (List ℕ)
entity_of c =
    if c == 38 then Some (codes "&amp;") else
    (if c == 60 then Some (codes "&lt;") else
    (if c == 62 then Some (codes "&gt;") else
    (if c == 34 then Some (codes "&quot;") else
    (if c == 39 then Some (codes "&#39;") else
    (if c == 13 then Some (codes "&#13;") else None)))))

abbrev pub escaped_char : ℕ → List ℕ
escaped_char c = unwrap_or (entity_of c) (encode_utf8 c)

abbrev pub escaped : Markup → List ℕ → List ℕ
escaped markup text = flat_map (λ c. escaped_char (held markup c)) (chars text)

-- ---- unescaping

-- the character of a reference, by the name between `&` and `;`
abbrev pub named : List ℕ → Option ℕ
named name =
    if bytes_eq name (codes "amp") then Some 38 else
    (if bytes_eq name (codes "lt") then Some 60 else
    (if bytes_eq name (codes "gt") then Some 62 else
    (if bytes_eq name (codes "quot") then Some 34 else
    (if bytes_eq name (codes "#39") then Some 39 else
    (if bytes_eq name (codes "#13") then Some 13 else None)))))

-- a byte that ends a text: the start or end of a tag, or a quote, which ends a value
abbrev pub is_markup : ℕ → Bool
is_markup b = b == 60 || b == 62 || b == 34 || b == 39

abbrev pub put_before : List ℕ → Option (List ℕ) → Option (List ℕ)
put_before prefix text = option_map (λ t. prefix ++ t) text

-- the unescaped text, after the name of a reference so far or outside of a reference
abbrev pub read_after : Option (List ℕ) → List ℕ → Option (List ℕ)
read_after None [] = Some []
read_after (Some name) [] = None
read_after None (b ∷ text) =
    if b == 38 then read_after (Some []) text else
    (if is_markup b then None else put_before (b ∷ []) (read_after None text))
read_after (Some name) (b ∷ text) =
    if b == 59 then option_and_then (λ c. put_before (c ∷ []) (read_after None text)) (named name)
    else read_after (Some (name ++ b ∷ [])) text

-- the unescaped text; `None` where the text holds the start or end of a tag, a quote, or a reference of another name
abbrev pub unescaped : List ℕ → Option (List ℕ)
unescaped text = read_after None text
