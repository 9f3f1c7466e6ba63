-- Documents of HTML and XML as tags and texts.
use Rattle.std.specs.Prelude.{ℕ, ◌==◌, List, [], ◌∷◌, ◌++◌, codes, length, if◌then◌else◌}
use Rattle.std.specs.List.{flat_map}
use Rattle.screen_formats.specs.Escape.{escaped}
use Rattle.screen_formats.specs.declared.escape.Markup.{Markup}

-- a name and a value
abbrev pub Attribute : Type 0
Attribute = List ℕ × List ℕ

-- A tag that opens an element has a name and attributes, one that closes it has its name, and between tags are texts.
pub data Token : Type 0 where
  Opening : List ℕ → List Attribute → Token
  Closing : List ℕ → Token
  Words : List ℕ → Token

-- an attribute of an empty value is left out
abbrev pub attribute_text : Markup → Attribute → List ℕ
attribute_text markup a = if length a.1 == 0 then [] else 32 ∷ a.0 ++ codes "=\"" ++ escaped markup a.1 ++ 34 ∷ []

abbrev pub token_text : Markup → Token → List ℕ
token_text markup (Opening name attributes) = 60 ∷ name ++ flat_map (attribute_text markup) attributes ++ 62 ∷ []
token_text markup (Closing name) = 60 ∷ 47 ∷ name ++ 62 ∷ []
token_text markup (Words text) = escaped markup text

unfoldable pub tokens_text : Markup → List Token → List ℕ
tokens_text markup tokens = flat_map (token_text markup) tokens

-- an element that holds nothing but a text
abbrev pub element : List ℕ → List Attribute → List ℕ → List Token
element name attributes text = Opening name attributes ∷ Words text ∷ Closing name ∷ []
