-- The text that is read of tokens.
use Rattle.std.proofs.Common.{◌≡◌, ℕ, Bool, true, false, List, [], ◌∷◌, ◌++◌, refl, sym, ap, ◌∙◌, subst, append_assoc}
use Rattle.std.specs.Prelude.{◌||◌, ◌==◌, Option, Some, None, unwrap_or, if◌then◌else◌, codes, length}
use Rattle.std.specs.List.{flat_map, list_any}
use Rattle.std.specs.Char.{encode_utf8}
use Rattle.std.specs.Str.{chars}
use Rattle.std.proofs.lemmas.Bool.{eqb-true, or_parts}
use Rattle.std.proofs.lemmas.List.Folds.{list_any-append}
use Rattle.cell_edits.proofs.CellLemmas.{by_test}
use Rattle.screen_formats.specs.Content.{untagged, content, token_content, tokens_content, is_end, AreNamed, IsNamed, AreTagged}
use Rattle.screen_formats.specs.Escape.{entity_of, escaped, escaped_char, held, is_markup, put_before, read_after}
use Rattle.screen_formats.specs.Tokens.{Attribute, Token, Opening, Closing, Words, attribute_text, token_text, tokens_text}
use Rattle.screen_formats.specs.declared.escape.Markup.{Markup}
use Rattle.screen_formats.proofs.EscapeLemmas.{is_special, own_bytes, text_back}

-- ---- an escaped text begins and ends no tag

joined : (test : ℕ → Bool) (xs ys : List ℕ) → list_any test xs ≡ false → list_any test ys ≡ false → list_any test (xs ++ ys) ≡ false
joined test xs ys p q = list_any-append test xs ys ∙ (λ i. p i || q i)

no_markup : (bytes : List ℕ) → list_any is_special bytes ≡ false → list_any is_markup bytes ≡ false
no_markup [] e = refl
no_markup (b ∷ bytes) e =
    let parts = or_parts (is_special b) (list_any is_special bytes) e in
    let plain = or_parts (b == 38) (is_markup b) parts.0 in
    λ i. plain.1 i || no_markup bytes parts.1 i

abbrev IsClosed : ℕ → Type 0
IsClosed c = list_any is_markup (escaped_char c) ≡ false

same_closed : (c d : ℕ) → (c == d) ≡ true → IsClosed d → IsClosed c
same_closed c d e p = subst IsClosed (sym (eqb-true c d e)) p

plain_closed : (c : ℕ) → entity_of c ≡ None → is_special c ≡ false → IsClosed c
plain_closed c none plain = ap (λ e. list_any is_markup (unwrap_or e (encode_utf8 c))) none ∙ no_markup (encode_utf8 c) (own_bytes c plain)

char_closed : (c : ℕ) → IsClosed c
char_closed c =
    by_test (c == 38) (λ e. same_closed c 38 e refl) (λ amp.
    by_test (c == 60) (λ e. same_closed c 60 e refl) (λ lt.
    by_test (c == 62) (λ e. same_closed c 62 e refl) (λ gt.
    by_test (c == 34) (λ e. same_closed c 34 e refl) (λ quot.
    by_test (c == 39) (λ e. same_closed c 39 e refl) (λ apostrophe.
    by_test (c == 13) (λ e. same_closed c 13 e refl) (λ return.
    plain_closed c (rw (amp, lt, gt, quot, apostrophe, return) refl) (rw (amp, lt, gt, quot, apostrophe) refl)))))))

chars_closed : (markup : Markup) (cs : List ℕ) → list_any is_markup (flat_map (λ c. escaped_char (held markup c)) cs) ≡ false
chars_closed markup [] = refl
chars_closed markup (c ∷ cs) = joined is_markup (escaped_char (held markup c)) (flat_map (λ c. escaped_char (held markup c)) cs) (char_closed (held markup c)) (chars_closed markup cs)

text_closed : (markup : Markup) (text : List ℕ) → list_any is_markup (escaped markup text) ≡ false
text_closed markup text = chars_closed markup (chars text)

no_tag : (b : ℕ) → is_markup b ≡ false → ((b == 60) ≡ false) × ((b == 62) ≡ false)
no_tag b e =
    let first = or_parts ((b == 60) || (b == 62) || (b == 34)) (b == 39) e in
    let second = or_parts ((b == 60) || (b == 62)) (b == 34) first.0 in
    or_parts (b == 60) (b == 62) second.0

no_end : (bytes : List ℕ) → list_any is_markup bytes ≡ false → list_any is_end bytes ≡ false
no_end [] e = refl
no_end (b ∷ bytes) e =
    let parts = or_parts (is_markup b) (list_any is_markup bytes) e in
    λ i. (no_tag b parts.0).1 i || no_end bytes parts.1 i

-- ---- tags are passed over

untagged_text : (bytes rest : List ℕ) → list_any is_markup bytes ≡ false → untagged false (bytes ++ rest) ≡ bytes ++ untagged false rest
untagged_text [] rest e = refl
untagged_text (b ∷ bytes) rest e =
    let parts = or_parts (is_markup b) (list_any is_markup bytes) e in
    ap (λ t. if t then untagged true (bytes ++ rest) else b ∷ untagged false (bytes ++ rest)) (no_tag b parts.0).0
    ∙ ap (λ (t : List ℕ). b ∷ t) (untagged_text bytes rest parts.1)

untagged_tag : (bytes rest : List ℕ) → list_any is_end bytes ≡ false → untagged true (bytes ++ 62 ∷ rest) ≡ untagged false rest
untagged_tag [] rest e = refl
untagged_tag (b ∷ bytes) rest e =
    let parts = or_parts (is_end b) (list_any is_end bytes) e in
    ap (λ t. if t then untagged false (bytes ++ 62 ∷ rest) else untagged true (bytes ++ 62 ∷ rest)) parts.0
    ∙ untagged_tag bytes rest parts.1

attribute_closed : (markup : Markup) (a : Attribute) → list_any is_end a.0 ≡ false → list_any is_end (attribute_text markup a) ≡ false
attribute_closed markup a named =
    by_test (length a.1 == 0)
    (λ e. rw e refl)
    (λ e.
    let name = joined is_end (32 ∷ a.0) (codes "=\"") named refl in
    let value = joined is_end (32 ∷ (a.0 ++ codes "=\"")) (escaped markup a.1) name (no_end (escaped markup a.1) (text_closed markup a.1)) in
    rw e (joined is_end (32 ∷ (a.0 ++ codes "=\"" ++ escaped markup a.1)) (34 ∷ []) value refl))

attributes_closed : (markup : Markup) (attributes : List Attribute) → AreNamed attributes → list_any is_end (flat_map (attribute_text markup) attributes) ≡ false
attributes_closed markup [] named = refl
attributes_closed markup (a ∷ attributes) named = joined is_end (attribute_text markup a) (flat_map (attribute_text markup) attributes) (attribute_closed markup a named.0) (attributes_closed markup attributes named.1)

-- ---- tokens

-- the bytes of a token outside of tags
abbrev without_tags : Markup → Token → List ℕ
without_tags markup (Opening name attributes) = []
without_tags markup (Closing name) = []
without_tags markup (Words text) = escaped markup text

token_without_tags : (markup : Markup) (token : Token) (rest : List ℕ) → IsNamed token → untagged false (token_text markup token ++ rest) ≡ without_tags markup token ++ untagged false rest
token_without_tags markup (Opening name attributes) rest named =
    let inside = name ++ flat_map (attribute_text markup) attributes in
    ap (untagged true) (append_assoc inside (62 ∷ []) rest)
    ∙ untagged_tag inside rest (joined is_end name (flat_map (attribute_text markup) attributes) named.0 (attributes_closed markup attributes named.1))
token_without_tags markup (Closing name) rest named = ap (untagged true) (append_assoc (47 ∷ name) (62 ∷ []) rest) ∙ untagged_tag (47 ∷ name) rest named
token_without_tags markup (Words text) rest named = untagged_text (escaped markup text) rest (text_closed markup text)

tokens_without_tags : (markup : Markup) (tokens : List Token) → AreTagged tokens → untagged false (flat_map (token_text markup) tokens) ≡ flat_map (without_tags markup) tokens
tokens_without_tags markup [] named = refl
tokens_without_tags markup (token ∷ tokens) named =
    token_without_tags markup token (flat_map (token_text markup) tokens) named.0
    ∙ ap (λ (t : List ℕ). without_tags markup token ++ t) (tokens_without_tags markup tokens named.1)

put_nothing : (text : Option (List ℕ)) → put_before [] text ≡ text
put_nothing None = refl
put_nothing (Some t) = refl

token_back : (markup : Markup) (token : Token) (rest : List ℕ) → read_after None (without_tags markup token ++ rest) ≡ put_before (token_content markup token) (read_after None rest)
token_back markup (Opening name attributes) rest = sym (put_nothing (read_after None rest))
token_back markup (Closing name) rest = sym (put_nothing (read_after None rest))
token_back markup (Words text) rest = text_back markup text rest

tokens_back : (markup : Markup) (tokens : List Token) → read_after None (flat_map (without_tags markup) tokens) ≡ Some (tokens_content markup tokens)
tokens_back markup [] = refl
tokens_back markup (token ∷ tokens) =
    token_back markup token (flat_map (without_tags markup) tokens)
    ∙ ap (put_before (token_content markup token)) (tokens_back markup tokens)

pub content_back : (markup : Markup) (tokens : List Token) → AreTagged tokens → content (tokens_text markup tokens) ≡ Some (tokens_content markup tokens)
unfolding tokens_text
content_back markup tokens named = ap (read_after None) (tokens_without_tags markup tokens named) ∙ tokens_back markup tokens
