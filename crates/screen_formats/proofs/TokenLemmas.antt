-- Tokens that are written one after another.
use Rattle.std.proofs.Common.{◌≡◌, ℕ, ◌+◌, ◌<◌, ◌≤◌, List, [], ◌∷◌, ◌++◌, length, take, get_or, sym, ap, ◌∙◌, append_assoc}
use Rattle.std.specs.List.{flat_map}
use Rattle.std.proofs.lemmas.List.{append-nil, take_all, take_more}
use Rattle.std.proofs.lemmas.Grind.{flat_map-append}
use Rattle.screen_formats.specs.Tokens.{Token, token_text, tokens_text}
use Rattle.screen_formats.specs.declared.escape.Markup.{Markup}

pub tokens_text_append : (markup : Markup) (xs ys : List Token) → tokens_text markup (xs ++ ys) ≡ tokens_text markup xs ++ tokens_text markup ys
unfolding tokens_text
tokens_text_append markup xs ys = flat_map-append (token_text markup) xs ys

pub written_none : (markup : Markup) (now : List ℕ) → now ≡ now ++ tokens_text markup []
unfolding tokens_text
written_none markup now = sym (append-nil now)

-- the text of more tokens, after the text of those done
pub written_more : (markup : Markup) (start now next : List ℕ) (done more : List Token) → now ≡ start ++ tokens_text markup done → next ≡ now ++ tokens_text markup more → next ≡ start ++ tokens_text markup (done ++ more)
written_more markup start now next done more so_far step =
    step
    ∙ ap (λ (t : List ℕ). t ++ tokens_text markup more) so_far
    ∙ append_assoc start (tokens_text markup done) (tokens_text markup more)
    ∙ ap (λ (t : List ℕ). start ++ t) (sym (tokens_text_append markup done more))

flat_map-next : {A : Type 0} (f : A → List Token) (xs : List A) (i : ℕ) (x : A) → i < length xs → get_or xs i x ≡ x → flat_map f (take i xs) ++ f x ≡ flat_map f (take (i + 1) xs)
flat_map-next {A} f xs i x less item =
    ap (λ (t : List Token). flat_map f (take i xs) ++ t) (sym (append-nil (f x)))
    ∙ sym (flat_map-append f (take i xs) (x ∷ []))
    ∙ ap (λ (y : A). flat_map f (take i xs ++ y ∷ [])) (sym item)
    ∙ ap (flat_map f) (sym (take_more xs i x less))

-- the next item of a list after those before it
pub written_item : {A : Type 0} (markup : Markup) (f : A → List Token) (xs : List A) (i : ℕ) (x : A) (start now next : List ℕ) → i < length xs → get_or xs i x ≡ x
    → now ≡ start ++ tokens_text markup (flat_map f (take i xs)) → next ≡ now ++ tokens_text markup (f x) → next ≡ start ++ tokens_text markup (flat_map f (take (i + 1) xs))
written_item markup f xs i x start now next less item so_far step =
    written_more markup start now next (flat_map f (take i xs)) (f x) so_far step
    ∙ ap (λ tokens. start ++ tokens_text markup tokens) (flat_map-next f xs i x less item)

-- all items of a list, and then more
pub written_all : {A : Type 0} (markup : Markup) (f : A → List Token) (xs ys : List A) (i : ℕ) (start now next : List ℕ) (more : List Token) → length xs ≤ i → xs ≡ ys
    → now ≡ start ++ tokens_text markup (flat_map f (take i xs)) → next ≡ now ++ tokens_text markup more → next ≡ start ++ tokens_text markup (flat_map f ys ++ more)
written_all {A} markup f xs ys i start now next more none same so_far step =
    written_more markup start now next (flat_map f (take i xs)) more so_far step
    ∙ ap (λ (zs : List A). start ++ tokens_text markup (flat_map f zs ++ more)) (take_all i xs none ∙ same)
