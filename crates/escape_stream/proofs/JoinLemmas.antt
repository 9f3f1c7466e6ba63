-- Prints that are joined one by one are one text.
use Rattle.std.proofs.Common.{◌≡◌, ◌≢◌, ℕ, Bool, true, false, List, [], ◌∷◌, ◌++◌, length, map, fold, refl, ap, sym, ◌∙◌, append_assoc, append-nil}
use Rattle.std.specs.Prelude.{◌&&◌, encode_utf8, encode_utf8_all}
use Rattle.std.specs.Str.{IsUtf8, chars}
use Rattle.std.proofs.lemmas.Str.{IsUtf8-past_char, encodes-chars, chars_past_char, chars-nil}
use Rattle.escape_stream.specs.StreamAction.{StreamAction, print, print_string, is_print, printed, appended}

some_after : (u : List StreamAction) (x : StreamAction) → appended u x ≢ []
some_after [] x e = cc
some_after (a ∷ []) x e = by_test (is_print a && is_print x) refl
  where
    by_test : (t : Bool) → (is_print a && is_print x) ≡ t → ⊥
    by_test true k = let l : print_string (printed a ++ printed x) ∷ [] ≡ [] = rw k at e in cc
    by_test false k = let l : a ∷ x ∷ [] ≡ [] = rw k at e in cc
some_after (a ∷ b ∷ u) x e = cc

after_some : (a : StreamAction) (u : List StreamAction) (x : StreamAction) → u ≢ [] → appended (a ∷ u) x ≡ a ∷ appended u x
after_some a [] x n = absurd (n refl)
after_some a (b ∷ u) x n = refl

-- two prints are one of both texts
two_prints : (u : List StreamAction) (x y : StreamAction) → is_print x ≡ true → is_print y ≡ true → appended (appended u x) y ≡ appended u (print_string (printed x ++ printed y))
two_prints [] x y p q = rw (p, q) refl
two_prints (a ∷ []) x y p q = by_test (is_print a) refl
  where
    by_test : (t : Bool) → is_print a ≡ t → appended (appended (a ∷ []) x) y ≡ appended (a ∷ []) (print_string (printed x ++ printed y))
    by_test true k = rw (k, p) (rw q (ap (λ l. print_string l ∷ []) (append_assoc (printed a) (printed x) (printed y))))
    by_test false k = rw k (rw (p, q) refl)
two_prints (a ∷ b ∷ u) x y p q =
    after_some a (appended (b ∷ u) x) y (some_after (b ∷ u) x) ∙ ap (λ l. a ∷ l) (two_prints (b ∷ u) x y p q)

-- characters after a text
joined_text : (u : List StreamAction) (text cs : List ℕ) → fold appended (appended u (print_string text)) (map print cs) ≡ appended u (print_string (text ++ encode_utf8_all cs))
joined_text u text [] = ap (λ l. appended u (print_string l)) (sym (append-nil text))
joined_text u text (c ∷ cs) =
    ap (λ l. fold appended l (map print cs)) (two_prints u (print_string text) (print c) refl refl)
    ∙ joined_text u (text ++ encode_utf8 c) cs
    ∙ ap (λ l. appended u (print_string l)) (append_assoc text (encode_utf8 c) (encode_utf8_all cs))

-- two characters or more are one text
two_or_more : (u : List StreamAction) (c d : ℕ) (cs : List ℕ) → fold appended u (map print (c ∷ d ∷ cs)) ≡ appended u (print_string (encode_utf8_all (c ∷ d ∷ cs)))
two_or_more u c d cs =
    ap (λ l. fold appended l (map print cs)) (two_prints u (print c) (print d) refl refl)
    ∙ joined_text u (encode_utf8 c ++ encode_utf8 d) cs
    ∙ ap (λ l. appended u (print_string l)) (append_assoc (encode_utf8 c) (encode_utf8 d) (encode_utf8_all cs))

-- a text that isn't one character
pub appended_text : (u : List StreamAction) (text : List ℕ) → IsUtf8 text → text ≢ [] → ((c : ℕ) → chars text ≡ c ∷ [] → ⊥) → fold appended u (map print (chars text)) ≡ appended u (print_string text)
appended_text u text h n m = by_chars (chars text) refl
  where
    by_chars : (cs : List ℕ) → chars text ≡ cs → fold appended u (map print (chars text)) ≡ appended u (print_string text)
    by_chars [] e = absurd (n (sym (encodes-chars text h) ∙ ap encode_utf8_all e))
    by_chars (c ∷ []) e = absurd (m c e)
    by_chars (c ∷ d ∷ cs) e = ap (λ (l : List ℕ). fold appended u (map print l)) e ∙ two_or_more u c d cs ∙ ap (λ (l : List ℕ). appended u (print_string (encode_utf8_all l))) (sym e) ∙ ap (λ (l : List ℕ). appended u (print_string l)) (encodes-chars text h)

-- ---- the characters of a text, one by one

none_left : (xs : List ℕ) → length xs ≡ 0 → xs ≡ []
none_left [] e = refl
none_left (x ∷ xs) e = cc

pub no_chars : (text : List ℕ) → length text ≡ 0 → chars text ≡ []
no_chars text e = ap chars (none_left text e) ∙ chars-nil

pub one_char : (text rest : List ℕ) (c : ℕ) → IsUtf8 text → text ≡ encode_utf8 c ++ rest → length rest ≡ 0 → chars text ≡ c ∷ []
one_char text rest c u e z = chars_past_char text rest c u e ∙ ap (λ (l : List ℕ). c ∷ l) (no_chars rest z)

pub more_chars : (text rest remaining : List ℕ) (c d e : ℕ) → IsUtf8 text → text ≡ encode_utf8 c ++ rest → rest ≡ encode_utf8 d ++ remaining → chars text ≡ e ∷ [] → ⊥
more_chars text rest remaining c d e u p q h =
    let k : e ∷ [] ≡ c ∷ d ∷ chars remaining = sym h ∙ chars_past_char text rest c u p ∙ ap (λ (l : List ℕ). c ∷ l) (chars_past_char rest remaining d (IsUtf8-past_char text rest c u p) q) in cc
