-- Links that read back from their texts.
use Rattle.std.proofs.Common.{◌≡◌, ℕ, Bool, true, false, List, [], ◌∷◌, refl, sym, ap, ◌∙◌}
use Rattle.std.specs.Prelude.{◌&&◌, ◌↔◌, IsTrue, not, Option, Some, None, Result, Ok, Err}
use Rattle.std.specs.Str.{bytes_eq}
use Rattle.std.proofs.lemmas.Bool.{and_parts, and_from, false≢true, not-true}
use Rattle.std.proofs.lemmas.Slice.Eq.{bytes_eq-Decides}
use Rattle.cell_base.specs.declared.link_error.LinkError.{LinkError}
use Rattle.cell_base.specs.Link.{Link, Param}
use Rattle.cell_base.specs.LinkText.{link_text, link_reading, fields, IsReadBack}
use Rattle.cell_base.proofs.LinkLaws.{back_is_given}
use Rattle.terminal_render.specs.Links.{same_params, is_reading_of, reads_back}

same_texts : (xs ys : List ℕ) → bytes_eq xs ys ≡ true → xs ≡ ys
same_texts xs ys e = (bytes_eq-Decides xs ys).0 e

texts_same : (xs : List ℕ) → bytes_eq xs xs ≡ true
texts_same xs = (bytes_eq-Decides xs xs).1 refl

params_are : (ps qs : List Param) → same_params ps qs ≡ true → ps ≡ qs
params_are [] [] e = refl
params_are [] (q ∷ qs) e = absurd (false≢true e)
params_are (p ∷ ps) [] e = absurd (false≢true e)
params_are (p ∷ ps) (q ∷ qs) e =
    let both = and_parts (bytes_eq p.0 q.0 && bytes_eq p.1 q.1) (same_params ps qs) e in
    let pair = and_parts (bytes_eq p.0 q.0) (bytes_eq p.1 q.1) both.0 in
    λ i. (same_texts p.0 q.0 pair.0 i, same_texts p.1 q.1 pair.1 i) ∷ params_are ps qs both.1 i

are_params : (ps : List Param) → same_params ps ps ≡ true
are_params [] = refl
are_params (p ∷ ps) = and_from (bytes_eq p.0 p.0 && bytes_eq p.1 p.1) (same_params ps ps) (and_from (bytes_eq p.0 p.0) (bytes_eq p.1 p.1) (texts_same p.0) (texts_same p.1)) (are_params ps)

-- a reading that passes the test `is_reading_of` has read the given link
reading_is : (link : Link) (reading : Result (Option Link) LinkError) → is_reading_of link reading ≡ true → reading ≡ Ok (Some link)
reading_is link (Ok (Some read)) e =
    let both = and_parts (not read.implicit && not link.implicit) (same_params read.params link.params && bytes_eq read.uri link.uri) e in
    let given = and_parts (not read.implicit) (not link.implicit) both.0 in
    let texts = and_parts (same_params read.params link.params) (bytes_eq read.uri link.uri) both.1 in
    let implicit = not-true read.implicit given.0 ∙ sym (not-true link.implicit given.1) in
    let params = params_are read.params link.params texts.0 in
    let uri = same_texts read.uri link.uri texts.1 in
    λ i. Ok (Some (record { params = params i; uri = uri i; implicit = implicit i }))
reading_is link (Ok None) e = absurd (false≢true e)
reading_is link (Err error) e = absurd (false≢true e)

is_reading : (link : Link) → link.implicit ≡ false → is_reading_of link (Ok (Some link)) ≡ true
is_reading link given =
    and_from (not link.implicit && not link.implicit) (same_params link.params link.params && bytes_eq link.uri link.uri)
    (and_from (not link.implicit) (not link.implicit) (ap not given) (ap not given))
    (and_from (same_params link.params link.params) (bytes_eq link.uri link.uri) (are_params link.params) (texts_same link.uri))

pub reads_back_is : (link : Link) → reads_back link ≡ true → IsReadBack link
reads_back_is link e = reading_is link (link_reading (fields 59 (link_text link))) e

pub is_read_back : (link : Link) → IsReadBack link → reads_back link ≡ true
is_read_back link back = ap (is_reading_of link) back ∙ is_reading link (back_is_given link back)

same_answer : (a b : Bool) → (a ≡ true → b ≡ true) → (b ≡ true → a ≡ true) → a ≡ b
same_answer true b f g = sym (f refl)
same_answer false true f g = g refl
same_answer false false f g = refl

-- an answer that is true if and only if the link reads back is `reads_back link`
pub answers_read_back : (answer : Bool) (link : Link) → IsTrue answer ↔ IsReadBack link → answer ≡ reads_back link
answers_read_back answer link tells = same_answer answer (reads_back link) (λ e. is_read_back link (tells.0 e)) (λ e. tells.1 (reads_back_is link e))
