-- The text of a link, and its reading. OSC 8 carries a link as `8;params;uri`, where the params are `key=value` joined
-- by `:` (Koblinger, "Hyperlinks in terminal emulators"). `:` is 58, `;` is 59, `=` is 61.
use Rattle.std.specs.Prelude.{◌≡◌, ◌⊎◌, ℕ, Bool, false, ◌&&◌, ◌==◌, not, if◌then◌else◌, List, [], ◌∷◌, ◌++◌, map, fold}
use Rattle.std.specs.Prelude.{length, Option, Some, None, Result, Ok, Err, MatchResult}
use Rattle.std.specs.List.{slice_split, join_with_byte, before_first, after_first, list_any, list_all}
use Rattle.std.specs.Ordering.{nat_cmp}
use Rattle.std.specs.Cmp.Lexicographic.{slice_cmp}
use Rattle.std.specs.BTreeMap.{insert_entry}
use Rattle.std.specs.Str.{is_utf8}
use Rattle.cell_base.specs.Link.{Link, Param}
use Rattle.cell_base.specs.declared.link_error.LinkError.{LinkError}
use Rattle.cell_base.specs.declared.link_error.LinkError.TheVariants.{PartCount, Utf8, Params, Memory}

-- `key=value`
abbrev pub param_text : Param → List ℕ
param_text p = p.0 ++ 61 ∷ p.1

-- the parameters, joined by `:`
abbrev pub params_text : List Param → List ℕ
params_text ps = join_with_byte 58 (map param_text ps)

-- `8;params;uri`
unfoldable pub link_text : Link → List ℕ
link_text l = 56 ∷ 59 ∷ (params_text l.params ++ 59 ∷ l.uri)

-- the text of a link or of none, which is `8;;`
abbrev pub text_of_link : Option Link → List ℕ
text_of_link None = 56 ∷ 59 ∷ 59 ∷ []
text_of_link (Some l) = link_text l

-- the fields of a text between its bytes c; a text without c is one field
abbrev pub fields : ℕ → List ℕ → List (List ℕ)
fields c text = slice_split (λ b. b == c) text

-- a pair of a key and a value has a `=`, and is cut at the first one
abbrev pub is_param : List ℕ → Bool
is_param text = list_any (λ b. b == 61) text

abbrev pub param_of : List ℕ → Param
param_of text = (before_first (λ b. b == 61) text, after_first (λ b. b == 61) text)

-- the parameters with one inserted in the order of the keys' bytes; where its key is present, its value replaces the
-- present one
abbrev pub put_param : List Param → Param → List Param
put_param ps p = insert_entry (slice_cmp nat_cmp) ps p.0 p.1

-- the parameters in the order of their keys; of equal keys the last one's value counts
abbrev pub by_key : List Param → List Param
by_key ps = fold put_param [] ps

-- the pairs of a text: none of the empty text
abbrev pub param_fields : List ℕ → List (List ℕ)
param_fields text = if length text == 0 then [] else fields 58 text

abbrev pub params_of : List ℕ → List Param
params_of text = by_key (map param_of (param_fields text))

-- the link of two texts: none where both are empty
unfoldable pub texts_reading : List ℕ → List ℕ → Result (Option Link) LinkError
texts_reading params uri =
    if length params == 0 && length uri == 0 then Ok None else
    (if is_utf8 params && is_utf8 uri then
    (if list_all is_param (param_fields params) then
    Ok (Some (record { params = params_of params; uri = uri; implicit = false }))
    else Err Params) else Err Utf8)

-- the link of the parts of an OSC 8: the first part is ignored, the second holds the parameters, and the parts from the
-- third on are the URI, joined by `;`
unfoldable pub link_reading : List (List ℕ) → Result (Option Link) LinkError
link_reading (_ ∷ params ∷ uri ∷ more) = texts_reading params (join_with_byte 59 (uri ∷ more))
link_reading _ = Err PartCount

-- r is the reading, except that r may be `Err Memory` where the reading is `Ok`, never where it is a refusal
abbrev pub IsUnlessMemory : Result (Option Link) LinkError → Result (Option Link) LinkError → Type 0
IsUnlessMemory reading r = MatchResult reading (λ link. (r ≡ Ok link) ⊎ (r ≡ Err Memory)) (λ e. r ≡ Err e)

-- whether a link's text can hold a text unchanged: as a value where it has no `:` and no `;`, as a key where it has no
-- `=` either
abbrev pub is_value_text : List ℕ → Bool
is_value_text text = not (list_any (λ b. b == 58) text) && not (list_any (λ b. b == 59) text)

abbrev pub is_key_text : List ℕ → Bool
is_key_text text = not (is_param text) && is_value_text text

abbrev pub is_writable : Param → Bool
is_writable p = is_key_text p.0 && is_value_text p.1

-- neither parameters nor a URI
abbrev pub is_empty_link : Link → Bool
is_empty_link link = length link.params == 0 && length link.uri == 0

-- the link's text, from its parts between `;`, reads back as the link
abbrev pub IsReadBack : Link → Type 0
IsReadBack link = link_reading (fields 59 (link_text link)) ≡ Ok (Some link)
