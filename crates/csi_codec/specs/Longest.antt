-- The longest shape decides: the list of the shapes of SGR, and that the longest one that matches is chosen.
use Rattle.std.specs.Prelude.{◌≡◌, ◌⊎◌, ℕ, zero, suc, ◌+◌, ◌≤◌, true, false, List, [], ◌∷◌, ◌++◌, map, length, drop}
use Rattle.std.specs.Prelude.{Some, None}
use Rattle.std.specs.List.{AllByRecursion}
use Rattle.csi_codec.specs.declared.parameters.CsiParam.{CsiParam}
use Rattle.csi_codec.specs.declared.rendition.Sgr.{Sgr}
use Rattle.csi_codec.specs.Rendition.{Part, byte_part, number_part, stands, colon, Form, colour_forms, sgr_shape}

-- `counted first n`: n consecutive numbers from `first` on
abbrev pub counted : ℕ → ℕ → List ℕ
counted first zero = []
counted first (suc n) = first ∷ counted (first + 1) n

-- the numbers that are a whole shape: those with a setting of their own, fonts 11 to 19, and the first sixteen colours
abbrev pub single_numbers : List ℕ
single_numbers =
    counted 0 20 ++ (counted 21 5 ++ (counted 27 11 ++ (counted 39 9
    ++ (49 ∷ 53 ∷ 55 ∷ 59 ∷ counted 73 3 ++ (counted 90 8 ++ counted 100 8)))))

-- 4:0 to 4:5
abbrev pub underline_shapes : List (List Part)
underline_shapes = map (λ k. number_part 4 ∷ colon ∷ number_part k ∷ []) (counted 0 6)

-- a colour after its number
abbrev pub colour_shapes : ℕ → List (List Part)
colour_shapes target = map (λ form. number_part target ∷ form.0) colour_forms

-- every shape: a single `;`, a single number, an underline, and a foreground, background or underline colour
abbrev pub sgr_shapes : List (List Part)
sgr_shapes =
    (byte_part 59 ∷ []) ∷ (map (λ n. number_part n ∷ []) single_numbers
    ++ (underline_shapes ++ (colour_shapes 38 ++ (colour_shapes 48 ++ colour_shapes 58))))

-- no listed shape that matches the start of the tokens is longer than n
abbrev pub NoneIsLonger : List (List Part) → List CsiParam → ℕ → Type 0
NoneIsLonger shapes ts n = AllByRecursion (λ shape. stands shape ts ≡ true → length shape ≤ n) shapes

-- some listed shape of n tokens matches there
abbrev pub OneStands : List (List Part) → List CsiParam → ℕ → Type 0
OneStands [] ts n = ⊥
OneStands (shape ∷ shapes) ts n = ((stands shape ts ≡ true) × (length shape ≡ n)) ⊎ OneStands shapes ts n

-- no listed shape matches there
abbrev pub NoneStands : List (List Part) → List CsiParam → Type 0
NoneStands shapes ts = AllByRecursion (λ shape. stands shape ts ≡ false) shapes

-- the longest of all shapes that match there has n tokens
pub record IsLongest (ts : List CsiParam) (n : ℕ) : Type 0 where
  pub one : OneStands sgr_shapes ts n
  pub none_longer : NoneIsLonger sgr_shapes ts n

-- some form of a colour of n tokens matches there, but encodes no colour: one of its numbers is not 0 to 255
abbrev pub OneNamesNone : List Form → List CsiParam → ℕ → Type 0
OneNamesNone [] ts n = ⊥
OneNamesNone (form ∷ forms) ts n =
    ((stands form.0 ts ≡ true) × (form.1 ts ≡ None) × (length form.0 ≡ n)) ⊎ OneNamesNone forms ts n

-- the longest shape that matches is 38, 48 or 58 and the form of a colour, but it encodes no colour
pub record IsNoColour (ts : List CsiParam) : Type 0 where
  pub after : ℕ
  pub longest : IsLongest ts (after + 1)
  pub names_none : OneNamesNone colour_forms (drop 1 ts) after

-- A shape is chosen exactly where a listed one matches, and it is the longest of these: where there is a value, the
-- longest that matches takes its tokens; where there is none, no listed shape matches, or the longest is the form of a
-- colour that encodes no colour.
pub record LongestShapeDecides : Type 0 where
  pub chosen : (ts : List CsiParam) (value : Sgr) (n : ℕ) → sgr_shape ts ≡ Some (value, n) → IsLongest ts n
  pub none : (ts : List CsiParam) → sgr_shape ts ≡ None → NoneStands sgr_shapes ts ⊎ IsNoColour ts
