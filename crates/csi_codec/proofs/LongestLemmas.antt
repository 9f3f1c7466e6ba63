-- The longest shape of SGR decides: where one is chosen it is the longest that matches, and where none is none matches, or the
-- longest names no colour.
use Rattle.std.proofs.Common.{◌≡◌, ◌⊎◌, ℕ, zero, suc, ◌+◌, ◌<◌, ◌≤◌, ℤ, pos, negsuc, eqb, leb, Bool, true, false, not, cond, ◌&&◌, ◌||◌, List, [], ◌∷◌, ◌++◌, map, length, Option, Some, None, option_map, option_and_then, inl, inr, arith, refl, ap, sym, subst, ◌∙◌}
use Rattle.std.specs.Prelude.{is_some}
use Rattle.std.specs.List.{list_all, list_any}
use Rattle.std.proofs.lemmas.Bool.{and_parts, and_from, and_right, or_cases, cond_both, eqb-true, false≢true, leb-true}
use Rattle.std.proofs.lemmas.Bool.Decides.{nat_tests}
use Rattle.cell_base.specs.declared.color.ColorSpec.{ColorSpec}
use Rattle.cell_base.specs.declared.attributes.Underline.{Underline}
use Rattle.cell_base.specs.declared.attributes.Underline.TheVariants as underline
use Rattle.csi_codec.specs.declared.parameters.CsiParam.{CsiParam}
use Rattle.csi_codec.specs.declared.parameters.CsiParam.TheVariants.{Integer, P}
use Rattle.csi_codec.specs.declared.rendition.Sgr.{Sgr}
use Rattle.csi_codec.specs.declared.rendition.Sgr.TheVariants as value
use Rattle.csi_codec.specs.Parameters.{begins_with_number, is_number}
use Rattle.csi_codec.specs.Rendition.{Part, byte_part, number_part, any_number, is_part, stands, colon, Form, first_form, colour_forms, colour_form, colour_shape, taking, plain_code, single_code, underline_numbered, underline_or_single, underline_shape, numbered_shape, sgr_shape}
use Rattle.csi_codec.specs.Longest.{counted, single_numbers, underline_shapes, colour_shapes, sgr_shapes, NoneIsLonger, OneStands, NoneStands, OneNamesNone, IsNoColour, LongestShapeDecides}
use Rattle.csi_codec.proofs.ShapeLemmas.{number_is, numbered_shape-by, Target, foreground, background, underline_colour, set_to}
use Rattle.csi_codec.proofs.SgrForms.{number_of}

-- ---- Lists of shapes

-- the longest shape of the list that matches has n tokens
abbrev Longest : List (List Part) → List CsiParam → ℕ → Type 0
Longest shapes ts n = OneStands shapes ts n × NoneIsLonger shapes ts n

no_longer : (shapes : List (List Part)) (ts : List CsiParam) (n : ℕ) → NoneStands shapes ts → NoneIsLonger shapes ts n
no_longer [] ts n h = tt
no_longer (shape ∷ shapes) ts n h = (λ s. absurd (false≢true (sym h.0 ∙ s)), no_longer shapes ts n h.1)

none-both : (a b : List (List Part)) (ts : List CsiParam) → NoneStands a ts → NoneStands b ts → NoneStands (a ++ b) ts
none-both [] b ts h k = k
none-both (shape ∷ a) b ts h k = (h.0, none-both a b ts h.1 k)

longer-both : (a b : List (List Part)) (ts : List CsiParam) (n : ℕ) → NoneIsLonger a ts n → NoneIsLonger b ts n → NoneIsLonger (a ++ b) ts n
longer-both [] b ts n h k = k
longer-both (shape ∷ a) b ts n h k = (h.0, longer-both a b ts n h.1 k)

one-prefix : (a b : List (List Part)) (ts : List CsiParam) (n : ℕ) → OneStands a ts n → OneStands (a ++ b) ts n
one-prefix [] b ts n h = absurd h
one-prefix (shape ∷ a) b ts n (inl h) = inl h
one-prefix (shape ∷ a) b ts n (inr h) = inr (one-prefix a b ts n h)

one-back : (a b : List (List Part)) (ts : List CsiParam) (n : ℕ) → OneStands b ts n → OneStands (a ++ b) ts n
one-back [] b ts n h = h
one-back (shape ∷ a) b ts n h = inr (one-back a b ts n h)

-- the longest match is in one of two lists, where no shape of the other matches
in_first : (a b : List (List Part)) (ts : List CsiParam) (n : ℕ) → Longest a ts n → NoneStands b ts → Longest (a ++ b) ts n
in_first a b ts n h k = (one-prefix a b ts n h.0, longer-both a b ts n h.1 (no_longer b ts n k))

in_back : (a b : List (List Part)) (ts : List CsiParam) (n : ℕ) → NoneStands a ts → Longest b ts n → Longest (a ++ b) ts n
in_back a b ts n h k = (one-back a b ts n k.0, longer-both a b ts n (no_longer a ts n h) k.1)

-- shapes with one part more before
abbrev led : Part → List (List Part) → List (List Part)
led part shapes = map (λ parts. part ∷ parts) shapes

module _ (part : Part) (t : CsiParam) (ts : List CsiParam) where
  led_none : (shapes : List (List Part)) → is_part part t ≡ false → NoneStands (led part shapes) (t ∷ ts)
  led_none [] h = tt
  led_none (shape ∷ shapes) h = (rw h refl, led_none shapes h)

  led_nothing : (shapes : List (List Part)) → NoneStands shapes ts → NoneStands (led part shapes) (t ∷ ts)
  led_nothing [] h = tt
  led_nothing (shape ∷ shapes) h = (and_right (is_part part t) (stands shape ts) h.0, led_nothing shapes h.1)

  led_one : (shapes : List (List Part)) (n : ℕ) → is_part part t ≡ true → OneStands shapes ts n → OneStands (led part shapes) (t ∷ ts) (n + 1)
  led_one [] n p h = absurd h
  led_one (shape ∷ shapes) n p (inl h) = inl (and_from (is_part part t) (stands shape ts) p h.0, omega (arith, h.1))
  led_one (shape ∷ shapes) n p (inr h) = inr (led_one shapes n p h)

  led_longer : (shapes : List (List Part)) (n : ℕ) → NoneIsLonger shapes ts n → NoneIsLonger (led part shapes) (t ∷ ts) (n + 1)
  led_longer [] n h = tt
  led_longer (shape ∷ shapes) n h =
      (λ s. let short = h.0 (and_parts (is_part part t) (stands shape ts) s).1 in omega arith, led_longer shapes n h.1)

  led_longest : (shapes : List (List Part)) (n : ℕ) → is_part part t ≡ true → Longest shapes ts n → Longest (led part shapes) (t ∷ ts) (n + 1)
  led_longest shapes n p h = (led_one shapes n p h.0, led_longer shapes n h.1)

-- no shape that begins with a number matches a list that doesn't begin with one
abbrev is_numbered : List Part → Bool
is_numbered (number_part n ∷ parts) = true
is_numbered _ = false

none_without : (shapes : List (List Part)) (ts : List CsiParam) → list_all is_numbered shapes ≡ true → begins_with_number ts ≡ false → NoneStands shapes ts
none_without [] ts s h = tt
none_without (shape ∷ shapes) ts s h = (by shape ts (and_parts (is_numbered shape) (list_all is_numbered shapes) s).0 h, none_without shapes ts (and_parts (is_numbered shape) (list_all is_numbered shapes) s).1 h)
  where
    by : (shape : List Part) (ts : List CsiParam) → is_numbered shape ≡ true → begins_with_number ts ≡ false → stands shape ts ≡ false
    by (number_part n ∷ parts) [] s h = refl
    by (number_part n ∷ parts) (P b ∷ ts) s h = refl
    by (number_part n ∷ parts) (Integer z ∷ ts) s h = cc
    by [] ts s h = cc
    by (byte_part b ∷ parts) ts s h = cc
    by (any_number ∷ parts) ts s h = cc

-- ---- Numbers by themselves

abbrev ones : List ℕ → List (List Part)
ones numbers = map (λ k. number_part k ∷ []) numbers

ones_longest : (numbers : List ℕ) (z : ℤ) (ts : List CsiParam) → list_any (λ k. is_number k z) numbers ≡ true → Longest (ones numbers) (Integer z ∷ ts) 1
ones_longest numbers z ts h = (one numbers h, short numbers)
  where
    one : (numbers : List ℕ) → list_any (λ k. is_number k z) numbers ≡ true → OneStands (ones numbers) (Integer z ∷ ts) 1
    one [] h = cc
    one (k ∷ numbers) h =
        elim (or_cases (is_number k z) (list_any (λ j. is_number j z) numbers) h) [ inl p ↦ inl (rw p refl, refl) | inr q ↦ inr (one numbers q) ]

    short : (numbers : List ℕ) → NoneIsLonger (ones numbers) (Integer z ∷ ts) 1
    short [] = tt
    short (k ∷ numbers) = (λ s. omega arith, short numbers)

-- where each of the numbers can be read, none of them matches a number that cannot be read
ones_none : {X : Type 0} (read : ℤ → Option X) (numbers : List ℕ) (z : ℤ) (ts : List CsiParam) → list_all (λ k. is_some (read (pos k))) numbers ≡ true → read z ≡ None → NoneStands (ones numbers) (Integer z ∷ ts)
ones_none read [] z ts h e = tt
ones_none read (k ∷ numbers) z ts h e =
    let p = and_parts (is_some (read (pos k))) (list_all (λ j. is_some (read (pos j))) numbers) h in
    (by (is_number k z) refl p.0, ones_none read numbers z ts p.1 e)
  where
    by : (b : Bool) → is_number k z ≡ b → is_some (read (pos k)) ≡ true → (is_number k z && true) ≡ false
    by true p q = absurd (false≢true (sym (ap is_some (sym (ap read (number_is k z p)) ∙ e)) ∙ q))
    by false p q = rw p refl

each_named : list_all (λ k. is_some (plain_code (pos k))) single_numbers ≡ true
unfolding single_code
each_named = refl

-- a test that passes for n numbers from `first` on passes for each of them
all_below : (test : ℕ → Bool) (first n m : ℕ) → list_all test (counted first n) ≡ true → first ≤ m → m < first + n → test m ≡ true
all_below test first zero m h l u = absurd (omega arith)
all_below test first (suc n) m h l u = by (eqb first m) refl (all_below test (first + 1) n m (and_parts (test first) (list_all test (counted (first + 1) n)) h).1)
  where
    by : (b : Bool) → eqb first m ≡ b → (first + 1 ≤ m → m < first + 1 + n → test m ≡ true) → test m ≡ true
    by true e remaining = let same : first ≡ m = grind (arith, nat_tests) in subst (λ k. test k ≡ true) same (and_parts (test first) (list_all test (counted (first + 1) n)) h).0
    by false e remaining = remaining (grind (arith, nat_tests)) (omega arith)

abbrev is_listed : ℕ → Bool
is_listed n = not (is_some (single_code n)) || list_any (λ k. is_number k (pos n)) single_numbers

each_listed : list_all is_listed (counted 0 256) ≡ true
unfolding single_code
each_listed = refl

named_listed : (z : ℤ) (v : Sgr) → plain_code z ≡ Some v → list_any (λ k. is_number k z) single_numbers ≡ true
named_listed (negsuc m) v e = cc
named_listed (pos m) v e = by (leb m 255) refl e
  where
    from : (b c : Bool) → (not b || c) ≡ true → b ≡ true → c ≡ true
    from true c h e = h
    from false c h e = cc

    by : (b : Bool) → leb m 255 ≡ b → option_and_then single_code (cond b (Some m) None) ≡ Some v → list_any (λ k. is_number k (pos m)) single_numbers ≡ true
    by true p q = from (is_some (single_code m)) (list_any (λ k. is_number k (pos m)) single_numbers)
        (all_below is_listed 0 256 m each_listed (omega arith) (let small : m ≤ 255 = leb-true m 255 p in omega arith)) (ap is_some q)
    by false p q = cc

-- ---- Forms of a colour

abbrev shapes_of : List Form → List (List Part)
shapes_of forms = map (λ form. form.0) forms

-- the lengths go down
abbrev longest_first : List Form → Bool
longest_first [] = true
longest_first (form ∷ forms) = list_all (λ other. leb (length other.0) (length form.0)) forms && longest_first forms

all_shorter : (forms : List Form) (ts : List CsiParam) (n : ℕ) → list_all (λ form. leb (length form.0) n) forms ≡ true → NoneIsLonger (shapes_of forms) ts n
all_shorter [] ts n h = tt
all_shorter (form ∷ forms) ts n h =
    let p = and_parts (leb (length form.0) n) (list_all (λ form. leb (length form.0) n) forms) h in (λ s. leb-true (length form.0) n p.0, all_shorter forms ts n p.1)

-- the longest form that matches names no colour
record Refused (forms : List Form) (ts : List CsiParam) (n : ℕ) : Type 0 where
  names_none : OneNamesNone forms ts n
  longest : Longest (shapes_of forms) ts n

abbrev Decided : List Form → List CsiParam → Option (ColorSpec × ℕ) → Type 0
Decided forms ts None = NoneStands (shapes_of forms) ts ⊎ ((n : ℕ) × Refused forms ts n)
Decided forms ts (Some f) = Longest (shapes_of forms) ts f.1

first_decides : (forms : List Form) (ts : List CsiParam) → longest_first forms ≡ true → Decided forms ts (first_form forms ts)
first_decides [] ts h = inl tt
first_decides (form ∷ forms) ts h =
    cond_both (stands form.0 ts) _ _ (Decided (form ∷ forms) ts) (λ p. here p (form.1 ts) refl) (λ p. after p (first_form forms ts) (first_decides forms ts order.1))
  where
    order : (list_all (λ other. leb (length other.0) (length form.0)) forms ≡ true) × (longest_first forms ≡ true)
    order = and_parts (list_all (λ other. leb (length other.0) (length form.0)) forms) (longest_first forms) h

    longest : stands form.0 ts ≡ true → Longest (shapes_of (form ∷ forms)) ts (length form.0)
    longest p = (inl (p, refl), (λ s. omega arith, all_shorter forms ts (length form.0) order.0))

    here : stands form.0 ts ≡ true → (found : Option ColorSpec) → form.1 ts ≡ found → Decided (form ∷ forms) ts (taking (length form.0) found)
    here p None e = inr (length form.0, record { names_none = inl (p, e, refl); longest = longest p })
    here p (Some c) e = longest p

    past : stands form.0 ts ≡ false → (n : ℕ) → Longest (shapes_of forms) ts n → Longest (shapes_of (form ∷ forms)) ts n
    past p n l = (inr l.0, (λ s. absurd (false≢true (sym p ∙ s)), l.1))

    after : stands form.0 ts ≡ false → (found : Option (ColorSpec × ℕ)) → Decided forms ts found → Decided (form ∷ forms) ts found
    after p None (inl none) = inl (p, none)
    after p None (inr r) = inr (r.0, record { names_none = inr r.1.names_none; longest = past p r.0 r.1.longest })
    after p (Some f) l = past p f.1 l

-- the chosen shape is the longest; where none is chosen, none matches, or the longest names no colour
abbrev Decides : List CsiParam → Option (Sgr × ℕ) → Type 0
Decides ts None = NoneStands sgr_shapes ts ⊎ IsNoColour ts
Decides ts (Some f) = Longest sgr_shapes ts f.1

-- ---- A list that begins with a number

abbrev kinds : List ℕ
kinds = counted 0 6

abbrev all_colours : List (List Part)
all_colours = colour_shapes 38 ++ (colour_shapes 48 ++ colour_shapes 58)

abbrev all_numbered : List (List Part)
all_numbered = ones single_numbers ++ (underline_shapes ++ all_colours)

not_four : (t : Target) → is_number 4 (pos (number_of t)) ≡ false
not_four foreground = refl
not_four _ = refl

not_alone : (t : Target) → plain_code (pos (number_of t)) ≡ None
unfolding single_code
not_alone foreground = refl
not_alone _ = refl

module _ (z : ℤ) (ts : List CsiParam) where
  abbrev whole : List CsiParam
  whole = Integer z ∷ ts

  no_alone : plain_code z ≡ None → NoneStands (ones single_numbers) whole
  no_alone e = ones_none plain_code single_numbers z ts each_named e

  no_line : is_number 4 z ≡ false → NoneStands underline_shapes whole
  no_line h = led_none (number_part 4) (Integer z) ts (led colon (ones kinds)) h

  no_colour : (target : ℕ) → is_number target z ≡ false → NoneStands (colour_shapes target) whole
  no_colour target h = led_none (number_part target) (Integer z) ts (shapes_of colour_forms) h

  no_colours : is_number 38 z ≡ false → is_number 48 z ≡ false → is_number 58 z ≡ false → NoneStands all_colours whole
  no_colours p q r = none-both (colour_shapes 38) (colour_shapes 48 ++ colour_shapes 58) whole (no_colour 38 p) (none-both (colour_shapes 48) (colour_shapes 58) whole (no_colour 48 q) (no_colour 58 r))

  nothing : NoneStands (ones single_numbers) whole → NoneStands underline_shapes whole → NoneStands all_colours whole → NoneStands sgr_shapes whole
  nothing single lines colours = (refl, none-both (ones single_numbers) (underline_shapes ++ all_colours) whole single (none-both underline_shapes all_colours whole lines colours))

  numbered : (n : ℕ) → Longest all_numbered whole n → Longest sgr_shapes whole n
  numbered n l = (inr l.0, (λ s. cc, l.1))

  -- the longest colour shape of one target is the longest of those of all targets
  colour_longest : (t : Target) (n : ℕ) → z ≡ pos (number_of t) → Longest (colour_shapes (number_of t)) whole n → Longest all_colours whole n
  colour_longest foreground n p l =
      in_first (colour_shapes 38) (colour_shapes 48 ++ colour_shapes 58) whole n l (none-both (colour_shapes 48) (colour_shapes 58) whole (no_colour 48 (ap (is_number 48) p)) (no_colour 58 (ap (is_number 58) p)))
  colour_longest background n p l =
      in_back (colour_shapes 38) (colour_shapes 48 ++ colour_shapes 58) whole n (no_colour 38 (ap (is_number 38) p)) (in_first (colour_shapes 48) (colour_shapes 58) whole n l (no_colour 58 (ap (is_number 58) p)))
  colour_longest underline_colour n p l =
      in_back (colour_shapes 38) (colour_shapes 48 ++ colour_shapes 58) whole n (no_colour 38 (ap (is_number 38) p)) (in_back (colour_shapes 48) (colour_shapes 58) whole n (no_colour 48 (ap (is_number 48) p)) l)

  colour_none : (t : Target) → z ≡ pos (number_of t) → NoneStands (colour_shapes (number_of t)) whole → NoneStands all_colours whole
  colour_none foreground p none = none-both (colour_shapes 38) (colour_shapes 48 ++ colour_shapes 58) whole none (none-both (colour_shapes 48) (colour_shapes 58) whole (no_colour 48 (ap (is_number 48) p)) (no_colour 58 (ap (is_number 58) p)))
  colour_none background p none = none-both (colour_shapes 38) (colour_shapes 48 ++ colour_shapes 58) whole (no_colour 38 (ap (is_number 38) p)) (none-both (colour_shapes 48) (colour_shapes 58) whole none (no_colour 58 (ap (is_number 58) p)))
  colour_none underline_colour p none = none-both (colour_shapes 38) (colour_shapes 48 ++ colour_shapes 58) whole (no_colour 38 (ap (is_number 38) p)) (none-both (colour_shapes 48) (colour_shapes 58) whole (no_colour 48 (ap (is_number 48) p)) none)

  coloured : (t : Target) → z ≡ pos (number_of t) → Decides whole (colour_shape (set_to t) ts)
  unfolding colour_form
  coloured t p = by (first_form colour_forms ts) (first_decides colour_forms ts refl)
    where
      alone : NoneStands (ones single_numbers) whole
      alone = no_alone (ap plain_code p ∙ not_alone t)

      lines : NoneStands underline_shapes whole
      lines = no_line (ap (is_number 4) p ∙ not_four t)

      is : is_part (number_part (number_of t)) (Integer z) ≡ true
      is = ap (is_number (number_of t)) p ∙ same t
        where
          same : (t : Target) → is_number (number_of t) (pos (number_of t)) ≡ true
          same foreground = refl
          same _ = refl

      longest : (n : ℕ) → Longest (shapes_of colour_forms) ts n → Longest sgr_shapes whole (n + 1)
      longest n l =
          numbered (n + 1) (in_back (ones single_numbers) (underline_shapes ++ all_colours) whole (n + 1) alone (in_back underline_shapes all_colours whole (n + 1) lines
          (colour_longest t (n + 1) p (led_longest (number_part (number_of t)) (Integer z) ts (shapes_of colour_forms) n is l))))

      by : (found : Option (ColorSpec × ℕ)) → Decided colour_forms ts found → Decides whole (option_map (λ form. (set_to t form.0, form.1 + 1)) found)
      by None (inl none) = inl (nothing alone lines (colour_none t p (led_nothing (number_part (number_of t)) (Integer z) ts (shapes_of colour_forms) none)))
      by None (inr r) =
          let l = longest r.0 r.1.longest in inr (record { after = r.0; longest = record { one = l.0; none_longer = l.1 }; names_none = r.1.names_none })
      by (Some f) l = longest f.1 l

  one_code : is_number 38 z ≡ false → is_number 48 z ≡ false → is_number 58 z ≡ false → is_number 4 z ≡ false → Decides whole (taking 1 (plain_code z))
  one_code p q r s = by (plain_code z) refl
    where
      by : (found : Option Sgr) → plain_code z ≡ found → Decides whole (taking 1 found)
      by None e = inl (nothing (no_alone e) (no_line s) (no_colours p q r))
      by (Some v) e =
          numbered 1 (in_first (ones single_numbers) (underline_shapes ++ all_colours) whole 1 (ones_longest single_numbers z ts (named_listed z v e)) (none-both underline_shapes all_colours whole (no_line s) (no_colours p q r)))

-- ---- Underlines

some_kind : (w : ℤ) (u : Underline) → underline_numbered w ≡ Some u → list_any (λ k. is_number k w) kinds ≡ true
some_kind w u e = by (is_number 0 w) (is_number 1 w) (is_number 2 w) (is_number 3 w) (is_number 4 w) (is_number 5 w) e
  where
    by : (a b c d f g : Bool) → cond a (Some underline.None) (cond b (Some underline.Single) (cond c (Some underline.Double) (cond d (Some underline.Curly) (cond f (Some underline.Dotted) (cond g (Some underline.Dashed) None))))) ≡ Some u
        → (a || (b || (c || (d || (f || (g || false)))))) ≡ true
    by true b c d f g q = refl
    by false true c d f g q = refl
    by false false true d f g q = refl
    by false false false true f g q = refl
    by false false false false true g q = refl
    by false false false false false true q = refl
    by false false false false false false q = cc

-- 4 alone, where no kind follows it
single : (ts : List CsiParam) → NoneStands (led colon (ones kinds)) ts → Longest sgr_shapes (Integer (pos 4) ∷ ts) 1
single ts none =
    let lines : NoneStands underline_shapes (Integer (pos 4) ∷ ts) = led_nothing (number_part 4) (Integer (pos 4)) ts (led colon (ones kinds)) none in
    numbered (pos 4) ts 1 (in_first (ones single_numbers) (underline_shapes ++ all_colours) (Integer (pos 4) ∷ ts) 1 (ones_longest single_numbers (pos 4) ts refl)
    (none-both underline_shapes all_colours (Integer (pos 4) ∷ ts) lines (no_colours (pos 4) ts refl refl refl)))

-- 4 and a kind
lined : (w : ℤ) (us : List CsiParam) (u : Underline) → underline_numbered w ≡ Some u → Longest sgr_shapes (Integer (pos 4) ∷ P 58 ∷ Integer w ∷ us) 3
lined w us u e =
    let ts : List CsiParam = P 58 ∷ Integer w ∷ us in
    let line : Longest underline_shapes (Integer (pos 4) ∷ ts) 3 =
    led_longest (number_part 4) (Integer (pos 4)) ts (led colon (ones kinds)) 2 refl (led_longest colon (P 58) (Integer w ∷ us) (ones kinds) 1 refl (ones_longest kinds w us (some_kind w u e))) in
    let rest : Longest (underline_shapes ++ all_colours) (Integer (pos 4) ∷ ts) 3 = in_first underline_shapes all_colours (Integer (pos 4) ∷ ts) 3 line (no_colours (pos 4) ts refl refl refl) in
    numbered (pos 4) ts 3 (one-back (ones single_numbers) (underline_shapes ++ all_colours) (Integer (pos 4) ∷ ts) 3 rest.0, longer-both (ones single_numbers) (underline_shapes ++ all_colours) (Integer (pos 4) ∷ ts) 3 (short single_numbers) rest.1)
  where
    short : (numbers : List ℕ) → NoneIsLonger (ones numbers) (Integer (pos 4) ∷ P 58 ∷ Integer w ∷ us) 3
    short [] = tt
    short (k ∷ numbers) = (λ s. omega arith, short numbers)

underlined : (ts : List CsiParam) → Decides (Integer (pos 4) ∷ ts) (underline_shape ts)
underlined [] = single [] (refl, (refl, (refl, (refl, (refl, (refl, tt))))))
underlined (Integer z ∷ ts) = single (Integer z ∷ ts) (led_none colon (Integer z) ts (ones kinds) refl)
underlined (P b ∷ []) = single (P b ∷ []) (led_nothing colon (P b) [] (ones kinds) (none_without (ones kinds) [] refl refl))
underlined (P b ∷ P c ∷ ts) = single (P b ∷ P c ∷ ts) (led_nothing colon (P b) (P c ∷ ts) (ones kinds) (none_without (ones kinds) (P c ∷ ts) refl refl))
underlined (P b ∷ Integer w ∷ ts) =
    cond_both (eqb b 58) (underline_numbered w) None (λ found. Decides (Integer (pos 4) ∷ P b ∷ Integer w ∷ ts) (underline_or_single found))
    (λ p. by (underline_numbered w) refl p) (λ p. single (P b ∷ Integer w ∷ ts) (led_none colon (P b) (Integer w ∷ ts) (ones kinds) p))
  where
    by : (found : Option Underline) → underline_numbered w ≡ found → eqb b 58 ≡ true → Decides (Integer (pos 4) ∷ P b ∷ Integer w ∷ ts) (underline_or_single found)
    by None e p = single (P b ∷ Integer w ∷ ts) (led_nothing colon (P b) (Integer w ∷ ts) (ones kinds) (ones_none underline_numbered kinds w ts refl e))
    by (Some u) e p = subst (λ (c : ℕ). Longest sgr_shapes (Integer (pos 4) ∷ P c ∷ Integer w ∷ ts) 3) (sym (eqb-true b 58 p)) (lined w ts u e)

-- ---- Every list

by_number : (z : ℤ) (ts : List CsiParam) → Decides (Integer z ∷ ts) (numbered_shape z ts)
by_number z ts =
    numbered_shape-by (Decides (Integer z ∷ ts)) z ts (coloured z ts foreground) (coloured z ts background) (coloured z ts underline_colour)
    (λ p. subst (λ y. Decides (Integer y ∷ ts) (underline_shape ts)) (sym p) (underlined ts)) (one_code z ts)

shape_decides : (ts : List CsiParam) → Decides ts (sgr_shape ts)
unfolding sgr_shape
shape_decides [] = inl (refl, none_without all_numbered [] refl refl)
shape_decides (Integer z ∷ ts) = by_number z ts
shape_decides (P b ∷ ts) =
    cond_both (eqb b 59) (Some value.Reset) None (λ found. Decides (P b ∷ ts) (taking 1 found))
    (λ p. (inl (rw p refl, refl), (λ s. omega arith, no_longer all_numbered (P b ∷ ts) 1 (none_without all_numbered (P b ∷ ts) refl refl))))
    (λ p. inl (rw p refl, none_without all_numbered (P b ∷ ts) refl refl))

pub longest_shape_decides-lem : LongestShapeDecides
longest_shape_decides-lem = record {
  chosen = λ ts v n e. let l = subst (Decides ts) e (shape_decides ts) in record { one = l.0; none_longer = l.1 };
  none = λ ts e. subst (Decides ts) e (shape_decides ts);
}
