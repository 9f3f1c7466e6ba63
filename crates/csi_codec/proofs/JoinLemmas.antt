-- SGR lists joined by a `;`.
use Rattle.std.proofs.Common.{◌≡◌, ℕ, zero, suc, ◌+◌, ◌-◌, ◌<◌, ◌≤◌, ℤ, pos, negsuc, eqb, Bool, true, false, not, cond, ◌&&◌, List, [], ◌∷◌, ◌++◌, length, drop, get_or, Option, Some, None, IfSome, option_map, option_and_then, slice_get, arith, refl, sym, ap, ◌∙◌, subst}
use Rattle.std.specs.Prelude.{is_some}
use Rattle.std.specs.List.{list_all}
use Rattle.std.specs.Option.{option_map_or}
use Rattle.std.proofs.lemmas.Option.{slice_get_past}
use Rattle.std.proofs.lemmas.Bool.{cond_both, eqb-true, false≢true, and_parts, and_right, not-true}
use Rattle.std.proofs.lemmas.Bool.Decides.{eqb_tells}
use Rattle.std.proofs.Common.{inl, inr}
use Rattle.cell_base.specs.declared.color.ColorSpec.{ColorSpec}
use Rattle.cell_base.specs.declared.color.ColorSpec.TheVariants as color
use Rattle.csi_codec.specs.declared.parameters.CsiParam.{CsiParam}
use Rattle.csi_codec.specs.declared.parameters.CsiParam.TheVariants.{Integer, P}
use Rattle.csi_codec.specs.declared.rendition.Sgr.{Sgr}
use Rattle.csi_codec.specs.declared.rendition.Sgr.TheVariants as value
use Rattle.csi_codec.specs.Parameters.{semicolon_count, semicolon_at, with_semicolon}
use Rattle.csi_codec.specs.Rendition.{Part, byte_part, number_part, any_number, is_part, stands, byte_of, byte_at, palette_at, opaque_at, colour_at, taking, Form, first_form, colour_forms, colour_form, colour_shape, underline_shape, numbered_shape, sgr_shape, sgr_group}
use Rattle.csi_codec.specs.Actions.{Action, sgr, unspecified, groups_from, groups, all_sgr_tokens, is_sgr_token, csi_reading}
use Rattle.csi_codec.specs.Laws.{is_known, SgrListsJoin}
use Rattle.csi_codec.proofs.PieceLemmas.{rendition_group}
use Rattle.csi_codec.proofs.ShapeLemmas.{first_form-each, numbered_shape-by}
use Rattle.csi_codec.proofs.SgrLemmas.{stands-length, sgr_shape_takes, Takes}
use Rattle.csi_codec.proofs.PieceLemmas.{semicolon_count-le}

-- ---- Shapes at the start of a longer list

slice_get-append : (ts x : List CsiParam) (i : ℕ) → i < length ts → slice_get (ts ++ x) i ≡ slice_get ts i
slice_get-append [] x i h = absurd (omega arith)
slice_get-append (t ∷ ts) x zero h = refl
slice_get-append (t ∷ ts) x (suc i) h = slice_get-append ts x i (omega arith)

and_more : (a b c : Bool) → (a && b) ≡ true → (b ≡ true → c ≡ true) → (a && c) ≡ true
and_more true b c h k = k h
and_more false b c h k = cc

-- a shape that matches a list matches every longer one
stands-append : (parts : List Part) (ts x : List CsiParam) → stands parts ts ≡ true → stands parts (ts ++ x) ≡ true
stands-append [] ts x h = refl
stands-append (part ∷ parts) [] x h = cc
stands-append (part ∷ parts) (t ∷ ts) x h = and_more (is_part part t) (stands parts ts) (stands parts (ts ++ x)) h (stands-append parts ts x)

-- no part of the shape is a `;`
abbrev no_semicolon : List Part → Bool
no_semicolon [] = true
no_semicolon (byte_part b ∷ parts) = not (eqb 59 b) && no_semicolon parts
no_semicolon (number_part n ∷ parts) = no_semicolon parts
no_semicolon (any_number ∷ parts) = no_semicolon parts

-- so whether it matches doesn't change where a `;` and more come after the list
stands_open : (parts : List Part) (ts x : List CsiParam) → no_semicolon parts ≡ true → stands parts (ts ++ P 59 ∷ x) ≡ stands parts ts
stands_open [] ts x n = refl
stands_open (byte_part b ∷ parts) [] x n = rw (not-true (eqb 59 b) (and_parts (not (eqb 59 b)) (no_semicolon parts) n).0) refl
stands_open (number_part c ∷ parts) [] x n = refl
stands_open (any_number ∷ parts) [] x n = refl
stands_open (byte_part b ∷ parts) (t ∷ ts) x n = ap (λ v. is_part (byte_part b) t && v) (stands_open parts ts x (and_parts (not (eqb 59 b)) (no_semicolon parts) n).1)
stands_open (number_part c ∷ parts) (t ∷ ts) x n = ap (λ v. is_part (number_part c) t && v) (stands_open parts ts x n)
stands_open (any_number ∷ parts) (t ∷ ts) x n = ap (λ v. is_part any_number t && v) (stands_open parts ts x n)

-- ---- Forms of a colour

-- a form that matches a list reads the same colour where the list goes on
abbrev Reads : Form → Type 0
Reads form = (ts x : List CsiParam) → stands form.0 ts ≡ true → form.1 (ts ++ x) ≡ form.1 ts

byte_at-append : (ts x : List CsiParam) (i : ℕ) → i < length ts → byte_at (ts ++ x) i ≡ byte_at ts i
byte_at-append ts x i h = ap (option_and_then byte_of) (slice_get-append ts x i h)

palette_reads : (parts : List Part) (i : ℕ) → i < length parts → Reads (parts, palette_at i)
palette_reads parts i h ts x s =
    let l : length parts ≤ length ts = stands-length parts ts s in
    ap (option_map color.PaletteIndex) (byte_at-append ts x i (omega arith))

opaque_reads : (parts : List Part) (i j k : ℕ) → i < length parts → j < length parts → k < length parts → Reads (parts, opaque_at i j k)
opaque_reads parts i j k p q r ts x s =
    let l : length parts ≤ length ts = stands-length parts ts s in
    rw (byte_at-append ts x i (omega arith), byte_at-append ts x j (omega arith), byte_at-append ts x k (omega arith)) refl

colour_reads : (parts : List Part) (i j k m : ℕ) → i < length parts → j < length parts → k < length parts → m < length parts → Reads (parts, colour_at i j k m)
colour_reads parts i j k m p q r u ts x s =
    let l : length parts ≤ length ts = stands-length parts ts s in
    rw (byte_at-append ts x i (omega arith), byte_at-append ts x j (omega arith), byte_at-append ts x k (omega arith), byte_at-append ts x m (omega arith)) refl

-- ---- The first form that matches

sign_conflict : (t : CsiParam) → is_part (byte_part 58) t ≡ true → is_part (byte_part 59) t ≡ false
sign_conflict (Integer z) h = cc
sign_conflict (P c) h = let e : c ≡ 58 = eqb-true c 58 h in rw e refl

code_conflict : (t : CsiParam) → is_part (number_part 5) t ≡ true → is_part (number_part 2) t ≡ false
code_conflict (P c) h = cc
code_conflict (Integer (negsuc m)) h = cc
code_conflict (Integer (pos m)) h = let e : m ≡ 5 = eqb-true m 5 h in rw e refl

first_conflict : (ps qs : List Part) (ts x : List CsiParam) → stands (byte_part 58 ∷ ps) ts ≡ true → stands (byte_part 59 ∷ qs) (ts ++ x) ≡ false
first_conflict ps qs [] x h = cc
first_conflict ps qs (t ∷ ts) x h = rw (sign_conflict t (and_parts (is_part (byte_part 58) t) (stands ps ts) h).0) refl

second_conflict : (ps qs : List Part) (ts x : List CsiParam) → stands (byte_part 59 ∷ number_part 5 ∷ ps) ts ≡ true → stands (byte_part 59 ∷ number_part 2 ∷ qs) (ts ++ x) ≡ false
second_conflict ps qs [] x h = cc
second_conflict ps qs (t ∷ []) x h = let e : false ≡ true = (and_parts (is_part (byte_part 59) t) false h).1 in cc
second_conflict ps qs (t ∷ u ∷ ts) x h =
    let r : (is_part (number_part 5) u && stands ps ts) ≡ true = (and_parts (is_part (byte_part 59) t) (is_part (number_part 5) u && stands ps ts) h).1 in
    and_right (is_part (byte_part 59) t) (is_part (number_part 2) u && stands qs (ts ++ x)) (rw (code_conflict u (and_parts (is_part (number_part 5) u) (stands ps ts) r).0) refl)

-- the form that is found in a list is found again where the list goes on after a `;`
record IsStable (forms : List Form) : Type 0 where
  again : (ts x : List CsiParam) → is_some (first_form forms ts) ≡ true → first_form forms (ts ++ P 59 ∷ x) ≡ first_form forms ts

-- a form that matches goes on matching, so it is enough that it doesn't begin to match where a later form matches
form-stable : (form : Form) (forms : List Form) → Reads form → IsStable forms
    → ((ts x : List CsiParam) → stands form.0 ts ≡ false → is_some (first_form forms ts) ≡ true → stands form.0 (ts ++ P 59 ∷ x) ≡ false) → IsStable (form ∷ forms)
form-stable form forms reads stable separate = record {
  again = λ ts x.
      cond_both (stands form.0 ts) _ _
      (λ found. is_some found ≡ true → cond (stands form.0 (ts ++ P 59 ∷ x)) (taking (length form.0) (form.1 (ts ++ P 59 ∷ x))) (first_form forms (ts ++ P 59 ∷ x)) ≡ found)
      (λ e h. rw (stands-append form.0 ts (P 59 ∷ x) e) (ap (taking (length form.0)) (reads ts (P 59 ∷ x) e)))
      (λ e h. rw (separate ts x e h) (stable.again ts x h));
}

colon_form-stable : (form : Form) (forms : List Form) → no_semicolon form.0 ≡ true → Reads form → IsStable forms → IsStable (form ∷ forms)
colon_form-stable form forms n reads stable = form-stable form forms reads stable (λ ts x e h. stands_open form.0 ts x n ∙ e)

-- the forms of the palette, which are the last two
abbrev palettes : List Form
palettes = drop 5 colour_forms

abbrev semicolons_rest : List Part
semicolons_rest = byte_part 59 ∷ any_number ∷ byte_part 59 ∷ any_number ∷ byte_part 59 ∷ any_number ∷ []

given_some : {A C : Type 0} (found : Option A) → is_some found ≡ true → IfSome found (λ f. C) → C
given_some None h c = absurd (false≢true h)
given_some (Some f) h c = c

-- a form with `;` and the number 2 never matches a longer list where one of the palette matches
palettes_disjoint : (ts x : List CsiParam) → is_some (first_form palettes ts) ≡ true → stands (byte_part 59 ∷ number_part 2 ∷ semicolons_rest) (ts ++ x) ≡ false
palettes_disjoint ts x h =
    given_some (first_form palettes ts) h
    (first_form-each (λ ts f. stands (byte_part 59 ∷ number_part 2 ∷ semicolons_rest) (ts ++ x) ≡ false) palettes (
      λ ts c s e. first_conflict (number_part 5 ∷ byte_part 58 ∷ any_number ∷ []) (number_part 2 ∷ semicolons_rest) ts x s,
      (λ ts c s e. second_conflict (byte_part 59 ∷ any_number ∷ []) semicolons_rest ts x s, tt),
    ) ts)

abbrev form_at : ℕ → Form
form_at n = get_or colour_forms n ([], palette_at 0)

colour_forms-stable : IsStable colour_forms
colour_forms-stable =
    colon_form-stable (form_at 0) (drop 1 colour_forms) refl (colour_reads (form_at 0).0 4 6 8 10 (omega arith) (omega arith) (omega arith) (omega arith))
    (colon_form-stable (form_at 1) (drop 2 colour_forms) refl (opaque_reads (form_at 1).0 5 7 9 (omega arith) (omega arith) (omega arith))
    (colon_form-stable (form_at 2) (drop 3 colour_forms) refl (opaque_reads (form_at 2).0 4 6 8 (omega arith) (omega arith) (omega arith))
    (colon_form-stable (form_at 3) (drop 4 colour_forms) refl (opaque_reads (form_at 3).0 3 5 7 (omega arith) (omega arith) (omega arith))
    (form-stable (form_at 4) palettes (opaque_reads (form_at 4).0 3 5 7 (omega arith) (omega arith) (omega arith))
    (colon_form-stable (form_at 5) (drop 6 colour_forms) refl (palette_reads (form_at 5).0 3 (omega arith))
    (form-stable (form_at 6) [] (palette_reads (form_at 6).0 3 (omega arith)) (record { again = λ ts x h. cc }) (λ ts x e h. cc)))
    (λ ts x e h. palettes_disjoint ts (P 59 ∷ x) h)))))

-- ---- Shapes

abbrev with_color : (ColorSpec → Sgr) → Option (ColorSpec × ℕ) → Option (Sgr × ℕ)
with_color target found = option_map (λ form. (target form.0, form.1 + 1)) found

some_from_with : (target : ColorSpec → Sgr) (found : Option (ColorSpec × ℕ)) → is_some (with_color target found) ≡ true → is_some found ≡ true
some_from_with target None e = cc
some_from_with target (Some f) e = refl

colour_shape-stable : (target : ColorSpec → Sgr) (ts x : List CsiParam) → is_some (colour_shape target ts) ≡ true → colour_shape target (ts ++ P 59 ∷ x) ≡ colour_shape target ts
unfolding colour_form
colour_shape-stable target ts x h = ap (with_color target) (colour_forms-stable.again ts x (some_from_with target (first_form colour_forms ts) h))

underline_shape-stable : (ts x : List CsiParam) → underline_shape (ts ++ P 59 ∷ x) ≡ underline_shape ts
underline_shape-stable [] [] = refl
underline_shape-stable [] (Integer z ∷ x) = refl
underline_shape-stable [] (P c ∷ x) = refl
underline_shape-stable (Integer z ∷ ts) x = refl
underline_shape-stable (P b ∷ []) x = refl
underline_shape-stable (P b ∷ Integer z ∷ ts) x = refl
underline_shape-stable (P b ∷ P c ∷ ts) x = refl

numbered_shape-stable : (z : ℤ) (ts x : List CsiParam) → is_some (numbered_shape z ts) ≡ true → numbered_shape z (ts ++ P 59 ∷ x) ≡ numbered_shape z ts
unfolding numbered_shape
numbered_shape-stable z ts x =
    numbered_shape-by (λ found. is_some found ≡ true → numbered_shape z (ts ++ P 59 ∷ x) ≡ found) z ts
    (λ p h. ap (λ y. numbered_shape y (ts ++ P 59 ∷ x)) p ∙ colour_shape-stable value.Foreground ts x h) (λ p h. ap (λ y. numbered_shape y (ts ++ P 59 ∷ x)) p ∙ colour_shape-stable value.Background ts x h)
    (λ p h. ap (λ y. numbered_shape y (ts ++ P 59 ∷ x)) p ∙ colour_shape-stable value.UnderlineColor ts x h)
    (λ p h. ap (λ y. numbered_shape y (ts ++ P 59 ∷ x)) p ∙ underline_shape-stable ts x) (λ p q r s h. rw (p, q, r, s) refl)

-- the shape at the start of a list is found again where the list goes on after a `;`
pub sgr_shape-stable : (ts x : List CsiParam) → is_some (sgr_shape ts) ≡ true → sgr_shape (ts ++ P 59 ∷ x) ≡ sgr_shape ts
unfolding sgr_shape
sgr_shape-stable [] x h = cc
sgr_shape-stable (P b ∷ ts) x h = refl
sgr_shape-stable (Integer z ∷ ts) x h = numbered_shape-stable z ts x h

-- ---- Groups

-- the number of `;` at the end of a list: 1 or 0
abbrev last_semicolon : List CsiParam → ℕ
last_semicolon ts = semicolon_at ts (length ts - 1)

last-tail : (t : CsiParam) (ts : List CsiParam) → 0 < length ts → last_semicolon (t ∷ ts) ≡ 0 → last_semicolon ts ≡ 0
last-tail t [] h e = absurd (omega arith)
last-tail t (u ∷ ts) h e =
    let here : length (u ∷ ts) - 1 ≡ length ts = omega arith in
    let after : length (t ∷ u ∷ ts) - 1 ≡ suc (length ts) = omega arith in
    ap (semicolon_at (u ∷ ts)) here ∙ sym (ap (semicolon_at (t ∷ u ∷ ts)) after) ∙ e

abbrev all_known : List Action → Bool
all_known actions = list_all is_known actions

-- a list's actions are used up with its tokens
from-after : (group : List CsiParam → Option (Action × ℕ)) (unread : List CsiParam → Action) (ts b : List CsiParam) → groups_from group unread (suc (length ts)) (ts ++ P 59 ∷ b) ≡ groups_from group unread 0 b
from-after group unread [] b = refl
from-after group unread (t ∷ ts) b = from-after group unread ts b

from-all : (group : List CsiParam → Option (Action × ℕ)) (unread : List CsiParam → Action) (ts : List CsiParam) → groups_from group unread (length ts) ts ≡ []
from-all group unread [] = refl
from-all group unread (t ∷ ts) = from-all group unread ts

-- a group whose shape ends inside the list does so too, where no `;` ends the list
shorter : (ts : List CsiParam) (n : ℕ) → n < length ts → last_semicolon ts ≡ 0 → n + semicolon_at ts n < length ts
shorter ts n h e = elim (eqb_tells (n + 1) (length ts)) [
  | inl p ↦
      let at : n ≡ length ts - 1 = omega (arith, p.1) in
      let none : semicolon_at ts n ≡ 0 = ap (semicolon_at ts) at ∙ e in omega arith
  | inr p ↦ let s : semicolon_count (slice_get ts n) ≤ 1 = semicolon_count-le (slice_get ts n) in omega (arith, p.1)
]

slice_get-after : (ts b : List CsiParam) (t : CsiParam) → slice_get (ts ++ t ∷ b) (length ts) ≡ Some t
slice_get-after [] b t = refl
slice_get-after (u ∷ ts) b t = slice_get-after ts b t

abbrev as_actions : Option (Sgr × ℕ) → Option (Action × ℕ)
as_actions found = option_map (λ f. (sgr f.0, f.1)) found

all_sgr_tokens-append : (a b : List CsiParam) → all_sgr_tokens a ≡ true → all_sgr_tokens b ≡ true → all_sgr_tokens (a ++ P 59 ∷ b) ≡ true
all_sgr_tokens-append [] b h k = k
all_sgr_tokens-append (t ∷ a) b h k = and_more (is_sgr_token t) (all_sgr_tokens a) (all_sgr_tokens (a ++ P 59 ∷ b)) h (λ e. all_sgr_tokens-append a b e k)

module _ (truncated : Bool) where
  abbrev rest_action : List CsiParam → Action
  rest_action rest = unspecified rest truncated 109

  abbrev from : ℕ → List CsiParam → List Action
  from = groups_from rendition_group rest_action

  abbrev follow : List CsiParam → Action × ℕ → List Action
  follow ts f = f.0 ∷ from (f.1 - 1) ts

  -- one step, from the shape that was found
  abbrev step : Option (Sgr × ℕ) → List CsiParam → List CsiParam → List Action
  step found all ts = option_map_or (follow ts) (as_actions (with_semicolon all found)) (rest_action all ∷ [])

  from-step : (t : CsiParam) (ts : List CsiParam) → from 0 (t ∷ ts) ≡ step (sgr_shape (t ∷ ts)) (t ∷ ts) ts
  unfolding sgr_group
  from-step t ts = refl

  abbrev Joins : List CsiParam → List CsiParam → Type 0
  Joins ts b = (k : ℕ) → k < length ts → last_semicolon ts ≡ 0 → all_known (from k ts) ≡ true → from k (ts ++ P 59 ∷ b) ≡ from k ts ++ from 0 b

  -- a shape that ends inside the list
  ends_inside : (t : CsiParam) (ts b : List CsiParam) (f : Sgr × ℕ) → 0 < f.1 → f.1 < length (t ∷ ts) → last_semicolon (t ∷ ts) ≡ 0 → Joins ts b
      → all_known (step (Some f) (t ∷ ts) ts) ≡ true
      → step (Some f) ((t ∷ ts) ++ P 59 ∷ b) (ts ++ P 59 ∷ b) ≡ step (Some f) (t ∷ ts) ts ++ from 0 b
  ends_inside t ts b f some h e ih known =
      let same : semicolon_at ((t ∷ ts) ++ P 59 ∷ b) f.1 ≡ semicolon_at (t ∷ ts) f.1 = ap semicolon_count (slice_get-append (t ∷ ts) (P 59 ∷ b) f.1 h) in
      let short : f.1 + semicolon_at (t ∷ ts) f.1 < length (t ∷ ts) = shorter (t ∷ ts) f.1 h e in
      let positive : 0 < length ts = omega (arith, some, short) in
      ap (λ s. sgr f.0 ∷ from (f.1 + s - 1) (ts ++ P 59 ∷ b)) same
      ∙ ap (λ remaining. sgr f.0 ∷ remaining) (ih (f.1 + semicolon_at (t ∷ ts) f.1 - 1) (omega arith) (last-tail t ts positive e) known)

  -- a shape that ends with the list
  ends_with : (t : CsiParam) (ts b : List CsiParam) (f : Sgr × ℕ) → f.1 ≡ suc (length ts)
      → step (Some f) ((t ∷ ts) ++ P 59 ∷ b) (ts ++ P 59 ∷ b) ≡ step (Some f) (t ∷ ts) ts ++ from 0 b
  ends_with t ts b f e =
      let there : semicolon_at ((t ∷ ts) ++ P 59 ∷ b) f.1 ≡ 1 = ap (semicolon_at ((t ∷ ts) ++ P 59 ∷ b)) e ∙ ap semicolon_count (slice_get-after ts b (P 59)) in
      let here : semicolon_at (t ∷ ts) f.1 ≡ 0 = ap semicolon_count (slice_get_past (t ∷ ts) f.1 (omega arith)) in
      let long : f.1 + semicolon_at ((t ∷ ts) ++ P 59 ∷ b) f.1 - 1 ≡ suc (length ts) = omega arith in
      let whole : f.1 + semicolon_at (t ∷ ts) f.1 - 1 ≡ length ts = omega arith in
      ap (λ k. sgr f.0 ∷ from k (ts ++ P 59 ∷ b)) long
      ∙ ap (λ remaining. sgr f.0 ∷ remaining) (from-after rendition_group rest_action ts b)
      ∙ sym (ap (λ remaining. sgr f.0 ∷ remaining ++ from 0 b) (ap (λ k. from k ts) whole ∙ from-all rendition_group rest_action ts))

  join-step : (t : CsiParam) (ts b : List CsiParam) (found : Option (Sgr × ℕ)) → sgr_shape (t ∷ ts) ≡ found → last_semicolon (t ∷ ts) ≡ 0 → Joins ts b
      → all_known (step found (t ∷ ts) ts) ≡ true
      → step (sgr_shape ((t ∷ ts) ++ P 59 ∷ b)) ((t ∷ ts) ++ P 59 ∷ b) (ts ++ P 59 ∷ b) ≡ step found (t ∷ ts) ts ++ from 0 b
  join-step t ts b None q e ih known = absurd (false≢true known)
  join-step t ts b (Some f) q e ih known =
      let Q : Option (Sgr × ℕ) → Type 0 = λ found. Takes (length (t ∷ ts)) found in
      let takes : (0 < f.1) × (f.1 ≤ length (t ∷ ts)) = subst Q q (sgr_shape_takes (t ∷ ts)) in
      let stable : sgr_shape ((t ∷ ts) ++ P 59 ∷ b) ≡ Some f = sgr_shape-stable (t ∷ ts) b (ap is_some q) ∙ q in
      ap (λ found. step found ((t ∷ ts) ++ P 59 ∷ b) (ts ++ P 59 ∷ b)) stable
      ∙ elim (eqb_tells f.1 (suc (length ts)))
      [ inl p ↦ ends_with t ts b f p.1 | inr p ↦ ends_inside t ts b f takes.0 (omega (arith, takes.1, p.1)) e ih known ]

  join-from : (k : ℕ) (ts b : List CsiParam) → k < length ts → last_semicolon ts ≡ 0 → all_known (from k ts) ≡ true → from k (ts ++ P 59 ∷ b) ≡ from k ts ++ from 0 b
  join-from k [] b h e known = absurd (omega arith)
  join-from (suc k) (t ∷ ts) b h e known = join-from k ts b (omega arith) (last-tail t ts (omega arith) e) known
  join-from zero (t ∷ ts) b h e known =
      let Q : List Action → Type 0 = λ actions. all_known actions ≡ true in
      from-step t (ts ++ P 59 ∷ b)
      ∙ join-step t ts b (sgr_shape (t ∷ ts)) refl e (λ j. join-from j ts b) (subst Q (from-step t ts) known)
      ∙ ap (λ actions. actions ++ from 0 b) (sym (from-step t ts))

pub sgr_lists_join-lem : SgrListsJoin
unfolding csi_reading groups
sgr_lists_join-lem [] b truncated h = absurd (omega (arith, h.first_some))
sgr_lists_join-lem (t ∷ a) [] truncated h = absurd (omega (arith, h.other_some))
sgr_lists_join-lem (t ∷ a) (u ∷ b) truncated h =
    let whole : all_sgr_tokens ((t ∷ a) ++ P 59 ∷ u ∷ b) ≡ true = all_sgr_tokens-append (t ∷ a) (u ∷ b) h.first_tokens h.other_tokens in
    let known : all_known (from truncated 0 (t ∷ a)) ≡ true = ap (λ v. all_known (cond v (from truncated 0 (t ∷ a)) (unspecified (t ∷ a) truncated 109 ∷ []))) (sym h.first_tokens) ∙ h.known in
    ap (λ v. cond v (from truncated 0 ((t ∷ a) ++ P 59 ∷ u ∷ b)) (unspecified ((t ∷ a) ++ P 59 ∷ u ∷ b) truncated 109 ∷ [])) whole
    ∙ join-from truncated 0 (t ∷ a) (u ∷ b) h.first_some h.unended known
    ∙ sym (ap (λ v. cond v (from truncated 0 (t ∷ a)) (unspecified (t ∷ a) truncated 109 ∷ []) ++ from truncated 0 (u ∷ b)) h.first_tokens)
    ∙ sym (ap (λ v. cond (all_sgr_tokens (t ∷ a)) (from truncated 0 (t ∷ a)) (unspecified (t ∷ a) truncated 109 ∷ []) ++ cond v (from truncated 0 (u ∷ b)) (unspecified (u ∷ b) truncated 109 ∷ [])) h.other_tokens)
