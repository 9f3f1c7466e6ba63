-- The tokens of a group of SGR are tokens of SGR, so the tokens after the first group decide whether all of a list's are.
use Rattle.std.proofs.Common.{◌≡◌, ℕ, zero, suc, ◌+◌, ℤ, eqb, Bool, true, cond, ◌&&◌, ◌||◌, List, [], ◌∷◌, length, drop, Option, Some, None, IfSome, option_map, arith, refl, sym, ap, ◌∙◌, subst, inl, inr}
use Rattle.std.proofs.lemmas.Bool.{cases_Bool, eqb-true, and_parts, or_left}
use Rattle.csi_codec.specs.declared.parameters.CsiParam.{CsiParam}
use Rattle.csi_codec.specs.declared.parameters.CsiParam.TheVariants.{Integer, P}
use Rattle.csi_codec.specs.declared.rendition.Sgr.{Sgr}
use Rattle.csi_codec.specs.Parameters.{semicolon_at, with_semicolon}
use Rattle.csi_codec.specs.Rendition.{Part, byte_part, number_part, any_number, is_part, stands, Form, colour_forms, sgr_shape, sgr_group}
use Rattle.csi_codec.specs.Actions.{Action, sgr, all_sgr_tokens, is_sgr_token}
use Rattle.csi_codec.proofs.PieceLemmas.{rendition_group}
use Rattle.csi_codec.proofs.ShapeLemmas.{EachForm, EachShape, sgr_shape-each}

-- a part of a shape is a number, `;` or `:`
abbrev is_sgr_part : Part → Bool
is_sgr_part (byte_part b) = eqb b 59 || eqb b 58
is_sgr_part (number_part n) = true
is_sgr_part any_number = true

abbrev all_sgr_parts : List Part → Bool
all_sgr_parts [] = true
all_sgr_parts (part ∷ parts) = is_sgr_part part && all_sgr_parts parts

part_is_token : (part : Part) (t : CsiParam) → is_sgr_part part ≡ true → is_part part t ≡ true → is_sgr_token t ≡ true
part_is_token part (Integer z) s h = refl
part_is_token (byte_part b) (P c) s h = subst (λ k. is_sgr_token (P k) ≡ true) (sym (eqb-true c b h)) (or_left (eqb b 59 || eqb b 58) (eqb b 63) s)
part_is_token (number_part n) (P c) s h = cc
part_is_token any_number (P c) s h = cc

-- the tokens after the first n decide whether all are tokens of SGR
abbrev DecidedAfter : List CsiParam → ℕ → Type 0
DecidedAfter ts n = all_sgr_tokens ts ≡ all_sgr_tokens (drop n ts)

-- the tokens after a shape that matches decide
stands-sgr : (parts : List Part) (ts : List CsiParam) → all_sgr_parts parts ≡ true → stands parts ts ≡ true → DecidedAfter ts (length parts)
stands-sgr [] ts s h = refl
stands-sgr (part ∷ parts) [] s h = cc
stands-sgr (part ∷ parts) (t ∷ ts) s h =
    ap (λ b. b && all_sgr_tokens ts) (part_is_token part t (and_parts (is_sgr_part part) (all_sgr_parts parts) s).0 (and_parts (is_part part t) (stands parts ts) h).0)
    ∙ stands-sgr parts ts (and_parts (is_sgr_part part) (all_sgr_parts parts) s).1 (and_parts (is_part part t) (stands parts ts) h).1

-- the tokens after the match that was found decide
abbrev Passes : {A : Type 0} → List CsiParam → Option (A × ℕ) → Type 0
Passes ts found = IfSome found (λ f. DecidedAfter ts f.1)

abbrev all_sgr_forms : List Form → Bool
all_sgr_forms [] = true
all_sgr_forms (form ∷ forms) = all_sgr_parts form.0 && all_sgr_forms forms

forms_pass : (forms : List Form) → all_sgr_forms forms ≡ true → EachForm (λ ts f. DecidedAfter ts f.1) forms
forms_pass [] s = tt
forms_pass (form ∷ forms) s =
    let parts = and_parts (all_sgr_parts form.0) (all_sgr_forms forms) s in (λ ts c stood e. stands-sgr form.0 ts parts.0 stood, forms_pass forms parts.1)

one_more : (z : ℤ) (ts : List CsiParam) (n : ℕ) → DecidedAfter ts n → DecidedAfter (Integer z ∷ ts) (n + 1)
one_more z ts n h = let e : suc n ≡ n + 1 = omega arith in h ∙ ap (λ k. all_sgr_tokens (drop k (Integer z ∷ ts))) e

shapes_pass : EachShape (λ ts f. DecidedAfter ts f.1) (λ ts f. DecidedAfter ts f.1)
shapes_pass = record {
  form = forms_pass colour_forms refl;
  colour = λ t z ts f h. one_more z ts f.1 h;
  line = λ z y ts u. refl;
  single = λ z ts v e. refl;
  reset = λ ts. refl;
}

-- and after the `;` that a group takes too
after_semicolon : (ts : List CsiParam) (n : ℕ) → all_sgr_tokens (drop n ts) ≡ all_sgr_tokens (drop (n + semicolon_at ts n) ts)
after_semicolon [] zero = refl
after_semicolon [] (suc n) = let e : suc n ≡ suc n + semicolon_at [] (suc n) = omega arith in ap (λ k. all_sgr_tokens (drop k [])) e
after_semicolon (Integer z ∷ ts) zero = refl
after_semicolon (P b ∷ ts) zero = elim (cases_Bool (eqb b 59)) [
  | inl e ↦ rw e refl
  | inr e ↦ subst (λ v. all_sgr_tokens (P b ∷ ts) ≡ all_sgr_tokens (drop (0 + cond v 1 0) (P b ∷ ts))) (sym e) refl
]
after_semicolon (t ∷ ts) (suc n) =
    let e : suc (n + semicolon_at ts n) ≡ suc n + semicolon_at ts n = omega arith in
    after_semicolon ts n ∙ ap (λ k. all_sgr_tokens (drop k (t ∷ ts))) e

with_semicolon-passes : {A : Type 0} (ts : List CsiParam) (found : Option (A × ℕ)) → Passes ts found → Passes ts (with_semicolon ts found)
with_semicolon-passes ts None h = tt
with_semicolon-passes ts (Some f) h = h ∙ after_semicolon ts f.1

as_action : (ts : List CsiParam) (found : Option (Sgr × ℕ)) → Passes ts found → Passes ts (option_map (λ f. (sgr f.0, f.1)) found)
as_action ts None h = tt
as_action ts (Some f) h = h

rendition_group-passes : (ts : List CsiParam) → Passes ts (rendition_group ts)
unfolding sgr_group
rendition_group-passes ts = as_action ts (sgr_group ts) (with_semicolon-passes ts (sgr_shape ts) (sgr_shape-each shapes_pass ts))

pub sgr_tokens_after : (ts : List CsiParam) (a : Action) (n : ℕ) → rendition_group ts ≡ Some (a, n) → all_sgr_tokens ts ≡ all_sgr_tokens (drop n ts)
sgr_tokens_after ts a n e = let P : Option (Action × ℕ) → Type 0 = λ found. Passes ts found in subst P e (rendition_group-passes ts)
