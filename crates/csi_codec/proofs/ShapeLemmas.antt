-- The shapes of SGR, walked once: a property of each shape holds of the one that is found.
use Rattle.std.proofs.Common.{◌≡◌, ℕ, ◌+◌, ℤ, pos, negsuc, eqb, true, false, List, [], ◌∷◌, length, Option, Some, None, IfSome, option_map, refl, ap, sym, subst}
use Rattle.std.proofs.lemmas.Bool.{cond_both, eqb-true}
use Rattle.cell_base.specs.declared.color.ColorSpec.{ColorSpec}
use Rattle.cell_base.specs.declared.attributes.Underline.{Underline}
use Rattle.cell_base.specs.declared.attributes.Underline.TheVariants as underline
use Rattle.csi_codec.specs.declared.parameters.CsiParam.{CsiParam}
use Rattle.csi_codec.specs.declared.parameters.CsiParam.TheVariants.{Integer, P}
use Rattle.csi_codec.specs.declared.rendition.Sgr.{Sgr}
use Rattle.csi_codec.specs.declared.rendition.Sgr.TheVariants as value
use Rattle.csi_codec.specs.Parameters.{is_number}
use Rattle.csi_codec.specs.Rendition.{stands, taking, Form, first_form, colour_forms, colour_form, colour_shape, plain_code, single_code, underline_numbered, underline_or_single, underline_shape, numbered_shape, sgr_shape}

pub number_is : (k : ℕ) (z : ℤ) → is_number k z ≡ true → z ≡ pos k
number_is k (negsuc m) h = cc
number_is k (pos m) h = ap pos (eqb-true m k h)

taking-each : {A : Type 0} (Q : A × ℕ → Type 0) (n : ℕ) (found : Option A) → ((v : A) → found ≡ Some v → Q (v, n)) → IfSome (taking n found) Q
taking-each Q n None h = tt
taking-each Q n (Some v) h = h v refl

-- ---- Forms of a colour

-- R holds of each colour that a form of the list gives where the form matches, with the number of its tokens
abbrev pub EachForm : (List CsiParam → ColorSpec × ℕ → Type 0) → List Form → Type 0
EachForm R [] = Unit {0}
EachForm R (form ∷ forms) = ((ts : List CsiParam) (c : ColorSpec) → stands form.0 ts ≡ true → form.1 ts ≡ Some c → R ts (c, length form.0)) × EachForm R forms

pub first_form-each : (R : List CsiParam → ColorSpec × ℕ → Type 0) (forms : List Form) → EachForm R forms → (ts : List CsiParam) → IfSome (first_form forms ts) (R ts)
first_form-each R [] each ts = tt
first_form-each R (form ∷ forms) each ts =
    cond_both (stands form.0 ts) (taking (length form.0) (form.1 ts)) (first_form forms ts) (λ found. IfSome found (R ts))
    (λ e. taking-each (R ts) (length form.0) (form.1 ts) (λ c q. each.0 ts c e q)) (λ e. first_form-each R forms each.1 ts)

-- ---- A number, and the tokens after it

-- a colour follows 38, 48 and 58, an underline after 4, and any other number is alone
pub numbered_shape-by : (Q : Option (Sgr × ℕ) → Type 0) (z : ℤ) (ts : List CsiParam)
    → (z ≡ pos 38 → Q (colour_shape value.Foreground ts)) → (z ≡ pos 48 → Q (colour_shape value.Background ts)) → (z ≡ pos 58 → Q (colour_shape value.UnderlineColor ts))
    → (z ≡ pos 4 → Q (underline_shape ts))
    → (is_number 38 z ≡ false → is_number 48 z ≡ false → is_number 58 z ≡ false → is_number 4 z ≡ false → Q (taking 1 (plain_code z)))
    → Q (numbered_shape z ts)
unfolding numbered_shape
numbered_shape-by Q z ts fore back line under single =
    cond_both (is_number 38 z) _ _ Q (λ p. fore (number_is 38 z p)) (λ p.
    cond_both (is_number 48 z) _ _ Q (λ q. back (number_is 48 z q)) (λ q.
    cond_both (is_number 58 z) _ _ Q (λ r. line (number_is 58 z r)) (λ r.
    cond_both (is_number 4 z) _ _ Q (λ s. under (number_is 4 z s)) (λ s. single p q r s))))

-- ---- Every shape

-- the target of a colour: the foreground, the background or the underline
pub data Target : Type 0 where
  foreground : Target
  background : Target
  underline_colour : Target

abbrev pub set_to : Target → ColorSpec → Sgr
set_to foreground c = value.Foreground c
set_to background c = value.Background c
set_to underline_colour c = value.UnderlineColor c

-- R holds of each colour that a form gives, and Q of each shape
pub record EachShape (R : List CsiParam → ColorSpec × ℕ → Type 0) (Q : List CsiParam → Sgr × ℕ → Type 0) : Type 0 where
  pub form : EachForm R colour_forms
  pub colour : (t : Target) (z : ℤ) (ts : List CsiParam) (f : ColorSpec × ℕ) → R ts f → Q (Integer z ∷ ts) (set_to t f.0, f.1 + 1)
  pub line : (z y : ℤ) (ts : List CsiParam) (u : Underline) → Q (Integer z ∷ P 58 ∷ Integer y ∷ ts) (value.Underline u, 3)
  pub single : (z : ℤ) (ts : List CsiParam) (v : Sgr) → plain_code z ≡ Some v → Q (Integer z ∷ ts) (v, 1)
  pub reset : (ts : List CsiParam) → Q (P 59 ∷ ts) (value.Reset, 1)

module _ {R : List CsiParam → ColorSpec × ℕ → Type 0} {Q : List CsiParam → Sgr × ℕ → Type 0} (each : EachShape R Q) where
  coloured-each : (t : Target) (z : ℤ) (ts : List CsiParam) (found : Option (ColorSpec × ℕ)) → IfSome found (R ts) → IfSome (option_map (λ form. (set_to t form.0, form.1 + 1)) found) (Q (Integer z ∷ ts))
  coloured-each t z ts None h = tt
  coloured-each t z ts (Some f) h = each.colour t z ts f h

  colour_shape-each : (t : Target) (z : ℤ) (ts : List CsiParam) → IfSome (colour_shape (set_to t) ts) (Q (Integer z ∷ ts))
  unfolding colour_form
  colour_shape-each t z ts = coloured-each t z ts (first_form colour_forms ts) (first_form-each R colour_forms each.form ts)

  -- 4 alone is a single number
  single-each : (z : ℤ) (ts : List CsiParam) → z ≡ pos 4 → Q (Integer z ∷ ts) (value.Underline underline.Single, 1)
  unfolding single_code
  single-each z ts e = each.single z ts (value.Underline underline.Single) (ap plain_code e)

  lined-each : (z y : ℤ) (ts : List CsiParam) (found : Option Underline) → z ≡ pos 4 → IfSome (underline_or_single found) (Q (Integer z ∷ P 58 ∷ Integer y ∷ ts))
  lined-each z y ts None e = single-each z (P 58 ∷ Integer y ∷ ts) e
  lined-each z y ts (Some u) e = each.line z y ts u

  underline_shape-each : (z : ℤ) (ts : List CsiParam) → z ≡ pos 4 → IfSome (underline_shape ts) (Q (Integer z ∷ ts))
  underline_shape-each z [] e = single-each z [] e
  underline_shape-each z (Integer y ∷ ts) e = single-each z (Integer y ∷ ts) e
  underline_shape-each z (P b ∷ []) e = single-each z (P b ∷ []) e
  underline_shape-each z (P b ∷ P c ∷ ts) e = single-each z (P b ∷ P c ∷ ts) e
  underline_shape-each z (P b ∷ Integer y ∷ ts) e =
      cond_both (eqb b 58) (underline_numbered y) None (λ found. IfSome (underline_or_single found) (Q (Integer z ∷ P b ∷ Integer y ∷ ts)))
      (λ p. subst (λ k. IfSome (underline_or_single (underline_numbered y)) (Q (Integer z ∷ P k ∷ Integer y ∷ ts))) (sym (eqb-true b 58 p)) (lined-each z y ts (underline_numbered y) e))
      (λ p. single-each z (P b ∷ Integer y ∷ ts) e)

  numbered_shape-each : (z : ℤ) (ts : List CsiParam) → IfSome (numbered_shape z ts) (Q (Integer z ∷ ts))
  numbered_shape-each z ts =
      numbered_shape-by (λ found. IfSome found (Q (Integer z ∷ ts))) z ts
      (λ p. colour_shape-each foreground z ts) (λ p. colour_shape-each background z ts) (λ p. colour_shape-each underline_colour z ts)
      (λ p. underline_shape-each z ts p) (λ p q r s. taking-each (Q (Integer z ∷ ts)) 1 (plain_code z) (λ v e. each.single z ts v e))

  pub sgr_shape-each : (ts : List CsiParam) → IfSome (sgr_shape ts) (Q ts)
  unfolding sgr_shape
  sgr_shape-each [] = tt
  sgr_shape-each (Integer z ∷ ts) = numbered_shape-each z ts
  sgr_shape-each (P b ∷ ts) =
      cond_both (eqb b 59) (Some value.Reset) None (λ found. IfSome (taking 1 found) (Q (P b ∷ ts)))
      (λ p. subst (λ k. Q (P k ∷ ts) (value.Reset, 1)) (sym (eqb-true b 59 p)) (each.reset ts)) (λ p. tt)
