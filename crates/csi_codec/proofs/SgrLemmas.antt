-- How many tokens the shapes of SGR take.
use Rattle.std.proofs.Common.{◌≡◌, ℕ, ◌<◌, ◌≤◌, true, List, [], ◌∷◌, length, Option, Some, None, IfSome, arith}
use Rattle.std.proofs.lemmas.Bool.{and_parts}
use Rattle.csi_codec.specs.declared.parameters.CsiParam.{CsiParam}
use Rattle.csi_codec.specs.Rendition.{Part, is_part, stands, taking, Form, colour_forms, sgr_shape}
use Rattle.csi_codec.proofs.ShapeLemmas.{EachForm, EachShape, sgr_shape-each}

-- a match takes at least one token, and no more than there are
abbrev pub Takes : {A : Type 0} → ℕ → Option (A × ℕ) → Type 0
Takes n found = IfSome found (λ f. (0 < f.1) × (f.1 ≤ n))

-- a shape is no longer than a list that it matches
pub stands-length : (parts : List Part) (ts : List CsiParam) → stands parts ts ≡ true → length parts ≤ length ts
stands-length [] ts h = omega arith
stands-length (part ∷ parts) [] h = cc
stands-length (part ∷ parts) (t ∷ ts) h =
    let e : length parts ≤ length ts = stands-length parts ts (and_parts (is_part part t) (stands parts ts) h).1 in omega arith

pub taking-takes : {A : Type 0} (n : ℕ) (value : Option A) → 0 < n → Takes n (taking 1 value)
taking-takes n None h = tt
taking-takes n (Some v) h = (omega arith, omega arith)

forms_take : (forms : List Form) → EachForm (λ ts f. f.1 ≤ length ts) forms
forms_take [] = tt
forms_take (form ∷ forms) = (λ ts c s e. stands-length form.0 ts s, forms_take forms)

shapes_take : EachShape (λ ts f. f.1 ≤ length ts) (λ ts f. (0 < f.1) × (f.1 ≤ length ts))
shapes_take = record {
  form = forms_take colour_forms;
  colour = λ t z ts f h. (omega arith, omega (arith, h));
  line = λ z y ts u. (omega arith, omega arith);
  single = λ z ts v e. (omega arith, omega arith);
  reset = λ ts. (omega arith, omega arith);
}

-- a shape takes at least one token, and no more than there are
pub sgr_shape_takes : (ts : List CsiParam) → Takes (length ts) (sgr_shape ts)
sgr_shape_takes ts = sgr_shape-each shapes_take ts
