-- The reading of two texts, by its three tests.
use Rattle.std.proofs.Common.{◌≡◌, ℕ, Bool, cond, eqb, List, ◌∷◌, [], length, refl, get_or, drop, map, arith, ◌≤◌, ◌<◌}
use Rattle.std.specs.Prelude.{◌&&◌, Option, Some, None, Result, Ok, Err, false}
use Rattle.std.specs.List.{list_all, join_with_byte}
use Rattle.std.specs.Str.{is_utf8}
use Rattle.cell_base.specs.Link.{Link}
use Rattle.cell_base.specs.LinkText.{is_param, param_fields, params_of, texts_reading, link_reading}
use Rattle.cell_base.specs.declared.link_error.LinkError.{LinkError}
use Rattle.cell_base.specs.declared.link_error.LinkError.TheVariants.{PartCount, Utf8, Params}

abbrev pub reading_by : Bool → Bool → Bool → List ℕ → List ℕ → Result (Option Link) LinkError
reading_by b1 b2 b3 P U = cond b1 (Ok None) (cond b2 (cond b3 (Ok (Some (record { params = params_of P; uri = U; implicit = false }))) (Err Params)) (Err Utf8))

pub texts_by : (P U : List ℕ) (b1 b2 b3 : Bool) → (eqb (length P) 0 && eqb (length U) 0) ≡ b1 → (is_utf8 P && is_utf8 U) ≡ b2 → list_all is_param (param_fields P) ≡ b3 → texts_reading P U ≡ reading_by b1 b2 b3 P U
unfolding texts_reading
texts_by P U b1 b2 b3 e1 e2 e3 = λ i. reading_by (e1 i) (e2 i) (e3 i) P U

-- a reading by its parts
pub reading_short : (ts : List (List ℕ)) → length ts < 3 → link_reading ts ≡ Err PartCount
unfolding link_reading
reading_short [] l = refl
reading_short (a ∷ []) l = refl
reading_short (a ∷ p ∷ []) l = refl
reading_short (a ∷ p ∷ u ∷ us) l = absurd (omega arith)

pub reading_long : {A : Type 0} (f : A → List ℕ) (ps : List A) (d : A) → 3 ≤ length ps → link_reading (map f ps) ≡ texts_reading (f (get_or ps 1 d)) (join_with_byte 59 (map f (drop 2 ps)))
unfolding link_reading
reading_long f [] d l = absurd (omega arith)
reading_long f (a ∷ []) d l = absurd (omega arith)
reading_long f (a ∷ p ∷ []) d l = absurd (omega arith)
reading_long f (a ∷ p ∷ u ∷ us) d l = refl
