-- The truth value of a flag's text, as the code reads it.
use Rattle.std.proofs.Common.{◌≡◌, Bool, true, false, Option, Some, None, Result, Ok, Err, refl, sym, codes}
use Rattle.std.specs.Option.{unwrap_or}
use Rattle.std.specs.Str.{bytes_eq}
use Rattle.std.specs.Str.Parse.{ParsesBool}
use Rattle.std.proofs.lemmas.Slice.Eq.{bytes_eq-Decides}
use Rattle.clap.specs.Words.{Text}
use Rattle.clap.specs.Matches.{ReadsOne}
use Rattle.relay.specs.CommandLine.{is_true}

other_text : (a b : Text) → (a ≡ b → ⊥) → bytes_eq a b ≡ false
other_text a b h = by_test (bytes_eq a b) refl
  where
    by_test : (t : Bool) → bytes_eq a b ≡ t → bytes_eq a b ≡ false
    by_test true e = absurd (h ((bytes_eq-Decides a b).0 e))
    by_test false e = e

module _ {E : Type 0} (gives : Text → Result Bool E → Type 0) (parses : (t : Text) (r : Result Bool E) → gives t r → ParsesBool t r) where
  pub flag_is : (o : Option Text) (r : Option Bool) → (o ≡ None → r ≡ None) → ((t : Text) → o ≡ Some t → ReadsOne gives t r) → unwrap_or r false ≡ is_true o
  unfolding is_true
  flag_is None r none value = rw (none refl) refl
  flag_is (Some t) (Some true) none value = let read = parses t (Ok true) (value t refl) in rw read refl
  flag_is (Some t) (Some false) none value = let read = parses t (Ok false) (value t refl) in rw read refl
  flag_is (Some t) None none value = let given = value t refl in let read = parses t (Err given.0) given.1 in sym (other_text t (codes "true") read.0)
