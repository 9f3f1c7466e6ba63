-- Known bytes that grow.
use Rattle.std.proofs.Common.{◌≡◌, ℕ, ◌+◌, ◌-◌, Bool, true, false, length, arith, length-drop, List, [], ◌∷◌, ◌++◌, take, drop, refl, sym, ap, ◌∙◌, Option, Some, None, append_assoc}
use Rattle.std.specs.Prelude.{◌||◌, ◌&&◌, ◌==◌}
use Rattle.std.proofs.lemmas.List.{take-append-drop, take_all}
use Rattle.std.proofs.lemmas.Bool.Decides.{nat_tests}
use Rattle.std.proofs.Math.Seq.{take-add}
use Rattle.std.specs.Io.KnownBytes.{Appends, Keeps}
use Rattle.terminal.specs.Shown.{AppendsPrefix}

pub appends_more : (a b c : Option (List ℕ)) (bytes : List ℕ) (n m : ℕ) → Appends a b (take n bytes) → Appends b c (take m (drop n bytes)) → Appends a c (take (n + m) bytes)
appends_more None b c bytes n m h k = tt
appends_more (Some x) None c bytes n m h k = absurd h
appends_more (Some x) (Some y) None bytes n m h k = absurd k
appends_more (Some x) (Some y) (Some z) bytes n m h k =
    k ∙ ap (λ l. l ++ take m (drop n bytes)) h ∙ append_assoc x (take n bytes) (take m (drop n bytes)) ∙ ap (λ l. x ++ l) (sym (take-add n m bytes))

pub appends_kept : (a b c : Option (List ℕ)) (bytes : List ℕ) → Appends a b bytes → Keeps b c → Appends a c bytes
appends_kept None b c bytes h k = tt
appends_kept (Some x) None c bytes h k = absurd h
appends_kept (Some x) (Some y) None bytes h k = absurd k
appends_kept (Some x) (Some y) (Some z) bytes h k = k ∙ h

pub prefix_of : (a c : Option (List ℕ)) (bytes : List ℕ) (n : ℕ) → Appends a c (take n bytes) → AppendsPrefix a c bytes
prefix_of a c bytes n h = record { written = take n bytes; remaining = drop n bytes; whole = sym (take-append-drop n bytes); appends = h }

pub nothing_appended : (a b : Option (List ℕ)) → Keeps a b → Appends a b []
nothing_appended None b h = tt
nothing_appended (Some x) None h = absurd h
nothing_appended (Some x) (Some y) h = h ∙ sym (nil x)
  where
    nil : (l : List ℕ) → l ++ [] ≡ l
    nil [] = refl
    nil (x ∷ l) = ap (λ m. x ∷ m) (nil l)

pub rest_is : (l : List ℕ) (n : ℕ) → take (length l - n) (drop n l) ≡ drop n l
rest_is l n = take_all (length l - n) (drop n l) (omega (arith, length-drop n l))

-- after a write of a part, and after one that took none
pub write_more : (a b c : Option (List ℕ)) (bytes : List ℕ) (n m : ℕ) → Appends a b (take n bytes) → Appends b c (take m (take (length bytes - n) (drop n bytes))) → Appends a c (take (n + m) bytes)
write_more a b c bytes n m h k = appends_more a b c bytes n m h (rw (rest_is bytes n) at k)

-- no fault came before and none now
pub no_fault : (x y z : Bool) → z ≡ (x || y) → x ≡ false → y ≡ false → z ≡ false
no_fault x y z e f g = e ∙ (λ i. f i || g i)

-- with no fault before, no call came after one
pub not_gone_on : (failed before now : Bool) → now ≡ (failed || before) → failed ≡ false → now ≡ before
not_gone_on failed before now e f = e ∙ ap (λ b. b || before) f

pub took_some : (n : ℕ) (b : Bool) → (n ≡ 0 → ⊥) → ((n == 0) && b) ≡ false
took_some n b h = by_test (n == 0) refl
  where
    by_test : (x : Bool) → (n == 0) ≡ x → ((n == 0) && b) ≡ false
    by_test true e = absurd (h (grind (arith, nat_tests)))
    by_test false e = rw e refl

pub keeps_same : (a : Option (List ℕ)) → Keeps a a
keeps_same None = tt
keeps_same (Some x) = refl
