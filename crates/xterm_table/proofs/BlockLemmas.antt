-- What holds of each row still holds where rows move.
use Rattle.std.proofs.Common.{ℕ, ◌+◌, ◌-◌, List, ◌++◌, length, take, drop, replicate}
use Rattle.std.specs.Prelude.{All, min}
use Rattle.std.proofs.lemmas.List.Elements.{All-append, All-drop, All-take, All-replicate}
use Rattle.screen_effects.specs.Regions.{in_region, moved_up, moved_down}

region_all : {A : Type 0} (P : A → Type 0) (change : List A → List A) (first size : ℕ) (xs : List A) → ((ys : List A) → All P ys → All P (change ys)) → All P xs → All P (in_region change first size xs)
region_all P change first size xs keeps p =
    let part = take size (drop first xs) in
    All-append P (take first xs ++ change part) (drop (first + size) xs)
    (All-append P (take first xs) (change part) (All-take P first xs p) (keeps part (All-take P size (drop first xs) (All-drop P first xs p))))
    (All-drop P (first + size) xs p)

pub up_all : {A : Type 0} (P : A → Type 0) (new : A) (count first size : ℕ) (xs : List A) → P new → All P xs → All P (in_region (moved_up new count) first size xs)
up_all P new count first size xs q =
    region_all P (moved_up new count) first size xs
    (λ ys p. All-append P (drop count ys) (replicate (min count (length ys)) new) (All-drop P count ys p) (All-replicate P (min count (length ys)) new q))

pub down_all : {A : Type 0} (P : A → Type 0) (new : A) (count first size : ℕ) (xs : List A) → P new → All P xs → All P (in_region (moved_down new count) first size xs)
down_all P new count first size xs q =
    region_all P (moved_down new count) first size xs
    (λ ys p. All-append P (replicate (min count (length ys)) new) (take (length ys - count) ys) (All-replicate P (min count (length ys)) new q) (All-take P (length ys - count) ys p))
