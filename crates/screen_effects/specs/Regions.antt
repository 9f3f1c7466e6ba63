-- Regions of rows, whose rows move up or down. Rows that move past the region's edge are dropped.
use Rattle.std.specs.Prelude.{ℕ, ◌+◌, ◌-◌, List, ◌++◌, length, take, drop, min, replicate}

-- the elements move towards the start by `count`, and as many new ones are added at the end as leave
abbrev pub moved_up : {A : Type 0} → A → ℕ → List A → List A
moved_up new count xs = drop count xs ++ replicate (min count (length xs)) new

-- the elements move towards the end by `count`, and as many new ones are added at the start as leave
abbrev pub moved_down : {A : Type 0} → A → ℕ → List A → List A
moved_down new count xs = replicate (min count (length xs)) new ++ take (length xs - count) xs

-- changes a region: the elements from `first` on, at most `size` of them, as far as there are any
abbrev pub in_region : {A : Type 0} → (List A → List A) → ℕ → ℕ → List A → List A
in_region change first size xs = take first xs ++ change (take size (drop first xs)) ++ drop (first + size) xs
