-- The memory that is kept of dropped texts.
use Rattle.std.specs.Prelude.{◌≡◌, ℕ, ◌≤◌, List, String, All, length, sum_by}
use Rattle.std.specs.String.{string_capacity}
use Rattle.std.specs.declared.alloc.Global.{Global}

-- how many bytes texts have room for together
abbrev pub pooled_bytes : List (String Global) → ℕ
pooled_bytes texts = sum_by string_capacity texts

-- `bytes` bytes, at most 64 KB, in at most 4096 texts of at most 1 KB each
pub record AreCounted (texts : List (String Global)) (bytes : ℕ) : Type 0 where
  pub counted : pooled_bytes texts ≡ bytes
  pub bounded : bytes ≤ 65536
  pub at_most : length texts ≤ 4096
  pub small : All (λ t. string_capacity t ≤ 1024) texts
