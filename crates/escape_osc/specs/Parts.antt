-- The body of an operating system command: the bytes between ESC ] and its end, cut into parts at each `;`.
use Rattle.std.specs.Prelude.{ℕ, ◌==◌, Bool, List}
use Rattle.std.specs.List.{slice_split, join_with_byte, list_any}
use Rattle.text_clusters.specs.Controls.{holds_c1}

-- `;`
abbrev pub semicolon : ℕ
semicolon = 59

-- the parts of a body, which is cut at each `;`: one more than its count of `;`
abbrev pub parts_of : List ℕ → List (List ℕ)
parts_of body = slice_split (λ b. b == semicolon) body

-- parts joined by `;`
abbrev pub joined : List (List ℕ) → List ℕ
joined parts = join_with_byte semicolon parts

-- whether some part holds a control from U+0080 to U+009F
abbrev pub any_holds_c1 : List (List ℕ) → Bool
any_holds_c1 parts = list_any holds_c1 parts
