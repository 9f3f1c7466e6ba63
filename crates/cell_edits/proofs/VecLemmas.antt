-- A vector whose items were written through a slice.
use Rattle.std.proofs.Common.{◌≡◌, List, length, drop, ◌∙◌, arith}
use Rattle.std.specs.Global.{Vec}
use Rattle.std.specs.Vec.{with_items}
use Rattle.std.proofs.lemmas.List.{take-append-le, take_all}

pub written : {X : Type 0} (v : Vec X) (ws : List X) → length ws ≡ length v.items → (with_items v ws).items ≡ ws
written v ws e =
    let n : v.len ≡ length v.items = v.ok.0 in
    take-append-le v.len ws (drop (length ws) v.items) (omega arith) ∙ take_all v.len ws (omega arith)
