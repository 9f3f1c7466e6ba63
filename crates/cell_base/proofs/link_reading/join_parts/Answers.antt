use Rattle.std.proofs.Common.{◌≡◌, subst, map, take, ap, ◌∙◌, sym, ℕ, Bor, List, get_or, ◌++◌, ◌∷◌, [], arith}
use Rattle.std.specs.List.{join_with_byte}
use Rattle.std.specs.Str.{IsUtf8}
use Rattle.std.proofs.lemmas.Str.{IsUtf8-from_is_utf8}
use Rattle.std.proofs.lemmas.Grind.{common_steps}
use Rattle.cell_base.proofs.ReadingSteps.{joined_step, joined_next}
use Rattle.cell_base.proofs.link_reading.join_parts.Goals as goal
use Rattle.cell_base.proofs.link_reading.join_parts.Goals.{then-index-gt0+in_ok-push, else-index-gt0}

pub loop-index-preserved : goal.loop-index-preserved
loop-index-preserved c =
    elim c.if-index-gt0.branch [
      | then-index-gt0+in_ok-push w ↦
          let part : Bor (List ℕ) = record { ref_ptr = (0, 0); now = [] } in
          let text : List ℕ = (get_or c.args.parts.now c.loop-index.index part).now in
          c.in_ok-extend_from_slice.ensures.items
          ∙ ap (λ v. v.items ++ text) w.joined-is
          ∙ ap (λ xs. xs ++ text) (w.in_ok-push.ensures.items ∙ ap (λ xs. xs ++ 59 ∷ []) c.loop-index.invariant)
          ∙ sym (joined_next (λ p. p.now) 59 c.args.parts.now c.loop-index.index part (omega arith) (omega arith))
      | else-index-gt0 w ↦ grind (arith, common_steps, joined_step)
    ]

pub from_utf8_unchecked-requires : goal.from_utf8_unchecked-requires
from_utf8_unchecked-requires c =
    let all : take c.loop-index.index c.args.parts.now ≡ c.args.parts.now = grind (arith, common_steps) in
    let is : c.loop-index.joined.items ≡ join_with_byte 59 (map (λ p. p.now) c.args.parts.now) = c.loop-index.invariant ∙ ap (λ ps. join_with_byte 59 (map (λ p. p.now) ps)) all in
    subst IsUtf8 (sym is) (IsUtf8-from_is_utf8 _ c.requires)
