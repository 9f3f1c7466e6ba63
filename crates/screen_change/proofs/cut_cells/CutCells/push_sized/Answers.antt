use Rattle.std.proofs.Common.{◌∙◌, ◌++◌, ◌∷◌, [], List, ℕ, length, refl, ap, arith}
use Rattle.std.specs.String.{string_bytes}
use Rattle.screen_change.proofs.StepLemmas.{cut_of, sized, sized_cells}
use Rattle.screen_change.proofs.cut_cells.CutCells.push_sized.Goals as goal

pub invariant_of-self-2 : goal.invariant_of-self-2
invariant_of-self-2 c =
    let t = c.keep_lengths.new.self in
    let f = c.push_reserved.ensures.items ∙ ap (λ (ns : List ℕ). ns ++ length c.args.text.now ∷ []) c.reserve.ensures.items in
    let k = sized (string_bytes t.text) c.args.text.now (string_bytes c.push_str.new.self) t.lens.items c.push_reserved.new.self.items t.sized_bytes (length c.args.text.now)
    c.in_ok-push_str.ensures.bytes f (omega (arith, c.in_ok-keep_lengths.ensures.kept, t.text.bytes.ok.0)) refl c.utf8.text (cut_of t) in
    record { bytes = k.bytes_are; within = omega (arith, c.in_ok-keep_lengths.ensures.kept, c.in_ok-push_str.ensures.len); parts = k.parts }

pub returns : goal.returns
returns c =
    let t = c.keep_lengths.new.self in
    let f = c.push_reserved.ensures.items ∙ ap (λ (ns : List ℕ). ns ++ length c.args.text.now ∷ []) c.reserve.ensures.items in
    sized_cells (string_bytes t.text) c.args.text.now (string_bytes c.push_str.new.self) t.lens.items c.push_reserved.new.self.items t.sized_bytes (length c.args.text.now)
    c.in_ok-push_str.ensures.bytes f (omega (arith, c.in_ok-keep_lengths.ensures.kept, t.text.bytes.ok.0)) refl (cut_of t)
    ∙ ap (λ (cells : List (List ℕ)). cells ++ c.args.text.now ∷ []) c.keep_lengths.ensures.cells
