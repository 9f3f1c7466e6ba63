use Rattle.std.proofs.Common.{◌≡◌, ◌∙◌, sym, ap, subst, refl, map, arith, Bor, List, ℕ, suc, [], ◌∷◌, length, take, drop, get_or, ◌-◌}
use Rattle.std.specs.Prelude.{Err}
use Rattle.std.specs.List.{join_with_byte}
use Rattle.std.proofs.lemmas.Grind.{common_steps}
use Rattle.cell_base.specs.LinkText.{IsUnlessMemory, link_reading, texts_reading}
use Rattle.cell_base.specs.declared.link_error.LinkError.TheVariants.{PartCount}
use Rattle.cell_base.proofs.TextsReading.{reading_short, reading_long}
use Rattle.cell_base.proofs.hyperlink.Hyperlink.parse.Goals as goal

length-map : {A B : Type 0} (f : A → B) (xs : List A) → length (map f xs) ≡ length xs
length-map f [] = refl
length-map f (x ∷ xs) = ap suc (length-map f xs)

pub returns-then-parts-lt3 : goal.returns-then-parts-lt3
returns-then-parts-lt3 c =
    let ts = map (λ p. p.now) c.args.parts.now in
    let n : length ts ≡ length c.args.parts.now = length-map (λ p. p.now) c.args.parts.now in
    subst (λ x. IsUnlessMemory x (Err PartCount)) (sym (reading_short ts (omega arith))) refl

pub returns : goal.returns
returns c =
    let parts = c.args.parts.now in
    let none : Bor (List ℕ) = record { ref_ptr = (0, 0); now = [] } in
    let rest : take (length parts - 2) (drop 2 parts) ≡ drop 2 parts = grind (arith, common_steps) in
    let is : link_reading (map (λ p. p.now) parts) ≡ texts_reading (get_or parts 1 none).now (join_with_byte 59 (map (λ p. p.now) (take (length parts - 2) (drop 2 parts)))) =
    reading_long (λ p. p.now) parts none (omega arith) ∙ ap (λ ps. texts_reading (get_or parts 1 none).now (join_with_byte 59 (map (λ p. p.now) ps))) (sym rest)
    in
    subst (λ x. IsUnlessMemory x c.from_texts.result) (sym is) c.from_texts.ensures
