use Rattle.std.proofs.Common.{◌≡◌, ◌∙◌, sym, ap, subst, refl, inl, inr, true, false, map}
use Rattle.std.specs.Prelude.{Ok, Err, None, Some}
use Rattle.std.specs.List.{join_with_byte, list_all}
use Rattle.cell_base.specs.LinkText.{IsUnlessMemory, is_param, param_fields, params_of}
use Rattle.cell_base.specs.declared.link_error.LinkError.TheVariants.{Utf8, Params}
use Rattle.std.proofs.lemmas.Result.{err_from_is_err_and}
use Rattle.cell_base.proofs.TextsReading.{texts_by}
use Rattle.cell_base.proofs.hyperlink.Hyperlink.from_texts.Goals as goal

pub returns-then-are_empty : goal.returns-then-are_empty
returns-then-are_empty c =
    let P = c.args.params.now in
    let U = join_with_byte 59 (map (λ p. p.now) c.args.uri.now) in
    subst (λ x. IsUnlessMemory x (Ok None)) (sym (texts_by P U true _ _ (sym c.are_empty.ensures ∙ c.if-are_empty.true) refl refl)) (inl refl)

pub returns-in_default : goal.returns-in_default
returns-in_default c =
    let P = c.args.params.now in
    let U = join_with_byte 59 (map (λ p. p.now) c.args.uri.now) in
    subst (λ x. IsUnlessMemory x (Err Utf8)) (sym (texts_by P U false false _ (sym c.are_empty.ensures ∙ c.if-are_empty.false) (sym c.in_default.ensures.variant) refl)) refl

pub returns-then-not-are_params : goal.returns-then-not-are_params
returns-then-not-are_params c =
    let P = c.args.params.now in
    let U = join_with_byte 59 (map (λ p. p.now) c.args.uri.now) in
    let bad : list_all is_param (param_fields P) ≡ false = ap (λ t. list_all is_param (param_fields t)) (sym c.in-Some.ensures.value) ∙ sym c.are_params.ensures ∙ c.if-not-are_params.true in
    subst (λ x. IsUnlessMemory x (Err Params)) (sym (texts_by P U false true false (sym c.are_empty.ensures ∙ c.if-are_empty.false) (sym c.in-Some.ensures.variant) bad)) refl

pub returns-in_err-build : goal.returns-in_err-build
returns-in_err-build c =
    let P = c.args.params.now in
    let U = join_with_byte 59 (map (λ p. p.now) c.args.uri.now) in
    let p = err_from_is_err_and c.from_residual.result c.from_residual.ensures.1 in
    let good : list_all is_param (param_fields P) ≡ true = ap (λ t. list_all is_param (param_fields t)) (sym c.in-Some.ensures.value) ∙ sym c.are_params.ensures ∙ c.if-not-are_params.false in
    subst (λ x. IsUnlessMemory x c.from_residual.result) (sym (texts_by P U false true true (sym c.are_empty.ensures ∙ c.if-are_empty.false) (sym c.in-Some.ensures.variant) good)) (inr (p.1 ∙ ap Err p.2))

pub returns : goal.returns
returns c =
    let P = c.args.params.now in
    let U = join_with_byte 59 (map (λ p. p.now) c.args.uri.now) in
    let good : list_all is_param (param_fields P) ≡ true = ap (λ t. list_all is_param (param_fields t)) (sym c.in-Some.ensures.value) ∙ sym c.are_params.ensures ∙ c.if-not-are_params.false in
    subst (λ x. IsUnlessMemory x (Ok (Some c.in_ok-build.field-0))) (sym (texts_by P U false true true (sym c.are_empty.ensures ∙ c.if-are_empty.false) (sym c.in-Some.ensures.variant) good)) (inl (ap (λ l. Ok (Some l)) c.in_ok-build.ensures ∙ ap (λ t. Ok (Some (record { params = params_of t; uri = U; implicit = false }))) c.in-Some.ensures.value))
