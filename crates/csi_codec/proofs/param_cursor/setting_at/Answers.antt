use Rattle.std.proofs.Common.{rules, ◌≡◌, ◌<◌, true, false, length, arith, sym, Some, None, ◌∙◌}
use Rattle.csi_codec.proofs.CoordinateLemmas.{none_next, reset_first, some_read}
use Rattle.csi_codec.proofs.CountLemmas.{first_at, further_at, lost_at, none_at}
use Rattle.std.proofs.lemmas.Bool.{true≢false}
use Rattle.csi_codec.specs.Actions.{all_sgr_tokens}
use Rattle.csi_codec.specs.Parsing.{HasNoSetting}
use Rattle.csi_codec.specs.Rendition.{sgr_group}
use Rattle.csi_codec.specs.Sources.{read_off}
use Rattle.csi_codec.proofs.param_cursor.setting_at.Goals.{then-read-gt0, else-read-gt0}
use Rattle.csi_codec.proofs.param_cursor.setting_at.Goals as goal

pub returns-then-is_empty-clause-found : goal.returns-then-is_empty-clause-found
returns-then-is_empty-clause-found c =
    let none : length c.args.params.now ≡ 0 = search rules in
    record { actions = λ truncated. reset_first c.args.read c.args.params.now truncated c.requires none }

pub returns-in_err-value-clause-none : goal.returns-in_err-value-clause-none
returns-in_err-value-clause-none c =
    let some : 0 < length c.args.params.now = search rules in
    let e : None ≡ read_off c.after.result.now (sgr_group c.after.result.now) = search rules in
    let none : HasNoSetting c.args.read c.args.params.now = record {
      rest = λ truncated. none_next c.args.read c.args.params.now c.after.result.now truncated (omega arith) c.after.ensures (none_at c.after.result.now e);
      within = omega arith;
    } in
    search rules

pub returns-then-all_sgr_tokens-clause-found : goal.returns-then-all_sgr_tokens-clause-found
returns-then-all_sgr_tokens-clause-found c =
    let some : 0 < length c.args.params.now = search rules in
    let e : Some (c.in_ok-value.value, c.in_ok-value.rest.now) ≡ read_off c.after.result.now (sgr_group c.after.result.now) = search rules in
    elim c.if-read-gt0.branch [
      | then-read-gt0 w ↦ further_at c.args.read c.args.params.now c.after.result.now c.in_ok-value.rest.now c.in_ok-value.value w.if-read-gt0.true (omega arith) c.after.ensures e
      | else-read-gt0 w ↦
          let tokens : all_sgr_tokens c.in_ok-value.rest.now ≡ true = search rules in
          first_at c.args.read c.args.params.now c.after.result.now c.in_ok-value.rest.now c.in_ok-value.value w.if-read-gt0.false some c.after.ensures e tokens
    ]

pub returns-else-all_sgr_tokens-clause-none : goal.returns-else-all_sgr_tokens-clause-none
returns-else-all_sgr_tokens-clause-none c =
    let some : 0 < length c.args.params.now = search rules in
    let e : Some (c.in_ok-value.value, c.in_ok-value.rest.now) ≡ read_off c.after.result.now (sgr_group c.after.result.now) = search rules in
    elim c.if-read-gt0.branch [
      | then-read-gt0 w ↦ absurd (true≢false (sym (some_read c.args.read w.if-read-gt0.true) ∙ sym w.value-is ∙ c.if-all_sgr_tokens.false))
      | else-read-gt0 w ↦
          let tokens : all_sgr_tokens c.in_ok-value.rest.now ≡ false = search rules in
          record {
            rest = λ truncated. lost_at c.args.read c.args.params.now c.after.result.now c.in_ok-value.rest.now c.in_ok-value.value truncated w.if-read-gt0.false some c.after.ensures e tokens;
            within = omega arith;
          }
    ]
