use Rattle.std.proofs.Common.{◌≡◌, ◌∙◌, ap₂, codes}
use Rattle.std.proofs.lemmas.Result.{IfOk-weaker}
use Rattle.clap.specs.Words.{App, app_of, with_rule}
use Rattle.relay.specs.CommandLine.{command_line, flag_rule, named, number_rule, text_rule}
use Rattle.relay.proofs.options.command.Goals as goal

abbrev with_width : App
with_width = with_rule named (number_rule (codes "width") (codes "80") 4096)

abbrev with_height : App
with_height = with_rule with_width (number_rule (codes "height") (codes "24") 4096)

abbrev with_terminal : App
with_terminal = with_rule with_height (text_rule (codes "terminal") (codes "plain"))

abbrev with_every : App
with_every = with_rule with_terminal (number_rule (codes "every") (codes "4096") 4294967295)

abbrev with_show : App
with_show = with_rule with_every (flag_rule (codes "show"))

pub returns : goal.returns
unfolding command_line
returns c =
    let width : app_of c.in_ok-arg.field-0 ≡ with_width =
    c.in_ok-arg.ensures.shape c.number_option-width.ensures.local ∙ ap₂ with_rule c.in_ok-named_command.ensures c.number_option-width.ensures.rule in
    let height : app_of c.in_ok-arg-2.field-0 ≡ with_height =
    c.in_ok-arg-2.ensures.shape c.number_option-height.ensures.local ∙ ap₂ with_rule width c.number_option-height.ensures.rule in
    let terminal : app_of c.in_ok-arg-3.field-0 ≡ with_terminal =
    c.in_ok-arg-3.ensures.shape c.text_option-terminal.ensures.local ∙ ap₂ with_rule height c.text_option-terminal.ensures.rule in
    let every : app_of c.in_ok-arg-4.field-0 ≡ with_every =
    c.in_ok-arg-4.ensures.shape c.number_option-every.ensures.local ∙ ap₂ with_rule terminal c.number_option-every.ensures.rule in
    let show : app_of c.in_ok-arg-5.field-0 ≡ with_show =
    c.in_ok-arg-5.ensures.shape c.flag_option-show.ensures.local ∙ ap₂ with_rule every c.flag_option-show.ensures.rule in
    IfOk-weaker c.arg-6.result _ _
    (λ r added. added.shape c.flag_option-live.ensures.local ∙ ap₂ with_rule show c.flag_option-live.ensures.rule) c.arg-6.ensures
