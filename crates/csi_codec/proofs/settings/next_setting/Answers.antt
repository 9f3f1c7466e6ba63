use Rattle.std.proofs.Common.{rules, ◌≡◌, Some}
use Rattle.csi_codec.specs.Rendition.{sgr_group}
use Rattle.csi_codec.specs.Sources.{read_off}
use Rattle.csi_codec.specs.Texts.{tokens_of}
use Rattle.csi_codec.proofs.SettingLemmas.{reset_first, setting_first}
use Rattle.csi_codec.proofs.settings.next_setting.Goals as goal

pub returns-then-is_empty-clause-reads : goal.returns-then-is_empty-clause-reads
returns-then-is_empty-clause-reads c = λ truncated. reset_first c.args.list.now truncated (search rules)

pub returns-clause-reads : goal.returns-clause-reads
returns-clause-reads c =
    let e : Some (c.in_ok-value.value, tokens_of c.in_ok-value.rest.bytes.now) ≡ read_off (tokens_of c.args.list.now) (sgr_group (tokens_of c.args.list.now)) = search rules in
    (setting_first c.args.list.now c.in_ok-value.rest.bytes.now c.in_ok-value.value c.requires e).0

pub returns-clause-rest : goal.returns-clause-rest
returns-clause-rest c =
    let e : Some (c.in_ok-value.value, tokens_of c.in_ok-value.rest.bytes.now) ≡ read_off (tokens_of c.args.list.now) (sgr_group (tokens_of c.args.list.now)) = search rules in
    (setting_first c.args.list.now c.in_ok-value.rest.bytes.now c.in_ok-value.value c.requires e).1
