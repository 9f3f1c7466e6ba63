use Rattle.std.proofs.Common.{◌≡◌, ◌∙◌, ap, codes, map}
use Rattle.std.specs.Prelude.{unwrap_or}
use Rattle.terminal_steps.specs.declared.profile.Profile.TheVariants.{Plain}
use Rattle.relay.specs.CommandLine.{asked_in, width_in, height_in, every_in, show_in, live_in}
use Rattle.relay.proofs.ReadLemmas.{conflict_read, fault_of_conflict, fault_of_name, fault_of_parse, flag_read, number_read, terminal_read, words_pass}
use Rattle.relay.proofs.options.read.Goals as goal

pub returns-in-Err-clause-faults : goal.returns-in-Err-clause-faults
returns-in-Err-clause-faults g c = fault_of_parse (map g.S.AsStr.text c.args.words.now) c.in-Err.error c.in-Err.ensures.faults

pub returns-in-Err-profile_in-clause-faults : goal.returns-in-Err-profile_in-clause-faults
returns-in-Err-profile_in-clause-faults g c =
    fault_of_name (map g.S.AsStr.text c.args.words.now) c.in-Err-profile_in.bad c.in-Ok.ensures.faults
    (terminal_read c.in-Ok.matches _ c.in-Ok.ensures.rows _ c.in-Err-profile_in.ensures.read) c.in-Err-profile_in.ensures.refused

pub returns-then-has_conflict-clause-faults : goal.returns-then-has_conflict-clause-faults
returns-then-has_conflict-clause-faults g c =
    let words = map g.S.AsStr.text c.args.words.now in
    let rows = c.in-Ok.ensures.rows in
    fault_of_conflict words c.in-Ok-profile_in.profile c.in-Ok.ensures.faults (terminal_read c.in-Ok.matches words rows _ c.in-Ok-profile_in.ensures.read)
    (conflict_read c.in-Ok.matches words rows c.has_conflict.result c.has_conflict.ensures ∙ c.if-has_conflict.true)

pub returns-clause-asked : goal.returns-clause-asked
unfolding asked_in
returns-clause-asked g c =
    let words = map g.S.AsStr.text c.args.words.now in
    let matches = c.in-Ok.matches in
    let rows = c.in-Ok.ensures.rows in
    let width : width_in words ≡ c.number.result = number_read (codes "width") 80 4096 matches words rows c.number.result c.number.ensures.read in
    let height : height_in words ≡ c.number-2.result = number_read (codes "height") 24 4096 matches words rows c.number-2.result c.number-2.ensures.read in
    let every : every_in words ≡ c.number-3.result = number_read (codes "every") 4096 4294967295 matches words rows c.number-3.result c.number-3.ensures.read in
    let show : show_in words ≡ c.flag.result = flag_read (codes "show") matches words rows c.flag.result c.flag.ensures in
    let live : live_in words ≡ c.flag-2.result = flag_read (codes "live") matches words rows c.flag-2.result c.flag-2.ensures in
    let profile = ap (λ o. unwrap_or o Plain) (terminal_read matches words rows _ c.in-Ok-profile_in.ensures.read) in
    λ i. record { width = width i; height = height i; profile = profile i; every = every i; is_show = show i; is_live = live i }

pub returns-clause-live : goal.returns-clause-live
returns-clause-live g c = flag_read (codes "live") c.in-Ok.matches (map g.S.AsStr.text c.args.words.now) c.in-Ok.ensures.rows c.flag-2.result c.flag-2.ensures

pub returns-clause-faults : goal.returns-clause-faults
returns-clause-faults g c =
    let words = map g.S.AsStr.text c.args.words.now in
    let rows = c.in-Ok.ensures.rows in
    words_pass words c.in-Ok-profile_in.profile c.in-Ok.ensures.faults (terminal_read c.in-Ok.matches words rows _ c.in-Ok-profile_in.ensures.read)
    (conflict_read c.in-Ok.matches words rows c.has_conflict.result c.has_conflict.ensures ∙ c.if-has_conflict.false)
