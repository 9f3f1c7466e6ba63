use Rattle.terminal.proofs.ViewLemmas.{sound_of, counted_of, most_of, counted, each_short, short, prints}
use Rattle.terminal.proofs.viewers.updates_are_small.Goals as goal

pub returns-clause-count : goal.returns-clause-count
returns-clause-count g c = λ number sound. counted (λ w. g.W.Widths.width_of w) c.args.terminal.now (sound_of (λ w. g.W.Widths.width_of w) c.args.terminal.now (c.stands.ensures.stands sound) (c.stands.ensures.spelled sound)) number c.updates_are_counted.ensures.update
    (counted_of (λ w. g.W.Widths.width_of w) c.args.terminal.now c.surface.result.now c.surface.ensures c.surfaces_stay_lawful.ensures.counted) (most_of (λ w. g.W.Widths.width_of w) c.args.terminal.now c.surface.result.now c.surface.ensures (c.stands.ensures.spelled sound) c.surfaces_stay_lawful.ensures.log)

pub returns-clause-each : goal.returns-clause-each
returns-clause-each g c = λ number sound. each_short (λ w. g.W.Widths.width_of w) c.args.terminal.now (sound_of (λ w. g.W.Widths.width_of w) c.args.terminal.now (c.stands.ensures.stands sound) (c.stands.ensures.spelled sound)) number c.updates_have_encodings.ensures.update c.encoded_changes_are_short.ensures

pub returns-clause-bytes : goal.returns-clause-bytes
returns-clause-bytes g c = λ number sound. short (λ w. g.W.Widths.width_of w) c.args.terminal.now (sound_of (λ w. g.W.Widths.width_of w) c.args.terminal.now (c.stands.ensures.stands sound) (c.stands.ensures.spelled sound)) number c.updates_have_encodings.ensures.update c.spelled_changes_are_rendered.ensures c.encoded_lists_are_short.ensures

pub returns-clause-printed : goal.returns-clause-printed
returns-clause-printed g c = λ number sound. prints (λ w. g.W.Widths.width_of w) c.args.terminal.now (sound_of (λ w. g.W.Widths.width_of w) c.args.terminal.now (c.stands.ensures.stands sound) (c.stands.ensures.spelled sound)) number c.updates_have_encodings.ensures.update c.spelled_changes_are_rendered.ensures c.spelled_changes_are_writable.ensures c.writable_lists_read_back.ensures.actions c.deltas_print_each_run_once.ensures
