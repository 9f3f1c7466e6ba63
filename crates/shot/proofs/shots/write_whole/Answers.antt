use Rattle.std.proofs.Common.{[], ◌∷◌, map, subst}
use Rattle.std.specs.Io.KnownBytes.{Appends}
use Rattle.std.proofs.lemmas.Result.{err_from_is_err_and}
use Rattle.recordings.specs.EventView.{event_of}
use Rattle.shot.specs.Shots.{pictures, times_after}
use Rattle.shot.proofs.WriteLemmas.{stopped_last, written_last}
use Rattle.terminal.specs.Shown.{AppendsPrefix}
use Rattle.shot.proofs.shots.write_whole.Goals as goal

pub returns-clause-writes : goal.returns-clause-writes
returns-clause-writes g c = λ view st.
    let old = g.T.Sink.contents c.args.writer.now in
    let out = g.T.Sink.contents c.write_steps.new.writer in
    let new = g.T.Sink.contents c.write_screen.new.writer in
    let events = map event_of c.args.events.now in
    subst (λ count. Appends old new (pictures c.args.format view events (times_after 0 c.args.step count (c.args.end ∷ [])))) c.count_below-count.ensures.count
    (written_last c.args.format view events c.args.step c.count_below-count.result c.write_steps.new.terminal (map event_of c.in_ok-rest.rest.now) _ c.args.end _ old out new
    (c.in_ok-rest.ensures.writes view st) c.in_ok-write_screen.ensures.writes)

pub returns-in_err-rest-clause-part : goal.returns-in_err-rest-clause-part
returns-in_err-rest-clause-part g c =
    let p = err_from_is_err_and c.from_residual.result c.from_residual.ensures.1 in
    let old = g.T.Sink.contents c.args.writer.now in
    let new = g.T.Sink.contents c.write_steps.new.writer in
    let events = map event_of c.args.events.now in
    rw p.1 (λ view st.
    subst (λ count. AppendsPrefix old new (pictures c.args.format view events (times_after 0 c.args.step count (c.args.end ∷ [])))) c.count_below-count.ensures.count
    (c.in_err-rest.ensures.part view st (c.args.end ∷ [])))

pub returns-in_err-write_screen-clause-part : goal.returns-in_err-write_screen-clause-part
returns-in_err-write_screen-clause-part g c =
    let p = err_from_is_err_and c.from_residual-in_err-write_screen.result c.from_residual-in_err-write_screen.ensures.1 in
    let old = g.T.Sink.contents c.args.writer.now in
    let out = g.T.Sink.contents c.write_steps.new.writer in
    let new = g.T.Sink.contents c.write_screen.new.writer in
    let events = map event_of c.args.events.now in
    rw p.1 (λ view st.
    subst (λ count. AppendsPrefix old new (pictures c.args.format view events (times_after 0 c.args.step count (c.args.end ∷ [])))) c.count_below-count.ensures.count
    (stopped_last c.args.format view events c.args.step c.count_below-count.result c.write_steps.new.terminal (map event_of c.in_ok-rest.rest.now) _ c.args.end _ old out new
    (c.in_ok-rest.ensures.writes view st) c.in_err-write_screen.ensures.part))
