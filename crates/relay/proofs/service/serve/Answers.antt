use Rattle.std.proofs.Common.{◌∙◌, MutBor, ap, map, sym}
use Rattle.terminal.specs.Watched.{Watched}
use Rattle.relay.specs.Lent.{named}
use Rattle.relay.specs.declared.lent.Lent.{Lent}
use Rattle.relay.proofs.LiveLemmas.{ends_on, seen, unread}
use Rattle.relay.proofs.OutputLemmas.{lent_on}
use Rattle.relay.proofs.service.serve.Goals as goal

pub returns-clause-live : goal.returns-clause-live
returns-clause-live g c = λ live.
    let w = c.new-writer.ensures in
    let w_in = c.into_inner-inner.ensures in
    let f = c.new-faults.ensures in
    let f_in = c.into_inner-inner-2.ensures in
    let failed = c.failed-has_failed.ensures in
    let remaining = λ (r : MutBor g.row.R.Denot). g.R.Read.remaining r.now in
    let contents = λ (t : Lent g.row.T.Denot). named t.inner.ghost_name (g.T.Write.contents t.inner.now) in
    let told = λ (t : Lent g.row.F.Denot). named t.inner.ghost_name (g.F.Write.contents t.inner.now) in
    ends_on remaining contents c.new-reader.result c.relay-status.new.reader c.new-writer.result c.relay-status.new.writer (g.T.Write.contents c.args.writer.now) (g.T.Write.contents c.writer-3-1.given.0)
    (lent_on (λ t. g.T.Write.contents t) c.new-writer.result.inner.inner.ghost_name c.relay-status.new.writer.inner.inner.ghost_name c.new-writer.result.inner.inner.now c.args.writer.now
    c.relay-status.new.writer.inner.inner.now c.writer-3-1.given.0 (ap (λ (x : Watched (Lent g.row.T.Denot)). x.inner.inner.now) w)
    (λ same. c.writer-3-1.given.1 (sym (ap (λ (x : Watched (Lent g.row.T.Denot)). x.inner.inner.ghost_name) w) ∙ same ∙ sym (ap (λ (l : Lent g.row.T.Denot). l.inner.ghost_name) w_in))
    ∙ ap (λ (l : Lent g.row.T.Denot). l.inner.now) w_in))
    (map g.S.AsStr.text c.args.words.now) c.into_inner-inner.result.is_broken c.relay-status.result c.conclude-status.result (g.R.Read.remaining c.args.reader.now)
    (told c.new-faults.result.inner) (told c.relay-status.new.faults.inner) (told c.conclude-status.new.faults.inner) (g.F.Write.contents c.args.faults.now) (g.F.Write.contents c.faults-3-1.given.0)
    (unread remaining c.new-reader.result _ c.new-reader.ensures) (ap (λ (x : Watched (Lent g.row.T.Denot)). seen (g.T.Write.contents c.args.writer.now) x) w)
    (lent_on (λ t. g.F.Write.contents t) c.new-faults.result.inner.inner.ghost_name c.conclude-status.new.faults.inner.inner.ghost_name c.new-faults.result.inner.inner.now c.args.faults.now
    c.conclude-status.new.faults.inner.inner.now c.faults-3-1.given.0 (ap (λ (x : Watched (Lent g.row.F.Denot)). x.inner.inner.now) f)
    (λ same. c.faults-3-1.given.1 (sym (ap (λ (x : Watched (Lent g.row.F.Denot)). x.inner.inner.ghost_name) f) ∙ same ∙ sym (ap (λ (l : Lent g.row.F.Denot). l.inner.ghost_name) f_in))
    ∙ ap (λ (l : Lent g.row.F.Denot). l.inner.now) f_in))
    (λ k. let s = c.conclude-status.ensures.kept (λ z t. k z (sym failed ∙ t)) in (s.0, ap (λ (x : Watched (Lent g.row.F.Denot)). told x.inner) s.1))
    (λ z t b. c.conclude-status.ensures.told z (failed ∙ t) b) (c.relay-status.ensures.live live)
