use Rattle.std.proofs.Common.{Result, Err, ◌≡◌, ◌<◌, ◌≤◌, ℕ, length, take, refl, ap, subst, ◌∙◌, arith, length-take}
use Rattle.std.specs.Io.KnownBytes.{Consumes}
use Rattle.std.proofs.lemmas.Result.{err_from_is_err_and}
use Rattle.terminal_steps.specs.declared.error.TerminalError.{TerminalError}
use Rattle.terminal_steps.specs.declared.error.TerminalError.TheVariants.{Memory, Number}
use Rattle.terminal.specs.Terminal.{Terminal as Value}
use Rattle.terminal.proofs.AppendLemmas.{no_fault, not_gone_on}
use Rattle.terminal.proofs.ReadAllLemmas.{all_read, feeds_first, feeds_more, feeds_all, memory_fed, number_fed}
use Rattle.terminal.proofs.driver.feed_all.Goals as goal

pub loop-init : goal.loop-init
loop-init g c = record {
  not_failed = c.requires.reader.not_failed;
  ends = refl;
  reads = c.requires.reader.unread;
  sound = c.requires.sound;
  feeds = feeds_first (λ w. g.W.Widths.width_of w) (g.R.Read.remaining c.args.reader.now.inner) c.args.terminal.now c.requires.sound;
  room = refl;
}

pub returns-then-count-eq0-clause-ok : goal.returns-then-count-eq0-clause-ok
returns-then-count-eq0-clause-ok g c =
    let none = c.if-count-eq0.true in
    let rest = g.R.Read.remaining c.loop.reader.inner in
    let next = g.R.Read.remaining c.read.new.self.inner in
    let room : 0 < length c.read.new.buffer = omega (arith, c.read.auto.buffer, c.loop.invariant.room) in
    feeds_all (λ w. g.W.Widths.width_of w) (g.R.Read.remaining c.args.reader.now.inner) rest next c.args.terminal.now c.loop.terminal c.loop.invariant.feeds
    (subst (λ (n : ℕ). Consumes rest next (take n c.read.new.buffer)) none c.in-Ok.ensures.bytes.0)
    (c.in-Ok.ensures.bytes.1 none room)

pub loop-preserved : goal.loop-preserved
loop-preserved g c = record {
  not_failed = no_fault _ _ _ c.in-Ok.ensures.failed c.loop.invariant.not_failed refl;
  ends = not_gone_on _ _ _ c.in-Ok.ensures.gone_on c.loop.invariant.not_failed ∙ c.loop.invariant.ends;
  reads = let h = c.in-Ok.ensures.reads in omega (arith, h, c.loop.invariant.reads, c.loop-test.true);
  sound = ap (λ (t : Value g.row.W.Denot). t.is_failed) c.forget.ensures.lighter.dropped ∙ c.forget.ensures.lighter.goes.sound;
  feeds = feeds_more (λ w. g.W.Widths.width_of w) (g.R.Read.remaining c.args.reader.now.inner) (g.R.Read.remaining c.loop.reader.inner) (g.R.Read.remaining c.read.new.self.inner)
      c.args.terminal.now c.loop.terminal c.feed.new.self c.forget.new.terminal (take c.in-Ok.count c.read.new.buffer) c.current_number-number.result
      c.loop.invariant.feeds c.in-Ok.ensures.bytes.0 c.in_ok-feed.ensures.done c.current_number-number.ensures c.forget.ensures.lighter;
  room = c.read.auto.buffer ∙ c.loop.invariant.room;
}

pub returns-in_err-feed-clause-number : goal.returns-in_err-feed-clause-number
returns-in_err-feed-clause-number g c =
    let p = err_from_is_err_and c.from_residual.result c.from_residual.ensures.1 in
    rw (p.1, p.2) (λ e.
    let refused : ◌≡◌ {A = Result (Unit {0}) TerminalError} (Err c.in_err-feed.field-0.0) (Err Number) = cc in
    number_fed (λ w. g.W.Widths.width_of w) (g.R.Read.remaining c.args.reader.now.inner) (g.R.Read.remaining c.loop.reader.inner) (g.R.Read.remaining c.read.new.self.inner)
    c.args.terminal.now c.loop.terminal (take c.in-Ok.count c.read.new.buffer)
    c.loop.invariant.feeds c.in-Ok.ensures.bytes.0 (c.in_err-feed.ensures.number refused))

pub returns-then-count-eq0-clause-none_left : goal.returns-then-count-eq0-clause-none_left
returns-then-count-eq0-clause-none_left g c =
    let none = c.if-count-eq0.true in
    let rest = g.R.Read.remaining c.loop.reader.inner in
    let next = g.R.Read.remaining c.read.new.self.inner in
    let room : 0 < length c.read.new.buffer = omega (arith, c.read.auto.buffer, c.loop.invariant.room) in
    all_read (λ w. g.W.Widths.width_of w) (g.R.Read.remaining c.args.reader.now.inner) rest next c.args.terminal.now c.loop.terminal c.loop.invariant.feeds
    (subst (λ (n : ℕ). Consumes rest next (take n c.read.new.buffer)) none c.in-Ok.ensures.bytes.0)
    (c.in-Ok.ensures.bytes.1 none room)

pub returns-in_err-feed-clause-memory : goal.returns-in_err-feed-clause-memory
returns-in_err-feed-clause-memory g c =
    let p = err_from_is_err_and c.from_residual.result c.from_residual.ensures.1 in
    let most : length (take c.in-Ok.count c.read.new.buffer) ≤ 4096 = omega (arith, c.read.auto.buffer, c.loop.invariant.room, length-take c.in-Ok.count c.read.new.buffer) in
    rw (p.1, p.2) (λ e.
    let refused : ◌≡◌ {A = Result (Unit {0}) TerminalError} (Err c.in_err-feed.field-0.0) (Err Memory) = cc in
    memory_fed (λ w. g.W.Widths.width_of w) (g.R.Read.remaining c.args.reader.now.inner) (g.R.Read.remaining c.loop.reader.inner) (g.R.Read.remaining c.read.new.self.inner)
    c.args.terminal.now c.loop.terminal c.feed.new.self (take c.in-Ok.count c.read.new.buffer)
    c.loop.invariant.feeds c.in-Ok.ensures.bytes.0 most (c.in_err-feed.ensures.memory refused))
