use Rattle.std.proofs.Common.{Result, Err, ◌≡◌, ◌+◌, ◌<◌, ◌≤◌, Bool, true, false, IsTrue, ℕ, length, take, refl, subst, ◌∙◌, arith, length-take}
use Rattle.std.specs.Io.KnownBytes.{Consumes}
use Rattle.std.proofs.lemmas.Result.{err_from_is_err_and}
use Rattle.terminal_steps.specs.declared.error.TerminalError.{TerminalError}
use Rattle.terminal_steps.specs.declared.error.TerminalError.TheVariants.{Memory, Number}
use Rattle.terminal.specs.declared.error.RunError.{RunError}
use Rattle.terminal.specs.declared.error.RunError.TheVariants.{Terminal}
use Rattle.terminal.proofs.AppendLemmas.{no_fault, not_gone_on}
use Rattle.terminal.proofs.LiveLemmas.{all_is_prefix, part_is_prefix, live_at_end, live_failed, live_feed_memory, live_feed_past, live_first, live_look_memory, live_look_past, live_next, live_none, live_some, live_too_long}
use Rattle.terminal.proofs.updates.run_live_on.Goals as goal

never : (b : Bool) → (IsTrue b → ⊥) → b ≡ false
never true h = absurd (h refl)
never false h = refl

pub loop-init : goal.loop-init
loop-init g c = record {
  reader = c.requires.reader.not_failed;
  ends_reads = refl;
  ends_writes = refl;
  reads = c.requires.reader.unread;
  writer = c.requires.writer;
  sound = c.requires.sound;
  widths = refl;
  room = refl;
  live = live_first (λ w. g.W.Widths.width_of w) (λ r. g.R.Read.remaining r) (λ t. g.T.Write.contents t) c.args.terminal.now c.args.reader.now c.args.writer.now c.requires.reader.unread;
}

pub loop-preserved : goal.loop-preserved
loop-preserved g c =
    let within = c.in-Ok.ensures.bound in
    let reads = c.in-Ok.ensures.reads in
    let bytes = take c.in-Ok.count c.read.new.buffer in
    let count : c.read.new.self.reads ≡ c.loop.reader.reads + 1 = omega (arith, reads, c.loop.invariant.reads, c.loop-test.true) in
    let some : 0 < length bytes = omega (arith, within, c.if-count-eq0.false, c.read.auto.buffer, c.loop.invariant.room, length-take c.in-Ok.count c.read.new.buffer) in
    let most : length bytes ≤ 4096 = omega (arith, c.read.auto.buffer, c.loop.invariant.room, length-take c.in-Ok.count c.read.new.buffer) in
    record {
      reader = no_fault _ _ _ c.in-Ok.ensures.failed c.loop.invariant.reader refl;
      ends_reads = not_gone_on _ _ _ c.in-Ok.ensures.gone_on c.loop.invariant.reader ∙ c.loop.invariant.ends_reads;
      ends_writes = c.in_ok-number.ensures.ends ∙ c.loop.invariant.ends_writes;
      reads = omega (arith, reads, c.loop.invariant.reads, c.loop-test.true);
      writer = never _ (λ h. let wrong = c.in_ok-number.ensures.write.1 h in cc);
      sound = c.in_ok-number.ensures.sound;
      widths = c.in_ok-number.ensures.widths ∙ c.in_ok-feed.ensures.done.widths ∙ c.loop.invariant.widths;
      room = c.read.auto.buffer ∙ c.loop.invariant.room;
      live = live_next (λ w. g.W.Widths.width_of w) (λ r. g.R.Read.remaining r) (λ t. g.T.Write.contents t) c.args.terminal.now c.args.reader.now c.args.writer.now
          c.loop.terminal c.loop.reader c.loop.writer c.loop.number c.loop.invariant.widths c.loop.invariant.live c.read.new.self bytes c.in-Ok.ensures.bytes.0 some most count
          c.feed.new.self _ _ _ c.in_ok-feed.ensures.done c.in_ok-number.ensures.ok c.in_ok-number.ensures.flushes c.in_ok-number.ensures.flushed;
    }

-- ---- the end of the input

pub returns-then-count-eq0-clause-ok : goal.returns-then-count-eq0-clause-ok
returns-then-count-eq0-clause-ok g c =
    let none = c.if-count-eq0.true in
    let reads = c.in-Ok.ensures.reads in
    let count : c.read.new.self.reads ≡ c.loop.reader.reads + 1 = omega (arith, reads, c.loop.invariant.reads, c.loop-test.true) in
    live_at_end (λ w. g.W.Widths.width_of w) (λ r. g.R.Read.remaining r) (λ t. g.T.Write.contents t) c.args.terminal.now c.args.reader.now c.args.writer.now
    c.loop.terminal c.loop.reader c.loop.writer c.loop.number c.loop.invariant.widths c.loop.invariant.live c.read.new.self
    (subst (λ (n : ℕ). Consumes (g.R.Read.remaining c.loop.reader.inner) (g.R.Read.remaining c.read.new.self.inner) (take n c.read.new.buffer)) none c.in-Ok.ensures.bytes.0) count

-- ---- a read that failed, and too many reads

pub returns-in-Err-clause-each : goal.returns-in-Err-clause-each
returns-in-Err-clause-each g c = λ e.
    let reads = c.in-Err.ensures.reads in
    let count : c.read.new.self.reads ≡ c.loop.reader.reads + 1 = omega (arith, reads, c.loop.invariant.reads, c.loop-test.true) in
    live_failed (λ w. g.W.Widths.width_of w) (λ r. g.R.Read.remaining r) (λ t. g.T.Write.contents t) c.args.terminal.now c.args.reader.now c.args.writer.now
    c.loop.terminal c.loop.reader c.loop.writer c.loop.number c.loop.invariant.widths c.loop.invariant.live c.read.new.self c.in-Err.ensures.bytes count

pub returns-in-Err-clause-err : goal.returns-in-Err-clause-err
returns-in-Err-clause-err g c =
    let reads = c.in-Err.ensures.reads in
    let count : c.read.new.self.reads ≡ c.loop.reader.reads + 1 = omega (arith, reads, c.loop.invariant.reads, c.loop-test.true) in
    all_is_prefix (λ w. g.W.Widths.width_of w) (λ r. g.R.Read.remaining r) (λ t. g.T.Write.contents t) c.args.terminal.now c.args.reader.now c.args.writer.now 1 c.read.new.self c.loop.writer
    (live_failed (λ w. g.W.Widths.width_of w) (λ r. g.R.Read.remaining r) (λ t. g.T.Write.contents t) c.args.terminal.now c.args.reader.now c.args.writer.now
    c.loop.terminal c.loop.reader c.loop.writer c.loop.number c.loop.invariant.widths c.loop.invariant.live c.read.new.self c.in-Err.ensures.bytes count)

pub returns-clause-err : goal.returns-clause-err
returns-clause-err g c =
    all_is_prefix (λ w. g.W.Widths.width_of w) (λ r. g.R.Read.remaining r) (λ t. g.T.Write.contents t) c.args.terminal.now c.args.reader.now c.args.writer.now 0 c.loop.reader c.loop.writer
    (live_too_long (λ w. g.W.Widths.width_of w) (λ r. g.R.Read.remaining r) (λ t. g.T.Write.contents t) c.args.terminal.now c.args.reader.now c.args.writer.now
    c.loop.terminal c.loop.reader c.loop.writer c.loop.number c.loop.invariant.widths c.loop.invariant.live)

-- ---- bytes that are refused

pub returns-in_err-feed-clause-refused : goal.returns-in_err-feed-clause-refused
returns-in_err-feed-clause-refused g c =
    let p = err_from_is_err_and c.from_residual.result c.from_residual.ensures.1 in
    let within = c.in-Ok.ensures.bound in
    let reads = c.in-Ok.ensures.reads in
    let bytes = take c.in-Ok.count c.read.new.buffer in
    let count : c.read.new.self.reads ≡ c.loop.reader.reads + 1 = omega (arith, reads, c.loop.invariant.reads, c.loop-test.true) in
    let some : 0 < length bytes = omega (arith, within, c.if-count-eq0.false, c.read.auto.buffer, c.loop.invariant.room, length-take c.in-Ok.count c.read.new.buffer) in
    let most : length bytes ≤ 4096 = omega (arith, c.read.auto.buffer, c.loop.invariant.room, length-take c.in-Ok.count c.read.new.buffer) in
    λ error e. live_none (λ w. g.W.Widths.width_of w) (λ r. g.R.Read.remaining r) (λ t. g.T.Write.contents t) c.args.terminal.now c.args.reader.now c.args.writer.now
    c.loop.terminal c.loop.reader c.loop.writer c.loop.number c.loop.invariant.widths c.loop.invariant.live c.read.new.self bytes c.in-Ok.ensures.bytes.0 some most count

pub returns-in_err-feed-clause-err : goal.returns-in_err-feed-clause-err
returns-in_err-feed-clause-err g c =
    let p = err_from_is_err_and c.from_residual.result c.from_residual.ensures.1 in
    let within = c.in-Ok.ensures.bound in
    let reads = c.in-Ok.ensures.reads in
    let bytes = take c.in-Ok.count c.read.new.buffer in
    let count : c.read.new.self.reads ≡ c.loop.reader.reads + 1 = omega (arith, reads, c.loop.invariant.reads, c.loop-test.true) in
    let some : 0 < length bytes = omega (arith, within, c.if-count-eq0.false, c.read.auto.buffer, c.loop.invariant.room, length-take c.in-Ok.count c.read.new.buffer) in
    let most : length bytes ≤ 4096 = omega (arith, c.read.auto.buffer, c.loop.invariant.room, length-take c.in-Ok.count c.read.new.buffer) in
    rw p.1 (part_is_prefix (λ w. g.W.Widths.width_of w) (λ r. g.R.Read.remaining r) (λ t. g.T.Write.contents t) c.args.terminal.now c.args.reader.now c.args.writer.now c.read.new.self c.loop.writer
    (live_none (λ w. g.W.Widths.width_of w) (λ r. g.R.Read.remaining r) (λ t. g.T.Write.contents t) c.args.terminal.now c.args.reader.now c.args.writer.now
    c.loop.terminal c.loop.reader c.loop.writer c.loop.number c.loop.invariant.widths c.loop.invariant.live c.read.new.self bytes c.in-Ok.ensures.bytes.0 some most count))

pub returns-in_err-feed-clause-number : goal.returns-in_err-feed-clause-number
returns-in_err-feed-clause-number g c =
    let p = err_from_is_err_and c.from_residual.result c.from_residual.ensures.1 in
    let within = c.in-Ok.ensures.bound in
    let reads = c.in-Ok.ensures.reads in
    let bytes = take c.in-Ok.count c.read.new.buffer in
    let count : c.read.new.self.reads ≡ c.loop.reader.reads + 1 = omega (arith, reads, c.loop.invariant.reads, c.loop-test.true) in
    let some : 0 < length bytes = omega (arith, within, c.if-count-eq0.false, c.read.auto.buffer, c.loop.invariant.room, length-take c.in-Ok.count c.read.new.buffer) in
    let most : length bytes ≤ 4096 = omega (arith, c.read.auto.buffer, c.loop.invariant.room, length-take c.in-Ok.count c.read.new.buffer) in
    rw (p.1, p.2) (λ e.
    let refused : ◌≡◌ {A = Result (Unit {0}) TerminalError} (Err c.in_err-feed.field-0.0) (Err Number) = cc in
    live_feed_past (λ w. g.W.Widths.width_of w) (λ r. g.R.Read.remaining r) (λ t. g.T.Write.contents t) c.args.terminal.now c.args.reader.now c.args.writer.now
    c.loop.terminal c.loop.reader c.loop.writer c.loop.number c.loop.invariant.widths c.loop.invariant.live c.read.new.self bytes c.in-Ok.ensures.bytes.0 some most count
    (c.in_err-feed.ensures.number refused))

pub returns-in_err-feed-clause-memory : goal.returns-in_err-feed-clause-memory
returns-in_err-feed-clause-memory g c =
    let p = err_from_is_err_and c.from_residual.result c.from_residual.ensures.1 in
    let within = c.in-Ok.ensures.bound in
    let reads = c.in-Ok.ensures.reads in
    let bytes = take c.in-Ok.count c.read.new.buffer in
    let count : c.read.new.self.reads ≡ c.loop.reader.reads + 1 = omega (arith, reads, c.loop.invariant.reads, c.loop-test.true) in
    let some : 0 < length bytes = omega (arith, within, c.if-count-eq0.false, c.read.auto.buffer, c.loop.invariant.room, length-take c.in-Ok.count c.read.new.buffer) in
    let most : length bytes ≤ 4096 = omega (arith, c.read.auto.buffer, c.loop.invariant.room, length-take c.in-Ok.count c.read.new.buffer) in
    rw (p.1, p.2) (λ e.
    let refused : ◌≡◌ {A = Result (Unit {0}) TerminalError} (Err c.in_err-feed.field-0.0) (Err Memory) = cc in
    live_feed_memory (λ w. g.W.Widths.width_of w) (λ r. g.R.Read.remaining r) (λ t. g.T.Write.contents t) c.args.terminal.now c.args.reader.now c.args.writer.now
    c.loop.terminal c.loop.reader c.loop.writer c.loop.number c.loop.invariant.widths c.loop.invariant.live c.read.new.self bytes c.in-Ok.ensures.bytes.0 some most count
    c.feed.new.self (c.in_err-feed.ensures.memory refused))

-- ---- an update that is refused or not written

pub returns-in_err-number-clause-unsent : goal.returns-in_err-number-clause-unsent
returns-in_err-number-clause-unsent g c =
    let p = err_from_is_err_and c.from_residual-in_err-number.result c.from_residual-in_err-number.ensures.1 in
    let within = c.in-Ok.ensures.bound in
    let reads = c.in-Ok.ensures.reads in
    let bytes = take c.in-Ok.count c.read.new.buffer in
    let count : c.read.new.self.reads ≡ c.loop.reader.reads + 1 = omega (arith, reads, c.loop.invariant.reads, c.loop-test.true) in
    let some : 0 < length bytes = omega (arith, within, c.if-count-eq0.false, c.read.auto.buffer, c.loop.invariant.room, length-take c.in-Ok.count c.read.new.buffer) in
    let most : length bytes ≤ 4096 = omega (arith, c.read.auto.buffer, c.loop.invariant.room, length-take c.in-Ok.count c.read.new.buffer) in
    λ e. live_some (λ w. g.W.Widths.width_of w) (λ r. g.R.Read.remaining r) (λ t. g.T.Write.contents t) c.args.terminal.now c.args.reader.now c.args.writer.now
    c.loop.terminal c.loop.reader c.loop.writer c.loop.number c.loop.invariant.widths c.loop.invariant.live c.read.new.self bytes c.in-Ok.ensures.bytes.0 some most count
    c.feed.new.self _ c.in_ok-feed.ensures.done c.in_err-number.ensures.err

pub returns-in_err-number-clause-refused : goal.returns-in_err-number-clause-refused
returns-in_err-number-clause-refused g c =
    let p = err_from_is_err_and c.from_residual-in_err-number.result c.from_residual-in_err-number.ensures.1 in
    let within = c.in-Ok.ensures.bound in
    let reads = c.in-Ok.ensures.reads in
    let bytes = take c.in-Ok.count c.read.new.buffer in
    let count : c.read.new.self.reads ≡ c.loop.reader.reads + 1 = omega (arith, reads, c.loop.invariant.reads, c.loop-test.true) in
    let some : 0 < length bytes = omega (arith, within, c.if-count-eq0.false, c.read.auto.buffer, c.loop.invariant.room, length-take c.in-Ok.count c.read.new.buffer) in
    let most : length bytes ≤ 4096 = omega (arith, c.read.auto.buffer, c.loop.invariant.room, length-take c.in-Ok.count c.read.new.buffer) in
    λ error e. live_some (λ w. g.W.Widths.width_of w) (λ r. g.R.Read.remaining r) (λ t. g.T.Write.contents t) c.args.terminal.now c.args.reader.now c.args.writer.now
    c.loop.terminal c.loop.reader c.loop.writer c.loop.number c.loop.invariant.widths c.loop.invariant.live c.read.new.self bytes c.in-Ok.ensures.bytes.0 some most count
    c.feed.new.self _ c.in_ok-feed.ensures.done c.in_err-number.ensures.err

pub returns-in_err-number-clause-err : goal.returns-in_err-number-clause-err
returns-in_err-number-clause-err g c =
    let p = err_from_is_err_and c.from_residual-in_err-number.result c.from_residual-in_err-number.ensures.1 in
    let within = c.in-Ok.ensures.bound in
    let reads = c.in-Ok.ensures.reads in
    let bytes = take c.in-Ok.count c.read.new.buffer in
    let count : c.read.new.self.reads ≡ c.loop.reader.reads + 1 = omega (arith, reads, c.loop.invariant.reads, c.loop-test.true) in
    let some : 0 < length bytes = omega (arith, within, c.if-count-eq0.false, c.read.auto.buffer, c.loop.invariant.room, length-take c.in-Ok.count c.read.new.buffer) in
    let most : length bytes ≤ 4096 = omega (arith, c.read.auto.buffer, c.loop.invariant.room, length-take c.in-Ok.count c.read.new.buffer) in
    rw p.1 (part_is_prefix (λ w. g.W.Widths.width_of w) (λ r. g.R.Read.remaining r) (λ t. g.T.Write.contents t) c.args.terminal.now c.args.reader.now c.args.writer.now c.read.new.self _
    (live_some (λ w. g.W.Widths.width_of w) (λ r. g.R.Read.remaining r) (λ t. g.T.Write.contents t) c.args.terminal.now c.args.reader.now c.args.writer.now
    c.loop.terminal c.loop.reader c.loop.writer c.loop.number c.loop.invariant.widths c.loop.invariant.live c.read.new.self bytes c.in-Ok.ensures.bytes.0 some most count
    c.feed.new.self _ c.in_ok-feed.ensures.done c.in_err-number.ensures.err))

pub returns-in_err-number-clause-number : goal.returns-in_err-number-clause-number
returns-in_err-number-clause-number g c =
    let p = err_from_is_err_and c.from_residual-in_err-number.result c.from_residual-in_err-number.ensures.1 in
    let within = c.in-Ok.ensures.bound in
    let reads = c.in-Ok.ensures.reads in
    let bytes = take c.in-Ok.count c.read.new.buffer in
    let count : c.read.new.self.reads ≡ c.loop.reader.reads + 1 = omega (arith, reads, c.loop.invariant.reads, c.loop-test.true) in
    let some : 0 < length bytes = omega (arith, within, c.if-count-eq0.false, c.read.auto.buffer, c.loop.invariant.room, length-take c.in-Ok.count c.read.new.buffer) in
    let most : length bytes ≤ 4096 = omega (arith, c.read.auto.buffer, c.loop.invariant.room, length-take c.in-Ok.count c.read.new.buffer) in
    rw (p.1, p.2) (λ e.
    let refused : ◌≡◌ {A = Result ℕ RunError} (Err c.in_err-number.field-0.0) (Err (Terminal Number)) = cc in
    live_look_past (λ w. g.W.Widths.width_of w) (λ r. g.R.Read.remaining r) (λ t. g.T.Write.contents t) c.args.terminal.now c.args.reader.now c.args.writer.now
    c.loop.terminal c.loop.reader c.loop.writer c.loop.number c.loop.invariant.widths c.loop.invariant.live c.read.new.self bytes c.in-Ok.ensures.bytes.0 some most count
    c.feed.new.self c.in_ok-feed.ensures.done (c.in_err-number.ensures.number refused))

pub returns-in_err-number-clause-memory : goal.returns-in_err-number-clause-memory
returns-in_err-number-clause-memory g c =
    let p = err_from_is_err_and c.from_residual-in_err-number.result c.from_residual-in_err-number.ensures.1 in
    let within = c.in-Ok.ensures.bound in
    let reads = c.in-Ok.ensures.reads in
    let bytes = take c.in-Ok.count c.read.new.buffer in
    let count : c.read.new.self.reads ≡ c.loop.reader.reads + 1 = omega (arith, reads, c.loop.invariant.reads, c.loop-test.true) in
    let some : 0 < length bytes = omega (arith, within, c.if-count-eq0.false, c.read.auto.buffer, c.loop.invariant.room, length-take c.in-Ok.count c.read.new.buffer) in
    let most : length bytes ≤ 4096 = omega (arith, c.read.auto.buffer, c.loop.invariant.room, length-take c.in-Ok.count c.read.new.buffer) in
    rw (p.1, p.2) (λ e.
    let refused : ◌≡◌ {A = Result ℕ RunError} (Err c.in_err-number.field-0.0) (Err (Terminal Memory)) = cc in
    live_look_memory (λ w. g.W.Widths.width_of w) (λ r. g.R.Read.remaining r) (λ t. g.T.Write.contents t) c.args.terminal.now c.args.reader.now c.args.writer.now
    c.loop.terminal c.loop.reader c.loop.writer c.loop.number c.loop.invariant.widths c.loop.invariant.live c.read.new.self bytes c.in-Ok.ensures.bytes.0 some most count
    c.feed.new.self c.write_update.new.terminal.is_failed c.in_ok-feed.ensures.done (c.in_err-number.ensures.memory refused))
