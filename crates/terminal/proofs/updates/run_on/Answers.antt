use Rattle.std.proofs.Common.{Result, Err, ◌≡◌, ◌+◌, ◌-◌, ◌<◌, ◌≤◌, Bool, true, false, IsTrue, ℕ, zero, suc, List, ◌∷◌, [], ◌++◌, length, take, drop, refl, sym, ap, subst, ◌∙◌, arith, length-take, length-drop, length-append}
use Rattle.std.specs.Io.KnownBytes.{Consumes}
use Rattle.std.proofs.lemmas.Result.{err_from_is_err_and}
use Rattle.terminal_steps.specs.declared.error.TerminalError.{TerminalError}
use Rattle.terminal_steps.specs.declared.error.TerminalError.TheVariants.{Memory, Number}
use Rattle.terminal.specs.declared.error.RunError.{RunError}
use Rattle.terminal.specs.declared.error.RunError.TheVariants.{Terminal}
use Rattle.terminal.specs.Headline.{GoesBy}
use Rattle.terminal.specs.Refusals.{NeedsMemory, NeedsNumber}
use Rattle.terminal.specs.Terminal.{Terminal as Value}
use Rattle.terminal.specs.Watched.{Watched}
use Rattle.terminal_table.specs.History.{Piece}
use Rattle.terminal.proofs.AppendLemmas.{keeps_same, no_fault, not_gone_on}
use Rattle.terminal.proofs.FlushLemmas.{none_flushed, flushes_more, flushes_next, flushes_all}
use Rattle.terminal.proofs.SendLemmas.{SendsOn, none_read, on_chunks, on_first, on_lighter, on_more, on_next, on_all, on_ends, on_part, on_some, on_last, on_feed_past, on_look_past, on_end_past, on_feed_memory, on_look_memory, on_end_memory}
use Rattle.terminal.proofs.updates.run_on.Goals as goal
use Rattle.terminal.proofs.updates.run_on.Goals.{then-left-eq0+in_ok-number, else-left-eq0}

never : (b : Bool) → (IsTrue b → ⊥) → b ≡ false
never true h = absurd (h refl)
never false h = refl

-- the first elements of a list whose end was left as it was
prefix : {A : Type 0} (n : ℕ) (xs ys : List A) → n ≤ length xs → take n (xs ++ ys) ≡ take n xs
prefix zero xs ys h = refl
prefix (suc n) [] ys h = absurd (omega (arith, h))
prefix (suc n) (x ∷ xs) ys h = ap (λ zs. x ∷ zs) (prefix n xs ys (omega (arith, h)))

pub loop-init : goal.loop-init
loop-init g c = record {
  reader = c.requires.reader.not_failed;
  ends_reads = refl;
  ends_writes = refl;
  reads = c.requires.reader.unread;
  writer = c.requires.writer;
  sound = c.requires.sound;
  widths = refl;
  room = refl;
  some = c.requires.every;
  sends = on_first (λ w. g.W.Widths.width_of w) c.args.every c.args.terminal.now (g.R.Read.remaining c.args.reader.now.inner) (g.T.Write.contents c.args.writer.now.inner) c.requires.sound;
  flushes = none_flushed c.args.every (g.R.Read.remaining c.args.reader.now.inner) c.args.writer.now.flushes;
}

pub returns-clause-err : goal.returns-clause-err
returns-clause-err g c = on_part (λ w. g.W.Widths.width_of w) c.args.every c.args.terminal.now (g.T.Write.contents c.args.writer.now.inner) (g.T.Write.contents c.loop.writer.inner) c.loop.terminal c.loop.number c.loop.left c.loop.invariant.widths (g.R.Read.remaining c.args.reader.now.inner) (g.R.Read.remaining c.loop.reader.inner) (g.R.Read.remaining c.loop.reader.inner) [] c.loop.invariant.sends (none_read (g.R.Read.remaining c.loop.reader.inner) (g.R.Read.remaining c.loop.reader.inner) (keeps_same (g.R.Read.remaining c.loop.reader.inner)))

pub returns-in-Err-clause-chunks : goal.returns-in-Err-clause-chunks
returns-in-Err-clause-chunks g c = λ e. on_chunks (λ w. g.W.Widths.width_of w) c.args.every c.args.terminal.now (g.T.Write.contents c.args.writer.now.inner) (g.T.Write.contents c.loop.writer.inner) c.loop.terminal c.loop.number c.loop.left c.loop.invariant.widths (g.R.Read.remaining c.args.reader.now.inner) (g.R.Read.remaining c.loop.reader.inner) (g.R.Read.remaining c.read.new.self.inner) c.loop.invariant.sends c.in-Err.ensures.bytes

pub returns-in-Err-clause-err : goal.returns-in-Err-clause-err
returns-in-Err-clause-err g c = on_part (λ w. g.W.Widths.width_of w) c.args.every c.args.terminal.now (g.T.Write.contents c.args.writer.now.inner) (g.T.Write.contents c.loop.writer.inner) c.loop.terminal c.loop.number c.loop.left c.loop.invariant.widths (g.R.Read.remaining c.args.reader.now.inner) (g.R.Read.remaining c.loop.reader.inner) (g.R.Read.remaining c.read.new.self.inner) [] c.loop.invariant.sends (none_read (g.R.Read.remaining c.loop.reader.inner) (g.R.Read.remaining c.read.new.self.inner) c.in-Err.ensures.bytes)

pub returns-in_err-write_update-clause-err : goal.returns-in_err-write_update-clause-err
returns-in_err-write_update-clause-err g c =
    let p = err_from_is_err_and c.from_residual.result c.from_residual.ensures.1 in
    let none = c.if-count-eq0.true in
    let room : 0 < length c.read.new.buffer = omega (arith, c.read.auto.buffer, c.min-most.ensures, c.loop.invariant.room, c.loop.invariant.some, length-take c.min-most.result c.loop.buffer) in
    rw p.1 (on_last (λ w. g.W.Widths.width_of w) c.args.every c.args.terminal.now (g.T.Write.contents c.args.writer.now.inner) (g.T.Write.contents c.loop.writer.inner) c.loop.terminal c.loop.number c.loop.left c.loop.invariant.widths (g.R.Read.remaining c.args.reader.now.inner) (g.R.Read.remaining c.loop.reader.inner) (g.R.Read.remaining c.read.new.self.inner) _ c.loop.invariant.sends
    (subst (λ (n : ℕ). Consumes (g.R.Read.remaining c.loop.reader.inner) (g.R.Read.remaining c.read.new.self.inner) (take n c.read.new.buffer)) none c.in-Ok.ensures.bytes.0) (c.in-Ok.ensures.bytes.1 none room) c.in_err-write_update.ensures.err)

pub returns-in_err-write_update-clause-number : goal.returns-in_err-write_update-clause-number
returns-in_err-write_update-clause-number g c =
    let p = err_from_is_err_and c.from_residual.result c.from_residual.ensures.1 in
    let none = c.if-count-eq0.true in
    let room : 0 < length c.read.new.buffer = omega (arith, c.read.auto.buffer, c.min-most.ensures, c.loop.invariant.room, c.loop.invariant.some, length-take c.min-most.result c.loop.buffer) in
    rw (p.1, p.2) (λ e.
    let refused : ◌≡◌ {A = Result ℕ RunError} (Err c.in_err-write_update.field-0.0) (Err (Terminal Number)) = cc in
    on_end_past (λ w. g.W.Widths.width_of w) c.args.every c.args.terminal.now (g.T.Write.contents c.args.writer.now.inner) (g.T.Write.contents c.loop.writer.inner) c.loop.terminal c.loop.number c.loop.left c.loop.invariant.widths (g.R.Read.remaining c.args.reader.now.inner) (g.R.Read.remaining c.loop.reader.inner) (g.R.Read.remaining c.read.new.self.inner) c.loop.invariant.sends
    (subst (λ (n : ℕ). Consumes (g.R.Read.remaining c.loop.reader.inner) (g.R.Read.remaining c.read.new.self.inner) (take n c.read.new.buffer)) none c.in-Ok.ensures.bytes.0) (c.in-Ok.ensures.bytes.1 none room) (c.in_err-write_update.ensures.number refused))

pub returns-then-count-eq0-clause-ok : goal.returns-then-count-eq0-clause-ok
returns-then-count-eq0-clause-ok g c =
    let none = c.if-count-eq0.true in
    let room : 0 < length c.read.new.buffer = omega (arith, c.read.auto.buffer, c.min-most.ensures, c.loop.invariant.room, c.loop.invariant.some, length-take c.min-most.result c.loop.buffer) in
    on_all (λ w. g.W.Widths.width_of w) c.args.every c.args.terminal.now (g.T.Write.contents c.args.writer.now.inner) (g.T.Write.contents c.loop.writer.inner) c.loop.terminal c.loop.number c.loop.left c.loop.invariant.widths (g.R.Read.remaining c.args.reader.now.inner) (g.R.Read.remaining c.loop.reader.inner) (g.R.Read.remaining c.read.new.self.inner) c.write_update.new.terminal _ _ c.loop.invariant.sends
    (subst (λ (n : ℕ). Consumes (g.R.Read.remaining c.loop.reader.inner) (g.R.Read.remaining c.read.new.self.inner) (take n c.read.new.buffer)) none c.in-Ok.ensures.bytes.0) (c.in-Ok.ensures.bytes.1 none room) c.in_ok-write_update.ensures.ok

pub returns-then-count-eq0-clause-stands : goal.returns-then-count-eq0-clause-stands
returns-then-count-eq0-clause-stands g c =
    let none = c.if-count-eq0.true in
    let room : 0 < length c.read.new.buffer = omega (arith, c.read.auto.buffer, c.min-most.ensures, c.loop.invariant.room, c.loop.invariant.some, length-take c.min-most.result c.loop.buffer) in
    on_ends (λ w. g.W.Widths.width_of w) c.args.every c.args.terminal.now (g.T.Write.contents c.args.writer.now.inner) (g.T.Write.contents c.loop.writer.inner) c.loop.terminal c.loop.number c.loop.left c.loop.invariant.widths (g.R.Read.remaining c.args.reader.now.inner) (g.R.Read.remaining c.loop.reader.inner) (g.R.Read.remaining c.read.new.self.inner) c.write_update.new.terminal _ _ c.loop.invariant.sends
    (subst (λ (n : ℕ). Consumes (g.R.Read.remaining c.loop.reader.inner) (g.R.Read.remaining c.read.new.self.inner) (take n c.read.new.buffer)) none c.in-Ok.ensures.bytes.0) (c.in-Ok.ensures.bytes.1 none room) c.in_ok-write_update.ensures.ok

pub returns-then-count-eq0-clause-widths : goal.returns-then-count-eq0-clause-widths
returns-then-count-eq0-clause-widths g c = c.in_ok-write_update.ensures.widths ∙ c.loop.invariant.widths

pub returns-then-count-eq0-clause-flushes : goal.returns-then-count-eq0-clause-flushes
returns-then-count-eq0-clause-flushes g c =
    let none = c.if-count-eq0.true in
    let room : 0 < length c.read.new.buffer = omega (arith, c.read.auto.buffer, c.min-most.ensures, c.loop.invariant.room, c.loop.invariant.some, length-take c.min-most.result c.loop.buffer) in
    flushes_all c.args.every c.args.writer.now.flushes c.loop.writer.flushes c.loop.left (g.R.Read.remaining c.args.reader.now.inner) (g.R.Read.remaining c.loop.reader.inner) (g.R.Read.remaining c.read.new.self.inner) _ c.loop.invariant.flushes
    (subst (λ (n : ℕ). Consumes (g.R.Read.remaining c.loop.reader.inner) (g.R.Read.remaining c.read.new.self.inner) (take n c.read.new.buffer)) none c.in-Ok.ensures.bytes.0) (c.in-Ok.ensures.bytes.1 none room) c.in_ok-write_update.ensures.flushes

pub returns-in_err-feed-clause-err : goal.returns-in_err-feed-clause-err
returns-in_err-feed-clause-err g c =
    let p = err_from_is_err_and c.from_residual-in_err-feed.result c.from_residual-in_err-feed.ensures.1 in
    rw p.1 (on_part (λ w. g.W.Widths.width_of w) c.args.every c.args.terminal.now (g.T.Write.contents c.args.writer.now.inner) (g.T.Write.contents c.loop.writer.inner) c.loop.terminal c.loop.number c.loop.left c.loop.invariant.widths (g.R.Read.remaining c.args.reader.now.inner) (g.R.Read.remaining c.loop.reader.inner) (g.R.Read.remaining c.read.new.self.inner) (take c.in-Ok.count c.read.new.buffer) c.loop.invariant.sends c.in-Ok.ensures.bytes.0)

pub returns-in_err-feed-clause-number : goal.returns-in_err-feed-clause-number
returns-in_err-feed-clause-number g c =
    let p = err_from_is_err_and c.from_residual-in_err-feed.result c.from_residual-in_err-feed.ensures.1 in
    let within = c.in-Ok.ensures.bound in
    let count : length (take c.in-Ok.count c.read.new.buffer) ≤ c.loop.left = omega (arith, within, c.read.auto.buffer, c.min-most.ensures, length-take c.min-most.result c.loop.buffer, length-take c.in-Ok.count c.read.new.buffer) in
    rw (p.1, p.2) (λ e.
    let refused : ◌≡◌ {A = Result (Unit {0}) TerminalError} (Err c.in_err-feed.field-0.0) (Err Number) = cc in
    on_feed_past (λ w. g.W.Widths.width_of w) c.args.every c.args.terminal.now (g.T.Write.contents c.args.writer.now.inner) (g.T.Write.contents c.loop.writer.inner) c.loop.terminal c.loop.number c.loop.left c.loop.invariant.widths (g.R.Read.remaining c.args.reader.now.inner) (g.R.Read.remaining c.loop.reader.inner) (g.R.Read.remaining c.read.new.self.inner) (take c.in-Ok.count c.read.new.buffer) c.loop.invariant.sends c.in-Ok.ensures.bytes.0 count
    (subst (λ bytes. NeedsNumber (λ w. g.W.Widths.width_of w) c.loop.terminal (Piece bytes ∷ [])) (prefix c.in-Ok.count c.read.new.buffer (drop c.min-most.result c.loop.buffer) (omega (arith, within))) (c.in_err-feed.ensures.number refused)))

pub returns-in_err-number-clause-err : goal.returns-in_err-number-clause-err
returns-in_err-number-clause-err g c =
    let p = err_from_is_err_and c.from_residual-in_err-number.result c.from_residual-in_err-number.ensures.1 in
    let within = c.in-Ok.ensures.bound in
    let full : length (take c.in-Ok.count c.read.new.buffer) ≡ c.loop.left = omega (arith, within, c.if-left-eq0.true, c.read.auto.buffer, c.min-most.ensures, length-take c.min-most.result c.loop.buffer, length-take c.in-Ok.count c.read.new.buffer) in
    rw p.1 (on_some (λ w. g.W.Widths.width_of w) c.args.every c.args.terminal.now (g.T.Write.contents c.args.writer.now.inner) (g.T.Write.contents c.loop.writer.inner) c.loop.terminal c.loop.number c.loop.left c.loop.invariant.widths (g.R.Read.remaining c.args.reader.now.inner) (g.R.Read.remaining c.loop.reader.inner) (g.R.Read.remaining c.read.new.self.inner) (take c.in-Ok.count c.read.new.buffer) c.feed.new.self _ c.loop.invariant.sends c.in-Ok.ensures.bytes.0
    (subst (λ bytes. GoesBy (λ w. g.W.Widths.width_of w) c.loop.terminal c.feed.new.self (Piece bytes ∷ [])) (prefix c.in-Ok.count c.read.new.buffer (drop c.min-most.result c.loop.buffer) (omega (arith, within))) c.in_ok-feed.ensures.done)
    full c.loop.invariant.some c.in_err-number.ensures.err)

pub returns-in_err-number-clause-number : goal.returns-in_err-number-clause-number
returns-in_err-number-clause-number g c =
    let p = err_from_is_err_and c.from_residual-in_err-number.result c.from_residual-in_err-number.ensures.1 in
    let within = c.in-Ok.ensures.bound in
    let full : length (take c.in-Ok.count c.read.new.buffer) ≡ c.loop.left = omega (arith, within, c.if-left-eq0.true, c.read.auto.buffer, c.min-most.ensures, length-take c.min-most.result c.loop.buffer, length-take c.in-Ok.count c.read.new.buffer) in
    rw (p.1, p.2) (λ e.
    let refused : ◌≡◌ {A = Result ℕ RunError} (Err c.in_err-number.field-0.0) (Err (Terminal Number)) = cc in
    on_look_past (λ w. g.W.Widths.width_of w) c.args.every c.args.terminal.now (g.T.Write.contents c.args.writer.now.inner) (g.T.Write.contents c.loop.writer.inner) c.loop.terminal c.loop.number c.loop.left c.loop.invariant.widths (g.R.Read.remaining c.args.reader.now.inner) (g.R.Read.remaining c.loop.reader.inner) (g.R.Read.remaining c.read.new.self.inner) (take c.in-Ok.count c.read.new.buffer) c.feed.new.self c.loop.invariant.sends c.in-Ok.ensures.bytes.0
    (subst (λ bytes. GoesBy (λ w. g.W.Widths.width_of w) c.loop.terminal c.feed.new.self (Piece bytes ∷ [])) (prefix c.in-Ok.count c.read.new.buffer (drop c.min-most.result c.loop.buffer) (omega (arith, within))) c.in_ok-feed.ensures.done)
    full c.loop.invariant.some (c.in_err-number.ensures.number refused))

pub loop-preserved : goal.loop-preserved
loop-preserved g c =
    let within = c.in-Ok.ensures.bound in
    let fed = subst (λ bytes. GoesBy (λ w. g.W.Widths.width_of w) c.loop.terminal c.feed.new.self (Piece bytes ∷ [])) (prefix c.in-Ok.count c.read.new.buffer (drop c.min-most.result c.loop.buffer) (omega (arith, within))) c.in_ok-feed.ensures.done in
    let reads = c.in-Ok.ensures.reads in
    let counted : c.read.new.self.reads ≡ c.loop.counter + 1 = omega (arith, reads, c.loop.invariant.reads, c.loop-test.true) in
    let room : length (c.read.new.buffer ++ drop c.min-most.result c.loop.buffer) ≡ 4096 = omega (arith, c.read.auto.buffer, c.loop.invariant.room, length-take c.min-most.result c.loop.buffer, length-drop c.min-most.result c.loop.buffer, length-append c.read.new.buffer (drop c.min-most.result c.loop.buffer)) in
    let ends_reads = not_gone_on _ _ _ c.in-Ok.ensures.gone_on c.loop.invariant.reader ∙ c.loop.invariant.ends_reads in
    elim c.if-left-eq0.branch [
      | then-left-eq0+in_ok-number w ↦
          let full : length (take c.in-Ok.count c.read.new.buffer) ≡ c.loop.left = omega (arith, within, w.if-left-eq0.true, c.read.auto.buffer, c.min-most.ensures, length-take c.min-most.result c.loop.buffer, length-take c.in-Ok.count c.read.new.buffer) in
          record {
            reader = no_fault _ _ _ c.in-Ok.ensures.failed c.loop.invariant.reader refl;
            reads = counted;
            ends_reads = ends_reads;
            ends_writes = ap (λ (x : Watched g.row.T.Denot). x.has_gone_on) w.writer-is ∙ w.in_ok-number.ensures.ends ∙ c.loop.invariant.ends_writes;
            writer = ap (λ (x : Watched g.row.T.Denot). x.has_failed) w.writer-is ∙ never _ (λ h. let wrong = w.in_ok-number.ensures.write.1 h in cc);
            sound = ap (λ (t : Value g.row.W.Denot). t.is_failed) w.terminal-is ∙ w.in_ok-number.ensures.sound;
            widths = ap (λ (t : Value g.row.W.Denot). t.surface.grid.widths) w.terminal-is ∙ w.in_ok-number.ensures.widths ∙ c.in_ok-feed.ensures.done.widths ∙ c.loop.invariant.widths;
            room = room;
            some = subst (λ n. 0 < n) (sym w.left-is) c.requires.every;
            sends = subst (λ (T : Type 0). T) (sym (λ i. SendsOn (λ w. g.W.Widths.width_of w) c.args.every c.args.terminal.now (g.R.Read.remaining c.args.reader.now.inner) (g.R.Read.remaining c.read.new.self.inner) (g.T.Write.contents c.args.writer.now.inner) (g.T.Write.contents (w.writer-is i).inner) (w.terminal-is i) (w.number-is i) (w.left-is i)))
                (on_next (λ w. g.W.Widths.width_of w) c.args.every c.args.terminal.now (g.T.Write.contents c.args.writer.now.inner) (g.T.Write.contents c.loop.writer.inner) c.loop.terminal c.loop.number c.loop.left c.loop.invariant.widths (g.R.Read.remaining c.args.reader.now.inner) (g.R.Read.remaining c.loop.reader.inner) (g.R.Read.remaining c.read.new.self.inner) (take c.in-Ok.count c.read.new.buffer) c.feed.new.self w.write_update-then-left-eq0.new.terminal _ _ c.loop.invariant.sends c.in-Ok.ensures.bytes.0 fed full c.loop.invariant.some
                w.in_ok-number.ensures.ok w.in_ok-number.ensures.widths w.in_ok-number.ensures.sound);
            flushes = flushes_next c.args.every c.args.writer.now.flushes c.loop.writer.flushes c.loop.left (g.R.Read.remaining c.args.reader.now.inner) (g.R.Read.remaining c.loop.reader.inner) (g.R.Read.remaining c.read.new.self.inner) (take c.in-Ok.count c.read.new.buffer) _ _ c.loop.invariant.flushes c.in-Ok.ensures.bytes.0 full c.loop.invariant.some
                (ap (λ (x : Watched g.row.T.Denot). x.flushes) w.writer-is ∙ w.in_ok-number.ensures.flushes) w.left-is;
          }
      | else-left-eq0 w ↦
          let less : c.loop.left - c.in-Ok.count + length (take c.in-Ok.count c.read.new.buffer) ≡ c.loop.left = omega (arith, within, c.read.auto.buffer, c.min-most.ensures, length-take c.min-most.result c.loop.buffer, length-take c.in-Ok.count c.read.new.buffer) in
          let some : 0 < c.loop.left - c.in-Ok.count = omega (arith, w.if-left-eq0.false) in
          record {
            reader = no_fault _ _ _ c.in-Ok.ensures.failed c.loop.invariant.reader refl;
            reads = counted;
            ends_reads = ends_reads;
            ends_writes = ap (λ (x : Watched g.row.T.Denot). x.has_gone_on) w.writer-is ∙ c.loop.invariant.ends_writes;
            writer = ap (λ (x : Watched g.row.T.Denot). x.has_failed) w.writer-is ∙ c.loop.invariant.writer;
            sound = ap (λ (t : Value g.row.W.Denot). t.is_failed) w.terminal-is ∙ ap (λ (t : Value g.row.W.Denot). t.is_failed) w.forget.ensures.lighter.dropped ∙ w.forget.ensures.lighter.goes.sound;
            widths = ap (λ (t : Value g.row.W.Denot). t.surface.grid.widths) w.terminal-is ∙ ap (λ (t : Value g.row.W.Denot). t.surface.grid.widths) w.forget.ensures.lighter.dropped ∙ w.forget.ensures.lighter.goes.widths
                ∙ c.in_ok-feed.ensures.done.widths ∙ c.loop.invariant.widths;
            room = room;
            some = subst (λ n. 0 < n) (sym w.left-is) some;
            sends = subst (λ (T : Type 0). T) (sym (λ i. SendsOn (λ w. g.W.Widths.width_of w) c.args.every c.args.terminal.now (g.R.Read.remaining c.args.reader.now.inner) (g.R.Read.remaining c.read.new.self.inner) (g.T.Write.contents c.args.writer.now.inner) (g.T.Write.contents (w.writer-is i).inner) (w.terminal-is i) (w.number-is i) (w.left-is i)))
                (on_lighter (λ w. g.W.Widths.width_of w) c.args.every c.args.terminal.now (g.T.Write.contents c.args.writer.now.inner) (g.T.Write.contents c.loop.writer.inner) c.feed.new.self c.loop.number (c.loop.left - c.in-Ok.count) (c.in_ok-feed.ensures.done.widths ∙ c.loop.invariant.widths)
                (g.R.Read.remaining c.args.reader.now.inner) (g.R.Read.remaining c.read.new.self.inner) w.forget.new.terminal w.due_from-from.result
                (on_more (λ w. g.W.Widths.width_of w) c.args.every c.args.terminal.now (g.T.Write.contents c.args.writer.now.inner) (g.T.Write.contents c.loop.writer.inner) c.loop.terminal c.loop.number c.loop.left c.loop.invariant.widths (g.R.Read.remaining c.args.reader.now.inner) (g.R.Read.remaining c.loop.reader.inner) (g.R.Read.remaining c.read.new.self.inner) (take c.in-Ok.count c.read.new.buffer) c.feed.new.self (c.loop.left - c.in-Ok.count) c.loop.invariant.sends c.in-Ok.ensures.bytes.0 fed less some)
                w.due_from-from.ensures w.forget.ensures.lighter);
            flushes = flushes_more c.args.every c.args.writer.now.flushes c.loop.writer.flushes c.loop.left (g.R.Read.remaining c.args.reader.now.inner) (g.R.Read.remaining c.loop.reader.inner) (g.R.Read.remaining c.read.new.self.inner) (take c.in-Ok.count c.read.new.buffer) (c.loop.left - c.in-Ok.count) _ _ c.loop.invariant.flushes c.in-Ok.ensures.bytes.0 less some
                (ap (λ (x : Watched g.row.T.Denot). x.flushes) w.writer-is) w.left-is;
          }
    ]

pub returns-in_err-feed-clause-memory : goal.returns-in_err-feed-clause-memory
returns-in_err-feed-clause-memory g c =
    let p = err_from_is_err_and c.from_residual-in_err-feed.result c.from_residual-in_err-feed.ensures.1 in
    let within = c.in-Ok.ensures.bound in
    let most : length (take c.in-Ok.count c.read.new.buffer) ≤ 4096 = omega (arith, within, c.read.auto.buffer, c.loop.invariant.room, length-take c.min-most.result c.loop.buffer, length-take c.in-Ok.count c.read.new.buffer) in
    rw (p.1, p.2) (λ e.
    let refused : ◌≡◌ {A = Result (Unit {0}) TerminalError} (Err c.in_err-feed.field-0.0) (Err Memory) = cc in
    on_feed_memory (λ w. g.W.Widths.width_of w) c.args.every c.args.terminal.now (g.T.Write.contents c.args.writer.now.inner) (g.T.Write.contents c.loop.writer.inner) c.loop.terminal c.loop.number c.loop.left c.loop.invariant.widths (g.R.Read.remaining c.args.reader.now.inner) (g.R.Read.remaining c.loop.reader.inner) (g.R.Read.remaining c.read.new.self.inner) (take c.in-Ok.count c.read.new.buffer) c.feed.new.self c.loop.invariant.sends c.in-Ok.ensures.bytes.0 most
    (subst (λ bytes. NeedsMemory (λ w. g.W.Widths.width_of w) c.loop.terminal bytes c.feed.new.self) (prefix c.in-Ok.count c.read.new.buffer (drop c.min-most.result c.loop.buffer) (omega (arith, within))) (c.in_err-feed.ensures.memory refused)))

pub returns-in_err-number-clause-memory : goal.returns-in_err-number-clause-memory
returns-in_err-number-clause-memory g c =
    let p = err_from_is_err_and c.from_residual-in_err-number.result c.from_residual-in_err-number.ensures.1 in
    let within = c.in-Ok.ensures.bound in
    let full : length (take c.in-Ok.count c.read.new.buffer) ≡ c.loop.left = omega (arith, within, c.if-left-eq0.true, c.read.auto.buffer, c.min-most.ensures, length-take c.min-most.result c.loop.buffer, length-take c.in-Ok.count c.read.new.buffer) in
    rw (p.1, p.2) (λ e.
    let refused : ◌≡◌ {A = Result ℕ RunError} (Err c.in_err-number.field-0.0) (Err (Terminal Memory)) = cc in
    on_look_memory (λ w. g.W.Widths.width_of w) c.args.every c.args.terminal.now (g.T.Write.contents c.args.writer.now.inner) (g.T.Write.contents c.loop.writer.inner) c.loop.terminal c.loop.number c.loop.left c.loop.invariant.widths (g.R.Read.remaining c.args.reader.now.inner) (g.R.Read.remaining c.loop.reader.inner) (g.R.Read.remaining c.read.new.self.inner) (take c.in-Ok.count c.read.new.buffer) c.feed.new.self c.write_update-then-left-eq0.new.terminal.is_failed c.loop.invariant.sends c.in-Ok.ensures.bytes.0
    (subst (λ bytes. GoesBy (λ w. g.W.Widths.width_of w) c.loop.terminal c.feed.new.self (Piece bytes ∷ [])) (prefix c.in-Ok.count c.read.new.buffer (drop c.min-most.result c.loop.buffer) (omega (arith, within))) c.in_ok-feed.ensures.done)
    full c.loop.invariant.some (c.in_err-number.ensures.memory refused))

pub returns-in_err-write_update-clause-memory : goal.returns-in_err-write_update-clause-memory
returns-in_err-write_update-clause-memory g c =
    let p = err_from_is_err_and c.from_residual.result c.from_residual.ensures.1 in
    rw (p.1, p.2) (λ e.
    let refused : ◌≡◌ {A = Result ℕ RunError} (Err c.in_err-write_update.field-0.0) (Err (Terminal Memory)) = cc in
    on_end_memory (λ w. g.W.Widths.width_of w) c.args.every c.args.terminal.now (g.T.Write.contents c.args.writer.now.inner) (g.T.Write.contents c.loop.writer.inner) c.loop.terminal c.loop.number c.loop.left c.loop.invariant.widths (g.R.Read.remaining c.args.reader.now.inner) (g.R.Read.remaining c.loop.reader.inner) (g.R.Read.remaining c.read.new.self.inner) c.write_update.new.terminal.is_failed c.loop.invariant.sends
    (subst (λ (n : ℕ). Consumes (g.R.Read.remaining c.loop.reader.inner) (g.R.Read.remaining c.read.new.self.inner) (take n c.read.new.buffer)) c.if-count-eq0.true c.in-Ok.ensures.bytes.0) (c.in_err-write_update.ensures.memory refused))
