-- Runs with `--live`: from a terminal's updates, from the status that is told, and through lent streams.
use Rattle.std.proofs.Common.{◌≡◌, ◌⊎◌, ◌↔◌, ℕ, Bool, true, false, inl, inr, List, [], Option, Some, None, Result, Ok, Err, OnOk, OnErr, IsErrOf, ◌∙◌, ap, append-nil, arith, codes, refl, subst, sym, true≢false}
use Rattle.std.specs.Prelude.{IsTrue}
use Rattle.std.specs.Io.KnownBytes.{Appends, IsAtEnd, Keeps}
use Rattle.cell_base.specs.Cluster.{program_width}
use Rattle.terminal.specs.Live.{HasBrought, IsCountedAt, LastPieceTakesMemory, PiecesNeedNumber, ReadsEach, SendsEach, SendsPartOfLast, SendsPrefix}
use Rattle.terminal.specs.Shown.{AppendsPrefix}
use Rattle.terminal.specs.Terminal.{Terminal}
use Rattle.terminal.specs.Watched.{Watched}
use Rattle.terminal.specs.Written.{IsAt}
use Rattle.terminal.specs.declared.error.RunError.{RunError}
use Rattle.terminal.specs.declared.error.RunError.TheVariants as run
use Rattle.terminal.proofs.AppendLemmas.{nothing_appended}
use Rattle.std.proofs.KnownBytes.{Appends-trans}
use Rattle.terminal.proofs.LiveLemmas.{brought_first, each_from, number_from, part_from, prefix_from}
use Rattle.terminal_steps.specs.declared.error.TerminalError.{TerminalError}
use Rattle.terminal_steps.specs.declared.error.TerminalError.TheVariants as terminal
use Rattle.terminal_viewers.specs.Updates.{Standing}
use Rattle.clap.specs.Words.{Text}
use Rattle.relay.specs.CommandLine.{Asked, asked_in}
use Rattle.relay.specs.Faults.{fault_line, fault_text}
use Rattle.relay.specs.Live.{DoesNothing, EndsLive, EndsLiveOn, IsFirst, IsQuiet, RunsLive, Tells, TellsFault, TellsWrite, watched}
use Rattle.relay.specs.Output.{first_standing}

-- ---- from a new terminal

-- a new terminal is at the standing that is asked for
first_is : (asked : Asked) {W : Type 0} (t : Terminal W) → IsAt t (first_standing asked) → (s : Standing) → IsFirst asked s → IsCountedAt t s
first_is asked t at s e = subst (IsCountedAt t) (sym e) (at, omega arith)

module _ (asked : Asked) {W R T : Type 0} (t after : Terminal W) (at : IsAt t (first_standing asked)) (remaining : R → Option (List ℕ)) (contents : T → Option (List ℕ))
    (reader next : Watched R) (writer new : Watched T) where
  abbrev Each : (Standing → Type 0) → Type 0
  Each first = SendsEach program_width first remaining contents 1 reader next writer new

  abbrev Part : (Standing → Type 0) → Type 0
  Part first = SendsPartOfLast program_width first remaining contents reader next writer new

  each : Each (IsCountedAt t) → Each (IsFirst asked)
  each s = each_from remaining contents program_width (IsCountedAt t) (IsFirst asked) (first_is asked t at) reader next writer new 1 s

  part : Part (IsCountedAt t) → Part (IsFirst asked)
  part s = part_from remaining contents program_width (IsCountedAt t) (IsFirst asked) (first_is asked t at) reader next writer new s

  memory : LastPieceTakesMemory program_width (IsCountedAt t) remaining reader next → LastPieceTakesMemory program_width (IsFirst asked) remaining reader next
  memory s = record { pieces = s.pieces; last = s.last; brought = s.brought; failed = s.failed; why = λ start is. s.why start (first_is asked t at start is) }

  pub runs_live : (result : Result (Unit {0}) RunError) → OnOk result (ReadsEach program_width (IsCountedAt t) remaining contents 1 reader next writer new after)
      → OnOk result (IsAtEnd (remaining next.inner)) → OnErr result (SendsPrefix program_width (IsCountedAt t) remaining contents reader next writer new)
      → (IsErrOf result run.Read → Each (IsCountedAt t)) → (IsErrOf result run.Write → Part (IsCountedAt t))
      → ((error : TerminalError) → IsErrOf result (run.Terminal error) → Part (IsCountedAt t))
      → (IsErrOf result (run.Terminal terminal.Number) → PiecesNeedNumber program_width (IsCountedAt t) remaining reader next)
      → (IsErrOf result (run.Terminal terminal.Memory) → LastPieceTakesMemory program_width (IsCountedAt t) remaining reader next)
      → (IsErrOf result (run.Terminal terminal.Failed) → ⊥) → (IsErrOf result run.Write ↔ IsTrue new.has_failed)
      → RunsLive asked remaining contents result reader next writer new
  runs_live result ok ends err read write refused number takes never failed = record {
    ok = on_ok result ok;
    ends = ends;
    read = λ e. each (read e);
    write = λ e. part (write e);
    number = λ e. (part (refused terminal.Number e), number_from remaining contents program_width (IsCountedAt t) (IsFirst asked) (first_is asked t at) reader next writer new (number e));
    memory = λ e. inr (part (refused terminal.Memory e), memory (takes e));
    too_long = on_err result err;
    never = never;
    failed = failed;
  }
    where
      on_ok : (r : Result (Unit {0}) RunError) → OnOk r (ReadsEach program_width (IsCountedAt t) remaining contents 1 reader next writer new after) → OnOk r (Each (IsFirst asked))
      on_ok (Ok done) s = each s.sends
      on_ok (Err e) s = tt

      on_err : (r : Result (Unit {0}) RunError) → OnErr r (SendsPrefix program_width (IsCountedAt t) remaining contents reader next writer new)
          → IsErrOf r run.TooLong → SendsPrefix program_width (IsFirst asked) remaining contents reader next writer new
      on_err (Ok done) s e = absurd cc
      on_err (Err error) s e = prefix_from remaining contents program_width (IsCountedAt t) (IsFirst asked) (first_is asked t at) reader next writer new s

-- ---- without a terminal

-- memory that is refused before the first read
pub live_first : (asked : Asked) {R T : Type 0} (remaining : R → Option (List ℕ)) (contents : T → Option (List ℕ)) (reader : Watched R) (writer new : Watched T)
    → reader.reads ≡ 0 → Keeps (contents writer.inner) (contents new.inner) → new.has_failed ≡ false
    → RunsLive asked remaining contents (Err (run.Terminal terminal.Memory)) reader reader writer new
live_first asked remaining contents reader writer new unread keeps sound = record {
  ok = tt;
  ends = tt;
  read = λ e. absurd cc;
  write = λ e. absurd cc;
  number = λ e. absurd cc;
  memory = λ e. inl (record { brought = brought_first remaining reader unread; keeps = keeps });
  too_long = λ e. absurd cc;
  never = λ e. absurd cc;
  failed = (λ e. absurd cc, λ t. absurd (true≢false (sym t ∙ sound)));
}

-- ---- the status

-- the fault isn't one of the writer with `--live`
abbrev IsReportedAtOnce : RunError → Bool → Type 0
IsReportedAtOnce error is_live = error ≡ run.Write → is_live ≡ false

-- the fault of a run is told, but for one of the writer
told_end : (error : RunError) (is_live : Bool) (status : ℕ) (old new : Option (List ℕ)) → (error ≡ run.Write → IsQuiet status old new)
    → (IsReportedAtOnce error is_live → TellsFault error status old new) → Tells true (Err error) status old new
told_end run.Read is_live status old new left told = told (λ e. absurd cc)
told_end run.Write is_live status old new left told = left refl
told_end run.TooLong is_live status old new left told = told (λ e. absurd cc)
told_end (run.Terminal error) is_live status old new left told = told (λ e. absurd cc)

module _ (asked given : Asked) (same : asked ≡ given) {R T : Type 0} (remaining : R → Option (List ℕ)) (contents : T → Option (List ℕ)) (reader next : Watched R) (writer new : Watched T)
    (old told : Option (List ℕ)) where
  -- a run that came to the end of its input
  pub ends_well : (done : Unit {0}) → RunsLive given remaining contents (Ok done) reader next writer new → Keeps old told
      → EndsLive asked remaining contents true 0 reader next writer new old told
  ends_well done runs keeps = record {
    result = Ok done;
    runs = subst (λ a. RunsLive a remaining contents (Ok done) reader next writer new) (sym same) runs;
    tells = (refl, keeps);
  }

  -- and one that ended with a fault
  pub ends_with_fault : (error : RunError) (is_live : Bool) (status : ℕ) → IsTrue is_live → RunsLive given remaining contents (Err error) reader next writer new
      → (status ≡ 0 → Keeps old told) → (error ≡ run.Write → IsTrue is_live → status ≡ 0) → (IsReportedAtOnce error is_live → status ≡ 1)
      → (IsReportedAtOnce error is_live → AppendsPrefix old told (fault_line (fault_text error))) → EndsLive asked remaining contents true status reader next writer new old told
  ends_with_fault error is_live status live runs quiet left one prefix = record {
    result = Err error;
    runs = subst (λ a. RunsLive a remaining contents (Err error) reader next writer new) (sym same) runs;
    tells = told_end error is_live status old told (λ e. let zero = left e live in (zero, quiet zero)) (λ h. (one h, prefix h));
  }

prefix_after : (old mid new : Option (List ℕ)) (bytes : List ℕ) → Keeps old mid → AppendsPrefix mid new bytes → AppendsPrefix old new bytes
prefix_after old mid new bytes kept p = record {
  written = p.written;
  remaining = p.remaining;
  whole = p.whole;
  appends = Appends-trans old mid new [] p.written (nothing_appended old mid kept) p.appends;
}

-- a fault of the writer is told at last, or the status and what was told stay
module _ (has_failed : Bool) (status final : ℕ) (old mid new : Option (List ℕ)) where
  abbrev Stays : Bool → Type 0
  Stays is_broken = (status ≡ 0 → IsTrue has_failed → IsTrue is_broken) → (final ≡ status) × (new ≡ mid)

  abbrev IsTold : Bool → Type 0
  IsTold is_broken = status ≡ 0 → IsTrue has_failed → is_broken ≡ false → (final ≡ 1) × AppendsPrefix mid new (fault_line (codes "cannot write"))

  stays : (is_broken : Bool) (P : ℕ → Option (List ℕ) → Type 0) → Stays is_broken → (status ≡ 0 → IsTrue has_failed → IsTrue is_broken) → P status mid → P final new
  stays is_broken P kept h p = let same = kept h in subst (λ n. P n new) (sym same.0) (subst (P status) (sym same.1) p)

  fault_stays : (is_broken : Bool) (fault : RunError) → Stays is_broken → TellsFault fault status old mid → TellsFault fault final old new
  fault_stays is_broken fault kept tells =
      let one : status ≡ 1 = tells.0 in
      stays is_broken (λ n o. TellsFault fault n old o) kept (λ none. absurd (omega (arith, one, none))) tells

  write_told : (is_broken : Bool) → Stays is_broken → IsTold is_broken → IsTrue has_failed → IsQuiet status old mid → TellsWrite is_broken final old new
  write_told true kept told failed tells = stays true (λ n o. IsQuiet n old o) kept (λ none is. refl) tells
  write_told false kept told failed tells =
      let last = told tells.0 failed refl in
      (last.0, prefix_after old mid new (fault_line (codes "cannot write")) tells.1 last.1)

  pub tells_at_last : (is_broken : Bool) (result : Result (Unit {0}) RunError) → Stays is_broken → IsTold is_broken → (IsErrOf result run.Write ↔ IsTrue has_failed)
      → Tells true result status old mid → Tells is_broken result final old new
  tells_at_last is_broken (Ok done) kept told failed tells = stays is_broken (λ n o. IsQuiet n old o) kept (λ none is. absurd (no_error (failed.1 is))) tells
    where
      no_error : IsErrOf {T = Unit {0}} {E = RunError} (Ok done) run.Write → ⊥
      no_error e = cc
  tells_at_last is_broken (Err run.Write) kept told failed tells = write_told is_broken kept told (failed.0 refl) tells
  tells_at_last is_broken (Err run.Read) kept told failed tells = fault_stays is_broken run.Read kept tells
  tells_at_last is_broken (Err run.TooLong) kept told failed tells = fault_stays is_broken run.TooLong kept tells
  tells_at_last is_broken (Err (run.Terminal error)) kept told failed tells = fault_stays is_broken (run.Terminal error) kept tells

-- ---- through lent streams

kept_nothing : (old new : Option (List ℕ)) → Appends old new [] → Keeps old new
kept_nothing None new h = tt
kept_nothing (Some x) None h = absurd h
kept_nothing (Some x) (Some y) h = h ∙ append-nil x

-- what is appended to known bytes is appended to others
abbrev Lends : (old new before after : Option (List ℕ)) → Type 0
Lends old new before after = (gained : List ℕ) → Appends old new gained → Appends before after gained

module _ (old new before after : Option (List ℕ)) (lends : Lends old new before after) where
  lent_prefix : (bytes : List ℕ) → AppendsPrefix old new bytes → AppendsPrefix before after bytes
  lent_prefix bytes p = record { written = p.written; remaining = p.remaining; whole = p.whole; appends = lends p.written p.appends }

  lent_keeps : Keeps old new → Keeps before after
  lent_keeps kept = kept_nothing before after (lends [] (nothing_appended old new kept))

  lent_quiet : (status : ℕ) → IsQuiet status old new → IsQuiet status before after
  lent_quiet status q = (q.0, lent_keeps q.1)

  lent_fault : (fault : RunError) (status : ℕ) → TellsFault fault status old new → TellsFault fault status before after
  lent_fault fault status t = (t.0, lent_prefix (fault_line (fault_text fault)) t.1)

  lent_tells : (is_broken : Bool) (result : Result (Unit {0}) RunError) (status : ℕ) → Tells is_broken result status old new → Tells is_broken result status before after
  lent_tells is_broken (Ok done) status t = lent_quiet status t
  lent_tells true (Err run.Write) status t = lent_quiet status t
  lent_tells false (Err run.Write) status t = lent_fault run.Write status t
  lent_tells is_broken (Err run.Read) status t = lent_fault run.Read status t
  lent_tells is_broken (Err run.TooLong) status t = lent_fault run.TooLong status t
  lent_tells is_broken (Err (run.Terminal error)) status t = lent_fault (run.Terminal error) status t

-- a stream that is watched, as bytes
abbrev pub seen : {T : Type 0} → Option (List ℕ) → Watched T → Watched (Option (List ℕ))
seen bytes stream = record {
  inner = bytes;
  has_failed = stream.has_failed;
  has_gone_on = stream.has_gone_on;
  reads = stream.reads;
  flushes = stream.flushes;
  is_flushed = stream.is_flushed;
}

-- a reader of which nothing was read yet
pub unread : {R : Type 0} (remaining : R → Option (List ℕ)) (reader : Watched R) (inner : R)
    → reader ≡ record { inner = inner; has_failed = false; has_gone_on = false; reads = 0; flushes = 0; is_flushed = false } → seen (remaining reader.inner) reader ≡ watched (remaining inner)
unread remaining reader inner is = ap (λ r. seen (remaining r.inner) r) is

module _ {R T : Type 0} (remaining : R → Option (List ℕ)) (contents : T → Option (List ℕ)) (reader next : Watched R) (writer new : Watched T) (before after : Option (List ℕ))
    (lends : Lends (contents writer.inner) (contents new.inner) before after) where
  abbrev first_reader : Watched (Option (List ℕ))
  first_reader = seen (remaining reader.inner) reader

  abbrev next_reader : Watched (Option (List ℕ))
  next_reader = seen (remaining next.inner) next

  abbrev first_writer : Watched (Option (List ℕ))
  first_writer = seen before writer

  abbrev next_writer : Watched (Option (List ℕ))
  next_writer = seen after new

  abbrev bytes_of : Option (List ℕ) → Option (List ℕ)
  bytes_of o = o

  seen_brought : (pieces : List (List ℕ)) (none : ℕ) → HasBrought remaining pieces none reader next → HasBrought bytes_of pieces none first_reader next_reader
  seen_brought pieces none b = record { are_pieces = b.are_pieces; consumes = b.consumes; reads = b.reads }

  module _ (first : Standing → Type 0) where
    seen_each : (none : ℕ) → SendsEach program_width first remaining contents none reader next writer new
        → SendsEach program_width first bytes_of bytes_of none first_reader next_reader first_writer next_writer
    seen_each none s = record {
      pieces = s.pieces;
      brought = seen_brought s.pieces none s.brought;
      appends = λ start is. lends _ (s.appends start is);
      flushes = s.flushes;
      flushed = s.flushed;
    }

    seen_part : SendsPartOfLast program_width first remaining contents reader next writer new
        → SendsPartOfLast program_width first bytes_of bytes_of first_reader next_reader first_writer next_writer
    seen_part s = record {
      pieces = s.pieces;
      last = s.last;
      brought = seen_brought _ 0 s.brought;
      sends = λ start is.
          let p = s.sends start is in
          record { written = p.written; unwritten = p.unwritten; last_is = p.last_is; appends = lends _ p.appends };
    }

    seen_prefix : SendsPrefix program_width first remaining contents reader next writer new
        → SendsPrefix program_width first bytes_of bytes_of first_reader next_reader first_writer next_writer
    seen_prefix s = record {
      pieces = s.pieces;
      none = s.none;
      brought = seen_brought s.pieces s.none s.brought;
      sends = λ start is. lent_prefix (contents writer.inner) (contents new.inner) before after lends _ (s.sends start is);
    }

    seen_number : PiecesNeedNumber program_width first remaining reader next → PiecesNeedNumber program_width first bytes_of first_reader next_reader
    seen_number s = record { pieces = s.pieces; brought = seen_brought s.pieces 0 s.brought; past = s.past }

    seen_memory : LastPieceTakesMemory program_width first remaining reader next → LastPieceTakesMemory program_width first bytes_of first_reader next_reader
    seen_memory s = record { pieces = s.pieces; last = s.last; brought = seen_brought _ 0 s.brought; failed = s.failed; why = s.why }

  seen_nothing : DoesNothing remaining contents reader next writer new → DoesNothing bytes_of bytes_of first_reader next_reader first_writer next_writer
  seen_nothing d = record { brought = seen_brought [] 0 d.brought; keeps = lent_keeps (contents writer.inner) (contents new.inner) before after lends d.keeps }

  seen_runs : (asked : Asked) (result : Result (Unit {0}) RunError) → RunsLive asked remaining contents result reader next writer new
      → RunsLive asked bytes_of bytes_of result first_reader next_reader first_writer next_writer
  seen_runs asked result r = record {
    ok = on_ok result r.ok;
    ends = r.ends;
    read = λ e. seen_each (IsFirst asked) 1 (r.read e);
    write = λ e. seen_part (IsFirst asked) (r.write e);
    number = λ e. let both = r.number e in (seen_part (IsFirst asked) both.0, seen_number (IsFirst asked) both.1);
    memory = λ e. on_memory (r.memory e);
    too_long = λ e. seen_prefix (IsFirst asked) (r.too_long e);
    never = r.never;
    failed = r.failed;
  }
    where
      on_ok : (x : Result (Unit {0}) RunError) → OnOk x (SendsEach program_width (IsFirst asked) remaining contents 1 reader next writer new)
          → OnOk x (SendsEach program_width (IsFirst asked) bytes_of bytes_of 1 first_reader next_reader first_writer next_writer)
      on_ok (Ok done) s = seen_each (IsFirst asked) 1 s
      on_ok (Err e) s = tt

      on_memory : DoesNothing remaining contents reader next writer new
          ⊎ (SendsPartOfLast program_width (IsFirst asked) remaining contents reader next writer new × LastPieceTakesMemory program_width (IsFirst asked) remaining reader next)
          → DoesNothing bytes_of bytes_of first_reader next_reader first_writer next_writer
          ⊎ (SendsPartOfLast program_width (IsFirst asked) bytes_of bytes_of first_reader next_reader first_writer next_writer × LastPieceTakesMemory program_width (IsFirst asked) bytes_of first_reader next_reader)
      on_memory (inl nothing) = inl (seen_nothing nothing)
      on_memory (inr both) = inr (seen_part (IsFirst asked) both.0, seen_memory (IsFirst asked) both.1)

  -- a run of watched streams, and what `conclude` makes of its status, is one of the streams themselves
  pub ends_on : (words : List Text) (is_broken : Bool) (status final : ℕ) (input told_old told_mid told_new old last : Option (List ℕ))
      → first_reader ≡ watched input → first_writer ≡ watched before → Lends told_old told_new old last
      → Stays new.has_failed status final told_old told_mid told_new is_broken → IsTold new.has_failed status final told_old told_mid told_new is_broken
      → EndsLive (asked_in words) remaining contents true status reader next writer new told_old told_mid → EndsLiveOn words final input before after old last
  ends_on words is_broken status final input told_old told_mid told_new old last reader_is writer_is told_lends kept told ends = record {
    is_broken = is_broken;
    next_reader = next_reader;
    next_writer = next_writer;
    written = refl;
    ends = record {
      result = ends.result;
      runs = subst (λ r. RunsLive (asked_in words) bytes_of bytes_of ends.result r next_reader (watched before) next_writer) reader_is
          (subst (λ w. RunsLive (asked_in words) bytes_of bytes_of ends.result first_reader next_reader w next_writer) writer_is
          (seen_runs (asked_in words) ends.result ends.runs));
      tells = lent_tells told_old told_new old last told_lends is_broken ends.result final
          (tells_at_last new.has_failed status final told_old told_mid told_new is_broken ends.result kept told ends.runs.failed ends.tells);
    };
  }
